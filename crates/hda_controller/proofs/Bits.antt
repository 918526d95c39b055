-- The bits of codecs' addresses, one more at a time.
use Rattle.std.proofs.Common.{◌≡◌, ◌≤◌, ◌<◌, ◌^◌, ◌*◌, ◌%◌, ◌+◌, ℕ, List, [], ◌∷◌, length, take, get_or, bit_or, refl, sym, ap, ◌∙◌, arith}
use Rattle.std.proofs.lemmas.Grind.{one_shifted}
use Rattle.std.proofs.lemmas.List.{take_more}
use Rattle.std.proofs.lemmas.List.Sums.{fold-append}
use Rattle.codec_graph.specs.CodecStates.{CodecState}
use Rattle.device_core.specs.Codecs.{codec_bits}

bit_of : (address : ℕ) → address ≤ 14 → 1 * 2 ^ address % 65536 ≡ 2 ^ address
bit_of address few = (one_shifted address 65535 refl (let low : address < 16 = omega (arith, few) in low)).0

pub bits_more : (codecs : List CodecState) (i : ℕ) (codec : CodecState) (address bits : ℕ) → i < length codecs → codec ≡ get_or codecs i codec → address ≡ codec.graph.address → address ≤ 14
    → bits ≡ codec_bits (take i codecs) → bit_or bits (1 * 2 ^ address % 65536) ≡ codec_bits (take (i + 1) codecs)
bits_more codecs i codec address bits within is named few so_far =
    ap (bit_or bits) (bit_of address few ∙ ap (λ (a : ℕ). 2 ^ a) (named ∙ ap (λ (c : CodecState). c.graph.address) is))
    ∙ (ap (λ (b : ℕ). bit_or b (2 ^ (get_or codecs i codec).graph.address)) so_far
    ∙ (sym (fold-append (λ (bits : ℕ) (c : CodecState). bit_or bits (2 ^ c.graph.address)) 0 (take i codecs) (get_or codecs i codec ∷ []))
    ∙ ap codec_bits (sym (take_more codecs i codec within))))
