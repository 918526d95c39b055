use Rattle.std.proofs.Common.{◌≡◌, ℕ, ◌+◌, ◌-◌, ◌*◌, ◌%◌, false, take, drop, length, refl, sym, ap, ◌∙◌, length-drop, arith}
use Rattle.std.proofs.lemmas.List.{length-take-le}
use Rattle.std.proofs.Math.Nat.{mul-mod_left}
use Rattle.wav_reader.specs.Formats.{sample_length}
use Rattle.wav_reader.specs.Readers.{are_turned, head_seen}
use Rattle.wav_reader.proofs.RingLemmas.{samples_in, part-same, ring_bytes-part}
use Rattle.wav_reader.proofs.wav.ring_bytes.Goals as goal

pub returns-then-are_turned : goal.returns-then-are_turned
returns-then-are_turned c =
    let bytes = c.args.bytes.now in
    let head = head_seen c.args.head.now in
    let long = head.from + head.frames * c.frame_len.result - head.from in
    let all = ap (λ (n : ℕ). head.frames * n) c.frame_len.ensures.value in
    let size : long ≡ head.frames * (samples_in head * sample_length head.format.bits) = omega (arith, all) in
    rw (ring_bytes-part bytes head (take long (drop head.from bytes)) long c.requires.within size refl) c.turned.ensures

pub returns-else-are_turned : goal.returns-else-are_turned
returns-else-are_turned c =
    let bytes = c.args.bytes.now in
    let head = head_seen c.args.head.now in
    let bits = head.format.bits in
    let long = head.from + head.frames * c.frame_len.result - head.from in
    let sound = take long (drop head.from bytes) in
    let all = ap (λ (n : ℕ). head.frames * n) c.frame_len.ensures.value in
    let size : long ≡ head.frames * (samples_in head * sample_length head.format.bits) = omega (arith, all) in
    let within = c.requires.within in
    let rest = length-drop head.from bytes in
    let fits = length-take-le long (drop head.from bytes) (omega (arith, size, within, rest)) in
    let samples : head.frames * (samples_in head * sample_length head.format.bits) ≡ head.frames * samples_in head * sample_length head.format.bits = omega arith in
    let whole : length sound % sample_length bits ≡ 0 =
    ap (λ (n : ℕ). n % sample_length bits) (fits ∙ size ∙ samples) ∙ mul-mod_left (head.frames * samples_in head) (sample_length bits) in
    let same : are_turned head.mono bits ≡ false = sym c.are_turned.ensures ∙ c.if-are_turned.false in
    rw (ring_bytes-part bytes head sound long c.requires.within size refl ∙ part-same head.mono bits sound same whole) c.from_slice.ensures.items
