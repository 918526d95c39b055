use Rattle.std.proofs.Common.{◌≡◌, ◌≤◌, ◌<◌, ℕ, List, sym, ap, subst, arith, length, get_or}
use Rattle.std.specs.Prelude.{All}
use Rattle.std.proofs.lemmas.List.{get_or-map, length-map}
use Rattle.std.proofs.lemmas.List.Elements.{All-get_or}
use Rattle.codec_graph.specs.CodecStates.{CodecState}
use Rattle.device_core.specs.Codecs.{addresses_of}
use Rattle.hda_controller.proofs.Bits.{bits_more}
use Rattle.hda_controller.proofs.opening.bits_of.Goals as goal

few : (codecs : List CodecState) (i : ℕ) (codec : CodecState) (address : ℕ) → i < length codecs → codec ≡ get_or codecs i codec → address ≡ codec.graph.address → All (λ a. a ≤ 14) (addresses_of codecs) → address ≤ 14
few codecs i codec address within is named all =
    let each = All-get_or (λ (a : ℕ). a ≤ 14) (addresses_of codecs) i 0 (subst (λ (n : ℕ). i < n) (sym (length-map codecs (λ codec. codec.graph.address))) within) all in
    let one = get_or-map (λ (codec : CodecState). codec.graph.address) codecs i codec 0 within in
    let here = ap (λ (codec : CodecState). codec.graph.address) is in
    omega (arith, each, one, here, named)

pub overflow_shl-bits : goal.overflow_shl-bits
overflow_shl-bits c =
    let low = few c.args.codecs.now c.loop-codec.codec-index c.codec-item.result c.address.result c.loop-codec-test.true c.codec-item.is c.address.ensures c.requires in
    omega (arith, low)

pub loop-codec-preserved : goal.loop-codec-preserved
loop-codec-preserved c =
    let low = few c.args.codecs.now c.loop-codec.codec-index c.codec-item.result c.address.result c.loop-codec-test.true c.codec-item.is c.address.ensures c.requires in
    bits_more c.args.codecs.now c.loop-codec.codec-index c.codec-item.result c.address.result c.loop-codec.bits c.loop-codec-test.true c.codec-item.is c.address.ensures low c.loop-codec.invariant
