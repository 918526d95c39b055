use Rattle.std.proofs.Common.{◌≡◌, length, sym, ap, eq-eqb, ◌∙◌, arith}
use Rattle.codec_graph.specs.CodecStates.{CodecState}
use Rattle.device_core.proofs.Places.{found_is, none_is_found}
use Rattle.device_core.proofs.codecs.find.Goals as goal

pub returns-then-address-wanted : goal.returns-then-address-wanted
returns-then-address-wanted c =
    let same = ap (λ (codec : CodecState). codec.graph.address) (sym c.index-codecs-place.is) ∙ (sym c.address.ensures ∙ c.if-address-wanted.true) in
    sym (found_is c.args.wanted c.args.codecs.now c.loop-place.place c.index-codecs-place.result c.loop-place-test.true c.loop-place.invariant (eq-eqb _ _ same))

pub returns : goal.returns
returns c =
    let end : c.loop-place.place ≡ length c.args.codecs.now = omega (arith, c.loop-place.auto.place-end, c.loop-place-test.false) in
    sym (none_is_found c.args.wanted c.args.codecs.now c.loop-place.place end c.loop-place.invariant)
