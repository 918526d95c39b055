use Rattle.std.proofs.Common.{◌≡◌, ◌++◌, take, None, sym, ap, ◌∙◌, inl, inr}
use Rattle.codec_graph.specs.CodecStates.{CodecState}
use Rattle.hda_world.specs.Arriving.{brought_by, brought_by_codec}
use Rattle.device_core.specs.Captures.{takers_of}
use Rattle.device_core.proofs.Takers.{heard_by, brought-more, listened-where}
use Rattle.device_core.proofs.listening.listened.Goals as goal

pub loop-codec-preserved : goal.loop-codec-preserved
loop-codec-preserved c =
    let place = c.loop-codec.codec-index in
    let codecs = c.args.codecs.now in
    c.and_of_codec-takers.ensures (brought_by c.args.tag c.args.word (take place codecs)) c.loop-codec.invariant
    ∙ ap takers_of (
    ap (λ (codec : CodecState). brought_by c.args.tag c.args.word (take place codecs) ++ brought_by_codec c.args.tag c.args.word codec) c.codec-item.is
    ∙ sym (brought-more c.args.tag c.args.word codecs place c.codec-item.result c.loop-codec-test.true))

pub returns-in-One : goal.returns-in-One
returns-in-One c =
    sym (ap heard_by c.in-One.is) ∙ listened-where c.args.tag c.args.word c.args.codecs.now c.loop-codec.codec-index c.loop-codec.takers c.loop-codec-test.false c.loop-codec.invariant

pub returns-in-Nobody : goal.returns-in-Nobody
returns-in-Nobody c =
    let none : heard_by c.loop-codec.takers ≡ None = elim c.in-Nobody.is [ inl is ↦ ap heard_by is | inr is ↦ ap heard_by is ] in
    sym none ∙ listened-where c.args.tag c.args.word c.args.codecs.now c.loop-codec.codec-index c.loop-codec.takers c.loop-codec-test.false c.loop-codec.invariant
