use Rattle.std.proofs.Common.{set, sym, ap, ◌∙◌}
use Rattle.std.proofs.lemmas.List.Edits.{map_over_more}
use Rattle.codec_graph.specs.CodecStates.{CodecState, cleared}
use Rattle.device_core.proofs.codecs.clear_all.Goals as goal

pub loop-place-preserved : goal.loop-place-preserved
loop-place-preserved c =
    ap (λ (codec : CodecState). set c.loop-place.codecs c.loop-place.place codec) (c.clear.ensures ∙ ap cleared (sym c.index-codecs-place.is))
    ∙ map_over_more cleared c.args.codecs.now c.loop-place.codecs c.loop-place.place c.index-codecs-place.result c.loop-place-test.true c.loop-place.invariant c.index-codecs-place.is
