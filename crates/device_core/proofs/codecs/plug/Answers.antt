use Rattle.std.proofs.Common.{set, sym, ap, ◌∙◌}
use Rattle.codec_graph.specs.CodecStates.{CodecState, plugged}
use Rattle.device_core.proofs.Places.{changed_none, changed_here}
use Rattle.device_core.proofs.codecs.plug.Goals as goal

pub returns-in-Some : goal.returns-in-Some
returns-in-Some c =
    ap (λ (codec : CodecState). set c.args.codecs.now c.in-Some.place codec) c.plug.ensures
    ∙ sym (changed_here c.args.wanted (λ codec. plugged codec c.args.nid c.args.present) c.args.codecs.now c.in-Some.place c.index-codecs-place.result c.requires.ascend (sym c.find.ensures ∙ c.in-Some.is))

pub returns-in_default : goal.returns-in_default
returns-in_default c = sym (changed_none c.args.wanted (λ codec. plugged codec c.args.nid c.args.present) c.args.codecs.now (sym c.find.ensures ∙ c.in_default.is))
