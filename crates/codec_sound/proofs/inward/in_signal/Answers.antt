use Rattle.std.proofs.Common.{ap}
use Rattle.codec_graph.specs.Widget.{node_at}
use Rattle.codec_sound.specs.Inward.{in_out, in_heard_of}
use Rattle.codec_sound.specs.Depths.{in_table}
use Rattle.codec_sound.proofs.Agreeing.{hears_in-agree}
use Rattle.codec_sound.proofs.inward.in_signal.Goals as goal

pub returns : goal.returns
returns c =
    let graph = c.args.graph.now in
    let settings = c.args.settings.now in
    rw (c.of.ensures, c.hears_in.ensures, c.raw.ensures.value)
    (ap in_heard_of (hears_in-agree graph settings (in_table c.outputs-table.result) (in_out graph settings) c.args.converter (node_at graph c.args.converter) c.outputs-table.ensures))
