use Rattle.codec_graph.specs.Widget.{node_at}
use Rattle.codec_sound.specs.Signals.{out_as}
use Rattle.codec_sound.specs.Depths.{in_table}
use Rattle.codec_sound.proofs.Agreeing.{hears-agree}
use Rattle.codec_sound.proofs.pins.signal_as.Goals as goal

pub returns : goal.returns
returns c =
    let graph = c.args.graph.now in
    let settings = c.args.settings.now in
    rw (c.hears.ensures, c.raw.ensures.value, ← c.new.ensures)
    (hears-agree c.args.kind graph settings (in_table c.outputs-table.result) (out_as c.args.kind graph settings c.new.result) c.args.pin (node_at graph c.args.pin) c.outputs-table.ensures)
