use Rattle.std.proofs.Common.{◌≡◌, ℕ, ◌∙◌}
use Rattle.codec_graph.specs.Widget.{node_at}
use Rattle.codec_sound.specs.Signals.{out_as, hears_at}
use Rattle.codec_sound.specs.Depths.{in_table}
use Rattle.codec_sound.specs.Keeping.{signal_by_as}
use Rattle.codec_sound.proofs.Agreeing.{hears-agree}
use Rattle.codec_sound.proofs.Renewing.{renewed-agree, signal_by-some}
use Rattle.codec_sound.proofs.kept.work_out.Goals as goal

pub returns-in-Some : goal.returns-in-Some
returns-in-Some c =
    let graph = c.args.graph.now in
    let settings = c.args.settings.now in
    let same : (pin : ℕ) → hears_at c.args.kind graph settings (in_table c.outputs-table.result) pin ≡ signal_by_as c.args.kind graph settings c.args.tag c.args.format pin = λ pin.
    hears-agree c.args.kind graph settings (in_table c.outputs-table.result) (out_as c.args.kind graph settings c.new.result) pin (node_at graph pin) c.outputs-table.ensures
    ∙ signal_by-some c.args.kind graph settings c.args.tag c.args.format c.in-Some.format c.new.result c.in-Some.is c.new.ensures pin in
    rw (c.hear_all.ensures, c.raw.ensures.value)
    (renewed-agree (hears_at c.args.kind graph settings (in_table c.outputs-table.result)) (signal_by_as c.args.kind graph settings c.args.tag c.args.format) c.args.pins.now same)
