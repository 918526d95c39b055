use Rattle.std.proofs.Common.{◌∙◌}
use Rattle.hda_program.proofs.PinLemmas.{order_length}
use Rattle.hda_program.proofs.pins.pins_in.Goals as goal

pub returns : goal.returns
returns c = c.len.ensures ∙ (c.in_ok-pins.pins.ok.0 ∙ order_length c.args.kind c.args.graph.now c.in_ok-pins.pins.items c.raw-codec.ensures.well_formed c.in_ok-pins.ensures)
