use Rattle.std.proofs.Common.{◌∙◌}
use Rattle.hda_registers.proofs.Groups.{has_bit}
use Rattle.hda_registers.proofs.controller.Controller.enables_input.Goals as goal

pub returns : goal.returns
returns c = rw (← c.self.view_is) (c.contains.ensures tt ∙ has_bit c.self.inside.interrupts.0 0)
