use Rattle.std.proofs.Common.{◌∙◌}
use Rattle.hda_registers.proofs.Groups.{has_bit}
use Rattle.hda_registers.proofs.controller.Controller.is_rirb_running.Goals as goal

pub returns : goal.returns
returns c = rw (← c.self.view_is) (c.contains.ensures tt ∙ has_bit c.self.inside.rirb_control.0 1)
