use Rattle.hda_registers.proofs.Groups.{has_bit}
use Rattle.hda_registers.proofs.controller.Controller.is_corb_read_pointer_reset.Goals as goal

pub returns : goal.returns
returns c = rw (← c.self.view_is) (has_bit c.self.inside.corb_pointers 31)
