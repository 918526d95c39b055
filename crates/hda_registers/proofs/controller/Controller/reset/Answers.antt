use Rattle.std.proofs.Common.{refl}
use Rattle.hda_registers.proofs.Groups.{masked_whole, masked_away}
use Rattle.hda_registers.proofs.controller.Controller.reset.Goals as goal

pub returns : goal.returns
returns c = rw (← c.self.view_is, masked_away 0 15 c.self.inside.wake 0x7FFF0000 refl, masked_whole 16 15 c.self.inside.wake 0x7FFF0000 refl) refl
