use Rattle.std.proofs.Common.{refl}
use Rattle.hda_registers.proofs.Groups.{set_part, set_bit}
use Rattle.hda_registers.proofs.controller.Controller.set_response_flag.Goals as goal

pub returns : goal.returns
returns c =
    let word = c.self.inside.rirb_control.0 in
    rw (← c.self.view_is, set_part 0 1 word 0x100 refl, set_part 1 1 word 0x100 refl, set_part 2 1 word 0x100 refl, set_bit 8 word 0x100 refl) refl
