use Rattle.std.proofs.Common.{◌≡◌, refl, arith}
use Rattle.hda_registers.specs.Access.{part}
use Rattle.hda_registers.proofs.Groups.{put_part, beside_put}
use Rattle.hda_registers.proofs.controller.Controller.set_rirb_write_pointer.Goals as goal

pub returns : goal.returns
returns c =
    let word = c.self.inside.rirb_pointers in
    let p = c.args.pointer in
    let low : part 0 8 p ≡ p = omega arith in
    let high : part 16 8 p ≡ 0 = omega arith in
    rw (← c.self.view_is, c.from.ensures, put_part 0 8 word 0xFFFFFF00 p refl low, beside_put 16 8 word 0xFFFFFF00 p refl high) refl
