use Rattle.std.proofs.Common.{◌≡◌, ◌*◌, ◌%◌, refl, arith}
use Rattle.hda_registers.specs.Access.{part}
use Rattle.hda_registers.proofs.Groups.{put_as, beside_put}
use Rattle.hda_registers.proofs.controller.Controller.set_corb_read_pointer.Goals as goal

pub returns : goal.returns
returns c =
    let word = c.self.inside.corb_pointers in
    let p = c.args.pointer in
    let value = p * 65536 % 4294967296 in
    let low : part 0 8 value ≡ 0 = omega arith in
    let middle : part 16 8 value ≡ p = omega arith in
    let high : part 31 1 value ≡ 0 = omega arith in
    rw (← c.self.view_is, c.from.ensures, beside_put 0 8 word 0xFF00FFFF value refl low, put_as 16 8 word 0xFF00FFFF value p refl middle, beside_put 31 1 word 0xFF00FFFF value refl high) refl
