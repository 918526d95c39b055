use Rattle.std.proofs.Common.{◌≡◌, ◌&&◌, ◌==◌, refl}
use Rattle.hda_registers.specs.Access.{part}
use Rattle.hda_registers.proofs.Groups.{has_bit}
use Rattle.hda_registers.proofs.controller.Controller.asks.Goals as goal

pub returns-then-both : goal.returns-then-both
returns-then-both c =
    let word = c.self.inside.rirb_control.0 in
    let e : c.both.result ≡ ((part 8 1 word == 1) && (part 0 1 word == 1)) =
    rw (c.both.ensures, c.contains.ensures tt, c.contains-2.ensures tt, has_bit word 8, has_bit word 0) refl in
    rw (← c.self.view_is, ← e, c.if-both.true) refl

pub returns-else-both : goal.returns-else-both
returns-else-both c =
    let word = c.self.inside.rirb_control.0 in
    let e : c.both.result ≡ ((part 8 1 word == 1) && (part 0 1 word == 1)) =
    rw (c.both.ensures, c.contains.ensures tt, c.contains-2.ensures tt, has_bit word 8, has_bit word 0) refl in
    rw (c.is_woken.ensures, ← c.self.view_is, ← e, c.if-both.false) refl
