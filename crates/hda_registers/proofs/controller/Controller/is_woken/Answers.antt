use Rattle.std.proofs.Common.{◌≡◌, ◌-◌, ◌%◌, ◌/◌, ◌^◌, arith, ◌∙◌, ap}
use Rattle.std.specs.Prelude.{bit_and, nat_lt}
use Rattle.std.proofs.lemmas.Nat.{and_mask, and_mod}
use Rattle.hda_registers.specs.Access.{part}
use Rattle.hda_registers.proofs.controller.Controller.is_woken.Goals as goal

pub returns : goal.returns
returns c =
    let word = c.self.inside.wake in
    let both = bit_and (word / 2 ^ 16) word in
    let low : word % 2 ^ 15 ≡ part 0 15 word = omega arith in
    let e : bit_and both (2 ^ 15 - 1) ≡ bit_and (part 16 15 word) (part 0 15 word) =
    and_mask both 15 ∙ and_mod (word / 2 ^ 16) word 15 ∙ ap (bit_and (part 16 15 word)) low in
    rw (← c.self.view_is) (ap (nat_lt 0) e)
