use Rattle.std.proofs.Common.{◌≡◌, ◌+◌, ◌*◌, ◌%◌, ◌^◌, refl, ◌∙◌, ap}
use Rattle.std.specs.Prelude.{bit_or}
use Rattle.hda_registers.specs.Access.{part}
use Rattle.hda_registers.proofs.Groups.{set_part, state_low, state_high}
use Rattle.hda_registers.proofs.Bits.{part-or}
use Rattle.hda_registers.proofs.controller.Controller.set_state.Goals as goal

pub returns : goal.returns
returns c =
    let word = c.self.inside.wake in
    let bit = 1 * 2 ^ (16 + c.args.codec) % 2 ^ 32 in
    let high : part 16 15 (bit_or word bit) ≡ bit_or (part 16 15 word) (2 ^ c.args.codec) =
    part-or 16 15 word bit ∙ ap (bit_or (part 16 15 word)) (state_high c.args.codec c.requires) in
    rw (← c.self.view_is, c.from.ensures, set_part 0 15 word bit (state_low c.args.codec c.requires), high) refl
