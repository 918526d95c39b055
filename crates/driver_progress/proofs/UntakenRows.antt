-- Nor does one over a reset, or over a look for interrupts.
use Rattle.std.proofs.Common.{◌≡◌, ℕ, List, refl, sym, ap, subst, ◌∙◌}
use Rattle.hda_registers.specs.Fields.{Fields}
use Rattle.hda_registers.specs.declared.shapes.Width.{Width}
use Rattle.hda_registers.specs.declared.shapes.Width.TheVariants.{One, Four}
use Rattle.hda_registers.specs.Access.{written}
use Rattle.hda_world.specs.Worlds.{World, TakenCommand}
use Rattle.hda_world.specs.Events.{Read, Write, after_write}
use Rattle.hda_world.specs.Tellings.{Telling, world_of, MakesBy, Makes}
use Rattle.hda_world.proofs.Callers.{access_leaves}
use Rattle.verb_codes.specs.Words.{has_bit}
use Rattle.hda_world.proofs.Callers.{write_registers}
use Rattle.command_engine.proofs.Callers.{reset_registers, risen_registers}
use Rattle.driver_progress.specs.declared.registers.TheConstants.{STREAM_STATUS}
use Rattle.driver_progress.specs.Beginning.{IsUntaken, LeavesUntaken}
use Rattle.driver_progress.specs.Resetting.{reset_accesses}
use Rattle.driver_progress.specs.Interrupts.{interrupt_accesses}
use Rattle.driver_progress.proofs.ResetWorlds.{access_leads}
use Rattle.driver_progress.proofs.InterruptWorlds.{looked, status_run}
use Rattle.driver_progress.proofs.UntakenSteps.{untaken_steps}

-- ---- accesses

-- a write after which it does not run
written_untaken : (commands : List TakenCommand) (at value : ℕ) (width : Width) (world : World) → (written world.registers at width value).global.corb_run ≡ 0 → IsUntaken commands world → IsUntaken commands (after_write at width value world)
written_untaken commands at value width world stopped is = record {
  stopped = ap (λ (fields : Fields). fields.global.corb_run) (write_registers world at value width) ∙ stopped;
  commands_are = (access_leaves world at value width).commands ∙ is.commands_are;
}

reset_stopped : (world : World) → (written world.registers 0x08 Four 0).global.corb_run ≡ 0
reset_stopped world = ap (λ (fields : Fields). fields.global.corb_run) (reset_registers world.registers 0 refl)

risen_stopped : (world : World) → world.registers.global.corb_run ≡ 0 → (written world.registers 0x08 Four 0x101).global.corb_run ≡ 0
risen_stopped world stopped = ap (λ (fields : Fields). fields.global.corb_run) (risen_registers world.registers 0x101 refl).1 ∙ stopped

reset_by : (commands : List TakenCommand) (in_reset control clock : ℕ) (old new : Telling) → MakesBy (reset_accesses in_reset control clock) old new → IsUntaken commands (world_of old) → IsUntaken commands (world_of new)
reset_by commands in_reset control clock old new (one, first, (two, second, (three, third, (four, fourth, (five, fifth, last))))) is =
    let Untaken = IsUntaken commands in
    let steps = untaken_steps commands in
    let in_one = access_leads Untaken Untaken (Write 0x08 Four 0) steps (λ world before honest. written_untaken commands 0x08 0 Four world (reset_stopped world) before) old one first is in
    let in_two = access_leads Untaken Untaken (Read 0x08 Four in_reset) steps (λ world before honest. before) one two second in_one in
    let in_three = access_leads Untaken Untaken (Write 0x08 Four 0x101) steps (λ world before honest. written_untaken commands 0x08 0x101 Four world (risen_stopped world before.stopped) before) two three third in_two in
    let in_four = access_leads Untaken Untaken (Read 0x08 Four control) steps (λ world before honest. before) three four fourth in_three in
    let in_five = access_leads Untaken Untaken (Read 0x30 Four clock) steps (λ world before honest. before) four five fifth in_four in
    subst (λ (telling : Telling). IsUntaken commands (world_of telling)) (sym last) in_five

pub reset_untaken : (in_reset control clock : ℕ) (old new : Telling) → Makes (reset_accesses in_reset control clock) old new → LeavesUntaken old new
reset_untaken in_reset control clock old new makes commands is = reset_by commands in_reset control clock old new makes.by is

pub looked_untaken : (interrupts stream : ℕ) (old new : Telling) → Makes (interrupt_accesses interrupts stream) old new → LeavesUntaken old new
looked_untaken interrupts stream old new makes commands is =
    looked (IsUntaken commands) (untaken_steps commands) (λ value world before. written_untaken commands STREAM_STATUS value One world (status_run value world ∙ before.stopped) before)
    (has_bit interrupts 31) (has_bit interrupts 1) interrupts stream old new makes.by is
