-- A look for interrupts leaves it possible to reset the controller, and leaves the codecs to announce themselves after a reset.
use Rattle.std.proofs.Common.{◌≡◌, ◌≤◌, ◌*◌, ℕ, Bool, true, false, if◌then◌else◌, List, [], ◌∷◌, refl, sym, ap, subst, ◌∙◌, arith, inr}
use Rattle.verb_codes.specs.Words.{has_bit, bits_of}
use Rattle.hda_registers.specs.declared.shapes.Width.TheVariants.{One, Four}
use Rattle.hda_registers.specs.declared.places.TheConstants.{INTSTS}
use Rattle.hda_registers.specs.Fields.{Global, is_out_of_reset}
use Rattle.hda_registers.specs.Access.{written}
use Rattle.hda_registers.specs.Laws.{IsBesideRings}
use Rattle.hda_registers.proofs.Callers.{changes-output}
use Rattle.world_steps.specs.declared.Step.{Step}
use Rattle.hda_world.specs.Worlds.{World}
use Rattle.hda_world.specs.Steps.{after_steps}
use Rattle.hda_world.specs.Events.{Read, Write, after_write, registers_written}
use Rattle.hda_world.specs.Tellings.{Telling, world_of, MakesBy, Makes}
use Rattle.hda_world.specs.Discovery.{addresses_of, AreSet}
use Rattle.hda_world.proofs.Callers.{beside_write}
use Rattle.command_engine.specs.Apart.{InputIsApart}
use Rattle.command_engine.proofs.Callers.{write_apart}
use Rattle.driver_progress.specs.declared.registers.TheConstants.{STREAM_STATUS}
use Rattle.driver_progress.specs.Beginning.{AreOnly, CanReset, IsSettling}
use Rattle.driver_progress.specs.Interrupts.{interrupt_accesses}
use Rattle.driver_progress.proofs.SettleWorlds.{addresses_stay}
use Rattle.driver_progress.proofs.ResetWorlds.{access_leads, can_reset_steps, settling_steps}

-- ---- a write of the output stream's status

beside_rings : IsBesideRings STREAM_STATUS
beside_rings = record { control = inr (omega arith); rings = inr (omega arith) }

status_written : (value : ℕ) (world : World) → registers_written (written world.registers STREAM_STATUS One value) world ≡ after_write STREAM_STATUS One value world
status_written value world = sym (beside_write world STREAM_STATUS value One beside_rings)

global_same : (value : ℕ) (world : World) → world.registers.global ≡ (written world.registers STREAM_STATUS One value).global
global_same value world = sym (changes-output world.registers STREAM_STATUS One value (omega arith) (omega arith)).global

pub status_run : (value : ℕ) (world : World) → (written world.registers STREAM_STATUS One value).global.corb_run ≡ world.registers.global.corb_run
status_run value world = sym (ap (λ (global : Global). global.corb_run) (global_same value world))

can_reset_written : (corb rirb value : ℕ) (world : World) → CanReset corb rirb world → CanReset corb rirb (after_write STREAM_STATUS One value world)
can_reset_written corb rirb value world can =
    subst (CanReset corb rirb) (status_written value world) (record {
      blocks = can.blocks;
      ascend = can.ascend;
      only = subst (λ (global : Global). AreOnly global.state_status (addresses_of world.codecs)) (global_same value world) can.only;
    })

settling_written : (corb rirb value : ℕ) (world : World) → IsSettling corb rirb world → IsSettling corb rirb (after_write STREAM_STATUS One value world)
settling_written corb rirb value world is =
    let same = global_same value world in
    let quiet = is.can_start.quiet in
    subst (IsSettling corb rirb) (status_written value world) (record {
      can_start = record {
        quiet = record {
          corb_stopped = sym (ap (λ (global : Global). global.corb_run) same) ∙ quiet.corb_stopped;
          rirb_stopped = sym (ap (λ (global : Global). global.rirb_run) same) ∙ quiet.rirb_stopped;
          flag = subst (λ (global : Global). global.response_flag ≤ 1) same quiet.flag;
          blocks = quiet.blocks;
          ascend = quiet.ascend;
          nothing_comes = quiet.nothing_comes;
          apart = subst (InputIsApart corb rirb) (sym (status_written value world)) (write_apart corb rirb world STREAM_STATUS value One (omega arith) (inr (omega arith)) quiet.apart);
        };
        out = sym (ap (λ (global : Global). is_out_of_reset global) same) ∙ is.can_start.out;
      };
      discovered = λ late. subst (λ (global : Global). AreSet global.state_status (addresses_of world.codecs)) same (is.discovered late);
      time = sym (ap (λ (global : Global). global.wall_clock) same) ∙ is.time;
      only = subst (λ (global : Global). AreOnly global.state_status (addresses_of world.codecs)) same is.only;
    })

-- ---- the look

pub looked : (Holds : World → Type 0) → ((steps : List Step) (world : World) → Holds world → Holds (after_steps steps world)) → ((value : ℕ) (world : World) → Holds world → Holds (after_write STREAM_STATUS One value world))
    → (on clears : Bool) (interrupts stream : ℕ) (old new : Telling)
    → MakesBy (Read INTSTS Four interrupts ∷ (if on then (if clears then Read STREAM_STATUS One stream ∷ Write STREAM_STATUS One (4 * bits_of stream 2 3) ∷ [] else []) else [])) old new
    → Holds (world_of old) → Holds (world_of new)
looked Holds steps_keep write_keeps true true interrupts stream old new made holds =
    let first = access_leads Holds Holds (Read INTSTS Four interrupts) steps_keep (λ world holds honest. holds) old made.0 made.1 holds in
    let second = access_leads Holds Holds (Read STREAM_STATUS One stream) steps_keep (λ world holds honest. holds) made.0 made.2.0 made.2.1 first in
    let third = access_leads Holds Holds (Write STREAM_STATUS One (4 * bits_of stream 2 3)) steps_keep (λ world holds honest. write_keeps (4 * bits_of stream 2 3) world holds) made.2.0 made.2.2.0 made.2.2.1 second in
    subst (λ (telling : Telling). Holds (world_of telling)) (sym made.2.2.2) third
looked Holds steps_keep write_keeps true false interrupts stream old new made holds =
    subst (λ (telling : Telling). Holds (world_of telling)) (sym made.2) (access_leads Holds Holds (Read INTSTS Four interrupts) steps_keep (λ world holds honest. holds) old made.0 made.1 holds)
looked Holds steps_keep write_keeps false clears interrupts stream old new made holds =
    subst (λ (telling : Telling). Holds (world_of telling)) (sym made.2) (access_leads Holds Holds (Read INTSTS Four interrupts) steps_keep (λ world holds honest. holds) old made.0 made.1 holds)

pub can_reset_looked : (corb rirb interrupts stream : ℕ) (old new : Telling) → Makes (interrupt_accesses interrupts stream) old new → CanReset corb rirb (world_of old) → CanReset corb rirb (world_of new)
can_reset_looked corb rirb interrupts stream old new made can =
    looked (CanReset corb rirb) (can_reset_steps corb rirb) (can_reset_written corb rirb) (has_bit interrupts 31) (has_bit interrupts 1) interrupts stream old new made.by can

pub settling_looked : (corb rirb interrupts stream : ℕ) (old new : Telling) → Makes (interrupt_accesses interrupts stream) old new → IsSettling corb rirb (world_of old) → IsSettling corb rirb (world_of new)
settling_looked corb rirb interrupts stream old new made is =
    looked (IsSettling corb rirb) (settling_steps corb rirb) (settling_written corb rirb) (has_bit interrupts 31) (has_bit interrupts 1) interrupts stream old new made.by is

-- and the codecs on the link stay
abbrev AreAt : List ℕ → World → Type 0
AreAt addresses world = addresses_of world.codecs ≡ addresses

pub addresses_looked : (interrupts stream : ℕ) (old new : Telling) → Makes (interrupt_accesses interrupts stream) old new → addresses_of (world_of new).codecs ≡ addresses_of (world_of old).codecs
addresses_looked interrupts stream old new made =
    let addresses = addresses_of (world_of old).codecs in
    looked (AreAt addresses) (λ steps world are. addresses_stay steps world ∙ are)
    (λ value world are. subst (AreAt addresses) (status_written value world) are)
    (has_bit interrupts 31) (has_bit interrupts 1) interrupts stream old new made.by refl
