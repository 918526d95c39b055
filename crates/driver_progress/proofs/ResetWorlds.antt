-- What a reset leads to.
use Rattle.std.proofs.Common.{◌≡◌, ◌+◌, ◌*◌, ◌/◌, ◌%◌, ◌==◌, ℕ, true, List, [], ◌∷◌, map, refl, sym, ap, subst, ◌∙◌, arith, rules, tests}
use Rattle.verb_codes.specs.Words.{has_bit}
use Rattle.codec_graph.specs.declared.raw.RawCodec.{RawCodec}
use Rattle.codec_graph.specs.CodecStates.{CodecState, cleared}
use Rattle.hda_registers.specs.declared.shapes.Width.TheVariants.{Four}
use Rattle.hda_registers.specs.Fields.{Fields, Global, is_out_of_reset}
use Rattle.hda_registers.specs.Access.{written, value_at}
use Rattle.hda_registers.proofs.Callers.{read-global_control}
use Rattle.world_steps.specs.declared.Step.{Step}
use Rattle.hda_world.specs.Worlds.{World}
use Rattle.hda_world.specs.Steps.{after_steps}
use Rattle.hda_world.specs.Events.{Event, Read, Write, happens, after_write, IsHonest}
use Rattle.hda_world.specs.Tellings.{Telling, world_of, Accessed, MakesBy, Makes}
use Rattle.hda_world.specs.Discovery.{addresses_of, IsDiscovered}
use Rattle.hda_world.specs.Leaving.{StepsLeave}
use Rattle.hda_world.proofs.Callers.{world_of-went, kept_steps, steps_leave, reset_write, rising_write, keeps_discovery}
use Rattle.hda_world.proofs.Callers.{after-stepped, honest-stepped}
use Rattle.command_engine.specs.Fetchings.{HasBlocks, AscendFrom}
use Rattle.command_engine.specs.Quiet.{IsQuiet}
use Rattle.command_engine.proofs.Callers.{quiet_steps, can_start_steps, reset_quiet, risen_can_start, reset_registers, risen_registers, control-written, resets, no_reset, leaves_reset}
use Rattle.driver_progress.specs.Beginning.{AreOnly, HasOnly, KeepsTime, CanReset, IsSettling}
use Rattle.driver_progress.specs.Resetting.{reset_accesses}
use Rattle.driver_progress.proofs.Time.{keeps_time, keeps_only, keeps_held, IsHeld}

-- a relation that steps keep, through an access
pub access_leads : (Before After : World → Type 0) (event : Event) → ((steps : List Step) (world : World) → Before world → Before (after_steps steps world))
    → ((world : World) → Before world → IsHonest world event → After (happens world event)) → (old new : Telling) → Accessed old new event → Before (world_of old) → After (world_of new)
access_leads Before After event steps_keep leads old new accessed before =
    subst After (sym (world_of-went old new _ accessed.went ∙ after-stepped accessed.steps event (world_of old)))
    (leads (after_steps accessed.steps (world_of old)) (steps_keep accessed.steps (world_of old) before) (honest-stepped accessed.steps event (world_of old) accessed.went.honest))

-- ---- before the reset

pub can_reset_steps : (corb rirb : ℕ) (steps : List Step) (world : World) → CanReset corb rirb world → CanReset corb rirb (after_steps steps world)
can_reset_steps corb rirb steps world can =
    let leaves : StepsLeave world (after_steps steps world) = steps_leave steps world in
    record {
      blocks = subst (HasBlocks corb rirb) (sym leaves.memory.size) can.blocks;
      ascend = subst (λ (graphs : List RawCodec). AscendFrom 0 graphs) (sym leaves.graphs) can.ascend;
      only = kept_steps HasOnly keeps_only steps world can.only;
    }

-- ---- in reset

record InReset (corb rirb : ℕ) (world : World) : Type 0 where
  quiet : IsQuiet corb rirb world
  held : IsHeld world
  only : HasOnly world

in_reset_steps : (corb rirb : ℕ) (steps : List Step) (world : World) → InReset corb rirb world → InReset corb rirb (after_steps steps world)
in_reset_steps corb rirb steps world is = record {
  quiet = quiet_steps corb rirb steps world is.quiet;
  held = kept_steps IsHeld keeps_held steps world is.held;
  only = kept_steps HasOnly keeps_only steps world is.only;
}

addresses-cleared : (codecs : List CodecState) → addresses_of (map cleared codecs) ≡ addresses_of codecs
addresses-cleared [] = refl
addresses-cleared (codec ∷ codecs) = ap (λ (rest : List ℕ). codec.graph.address ∷ rest) (addresses-cleared codecs)

reset_leads : (corb rirb : ℕ) (world : World) → CanReset corb rirb world → InReset corb rirb (after_write 0x08 Four 0 world)
reset_leads corb rirb world can =
    let is = reset_registers world.registers 0 refl in
    let whole = reset_write world 0x08 0 Four (resets world.registers 0 refl) in
    let status : (written world.registers 0x08 Four 0).global.state_status ≡ world.registers.global.state_status =
    ap (λ (f : Fields). f.global.state_status) is ∙ ap (λ (g : Global). g.state_status) (control-written world.registers.shape world.registers.global 0) in
    record {
      quiet = reset_quiet corb rirb 0 world refl can.blocks can.ascend;
      held = subst IsHeld (sym whole) (record { held = ap (λ (f : Fields). f.global.controller_reset) is; clock = ap (λ (f : Fields). f.global.wall_clock) is });
      only = subst HasOnly (sym whole)
          (subst (λ (status : ℕ). AreOnly status (addresses_of (map cleared world.codecs))) (sym status)
          (subst (AreOnly world.registers.global.state_status) (sym (addresses-cleared world.codecs)) can.only));
    }

-- ---- out of reset

pub settling_steps : (corb rirb : ℕ) (steps : List Step) (world : World) → IsSettling corb rirb world → IsSettling corb rirb (after_steps steps world)
settling_steps corb rirb steps world is = record {
  can_start = can_start_steps corb rirb steps world is.can_start;
  discovered = kept_steps IsDiscovered keeps_discovery steps world is.discovered;
  time = kept_steps KeepsTime keeps_time steps world is.time;
  only = kept_steps HasOnly keeps_only steps world is.only;
}

rise_leads : (corb rirb : ℕ) (world : World) → InReset corb rirb world → IsSettling corb rirb (after_write 0x08 Four 0x101 world)
rise_leads corb rirb world in_reset =
    let is = (risen_registers world.registers 0x101 refl).1 in
    let whole = rising_write world 0x08 0x101 Four (no_reset world.registers 0x101 refl) (leaves_reset world.registers in_reset.held.held) in
    record {
      can_start = risen_can_start corb rirb 0x101 world refl in_reset.quiet;
      discovered = subst IsDiscovered (sym whole) (λ late. absurd (omega (arith, late)));
      time = subst KeepsTime (sym whole) (ap (λ (f : Fields). f.global.wall_clock) is ∙ in_reset.held.clock);
      only = subst HasOnly (sym whole) (subst (λ (status : ℕ). AreOnly status (addresses_of world.codecs)) (sym (ap (λ (f : Fields). f.global.state_status) is)) in_reset.only);
    }

-- ---- all of it

is_one : (n : ℕ) → (n == 1) ≡ true → n ≡ 1
is_one n is = search (rules, tests)

-- CRST is bit 0 of GCTL
shows_out : (fields : Fields) (control : ℕ) → is_out_of_reset fields.global ≡ true → control ≡ value_at fields 0x08 Four → has_bit control 0 ≡ true
shows_out fields control out is =
    let one = is_one fields.global.controller_reset out in
    let reads : control ≡ fields.global.controller_reset + fields.global.unsolicited * 256 = is ∙ read-global_control fields in
    let low : control / 1 % 2 ≡ 1 = omega (arith, reads, one) in
    ap (λ (n : ℕ). n == 1) low

record IsOut (corb rirb control : ℕ) (world : World) : Type 0 where
  settling : IsSettling corb rirb world
  shown : has_bit control 0 ≡ true

out_steps : (corb rirb control : ℕ) (steps : List Step) (world : World) → IsOut corb rirb control world → IsOut corb rirb control (after_steps steps world)
out_steps corb rirb control steps world is = record { settling = settling_steps corb rirb steps world is.settling; shown = is.shown }

by_accesses : (corb rirb in_reset control clock : ℕ) (old new : Telling) → MakesBy (reset_accesses in_reset control clock) old new → CanReset corb rirb (world_of old) → IsOut corb rirb control (world_of new)
by_accesses corb rirb in_reset control clock old new (one, first, (two, second, (three, third, (four, fourth, (five, fifth, last))))) can =
    let in_one = access_leads (CanReset corb rirb) (InReset corb rirb) (Write 0x08 Four 0) (can_reset_steps corb rirb) (λ world before honest. reset_leads corb rirb world before) old one first can in
    let in_two = access_leads (InReset corb rirb) (InReset corb rirb) (Read 0x08 Four in_reset) (in_reset_steps corb rirb) (λ world before honest. before) one two second in_one in
    let in_three = access_leads (InReset corb rirb) (IsSettling corb rirb) (Write 0x08 Four 0x101) (in_reset_steps corb rirb) (λ world before honest. rise_leads corb rirb world before) two three third in_two in
    let in_four = access_leads (IsSettling corb rirb) (IsOut corb rirb control) (Read 0x08 Four control) (settling_steps corb rirb)
    (λ world before honest. record { settling = before; shown = shows_out world.registers control before.can_start.out honest }) three four fourth in_three in
    let in_five = access_leads (IsOut corb rirb control) (IsOut corb rirb control) (Read 0x30 Four clock) (out_steps corb rirb control) (λ world before honest. before) four five fifth in_four in
    subst (λ (telling : Telling). IsOut corb rirb control (world_of telling)) (sym last) in_five

pub reset_told : (corb rirb in_reset control clock : ℕ) (old new : Telling) → Makes (reset_accesses in_reset control clock) old new → CanReset corb rirb (world_of old)
    → IsSettling corb rirb (world_of new) × (has_bit control 0 ≡ true)
reset_told corb rirb in_reset control clock old new makes can =
    let out = by_accesses corb rirb in_reset control clock old new makes.by can in (out.settling, out.shown)
