-- The first call: the controller is reset, and then nothing waits.
use Rattle.std.proofs.Common.{◌≡◌, ◌≤◌, ℕ, zero, suc, ◌+◌, ◌*◌, ◌%◌, ◌^◌, ◌==◌, ◌&&◌, ◌⊎◌, inl, inr, not, Bool, true, false, List, [], ◌∷◌, ◌++◌, length, map, Option, None, Some, refl, sym, ap, subst, ◌∙◌, arith, append-nil, take, if◌then◌else◌}
use Rattle.std.specs.Prelude.{All, slice_get, slice_index}
use Rattle.std.proofs.Math.Nat.{mod-le}
use Rattle.std.proofs.lemmas.List.Elements.{All-nil, All-cons, All-head, All-tail}
use Rattle.std.proofs.lemmas.List.Sums.{sum_by-cons}
use Rattle.verb_codes.specs.Words.{has_bit}
use Rattle.codec_graph.specs.declared.raw.RawCodec.{RawCodec}
use Rattle.codec_graph.specs.CodecStates.{CodecState, cleared}
use Rattle.hda_registers.specs.declared.shapes.Width.TheVariants.{Four}
use Rattle.hda_registers.specs.declared.places.TheConstants.{GCTL, WALCLK}
use Rattle.hda_registers.specs.Fields.{Fields, Global, is_out_of_reset}
use Rattle.hda_registers.specs.Access.{written, effects_of}
use Rattle.hda_registers.proofs.Callers.{read-wall_clock}
use Rattle.codec_graph.specs.declared.waiting.Waiting.{Waiting}
use Rattle.world_rings.specs.declared.response.Response.{Response}
use Rattle.world_rings.specs.Entries.{next_command}
use Rattle.world_rings.specs.Engines.{can_fetch, can_respond, batch_of}
use Rattle.schedule_reader.specs.Counts.{step_frames}
use Rattle.world_steps.specs.declared.Step.{Step}
use Rattle.world_steps.specs.declared.Step.TheVariants as step
use Rattle.hda_world.specs.Worlds.{World, codec_at}
use Rattle.hda_world.specs.Steps.{after_step, after_steps, frame_step, times, handed_next, waiting_of, sent_first, responded}
use Rattle.hda_world.specs.Events.{Event, Read, Write, happens, after_write, registers_written, reset_if, counted_anew_if}
use Rattle.hda_world.specs.Leaving.{StepsLeave}
use Rattle.hda_world.proofs.Callers.{steps_leave, reset_write, found_all}
use Rattle.command_engine.specs.Fetchings.{HasBlocks, AscendFrom, AscendByAddress}
use Rattle.command_engine.specs.Quiet.{IsQuiet, CanStart}
use Rattle.command_engine.proofs.Callers.{can_start_steps, reset_quiet, risen_can_start, reset_registers, risen_registers, resets as resets_it, no_reset, leaves_reset}
use Rattle.period_writer.specs.Runs.{Tally, tally_opened}
use Rattle.driver_progress.specs.declared.phase.Phase.TheVariants.{Settling}
use Rattle.driver_progress.specs.Tasks.{Task, DriverLine}
use Rattle.driver_progress.specs.Seen.{Seen, clock_of, values_of, interrupts_at}
use Rattle.driver_progress.specs.States.{State, state_opened}
use Rattle.driver_progress.specs.Requests.{Gets, Puts, requests_of}
use Rattle.driver_progress.specs.Expected as expected
use Rattle.driver_progress.specs.Expected.{runs}
use Rattle.driver_progress.specs.Next.{reset_if as reset_state_if, led, tally_next}
use Rattle.driver_progress.specs.Progress.{Trail, seen_in, begun}
use Rattle.laws_bring_up.specs.Stretches.{FindsIn, FindsBy}
use Rattle.laws_serving.specs.ServingDevices.{keeps_answers, KeepAnswers}
use Rattle.driver_progress.specs.Resetting.{reset_accesses}
use Rattle.rig.specs.Follows.{AreAccesses}
use Rattle.laws_serving.specs.ServingSchedules.{IsOfStreams}
use Rattle.laws_serving.specs.Rounds.{frames_of_steps}
use Rattle.laws_serving.proofs.Requests.{reads_first, writes_first, none_asked}
use Rattle.laws_serving.proofs.Rows.{CalmRow}
use Rattle.laws_serving.proofs.Notes.{trail_made, IsNoted, notes_stay}
use Rattle.laws_serving.proofs.Worlds.{step_link, step_control, step_counted, IsTimed, timed_step}
use Rattle.laws_serving.proofs.Engines.{at_first}
use Rattle.laws_serving.proofs.Asking.{fits_so, leads_so, plainly_asked, plainly_led, no_run, sees_them}

-- ---- nothing waits

abbrev pub IsIdle : CodecState → Type 0
IsIdle codec = codec.waiting ≡ []

-- nothing waits at a codec or in the controller, and RINTFL is clear
pub record NothingWaits (world : World) : Type 0 where
  pub idle : All IsIdle world.codecs
  pub none : world.waiting ≡ []
  pub clear : world.registers.global.response_flag ≡ 0

pub nothing_step : (one : Step) (world : World) → IsOfStreams one → NothingWaits world → NothingWaits (after_step one world)
nothing_step one world is nothing =
    let link = step_link one world is in record {
      idle = subst (All IsIdle) (sym link.codecs) nothing.idle;
      none = link.waiting ∙ nothing.none;
      clear = ap (λ (global : Global). global.response_flag) (step_control one world is).global ∙ nothing.clear;
    }

cleared_idle : (codecs : List CodecState) → All IsIdle (map cleared codecs)
cleared_idle [] = All-nil IsIdle
cleared_idle (codec ∷ codecs) = All-cons IsIdle (cleared codec) (map cleared codecs) refl (cleared_idle codecs)

-- ---- in reset nothing moves

if_same : (b : Bool) (one other : World) → b ≡ false → (if b then one else other) ≡ other
if_same true one other is = cc
if_same false one other is = refl

frames_held : (count : ℕ) (world : World) → is_out_of_reset world.registers.global ≡ false → times count frame_step world ≡ world
frames_held zero world held = refl
frames_held (suc count) world held =
    ap (times count frame_step) (if_same (is_out_of_reset world.registers.global) _ world held) ∙ frames_held count world held

and_false : (a b : Bool) → a ≡ false → (a && b) ≡ false
and_false true b is = cc
and_false false b is = refl

step_held : (one : Step) (world : World) → IsOfStreams one → is_out_of_reset world.registers.global ≡ false → after_step one world ≡ world
step_held step.Corb world is held = absurd is
step_held (step.Answer codec) world is held = absurd is
step_held (step.Lose codec) world is held = absurd is
step_held step.Rirb world is held = absurd is
step_held (step.Fetch stream most) world is held =
    if_same (is_out_of_reset world.registers.global && stream == 1) _ _ (and_false (is_out_of_reset world.registers.global) (stream == 1) held)
    ∙ if_same (is_out_of_reset world.registers.global && stream == 0) _ world (and_false (is_out_of_reset world.registers.global) (stream == 0) held)
step_held (step.Link count) world is held = frames_held count world held
step_held (step.Plug codec nid) world is held = absurd is
step_held (step.Unplug codec nid) world is held = absurd is

-- ---- the reset

-- before it: both rings' blocks lie in the region, and codecs stand by address
pub record CanBeReset (corb rirb : ℕ) (world : World) : Type 0 where
  pub blocks : HasBlocks corb rirb (length world.memory)
  pub ascend : AscendByAddress world.codecs

pub can_be_steps : (corb rirb : ℕ) (steps : List Step) (world : World) → CanBeReset corb rirb world → CanBeReset corb rirb (after_steps steps world)
can_be_steps corb rirb steps world can =
    let leaves : StepsLeave world (after_steps steps world) = steps_leave steps world in record {
      blocks = subst (HasBlocks corb rirb) (sym leaves.memory.size) can.blocks;
      ascend = subst (λ (graphs : List RawCodec). AscendFrom 0 graphs) (sym leaves.graphs) can.ascend;
    }

-- in reset: no ring runs, nothing waits, and the wall clock stands at 0
record IsHeld (corb rirb : ℕ) (world : World) : Type 0 where
  quiet : IsQuiet corb rirb world
  nothing : NothingWaits world
  held : world.registers.global.controller_reset ≡ 0
  clock : world.registers.global.wall_clock ≡ 0

held_step : (corb rirb : ℕ) (one : Step) (world : World) → IsOfStreams one → IsHeld corb rirb world → IsHeld corb rirb (after_step one world)
held_step corb rirb one world is held = subst (IsHeld corb rirb) (sym (step_held one world is (ap (λ (n : ℕ). n == 1) held.held))) held

falls : (corb rirb : ℕ) (world : World) → CanBeReset corb rirb world → IsHeld corb rirb (after_write 0x08 Four 0 world)
falls corb rirb world can =
    let is = reset_registers world.registers 0 refl in
    let whole = reset_write world 0x08 0 Four (resets_it world.registers 0 refl) in record {
      quiet = reset_quiet corb rirb 0 world refl can.blocks can.ascend;
      nothing = subst NothingWaits (sym whole) (record {
        idle = cleared_idle world.codecs;
        none = refl;
        clear = ap (λ (f : Fields). f.global.response_flag) is;
      });
      held = ap (λ (w : World). w.registers.global.controller_reset) whole ∙ ap (λ (f : Fields). f.global.controller_reset) is;
      clock = ap (λ (w : World). w.registers.global.wall_clock) whole ∙ ap (λ (f : Fields). f.global.wall_clock) is;
    }

-- ---- out of reset

-- the rings can be started, nothing waits, and the wall clock goes by the link frames
pub record IsOut (corb rirb least : ℕ) (world : World) : Type 0 where
  pub can : CanStart corb rirb world
  pub nothing : NothingWaits world
  pub timed : IsTimed least world

pub out_step : (corb rirb least : ℕ) (one : Step) (world : World) → IsOfStreams one → IsOut corb rirb least world → IsOut corb rirb least (after_step one world)
out_step corb rirb least one world is out =
    record { can = can_start_steps corb rirb (one ∷ []) world out.can; nothing = nothing_step one world is out.nothing; timed = timed_step least one world is out.timed }

-- a write of GCTL that does not reset
rising : (world : World) (value : ℕ) → value % 2 ≡ 1 → (effects_of world.registers 0x08 Four value).left_reset ≡ true
    → after_write 0x08 Four value world ≡ record (registers_written (written world.registers 0x08 Four value) world) { frames = 0 }
rising world value odd left =
    ap (λ (reset : Bool). counted_anew_if (effects_of world.registers 0x08 Four value).left_reset (reset_if reset (registers_written (written world.registers 0x08 Four value) world))) (no_reset world.registers value odd)
    ∙ ap (λ (left : Bool). counted_anew_if left (registers_written (written world.registers 0x08 Four value) world)) left

rises : (corb rirb : ℕ) (world : World) → IsHeld corb rirb world → IsOut corb rirb 0 (after_write 0x08 Four 0x101 world)
rises corb rirb world held =
    let is = (risen_registers world.registers 0x101 refl).1 in
    let whole = rising world 0x101 refl (leaves_reset world.registers held.held) in record {
      can = risen_can_start corb rirb 0x101 world refl held.quiet;
      nothing = subst NothingWaits (sym whole) (record {
        idle = held.nothing.idle;
        none = held.nothing.none;
        clear = ap (λ (f : Fields). f.global.response_flag) is ∙ held.nothing.clear;
      });
      timed = subst (IsTimed 0) (sym whole) (record {
        out = ap (λ (f : Fields). is_out_of_reset f.global) is;
        time = ap (λ (f : Fields). f.global.wall_clock) is ∙ held.clock;
        later = omega arith;
      });
    }

-- ---- the whole call

-- the codecs have their time from this clock on
pub record HasReset (corb rirb kept : ℕ) (world : World) : Type 0 where
  pub out : IsOut corb rirb 0 world
  pub kept_is : kept ≤ 500 * world.frames

reset_row : (corb rirb in_reset control clock : ℕ) (old new : World) → CanBeReset corb rirb old → CalmRow (reset_accesses in_reset control clock) old new → HasReset corb rirb clock new
reset_row corb rirb in_reset control clock old new can row =
    let one = at_first (CanBeReset corb rirb) (λ one world is can. can_be_steps corb rirb (one ∷ []) world can) (Write 0x08 Four 0) (Read 0x08 Four in_reset ∷ Write 0x08 Four 0x101 ∷ Read 0x08 Four control ∷ Read 0x30 Four clock ∷ []) old new row can in
    let two = at_first (IsHeld corb rirb) (held_step corb rirb) (Read 0x08 Four in_reset) (Write 0x08 Four 0x101 ∷ Read 0x08 Four control ∷ Read 0x30 Four clock ∷ []) (happens one.world (Write 0x08 Four 0)) new one.row
    (falls corb rirb one.world one.holds) in
    let three = at_first (IsHeld corb rirb) (held_step corb rirb) (Write 0x08 Four 0x101) (Read 0x08 Four control ∷ Read 0x30 Four clock ∷ []) two.world new two.row two.holds in
    let four = at_first (IsOut corb rirb 0) (out_step corb rirb 0) (Read 0x08 Four control) (Read 0x30 Four clock ∷ []) (happens three.world (Write 0x08 Four 0x101)) new three.row (rises corb rirb three.world three.holds) in
    let five = at_first (IsOut corb rirb 0) (out_step corb rirb 0) (Read 0x30 Four clock) [] four.world new four.row four.holds in
    let is : clock ≡ 500 * five.world.frames % 2 ^ 32 = five.honest ∙ read-wall_clock five.world.registers ∙ five.holds.timed.time in
    let few = mod-le (500 * five.world.frames) (2 ^ 32) in
    let before = kept_by clock (500 * five.world.frames % 2 ^ 32) five.world.frames is few in
    rest five.row.0 five.world (record { out = five.holds; kept_is = before }) five.row.1 new five.row.2
  where
    kept_by : (clock ticks frames : ℕ) → clock ≡ ticks → ticks ≤ 500 * frames → clock ≤ 500 * frames
    kept_by clock ticks frames is few = omega (arith, is, few)

    on : (steps : List Step) (world : World) → All IsOfStreams steps → HasReset corb rirb clock world → HasReset corb rirb clock (after_steps steps world)
    on [] world are reset = reset
    on (one ∷ steps) world are reset =
        let is = All-head IsOfStreams one steps are in
        let timed = timed_step world.frames one world is (record { out = reset.out.timed.out; time = reset.out.timed.time; later = omega arith }) in
        let more = timed.later in
        let kept = reset.kept_is in
        on steps (after_step one world) (All-tail IsOfStreams one steps are) (record { out = out_step corb rirb 0 one world is reset.out; kept_is = omega (arith, more, kept) })

    rest : (steps : List Step) (world : World) → HasReset corb rirb clock world → All IsOfStreams steps → (new : World) → new ≡ after_steps steps world → HasReset corb rirb clock new
    rest steps world reset are new leads = subst (HasReset corb rirb clock) (sym leads) (on steps world are reset)

-- ---- the call

pub record Resets (accesses : List Event) : Type 0 where
  pub in_reset : ℕ
  pub control : ℕ
  pub clock : ℕ
  pub is : accesses ≡ reset_accesses in_reset control clock

pub resets_as : (accesses : List Event) → AreAccesses accesses → requests_of accesses ≡ expected.resets → Resets accesses
resets_as accesses are asks =
    let one = writes_first accesses GCTL Four 0 (Gets GCTL Four ∷ Puts GCTL Four 0x101 ∷ Gets GCTL Four ∷ Gets WALCLK Four ∷ []) are asks in
    let two = reads_first one.later GCTL Four (Puts GCTL Four 0x101 ∷ Gets GCTL Four ∷ Gets WALCLK Four ∷ []) one.are one.rest_is in
    let three = writes_first two.later GCTL Four 0x101 (Gets GCTL Four ∷ Gets WALCLK Four ∷ []) two.are two.rest_is in
    let four = reads_first three.later GCTL Four (Gets WALCLK Four ∷ []) three.are three.rest_is in
    let five = reads_first four.later WALCLK Four [] four.are four.rest_is in
    let none = none_asked five.later five.are five.rest_is in record {
      in_reset = two.value;
      control = four.value;
      clock = five.value;
      is = one.is
          ∙ ap (λ (later : List Event). Write GCTL Four 0 ∷ later) two.is
          ∙ ap (λ (later : List Event). Write GCTL Four 0 ∷ Read GCTL Four two.value ∷ later) three.is
          ∙ ap (λ (later : List Event). Write GCTL Four 0 ∷ Read GCTL Four two.value ∷ Write GCTL Four 0x101 ∷ later) four.is
          ∙ ap (λ (later : List Event). Write GCTL Four 0 ∷ Read GCTL Four two.value ∷ Write GCTL Four 0x101 ∷ Read GCTL Four four.value ∷ later) five.is
          ∙ ap (λ (later : List Event). reset_accesses two.value four.value five.value ++ later) none;
    }

-- after the first call: the codecs have their time
pub record HasBegun (task : Task) (trail : Trail) (world : World) : Type 0 where
  pub phase : trail.state.phase ≡ Settling
  pub sent_is : trail.state.sent ≡ 0
  pub tally_is : trail.state.tally ≡ tally_opened
  pub reset : HasReset task.blocks.corb task.blocks.rirb trail.state.kept world

found_out : (task : Task) (line : DriverLine) (state : State) (seen : Seen) → state ≡ state_opened → line.irq ≡ false → FindsBy (Some line) state seen → has_bit seen.control 0 ≡ true
found_out task line state seen opened calm finds =
    subst (λ (state : State). FindsIn state.phase state seen) opened
    (finds (ap (λ (irq : Bool). irq && not (has_bit seen.interrupts interrupts_at)) calm))

pub first_call : (task : Task) (trail trail' : Trail) (line : DriverLine) (accesses : List Event) (world new : World) → trail.state ≡ state_opened → CanBeReset task.blocks.corb task.blocks.rirb world → AreAccesses accesses → CalmRow accesses world new
    → IsNoted task world trail accesses trail' → slice_get trail.left 0 ≡ Some line → line.irq ≡ false → HasBegun task trail' new
first_call task trail trail' line accesses world new opened can are row noted turn calm =
    let c = trail_made world trail accesses in
    let seen = seen_in c in
    let stays = notes_stay world.written (begun trail) accesses are in
    let tally = tally_next task trail.state (Some line) seen in
    let asks : requests_of accesses ≡ expected.resets =
    fits_so task world trail trail' accesses (Some line) are noted turn ∙ plainly_asked task trail.state line seen tally calm ∙ ap (λ (state : State). runs task state line.budget seen (tally_next task state (Some line) seen) state.phase) opened in
    let made = resets_as accesses are asks in
    let clocks : seen.clocks ≡ made.clock ∷ [] = (sees_them world trail accesses are).clocks ∙ ap (λ (accesses : List Event). values_of accesses WALCLK) made.is in
    let finds = subst (λ (turn : Option DriverLine). FindsBy turn trail.state seen) (stays.turn ∙ turn) (subst (λ (state : State). FindsBy c.turn state seen) stays.state noted.finds) in
    let out = found_out task line trail.state seen opened calm finds in
    let none = no_run task trail.state (Some line) seen made.clock (ap (λ (state : State). state.tally) opened) clocks in
    let state : trail'.state ≡ record state_opened { phase = Settling; kept = clock_of seen; tally = tally_opened } =
    leads_so task world trail trail' accesses (Some line) are noted turn ∙ plainly_led task trail.state line seen calm
    ∙ ap (λ (tally' : Tally). record (led task trail.state seen tally trail.state.phase) { tally = tally' }) none
    ∙ ap (λ (state : State). record (led task state seen tally state.phase) { tally = tally_opened }) opened
    ∙ ap (λ (out : Bool). record (reset_state_if out (clock_of seen) state_opened) { tally = tally_opened }) out in
    let reset = reset_row task.blocks.corb task.blocks.rirb made.in_reset made.control made.clock world new can (subst (λ (accesses : List Event). CalmRow accesses world new) made.is row) in
    let kept : made.clock ≡ trail'.state.kept = sym (ap (λ (state : State). state.kept) state ∙ ap (λ (clocks : List ℕ). slice_index clocks 0) clocks) in
    record {
      phase = ap (λ (state : State). state.phase) state;
      sent_is = ap (λ (state : State). state.sent) state;
      tally_is = ap (λ (state : State). state.tally) state;
      reset = subst (λ (kept : ℕ). HasReset task.blocks.corb task.blocks.rirb kept new) kept reset;
    }

-- ---- the steps behind it

no_fetch : (world : World) → world.registers.global.corb_run ≡ 0 → can_fetch world.registers ≡ false
no_fetch world stopped = by (is_out_of_reset world.registers.global)
  where
    by : (out : Bool) → (out && world.registers.global.corb_run == 1 && not (world.registers.global.corb_pointer_reset == 1) && not (world.registers.global.corb_read_pointer == world.registers.global.corb_write_pointer)) ≡ false
    by true = ap (λ (run : ℕ). run == 1 && not (world.registers.global.corb_pointer_reset == 1) && not (world.registers.global.corb_read_pointer == world.registers.global.corb_write_pointer)) stopped
    by false = refl

no_answer : (world : World) → world.registers.global.rirb_run ≡ 0 → can_respond world.registers ≡ false
no_answer world stopped = by (is_out_of_reset world.registers.global)
  where
    by : (out : Bool) → (out && world.registers.global.rirb_run == 1 && not (world.registers.global.response_flag == 1)) ≡ false
    by true = ap (λ (run : ℕ). run == 1 && not (world.registers.global.response_flag == 1)) stopped
    by false = refl

found_idle : (address : ℕ) (codecs : List CodecState) → All IsIdle codecs → waiting_of (codec_at address codecs) ≡ []
found_idle address codecs idle = by (codec_at address codecs) refl
  where
    by : (found : Option CodecState) → codec_at address codecs ≡ found → waiting_of found ≡ []
    by None there = refl
    by (Some codec) there = found_all IsIdle address codecs codec there idle

if_either : (b : Bool) (one other : World) → one ≡ other → (if b then one else other) ≡ other
if_either true one other is = is
if_either false one other is = refl

-- while no ring runs and nothing waits, these do nothing
ring_step_same : (corb rirb least : ℕ) (one : Step) (world : World) → keeps_answers one ≡ true → IsOut corb rirb least world → (IsOfStreams one) ⊎ ((after_step one world ≡ world) × (step_frames one ≡ 0))
ring_step_same corb rirb least step.Corb world keeps out =
    inr (ap (λ (can : Bool). handed_next (if can then Some (next_command world.registers world.memory) else None) world) (no_fetch world out.can.quiet.corb_stopped), refl)
ring_step_same corb rirb least (step.Answer codec) world keeps out =
    inr (if_either _ _ world (ap (λ (items : List Waiting). sent_first codec items world) (found_idle codec world.codecs out.nothing.idle)), refl)
ring_step_same corb rirb least (step.Lose codec) world keeps out = cc
ring_step_same corb rirb least step.Rirb world keeps out =
    inr (
      ap (λ (can : Bool). responded (if can then take (batch_of world.registers) world.waiting else []) world) (no_answer world out.can.quiet.rirb_stopped)
          ∙ ap (λ (written : List Response). record world { written = written }) (append-nil world.written),
      refl,
    )
ring_step_same corb rirb least (step.Fetch stream most) world keeps out = inl tt
ring_step_same corb rirb least (step.Link frames) world keeps out = inl tt
ring_step_same corb rirb least (step.Plug codec nid) world keeps out = cc
ring_step_same corb rirb least (step.Unplug codec nid) world keeps out = cc

-- out of reset, with so many frames at least
pub out_on : (corb rirb least : ℕ) (steps : List Step) (world : World) → KeepAnswers steps → IsOut corb rirb least world → IsOut corb rirb (least + frames_of_steps steps) (after_steps steps world)
out_on corb rirb least [] world keep out = record { can = out.can; nothing = out.nothing; timed = record { out = out.timed.out; time = out.timed.time; later = let later = out.timed.later in omega (arith, later) } }
out_on corb rirb least (one ∷ steps) world keep out =
    let cons = sum_by-cons step_frames one steps in
    let more : least + step_frames one + frames_of_steps steps ≡ least + frames_of_steps (one ∷ steps) = omega (arith, cons) in
    subst (λ (least : ℕ). IsOut corb rirb least (after_steps steps (after_step one world))) more
    (out_on corb rirb (least + step_frames one) steps (after_step one world) keep.1 (by (ring_step_same corb rirb least one world keep.0 out)))
  where
    by : (IsOfStreams one) ⊎ ((after_step one world ≡ world) × (step_frames one ≡ 0)) → IsOut corb rirb (least + step_frames one) (after_step one world)
    by (inl is) =
        let next = out_step corb rirb least one world is out in
        let counted = step_counted one world is out.timed.out in
        let later = out.timed.later in
        record { can = next.can; nothing = next.nothing; timed = record { out = next.timed.out; time = next.timed.time; later = omega (arith, counted, later) } }
    by (inr same) =
        let none = same.1 in
        let later = out.timed.later in
        subst (IsOut corb rirb (least + step_frames one)) (sym same.0)
        (record { can = out.can; nothing = out.nothing; timed = record { out = out.timed.out; time = out.timed.time; later = omega (arith, none, later) } })
