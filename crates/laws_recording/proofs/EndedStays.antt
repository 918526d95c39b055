-- A recording that was stopped stays as it is.
use Rattle.std.proofs.Common.{◌≡◌, ◌≤◌, ◌<◌, ◌⊎◌, ◌&&◌, not, inl, inr, ℕ, Bool, true, false, List, [], ◌∷◌, refl, sym, ap, subst, ◌∙◌, arith, rules, tests, if◌then◌else◌}
use Rattle.std.specs.Prelude.{All, nat_lt}
use Rattle.std.proofs.lemmas.List.Elements.{All-head, All-tail}
use Rattle.world_steps.specs.declared.Step.{Step}
use Rattle.hda_registers.specs.declared.shapes.Width.{Width}
use Rattle.hda_registers.specs.declared.shapes.Width.TheVariants.{One}
use Rattle.hda_registers.specs.Fields.{Global, Descriptor, Fields, reset_fields, reset_descriptor, is_out_of_reset, is_running}
use Rattle.hda_registers.specs.Access.{written, placed, stream_written, with_global, is_taken, effects_of}
use Rattle.hda_registers.proofs.Callers.{status-input}
use Rattle.world_streams.specs.Streams.{StreamState, settled_state, begun}
use Rattle.hda_world.specs.Worlds.{World}
use Rattle.hda_world.specs.Steps.{after_steps}
use Rattle.hda_world.specs.Streaming.{StaysUntaken}
use Rattle.hda_world.specs.Events.{Event, Stepped, Begin, End, Read, Write, DmaRead, DmaWrite, happens, after, after_write, reset_if, counted_anew_if, registers_written, settled_came}
use Rattle.hda_world.proofs.Callers.{write_registers, write_states}
use Rattle.hda_capture.specs.Recorders.{RecorderState}
use Rattle.laws_recording.specs.Recording.{AreFirstOf, IsRecording, HasRecorded, HasCompleted}
use Rattle.laws_recording.specs.Beside.{LeavesStoppedInput, StaysTaken}
use Rattle.laws_recording.proofs.EventsBeside.{input_error}

-- ---- what stays

-- a stopped stream, and that it has no error if it had none
pub record Stays (old new : World) : Type 0 where
  pub ended : StaysTaken old new
  pub no_error : old.registers.input.descriptor_error ≡ 0 → new.registers.input.descriptor_error ≡ 0

stays_same : (old new : World) → is_running old.registers.input ≡ false → new.registers.input ≡ old.registers.input → new.input ≡ old.input → new.came ≡ old.came → new.given ≡ old.given → Stays old new
stays_same old new still registers state came given = record {
  ended = record { stopped = ap is_running registers ∙ still; state = state; came = came; given = given };
  no_error = λ none. ap (λ (d : Descriptor). d.descriptor_error) registers ∙ none;
}

stays_both : (first second third : World) → Stays first second → Stays second third → Stays first third
stays_both first second third one other = record {
  ended = record { stopped = other.ended.stopped; state = other.ended.state ∙ one.ended.state; came = other.ended.came ∙ one.ended.came; given = other.ended.given ∙ one.ended.given };
  no_error = λ none. other.no_error (one.no_error none);
}

-- ---- the input's descriptor after a write elsewhere

-- what holds of it, and of one in reset, holds still
module _ (Holds : Descriptor → Type 0) (in_reset : Holds (reset_descriptor 0)) where
  global_holds : (f : Fields) (g : Global) → Holds f.input → Holds (with_global f g).input
  global_holds f g holds = by (is_out_of_reset g) where
    by : (out : Bool) → Holds (if out then record f { global = g } else reset_fields f.shape g.state_status).input
    by true = holds
    by false = in_reset

  either : (test : Bool) (one other : Fields) → Holds one.input → Holds other.input → Holds (if test then one else other).input
  either true one other first second = first
  either false one other first second = second

  where_false : (test : Bool) (one other : Fields) → test ≡ false → Holds other.input → Holds (if test then one else other).input
  where_false true one other is holds = cc
  where_false false one other is holds = holds

  where_true : (test : Bool) (one other : Fields) → test ≡ true → Holds one.input → Holds (if test then one else other).input
  where_true true one other is holds = holds
  where_true false one other is holds = cc

  is_below : (at bound : ℕ) → at < bound → nat_lt at bound ≡ true
  is_below at bound below = search (rules, tests)

  is_above : (at bound : ℕ) → bound ≤ at → nat_lt at bound ≡ false
  is_above at bound above = search (rules, tests)

  elsewhere : (f : Fields) (at value : ℕ) (width : Width) → (at < 0x80) ⊎ (0xA0 ≤ at) → Holds f.input → Holds (written f at width value).input
  unfolding written placed
  elsewhere f at value width (inl below) holds = either (is_taken f at width) _ _ (where_true (nat_lt at 0x80) _ _ (is_below at 0x80 below) (global_holds f _ holds)) holds
  elsewhere f at value width (inr above) holds = either (is_taken f at width) _ _
      (where_false (nat_lt at 0x80) _ _ (is_above at 0x80 (omega (arith, above))) (where_false (nat_lt at 0xA0) _ _ (is_above at 0xA0 above) (either (nat_lt at 0xC0) _ _ holds holds))) holds

-- ---- writes

came_left : (reset left : Bool) (world : World) → (counted_anew_if left (reset_if reset world)).came ≡ world.came
came_left true true world = refl
came_left true false world = refl
came_left false true world = refl
came_left false false world = refl

given_left : (reset left : Bool) (world : World) → (counted_anew_if left (reset_if reset world)).given ≡ world.given
given_left true true world = refl
given_left true false world = refl
given_left false true world = refl
given_left false false world = refl

pub begins_not : (old new : Descriptor) (state : StreamState) → is_running new ≡ false → settled_state old new state ≡ state
begins_not old new state still = by (is_running old) (is_running new) still where
  by : (was runs : Bool) → runs ≡ false → (if not was && runs then begun else state) ≡ state
  by true true e = cc
  by false true e = cc
  by true false e = refl
  by false false e = refl

comes_not : (old new : Descriptor) (came : List Bool) → is_running new ≡ false → settled_came old new came ≡ came
comes_not old new came still = by (is_running old) (is_running new) still where
  by : (was runs : Bool) → runs ≡ false → (if not was && runs then [] else came) ≡ came
  by true true e = cc
  by false true e = cc
  by true false e = refl
  by false false e = refl

-- a write after which it does not run
pub write_stays : (world : World) (at value : ℕ) (width : Width) → is_running (written world.registers at width value).input ≡ false
    → (world.registers.input.descriptor_error ≡ 0 → (written world.registers at width value).input.descriptor_error ≡ 0) → Stays world (after_write at width value world)
write_stays world at value width still none =
    let registers = write_registers world at value width in
    let effects = effects_of world.registers at width value in
    record {
      ended = record {
        stopped = ap (λ (f : Fields). is_running f.input) registers ∙ still;
        state = (write_states world at value width).0 ∙ begins_not world.registers.input (written world.registers at width value).input world.input still;
        came = came_left effects.reset effects.left_reset (registers_written (written world.registers at width value) world) ∙ comes_not world.registers.input (written world.registers at width value).input world.came still;
        given = given_left effects.reset effects.left_reset (registers_written (written world.registers at width value) world);
      };
      no_error = λ before. ap (λ (f : Fields). f.input.descriptor_error) registers ∙ none before;
    }

elsewhere_stays : (world : World) (at value : ℕ) (width : Width) → (at < 0x80) ⊎ (0xA0 ≤ at) → is_running world.registers.input ≡ false → Stays world (after_write at width value world)
elsewhere_stays world at value width beside still =
    write_stays world at value width (elsewhere (λ (d : Descriptor). is_running d ≡ false) refl world.registers at value width beside still)
    (elsewhere (λ (d : Descriptor). d.descriptor_error ≡ 0) refl world.registers at value width beside)

status_stays : (world : World) (value : ℕ) → is_running world.registers.input ≡ false → Stays world (after_write 0x83 One value world)
status_stays world value still = write_stays world 0x83 value One (ap is_running (status-input world.registers value) ∙ still) (input_error world.registers value)

-- CTL: neither RUN nor an interrupt
pub write-stop : (f : Fields) → is_out_of_reset f.global ≡ true
    → written f 0x80 One 0 ≡ record f { input = record f.input { stream_reset = 0; run = 0; completion_interrupt = 0; fifo_interrupt = 0; descriptor_interrupt = 0 } }
unfolding written placed stream_written
write-stop f out = rw out refl

pub stop_stays : (world : World) → is_out_of_reset world.registers.global ≡ true → Stays world (after_write 0x80 One 0 world)
stop_stays world out =
    let is = write-stop world.registers out in
    write_stays world 0x80 0 One (ap (λ (f : Fields). is_running f.input) is) (λ none. ap (λ (f : Fields). f.input.descriptor_error) is ∙ none)

-- ---- what was recorded

pub ended_on : (recorder : RecorderState) (old new : World) → Stays old new → HasRecorded recorder old → HasRecorded recorder new
ended_on recorder old new stays was = record {
  stopped = stays.ended.stopped;
  no_error = stays.no_error was.no_error;
  started = was.started;
  whole = was.whole;
  first = subst (λ (state : StreamState). AreFirstOf state.entered recorder.bytes) (sym stays.ended.state) was.first;
}

-- a stop ends a recording
pub stop_ends : (recorder : RecorderState) (world : World) → IsRecording recorder world → HasRecorded recorder (happens world (Write 0x80 One 0))
stop_ends recorder world recording =
    let stays = stop_stays world recording.fills.set.out in
    record {
      stopped = stays.ended.stopped;
      no_error = stays.no_error recording.fills.set.no_error;
      started = recording.started;
      whole = recording.whole;
      first = subst (λ (state : StreamState). AreFirstOf state.entered recorder.bytes) (sym stays.ended.state) recording.first;
    }

-- ---- steps and events, by what the world's laws say of them

module _ (steps_leave : (steps : List Step) (world : World) → is_running world.registers.input ≡ false → StaysUntaken world.registers.input world.input world.came (after_steps steps world))
    (given_stays : (events : List Event) (world : World) → (after events world).given ≡ world.given) where
  step_stays : (one : Step) (world : World) → is_running world.registers.input ≡ false → Stays world (after_steps (one ∷ []) world)
  step_stays one world still =
      let stays = steps_leave (one ∷ []) world still in
      stays_same world (after_steps (one ∷ []) world) still stays.registers stays.state_stays stays.came_stays (given_stays (Stepped one ∷ []) world)

  event_stays : (event : Event) (world : World) → LeavesStoppedInput event → is_running world.registers.input ≡ false → Stays world (happens world event)
  event_stays (Stepped step) world leaves still = step_stays step world still
  event_stays Begin world leaves still = stays_same world world still refl refl refl refl
  event_stays End world leaves still = stays_same world world still refl refl refl refl
  event_stays (Read at width value) world leaves still = stays_same world world still refl refl refl refl
  event_stays (Write at width value) world (inl beside) still = elsewhere_stays world at value width beside still
  event_stays (Write at width value) world (inr status) still =
      subst (λ (at : ℕ). Stays world (after_write at width value world)) (sym status.at_is) (subst (λ (width : Width). Stays world (after_write 0x83 width value world)) (sym status.width_is) (status_stays world value still))
  event_stays (DmaRead at bytes) world leaves still = stays_same world world still refl refl refl refl
  event_stays (DmaWrite at bytes) world leaves still = stays_same world (happens world (DmaWrite at bytes)) still refl refl refl refl

  pub events_stay : (events : List Event) (world : World) → All LeavesStoppedInput events → is_running world.registers.input ≡ false → Stays world (after events world)
  events_stay [] world leave still = stays_same world world still refl refl refl refl
  events_stay (event ∷ events) world leave still =
      let here = event_stays event world (All-head LeavesStoppedInput event events leave) still in
      stays_both world (happens world event) (after events (happens world event)) here (events_stay events (happens world event) (All-tail LeavesStoppedInput event events leave) here.ended.stopped)

  pub steps_stay : (steps : List Step) (world : World) → is_running world.registers.input ≡ false → Stays world (after_steps steps world)
  steps_stay [] world still = stays_same world world still refl refl refl refl
  steps_stay (one ∷ steps) world still =
      let here = step_stays one world still in
      stays_both world (after_steps (one ∷ []) world) (after_steps steps (after_steps (one ∷ []) world)) here (steps_stay steps (after_steps (one ∷ []) world) here.ended.stopped)

  pub ended_steps : (recorder : RecorderState) (steps : List Step) (world : World) → HasRecorded recorder world → HasRecorded recorder (after_steps steps world)
  ended_steps recorder steps world was = ended_on recorder world (after_steps steps world) (steps_stay steps world was.stopped) was

  pub ended_events : (recorder : RecorderState) (events : List Event) (world : World) → All LeavesStoppedInput events → HasRecorded recorder world → HasRecorded recorder (after events world)
  ended_events recorder events world leave was = ended_on recorder world (after events world) (events_stay events world leave was.stopped) was

  pub completed_events : (recorder : RecorderState) (events : List Event) (world : World) → All LeavesStoppedInput events → HasCompleted recorder world → HasCompleted recorder (after events world)
  completed_events recorder events world leave was = record { ended = ended_events recorder events world leave was.ended; all = was.all }

  pub histories_stay : (events : List Event) (world : World) → All LeavesStoppedInput events → is_running world.registers.input ≡ false → StaysTaken world (after events world)
  histories_stay events world leave still = (events_stay events world leave still).ended
