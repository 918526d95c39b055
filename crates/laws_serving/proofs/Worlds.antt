-- What steps of streams, and accesses beside GCTL, leave of the world.
use Rattle.std.proofs.Common.{◌≡◌, ◌≢◌, ◌≤◌, ℕ, zero, suc, ◌+◌, ◌*◌, ◌/◌, ◌%◌, ◌^◌, ◌==◌, Bool, true, false, List, refl, sym, ap, subst, ◌∙◌, arith, if◌then◌else◌}
use Rattle.std.specs.Prelude.{All}
use Rattle.hda_registers.specs.declared.shapes.Width.{Width}
use Rattle.hda_registers.specs.Fields.{Global, is_out_of_reset}
use Rattle.hda_registers.specs.Access.{written}
use Rattle.hda_registers.proofs.Callers.{keeps-reset, keeps-left, SameTime, same_time, written_time}
use Rattle.world_streams.specs.Output.{frame_of}
use Rattle.world_steps.specs.declared.Step.{Step}
use Rattle.world_steps.specs.declared.Step.TheVariants as step
use Rattle.schedule_reader.specs.Counts.{step_frames}
use Rattle.hda_world.specs.Worlds.{World, output_of}
use Rattle.hda_world.specs.Steps.{after_step, frame_step, output_fetched, input_stored, output_framed, input_framed, passed, times}
use Rattle.hda_world.specs.Events.{Event, Stepped, Begin, End, Read, Write, DmaRead, DmaWrite, IsNoStep, happens, after_write, registers_written}
use Rattle.hda_world.proofs.Callers.{passed_global, plain_write, kept_step, frames_count}
use Rattle.driver_progress.specs.Beginning.{KeepsTime}
use Rattle.driver_progress.proofs.Callers.{keeps_time}
use Rattle.laws_serving.specs.ServingSchedules.{IsOfStreams}
use Rattle.laws_serving.proofs.Rows.{CalmRow, kept_row}

-- ---- the codecs and what waits

-- all stays that a command and its answer pass
pub record SameLink (old new : World) : Type 0 where
  pub codecs : new.codecs ≡ old.codecs
  pub waiting : new.waiting ≡ old.waiting
  pub commands : new.commands ≡ old.commands
  pub written : new.written ≡ old.written

pub link_same : (world : World) → SameLink world world
link_same world = record { codecs = refl; waiting = refl; commands = refl; written = refl }

pub link_then : (old middle new : World) → SameLink old middle → SameLink middle new → SameLink old new
link_then old middle new first second =
    record { codecs = second.codecs ∙ first.codecs; waiting = second.waiting ∙ first.waiting; commands = second.commands ∙ first.commands; written = second.written ∙ first.written }

frame_link : (b : Bool) (world : World) → SameLink world (if b then input_framed (output_framed (frame_of (output_of world)) (passed world)) else world)
frame_link true world = record { codecs = refl; waiting = refl; commands = refl; written = refl }
frame_link false world = link_same world

frames_link : (count : ℕ) (world : World) → SameLink world (times count frame_step world)
frames_link zero world = link_same world
frames_link (suc count) world =
    link_then world (frame_step world) (times count frame_step (frame_step world)) (frame_link (is_out_of_reset world.registers.global) world) (frames_link count (frame_step world))

fetch_link : (b c : Bool) (most : ℕ) (world : World) → SameLink world (if b then output_fetched most world else (if c then input_stored most world else world))
fetch_link true c most world = record { codecs = refl; waiting = refl; commands = refl; written = refl }
fetch_link false true most world = record { codecs = refl; waiting = refl; commands = refl; written = refl }
fetch_link false false most world = link_same world

pub step_link : (one : Step) (world : World) → IsOfStreams one → SameLink world (after_step one world)
step_link step.Corb world is = absurd is
step_link (step.Answer codec) world is = absurd is
step_link (step.Lose codec) world is = absurd is
step_link step.Rirb world is = absurd is
step_link (step.Fetch stream most) world is = fetch_link _ _ most world
step_link (step.Link count) world is = frames_link count world
step_link (step.Plug codec nid) world is = absurd is
step_link (step.Unplug codec nid) world is = absurd is

-- ---- the registers beside the streams

-- all but the wall clock and the state change status
abbrev pub SameRegisters : (old new : Global) → Type 0
SameRegisters old new = new ≡ record old { wall_clock = new.wall_clock; state_status = new.state_status }

pub record SameControl (old new : World) : Type 0 where
  pub global : SameRegisters old.registers.global new.registers.global
  pub shape : new.registers.shape ≡ old.registers.shape

pub control_same : (world : World) → SameControl world world
control_same world = record { global = refl; shape = refl }

registers_then : (old middle new : Global) → SameRegisters old middle → SameRegisters middle new → SameRegisters old new
registers_then old middle new first second = second ∙ ap (λ (global : Global). record global { wall_clock = new.wall_clock; state_status = new.state_status }) first

pub control_then : (old middle new : World) → SameControl old middle → SameControl middle new → SameControl old new
control_then old middle new first second =
    record { global = registers_then old.registers.global middle.registers.global new.registers.global first.global second.global; shape = second.shape ∙ first.shape }

passed_same : (world : World) → SameRegisters world.registers.global (passed world).registers.global
passed_same world =
    let same = passed_global world in
    same ∙ ap (λ (clock : ℕ). record world.registers.global { wall_clock = clock; state_status = (passed world).registers.global.state_status }) (sym (ap (λ (global : Global). global.wall_clock) same))

frame_control : (b : Bool) (world : World) → SameControl world (if b then input_framed (output_framed (frame_of (output_of world)) (passed world)) else world)
frame_control true world = record { global = passed_same world; shape = refl }
frame_control false world = control_same world

frames_control : (count : ℕ) (world : World) → SameControl world (times count frame_step world)
frames_control zero world = control_same world
frames_control (suc count) world =
    control_then world (frame_step world) (times count frame_step (frame_step world)) (frame_control (is_out_of_reset world.registers.global) world) (frames_control count (frame_step world))

fetch_control : (b c : Bool) (most : ℕ) (world : World) → SameControl world (if b then output_fetched most world else (if c then input_stored most world else world))
fetch_control true c most world = record { global = refl; shape = refl }
fetch_control false true most world = record { global = refl; shape = refl }
fetch_control false false most world = control_same world

pub step_control : (one : Step) (world : World) → IsOfStreams one → SameControl world (after_step one world)
step_control step.Corb world is = absurd is
step_control (step.Answer codec) world is = absurd is
step_control (step.Lose codec) world is = absurd is
step_control step.Rirb world is = absurd is
step_control (step.Fetch stream most) world is = fetch_control _ _ most world
step_control (step.Link count) world is = frames_control count world
step_control (step.Plug codec nid) world is = absurd is
step_control (step.Unplug codec nid) world is = absurd is

-- ---- writes beside GCTL

abbrev pub IsBesideControl : Event → Type 0
IsBesideControl (Stepped step) = Unit {0}
IsBesideControl Begin = Unit {0}
IsBesideControl End = Unit {0}
IsBesideControl (Read at width value) = Unit {0}
IsBesideControl (Write at width value) = at / 4 ≢ 2
IsBesideControl (DmaRead at bytes) = Unit {0}
IsBesideControl (DmaWrite at bytes) = Unit {0}

pub write_is : (world : World) (at value : ℕ) (width : Width) → at / 4 ≢ 2 → after_write at width value world ≡ registers_written (written world.registers at width value) world
write_is world at value width apart = plain_write world at value width (keeps-reset world.registers at width value apart) (keeps-left world.registers at width value apart)

write_link : (world : World) (at value : ℕ) (width : Width) → at / 4 ≢ 2 → SameLink world (after_write at width value world)
write_link world at value width apart =
    subst (SameLink world) (sym (write_is world at value width apart)) (record { codecs = refl; waiting = refl; commands = refl; written = refl })

pub event_link : (event : Event) (world : World) → IsBesideControl event → IsNoStep event → SameLink world (happens world event)
event_link (Stepped step) world is none = absurd none
event_link Begin world is none = link_same world
event_link End world is none = link_same world
event_link (Read at width value) world is none = link_same world
event_link (Write at width value) world is none = write_link world at value width is
event_link (DmaRead at bytes) world is none = link_same world
event_link (DmaWrite at bytes) world is none = record { codecs = refl; waiting = refl; commands = refl; written = refl }

-- ---- time

pub event_time : (event : Event) (world : World) → IsBesideControl event → IsNoStep event → is_out_of_reset world.registers.global ≡ true → SameTime world.registers.global (happens world event).registers.global
event_time (Stepped step) world is none out = absurd none
event_time Begin world is none out = same_time world.registers
event_time End world is none out = same_time world.registers
event_time (Read at width value) world is none out = same_time world.registers
event_time (Write at width value) world is none out =
    subst (λ (now : World). SameTime world.registers.global now.registers.global) (sym (write_is world at value width is)) (written_time world.registers at width value is out)
event_time (DmaRead at bytes) world is none out = same_time world.registers
event_time (DmaWrite at bytes) world is none out = same_time world.registers

pub event_frames_stay : (event : Event) (world : World) → IsBesideControl event → IsNoStep event → (happens world event).frames ≡ world.frames
event_frames_stay (Stepped step) world is none = absurd none
event_frames_stay Begin world is none = refl
event_frames_stay End world is none = refl
event_frames_stay (Read at width value) world is none = refl
event_frames_stay (Write at width value) world is none = ap (λ (now : World). now.frames) (write_is world at value width is)
event_frames_stay (DmaRead at bytes) world is none = refl
event_frames_stay (DmaWrite at bytes) world is none = refl

-- ---- link frames

if_frames : (b : Bool) (one other : World) (frames : ℕ) → one.frames ≡ frames → other.frames ≡ frames → (if b then one else other).frames ≡ frames
if_frames true one other frames first second = first
if_frames false one other frames first second = second

if_out : (b : Bool) (one other : World) → is_out_of_reset one.registers.global ≡ true → is_out_of_reset other.registers.global ≡ true → is_out_of_reset (if b then one else other).registers.global ≡ true
if_out true one other first second = first
if_out false one other first second = second

out_kept : (old new : Global) → SameRegisters old new → is_out_of_reset old ≡ true → is_out_of_reset new ≡ true
out_kept old new same out = ap (λ (global : Global). is_out_of_reset global) same ∙ out

pub step_out : (one : Step) (world : World) → IsOfStreams one → is_out_of_reset world.registers.global ≡ true → is_out_of_reset (after_step one world).registers.global ≡ true
step_out one world is out = out_kept world.registers.global (after_step one world).registers.global (step_control one world is).global out

frame_counted : (b : Bool) (world : World) → b ≡ true → (if b then input_framed (output_framed (frame_of (output_of world)) (passed world)) else world).frames ≡ world.frames + 1
frame_counted true world is = refl
frame_counted false world is = cc

fetch_counted : (b c : Bool) (most : ℕ) (world : World) → (if b then output_fetched most world else (if c then input_stored most world else world)).frames ≡ world.frames + 0
fetch_counted true c most world = omega arith
fetch_counted false true most world = omega arith
fetch_counted false false most world = omega arith

pub step_counted : (one : Step) (world : World) → IsOfStreams one → is_out_of_reset world.registers.global ≡ true → (after_step one world).frames ≡ world.frames + step_frames one
step_counted step.Corb world is out = absurd is
step_counted (step.Answer codec) world is out = absurd is
step_counted (step.Lose codec) world is out = absurd is
step_counted step.Rirb world is out = absurd is
step_counted (step.Fetch stream most) world is out = fetch_counted _ _ most world
step_counted (step.Link count) world is out = frames_count count world out
step_counted (step.Plug codec nid) world is out = absurd is
step_counted (step.Unplug codec nid) world is out = absurd is

-- ---- the wall clock

-- the controller is out of reset, the wall clock goes by the link frames, and so many passed at least
pub record IsTimed (least : ℕ) (world : World) : Type 0 where
  pub out : is_out_of_reset world.registers.global ≡ true
  pub time : KeepsTime world
  pub later : least ≤ world.frames

pub timed_step : (least : ℕ) (one : Step) (world : World) → IsOfStreams one → IsTimed least world → IsTimed least (after_step one world)
timed_step least one world is timed = record {
  out = step_out one world is timed.out;
  time = kept_step KeepsTime keeps_time one world timed.time;
  later = let more = step_counted one world is timed.out in let later = timed.later in omega (arith, more, later);
}

pub timed_access : (least : ℕ) (event : Event) (world : World) → IsBesideControl event → IsNoStep event → IsTimed least world → IsTimed least (happens world event)
timed_access least event world is none timed =
    let same = event_time event world is none timed.out in
    let frames = event_frames_stay event world is none in record {
      out = ap (λ (n : ℕ). n == 1) same.reset ∙ timed.out;
      time = same.clock ∙ timed.time ∙ ap (λ (frames : ℕ). 500 * frames % 2 ^ 32) (sym frames);
      later = let later = timed.later in omega (arith, frames, later);
    }

-- over a row of accesses beside GCTL
abbrev pub IsBeside : Event → Type 0
IsBeside event = IsBesideControl event × IsNoStep event

pub timed_row : (accesses : List Event) (old new : World) (least : ℕ) → All IsBeside accesses → CalmRow accesses old new → IsTimed least old → IsTimed least new
timed_row accesses old new least beside row timed =
    kept_row (IsTimed least) IsBeside (timed_step least) (λ event world is honest timed. timed_access least event world is.0 is.1 timed) accesses old new beside row timed
