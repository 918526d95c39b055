-- What the calls of a driver do that records. This project's own, over High Definition Audio 1.0a, 3.3.15, 4.4 and 4.5.
use Rattle.std.specs.Prelude.{◌≡◌, ◌⊎◌, ◌∷◌, ◌++◌, ℕ, Bool, true, false, List, [], Option, Some, None}
use Rattle.verb_codes.specs.Words.{has_bit}
use Rattle.hda_registers.specs.declared.shapes.Width.TheVariants.{One}
use Rattle.hda_world.specs.Events.{Event, Write}
use Rattle.hda_world.specs.Tellings.{Telling, Between, Makes}
use Rattle.command_engine.specs.Polling.{PollReads, AreNew, poll_accesses, rings_polled}
use Rattle.driver_progress.specs.Seen.{interrupts_at}
use Rattle.driver_progress.specs.Tasks.{Task}
use Rattle.driver_progress.specs.Shutting.{shut_accesses}
use Rattle.driver_progress.specs.Unread.{AreAccesses}
use Rattle.hda_capture.specs.declared.course.Recorded.{Recorded}
use Rattle.hda_capture.specs.declared.course.Recorded.TheVariants.{Recording, Complete, Late}
use Rattle.hda_capture.specs.Calls.{StartsRecording, RecordsRun}
use Rattle.driver_rules.specs.Onward.{IsRuleStretch}
use Rattle.recording_driver.specs.declared.registers.TheConstants.{INPUT_CONTROL}
use Rattle.recording_driver.specs.InputInterrupts.{input_interrupt_accesses, found_no_input}
use Rattle.recording_driver.specs.RecordRules.{record_rules, records_on}
use Rattle.recording_driver.specs.RecordingDrivers.{RecordingState, record_state, IsTaskOfRecording, KeepsRecording}

-- a look for an interrupt, and one that found it, before a call that is for one
pub record IsInputLook (made : List Event) : Type 0 where
  pub interrupts : ℕ
  pub status : ℕ
  pub is : made ≡ input_interrupt_accesses interrupts status

pub record FindsInput (first : List Event) : Type 0 where
  pub interrupts : ℕ
  pub status : ℕ
  pub on : has_bit interrupts interrupts_at ≡ true
  pub is : first ≡ input_interrupt_accesses interrupts status

abbrev pub IsBeforeRun : (irq : Bool) → List Event → Type 0
IsBeforeRun true first = FindsInput first
IsBeforeRun false first = first ≡ []

-- no run came: the call was for an interrupt that it did not find, or the recording is over
pub record StaysStill (irq : Bool) (old new : RecordingState) (made : List Event) : Type 0 where
  pub cause : (found_no_input irq made ≡ true) ⊎ (records_on old.recorder.course.recorded ≡ false)
  pub looks : (made ≡ []) ⊎ IsInputLook made
  pub over : records_on old.recorder.course.recorded ≡ false → made ≡ []
  pub engine : new.engine ≡ old.engine
  pub recorder : new.recorder ≡ old.recorder

-- the first run
pub record BeginsRecord (irq : Bool) (old new : RecordingState) (made : List Event) (before after : Telling) : Type 0
  where
    pub fresh : old.recorder.course.started ≡ false
    pub first : List Event
    pub is_before : IsBeforeRun irq first
    pub begins : Telling
    pub first_made : Makes first before begins
    pub run : List Event
    pub made_is : made ≡ first ++ run
    pub run_made : Makes run begins after
    pub starts : StartsRecording old.recorder new.recorder (Some begins) (Some after)
    pub engine : new.engine ≡ old.engine

-- a later run, after the poll
pub record GoesOnRecord (irq : Bool) (old new : RecordingState) (made : List Event) (before after : Telling) : Type 0
  where
    pub started : old.recorder.course.started ≡ true
    pub more : records_on old.recorder.course.recorded ≡ true
    pub first : List Event
    pub is_before : IsBeforeRun irq first
    pub reads : PollReads
    pub new_ones : AreNew old.engine.rings reads
    pub begins : Telling
    pub first_made : Makes (first ++ poll_accesses old.engine.rirb.address old.engine.rings reads) before begins
    pub run : List Event
    pub made_is : made ≡ first ++ (poll_accesses old.engine.rirb.address old.engine.rings reads ++ run)
    pub run_made : Makes run begins after
    pub records : RecordsRun old.recorder new.recorder.course.recorded new.recorder (Some begins) (Some after)
    pub rings : new.engine.rings ≡ rings_polled old.engine.rings reads

abbrev pub RecordTells : (irq : Bool) → (old new : RecordingState) → (made : List Event) → Telling → Telling → Type 0
RecordTells irq old new made before after =
    StaysStill irq old new made ⊎ (BeginsRecord irq old new made before after
    ⊎ GoesOnRecord irq old new made before after)

-- a call, for an interrupt or not: it makes just the accesses that the rules expect, and leads where they say, for
-- every task with its blocks and every budget, which is not looked at. Nothing is asked, so no answer is looked for
pub record Records (irq : Bool) (old new : RecordingState) (before after : Option Telling) : Type 0 where
  pub made : List Event
  pub are : AreAccesses made
  pub by : Between (Makes made) before after
  pub is : (task : Task) (budget : ℕ) (answered : Bool) → IsTaskOfRecording old task
      → IsRuleStretch (record_rules task old.recorder.total) (record_state old)
      (Some (record { irq = irq; budget = budget })) made answered (record_state new)
  pub keeps : KeepsRecording old new
  pub tells : Between (RecordTells irq old new made) before after

-- ---- the last call

-- the stream does not record: the end alone
pub record ShutsStill (old ended : RecordingState) (made : List Event) : Type 0 where
  pub still : (old.recorder.course.started ≡ false) ⊎ (records_on old.recorder.course.recorded ≡ false)
  pub made_is : made ≡ shut_accesses
  pub engine : ended.engine ≡ old.engine
  pub recorder : ended.recorder ≡ old.recorder

-- the stop, where the last run left the stream recording
abbrev pub last_stop : Recorded → List Event
last_stop Recording = Write INPUT_CONTROL One 0 ∷ []
last_stop Complete = []
last_stop (Late from to) = []

-- it does: the poll, the last run, the stop where that run did not stop it, and the end
pub record StopsRecord (old ended : RecordingState) (made : List Event) (before after : Telling) : Type 0 where
  pub started : old.recorder.course.started ≡ true
  pub more : records_on old.recorder.course.recorded ≡ true
  pub reads : PollReads
  pub new_ones : AreNew old.engine.rings reads
  pub begins : Telling
  pub listened : Makes (poll_accesses old.engine.rirb.address old.engine.rings reads) before begins
  pub run : List Event
  pub ran : Telling
  pub run_made : Makes run begins ran
  pub records : RecordsRun old.recorder ended.recorder.course.recorded ended.recorder (Some begins) (Some ran)
  pub ends : Telling
  pub stopped : Makes (last_stop ended.recorder.course.recorded) ran ends
  pub shut : Makes shut_accesses ends after
  pub made_is : made ≡ poll_accesses old.engine.rirb.address old.engine.rings reads
      ++ (run ++ (last_stop ended.recorder.course.recorded ++ shut_accesses))
  pub rings : ended.engine.rings ≡ rings_polled old.engine.rings reads

pub record EndsRecord (old ended : RecordingState) (before after : Option Telling) : Type 0 where
  pub made : List Event
  pub are : AreAccesses made
  pub by : Between (Makes made) before after
  pub is : (task : Task) (answered : Bool) → IsTaskOfRecording old task
      → IsRuleStretch (record_rules task old.recorder.total) (record_state old) None made answered (record_state ended)
  pub keeps : KeepsRecording old ended
  pub tells : Between (λ before after. ShutsStill old ended made ⊎ StopsRecord old ended made before after) before after
