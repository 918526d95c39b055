-- What a call of a driver does that plays. This project's own, over High Definition Audio 1.0a, 4.4 and 4.5.
use Rattle.std.specs.Prelude.{◌≡◌, ◌++◌, ◌⊎◌, true, false, ℕ, Bool, List, [], drop, length, Option, Some, None}
use Rattle.std.specs.Option.{is_some}
use Rattle.hda_world.specs.Events.{Event}
use Rattle.hda_world.specs.Tellings.{Telling, Between, Makes}
use Rattle.command_engine.specs.declared.answers.Event as told
use Rattle.command_engine.specs.Polling.{PollReads, poll_accesses, rings_polled}
use Rattle.period_writer.specs.Courses.{IsCourse}
use Rattle.period_writer.specs.Runs.{Tally}
use Rattle.period_writer.specs.Writers.{WriterState, tally_of, ring_of, ring_size}
use Rattle.period_writer.specs.Outcomes.{StartTellsOf, RunTellsOf, FinishTellsOf}
use Rattle.driver_progress.specs.Tasks.{Task}
use Rattle.driver_progress.specs.Interrupts.{interrupt_accesses}
use Rattle.driver_progress.specs.Shutting.{shut_accesses}
use Rattle.driver_progress.specs.Unread.{AreAccesses}
use Rattle.driver_bring_up.specs.Commanding.{IsStretch, answer_in, entries_in, with_told}
use Rattle.driver_bring_up.specs.Counted.{IsCount}
use Rattle.driver_bring_up.specs.declared.bringing.BringUp.{BringUp}
use Rattle.driver_bring_up.specs.Told.{IsBefore, found_none}
use Rattle.audio_driver.specs.States.{state_of, state_with, is_open, is_playing, IsLeft, IsTaskOf}

-- ---- as it is told

-- a look for an interrupt
pub record IsLook (made : List Event) : Type 0 where
  pub interrupts : ℕ
  pub stream : ℕ
  pub is : made ≡ interrupt_accesses interrupts stream

-- no run came: the call was for an interrupt that it did not find, or the sound is over. Nothing changed
pub record IsStill (irq : Bool) (old new : BringUp) (writer writer' : WriterState) (made : List Event) : Type 0 where
  pub cause : (found_none irq made ≡ true) ⊎ (is_open writer.course.ran ≡ false)
  pub looks : (made ≡ []) ⊎ IsLook made
  pub over : is_open writer.course.ran ≡ false → made ≡ []
  pub bring_up : new ≡ old
  pub writer_is : writer' ≡ writer

-- the first run, after the look for interrupts where the call is for one
pub record Begins (irq : Bool) (budget : ℕ) (old new : BringUp) (writer writer' : WriterState) (supply : List ℕ)
    (made : List Event) (before after : Telling) : Type 0 where
  pub fresh : writer.course.started ≡ false
  pub first : List Event
  pub is_before : IsBefore irq first
  pub run : List Event
  pub made_is : made ≡ first ++ run
  pub begins : Telling
  pub first_made : Makes first before begins
  pub run_made : Makes run begins after
  pub tells : StartTellsOf (ring_of writer) supply budget (tally_of writer) (tally_of writer') begins after
  pub bring_up : new ≡ old

-- a later run, after the look for interrupts and one for what codecs told unasked
pub record GoesOn (irq : Bool) (budget : ℕ) (old new : BringUp) (writer writer' : WriterState) (supply : List ℕ)
    (made : List Event) (before after : Telling) : Type 0 where
  pub started : writer.course.started ≡ true
  pub more : is_open writer.course.ran ≡ true
  pub first : List Event
  pub is_before : IsBefore irq first
  pub reads : PollReads
  pub run : List Event
  pub made_is : made ≡ first ++ (poll_accesses old.engine.rirb.address old.engine.rings reads ++ run)
  pub begins : Telling
  pub first_made : Makes (first ++ poll_accesses old.engine.rirb.address old.engine.rings reads) before begins
  pub run_made : Makes run begins after
  pub tells : (pcm : List ℕ) → supply ≡ drop writer.course.used pcm
      → RunTellsOf (ring_of writer) pcm budget (tally_of writer) writer'.course.ran (tally_of writer') begins after
  pub rings : new.engine.rings ≡ rings_polled old.engine.rings reads

abbrev pub SoundTells : (irq : Bool) (budget : ℕ) (old new : BringUp) (writer writer' : WriterState) (supply : List ℕ)
    (made : List Event) → Telling → Telling → Type 0
SoundTells irq budget old new writer writer' supply made before after =
    IsStill irq old new writer writer' made ⊎ (Begins irq budget old new writer writer' supply made before after
    ⊎ GoesOn irq budget old new writer writer' supply made before after)

-- ---- a call, on every platform

-- what it leaves alone: of the bring-up all but where RIRB was read to and the count of jacks, of the writer its ring
pub record StaysSet (old new : BringUp) (writer writer' : WriterState) : Type 0 where
  pub corb : new.engine.corb ≡ old.engine.corb
  pub rirb : new.engine.rirb ≡ old.engine.rirb
  pub phase : new.phase ≡ old.phase
  pub kept : new.kept ≡ old.kept
  pub sent : new.sent ≡ old.sent
  pub agenda : new.agenda ≡ old.agenda
  pub geometry : writer'.geometry ≡ writer.geometry
  pub list : writer'.list ≡ writer.list
  pub periods : writer'.periods ≡ writer.periods
  pub records : writer'.records ≡ writer.records

-- a call, for an interrupt or not, with this budget: it makes just the accesses that are to be made, and leads where it
-- is to lead, for every task of the driver. Of the sound what it did not write is left
pub record PlaysSound (irq : Bool) (budget : ℕ) (old new : BringUp) (writer writer' : WriterState)
    (supply supply' : List ℕ) (before after : Option Telling) : Type 0 where
  pub made : List Event
  pub are : AreAccesses made
  pub by : Between (Makes made) before after
  pub is : (task : Task) → IsTaskOf old writer supply task
      → IsStretch task (state_of old writer) (Some (record { irq = irq; budget = budget })) made
      (is_some (answer_in old.engine.rings made)) (state_of new writer')
  pub sound : (pcm : List ℕ) → IsLeft pcm writer.course supply → IsLeft pcm writer'.course supply'
  pub counted : (events : List told.Event) → IsCount events old.jacks
      → IsCount (with_told events (entries_in made)) new.jacks
  pub stays : StaysSet old new writer writer'
  pub tells : Between (SoundTells irq budget old new writer writer' supply made) before after

-- ---- the last call of a driver whose calls play

-- the stream does not play: the end alone
pub record ShutsAlone (old ended : BringUp) (writer : WriterState) (tally' : Tally) (made : List Event) : Type 0 where
  pub still : is_playing writer.course ≡ false
  pub made_is : made ≡ shut_accesses
  pub bring_up : ended ≡ old
  pub tally_is : tally' ≡ tally_of writer

-- it plays: one more look for what codecs told unasked, the last run, and the end
pub record StopsSound (old ended : BringUp) (writer : WriterState) (tally' : Tally) (supply : List ℕ)
    (made : List Event) (before after : Telling) : Type 0 where
  pub plays : is_playing writer.course ≡ true
  pub course_is : IsCourse (ring_size writer) (length writer.runs) writer.course
  pub reads : PollReads
  pub run : List Event
  pub made_is : made ≡ poll_accesses old.engine.rirb.address old.engine.rings reads ++ (run ++ shut_accesses)
  pub begins : Telling
  pub ends : Telling
  pub listened : Makes (poll_accesses old.engine.rirb.address old.engine.rings reads) before begins
  pub run_made : Makes run begins ends
  pub tells : (pcm : List ℕ) → supply ≡ drop writer.course.used pcm
      → FinishTellsOf (ring_of writer) pcm (tally_of writer) tally'.course.ran tally' begins ends
  pub shut : Makes shut_accesses ends after
  pub rings : ended.engine.rings ≡ rings_polled old.engine.rings reads

abbrev pub EndTells : (old ended : BringUp) (writer : WriterState) (tally' : Tally) (supply : List ℕ)
    (made : List Event) → Telling → Telling → Type 0
EndTells old ended writer tally' supply made before after =
    ShutsAlone old ended writer tally' made ⊎ StopsSound old ended writer tally' supply made before after

-- the last call makes just the accesses that are to be made, and leads where it is to lead, for every task of the
-- driver
pub record EndsSound (old ended : BringUp) (writer : WriterState) (tally' : Tally) (supply : List ℕ)
    (before after : Option Telling) : Type 0 where
  pub made : List Event
  pub are : AreAccesses made
  pub by : Between (Makes made) before after
  pub is : (task : Task) → IsTaskOf old writer supply task
      → IsStretch task (state_of old writer) None made (is_some (answer_in old.engine.rings made))
      (state_with ended tally')
  pub counted : (events : List told.Event) → IsCount events old.jacks
      → IsCount (with_told events (entries_in made)) ended.jacks
  pub phase : ended.phase ≡ old.phase
  pub sent : ended.sent ≡ old.sent
  pub agenda : ended.agenda ≡ old.agenda
  pub tells : Between (EndTells old ended writer tally' supply made) before after
