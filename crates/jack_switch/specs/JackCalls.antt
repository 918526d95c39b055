-- What the calls of a driver do that switches speakers while it plays. This project's own, over High Definition Audio
-- 1.0a, 4.4 and 4.5.
use Rattle.std.specs.Prelude.{◌≡◌, ◌⊎◌, ◌++◌, ◌+◌, ◌≤◌, ◌∷◌, ℕ, Bool, true, false, List, [], drop, length}
use Rattle.std.specs.Prelude.{Option, None, Some}
use Rattle.std.specs.Option.{is_some}
use Rattle.hda_registers.specs.declared.shapes.Width.TheVariants.{One}
use Rattle.hda_world.specs.Events.{Event, Write}
use Rattle.hda_world.specs.Tellings.{Telling, Between, Makes}
use Rattle.wav_reader.specs.Supplies.{MayGive, EndsWith, sound_before}
use Rattle.command_engine.specs.declared.answers.Event as told
use Rattle.command_engine.specs.declared.ring_places.RingPlaces.{RingPlaces}
use Rattle.command_engine.specs.Entries.{responses_in, unasked_events_of}
use Rattle.command_engine.specs.Polling.{PollReads, AreNew, poll_accesses, found_by, rings_polled, answer_limit}
use Rattle.command_engine.specs.Told.{PollTellsOf, LeadsOn}
use Rattle.period_writer.specs.declared.registers.TheConstants.{CONTROL}
use Rattle.period_writer.specs.Outcomes.{StartTellsOf, RunTellsOf, FinishTellsOf}
use Rattle.period_writer.specs.Playing.{run_bytes, play_accesses}
use Rattle.period_writer.specs.Runs.{facts_of}
use Rattle.period_writer.specs.Starting.{start_accesses}
use Rattle.period_writer.specs.Writers.{tally_of, ring_of, measures_of, periods_of}
use Rattle.driver_progress.specs.Shutting.{shut_accesses}
use Rattle.driver_progress.specs.Tasks.{Task, Order}
use Rattle.driver_progress.specs.Unread.{AreAccesses}
use Rattle.driver_bring_up.specs.Commanding.{answer_in, entries_in, with_told, poll_by, submit_made, rings_with}
use Rattle.driver_bring_up.specs.Counted.{IsCount}
use Rattle.driver_bring_up.specs.declared.jacks.Jacks.{Jacks}
use Rattle.driver_bring_up.specs.Told.{IsBefore, found_none}
use Rattle.audio_driver.specs.Sounding.{IsLook}
use Rattle.audio_driver.specs.States.{is_playing, IsLeft, EndsWhilePlaying}
use Rattle.driver_rules.specs.Onward.{IsRuleStretch}
use Rattle.jack_rules.specs.Switching.{SwitchingState, told_all}
use Rattle.jack_switch.specs.SwitchRules.{SwitchState, switch_rules, is_on, choice_by, order_by, choice_after}
use Rattle.jack_switch.specs.SwitchRules.{order_after}
use Rattle.jack_switch.specs.JackDrivers.{JackDriverState, switch_state, IsTaskOfSwitching}

-- ---- as it is told

-- no run came: the call was for an interrupt that it did not find, or the sound is over. Nothing changed
pub record IsStill (irq : Bool) (old new : JackDriverState) (made : List Event) : Type 0 where
  pub cause : (found_none irq made ≡ true) ⊎ (is_on (switch_state old) ≡ false)
  pub looks : (made ≡ []) ⊎ IsLook made
  pub over : is_on (switch_state old) ≡ false → made ≡ []
  pub engine : new.engine ≡ old.engine
  pub jacks : new.jacks ≡ old.jacks
  pub state : switch_state new ≡ switch_state old

-- the look before a run: RIRB is polled at the clock that the run before read last
pub record Looks (old : JackDriverState) (reads : PollReads) (before after : Telling) : Type 0 where
  pub new_ones : AreNew old.engine.rings reads
  pub made : Makes (poll_accesses old.engine.rirb.address old.engine.rings reads) before after
  pub tells : PollTellsOf old.clock old.engine.corb.address old.engine.rirb.address old.engine.rings
      (poll_by old.engine.rings reads old.clock) (rings_polled old.engine.rings reads)
      (unasked_events_of (responses_in reads.entries)) before after

-- what the jack rules keep after it
abbrev pub switching_looked : JackDriverState → PollReads → SwitchingState
switching_looked old reads = told_all old.switching (unasked_events_of (responses_in reads.entries))
    (found_by old.engine.rings reads)

-- the next command after a run, if one comes, where the rings stood so
pub record Submits (corb rirb : ℕ) (rings rings' : RingPlaces) (order : Option Order) (clock : ℕ)
    (before after : Telling) : Type 0 where
  pub made : Makes (submit_made corb rings order) before after
  pub rings_are : rings' ≡ rings_with order clock rings
  pub tells : LeadsOn corb rirb rings rings' before after

-- the first run, after the look for interrupts where the call is for one
pub record Begins (irq : Bool) (budget : ℕ) (old new : JackDriverState) (supply : List ℕ) (made : List Event)
    (before after : Telling) : Type 0 where
  pub fresh : old.writer.course.started ≡ false
  pub first : List Event
  pub is_before : IsBefore irq first
  pub begins : Telling
  pub first_made : Makes first before begins
  pub from : ℕ
  pub in_reset : ℕ
  pub ready : ℕ
  pub to : ℕ
  pub run : List Event
  pub run_is : let facts = facts_of budget (length supply) from 0 to in
      run ≡ start_accesses old.writer.geometry old.writer.list.address (periods_of old.writer) from in_reset ready to
      (run_bytes (measures_of old.writer) old.writer.course facts supply)
  pub ran : Telling
  pub run_made : Makes run begins ran
  pub run_tells : StartTellsOf (ring_of old.writer) supply budget (tally_of old.writer) (tally_of new.writer) begins ran
  pub order : Option Order
  pub submits : Submits old.engine.corb.address old.engine.rirb.address old.engine.rings new.engine.rings order
      new.clock ran after
  pub order_is : order ≡ order_after (switch_state old) new.writer.course.ran
  pub switching_is : new.switching ≡ (choice_after (switch_state old) new.writer.course.ran).next
  pub given_is : new.given_up ≡ old.given_up
  pub made_is : made ≡ first ++ (run ++ submit_made old.engine.corb.address old.engine.rings order)

-- a later run, after the look for interrupts and that for answers
pub record GoesOn (irq : Bool) (budget : ℕ) (old new : JackDriverState) (supply : List ℕ) (made : List Event)
    (before after : Telling) : Type 0 where
  pub started : old.writer.course.started ≡ true
  pub on : is_on (switch_state old) ≡ true
  pub first : List Event
  pub is_before : IsBefore irq first
  pub begins : Telling
  pub first_made : Makes first before begins
  pub reads : PollReads
  pub looked : Telling
  pub looks : Looks old reads begins looked
  pub from : ℕ
  pub lpib : ℕ
  pub to : ℕ
  pub run : List Event
  pub run_is : run ≡ play_accesses old.writer.geometry (periods_of old.writer) old.writer.course
      (facts_of budget (length supply) from lpib to) supply new.writer.course.ran
  pub ran : Telling
  pub run_made : Makes run looked ran
  pub run_tells : (pcm : List ℕ) → supply ≡ drop old.writer.course.used pcm
      → RunTellsOf (ring_of old.writer) pcm budget (tally_of old.writer) new.writer.course.ran (tally_of new.writer)
      looked ran
  pub order : Option Order
  pub submits : Submits old.engine.corb.address old.engine.rirb.address (rings_polled old.engine.rings reads)
      new.engine.rings order new.clock ran after
  pub order_is : order ≡ order_by new.writer.course.ran (rings_polled old.engine.rings reads)
      (switching_looked old reads)
  pub switching_is : new.switching ≡ (choice_by new.writer.course.ran (rings_polled old.engine.rings reads)
      (switching_looked old reads)).next
  pub given_is : new.given_up ≡ old.given_up
  pub made_is : made ≡ first ++ (poll_accesses old.engine.rirb.address old.engine.rings reads
      ++ (run ++ submit_made old.engine.corb.address (rings_polled old.engine.rings reads) order))

-- the driver gives up: after these looks it stops the stream, and makes no run
pub record GivesUp (irq : Bool) (old new : JackDriverState) (made : List Event) (before after : Telling) : Type 0 where
  pub started : old.writer.course.started ≡ true
  pub on : is_on (switch_state old) ≡ true
  pub first : List Event
  pub is_before : IsBefore irq first
  pub begins : Telling
  pub first_made : Makes first before begins
  pub reads : PollReads
  pub looked : Telling
  pub looks : Looks old reads begins looked
  pub stopped : Makes (Write CONTROL One 0 ∷ []) looked after
  pub rings : new.engine.rings ≡ rings_polled old.engine.rings reads
  pub switching_is : new.switching ≡ switching_looked old reads
  pub given : new.given_up ≡ Some old.clock
  pub writer : new.writer ≡ old.writer
  pub made_is : made ≡ first ++ (poll_accesses old.engine.rirb.address old.engine.rings reads
      ++ Write CONTROL One 0 ∷ [])

abbrev pub SwitchTells : (irq : Bool) (budget : ℕ) (old new : JackDriverState) (supply : List ℕ) (made : List Event)
    → Telling → Telling → Type 0
SwitchTells irq budget old new supply made before after =
    IsStill irq old new made ⊎ (Begins irq budget old new supply made before after
    ⊎ (GoesOn irq budget old new supply made before after ⊎ GivesUp irq old new made before after))

-- ---- a call, on every platform

-- the count of jacks goes on by what was read of RIRB, while it counts fewer events than a counter holds
abbrev pub CountsOn : (old new : Jacks) (made : List Event) → Type 0
CountsOn old new made =
    (events : List told.Event) → IsCount events old → length (with_told events (entries_in made)) ≤ 4294967295
    → IsCount (with_told events (entries_in made)) new

-- a call, for an interrupt or not, with this budget: it makes just the accesses that the rules expect, and leads where
-- they say, for every task of the driver. Whether the outstanding command was answered is whether what was read of RIRB
-- has an answer to it. Of the sound what it did not write is left
pub record Switches (irq : Bool) (budget : ℕ) (old new : JackDriverState) (supply supply' : List ℕ)
    (before after : Option Telling) : Type 0 where
  pub made : List Event
  pub are : AreAccesses made
  pub by : Between (Makes made) before after
  pub is : (task : Task) → IsTaskOfSwitching old supply task
      → IsRuleStretch (switch_rules task old.graphs old.plans) (switch_state old)
      (Some (record { irq = irq; budget = budget })) made (is_some (answer_in old.engine.rings made))
      (switch_state new)
  pub sound : (pcm : List ℕ) → IsLeft pcm old.writer.course supply → IsLeft pcm new.writer.course supply'
  pub counted : CountsOn old.jacks new.jacks made
  pub tells : Between (SwitchTells irq budget old new supply made) before after

-- whichever sound the supply may yet give
abbrev pub SwitchesAny : (irq : Bool) → (budget : ℕ) → (old new : JackDriverState) → (before after : Option Telling)
    → Type 0
SwitchesAny irq budget old new before after =
    (later : List ℕ) → MayGive new.supply later
    → EndsWhilePlaying old.writer.course old.supply (sound_before old.supply new.supply later)
    → Switches irq budget old new (sound_before old.supply new.supply later) later before after

-- a driver that gave up: this command was not answered within its time when it was noticed, and is outstanding
pub record IsUnanswered (driver : JackDriverState) (codec command issued noticed : ℕ) : Type 0 where
  pub outstanding : driver.engine.rings.outstanding
      ≡ Some (record { codec = codec; word = command; issued = issued })
  pub given : driver.given_up ≡ Some noticed
  pub over : issued + answer_limit ≤ noticed

-- ---- the last call

-- the stream does not play, or the driver gave up: the end alone
pub record ShutsAlone (old : JackDriverState) (ended : SwitchState) (jacks : Jacks) (made : List Event) : Type 0 where
  pub still : (is_playing old.writer.course ≡ false) ⊎ (is_on (switch_state old) ≡ false)
  pub made_is : made ≡ shut_accesses
  pub state : ended ≡ switch_state old
  pub jacks_are : jacks ≡ old.jacks

-- it plays: one more look, the last run, and the end
pub record StopsSound (old : JackDriverState) (ended : SwitchState) (supply : List ℕ) (made : List Event)
    (before after : Telling) : Type 0 where
  pub plays : is_playing old.writer.course ≡ true
  pub on : is_on (switch_state old) ≡ true
  pub reads : PollReads
  pub looked : Telling
  pub looks : Looks old reads before looked
  pub run : List Event
  pub ran : Telling
  pub run_made : Makes run looked ran
  pub run_tells : (pcm : List ℕ) → supply ≡ drop old.writer.course.used pcm
      → FinishTellsOf (ring_of old.writer) pcm (tally_of old.writer) ended.tally.course.ran ended.tally looked ran
  pub shut : Makes shut_accesses ran after
  pub rings : ended.rings ≡ rings_polled old.engine.rings reads
  pub kept : ended.given_up ≡ old.given_up
  pub entries : entries_in made ≡ reads.entries
  pub made_is : made ≡ poll_accesses old.engine.rirb.address old.engine.rings reads ++ (run ++ shut_accesses)

-- or it gives up: after that look it stops the stream, and then the end
pub record StopsAtOnce (old : JackDriverState) (ended : SwitchState) (made : List Event) (before after : Telling)
    : Type 0 where
  pub plays : is_playing old.writer.course ≡ true
  pub on : is_on (switch_state old) ≡ true
  pub reads : PollReads
  pub looked : Telling
  pub looks : Looks old reads before looked
  pub stopped_at : Telling
  pub stopped : Makes (Write CONTROL One 0 ∷ []) looked stopped_at
  pub shut : Makes shut_accesses stopped_at after
  pub rings : ended.rings ≡ rings_polled old.engine.rings reads
  pub given : ended.given_up ≡ Some old.clock
  pub tally : ended.tally ≡ tally_of old.writer
  pub entries : entries_in made ≡ reads.entries
  pub made_is : made ≡ poll_accesses old.engine.rirb.address old.engine.rings reads
      ++ (Write CONTROL One 0 ∷ shut_accesses)

abbrev pub EndTells : (old : JackDriverState) (ended : SwitchState) (jacks : Jacks) (supply : List ℕ)
    (made : List Event) → Telling → Telling → Type 0
EndTells old ended jacks supply made before after =
    ShutsAlone old ended jacks made ⊎ (StopsSound old ended supply made before after
    ⊎ StopsAtOnce old ended made before after)

-- the last call makes just the accesses that the rules expect, and leads where they say, for every task of the driver
pub record EndsSwitching (old : JackDriverState) (ended : SwitchState) (jacks : Jacks) (supply : List ℕ)
    (before after : Option Telling) : Type 0 where
  pub made : List Event
  pub are : AreAccesses made
  pub by : Between (Makes made) before after
  pub is : (task : Task) → IsTaskOfSwitching old supply task
      → IsRuleStretch (switch_rules task old.graphs old.plans) (switch_state old) None made
      (is_some (answer_in old.engine.rings made)) ended
  pub counted : CountsOn old.jacks jacks made
  pub tells : Between (EndTells old ended jacks supply made) before after

abbrev pub EndsAny : (old : JackDriverState) (ended : SwitchState) (jacks : Jacks) → (before after : Option Telling)
    → Type 0
EndsAny old ended jacks before after =
    (sound : List ℕ) → MayGive old.supply sound → EndsWith old.supply sound
    → EndsSwitching old ended jacks sound before after
