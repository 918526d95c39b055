-- What the parts of a call do to both sides of a driver that switches, on every platform. This project's own.
use Rattle.std.specs.Prelude.{◌≡◌, ◌≤◌, ◌⊎◌, ◌∷◌, ◌++◌, ℕ, Bool, true, false, List, [], length, Option, Some}
use Rattle.hda_registers.specs.declared.shapes.Width.TheVariants.{One}
use Rattle.hda_world.specs.Events.{Write}
use Rattle.hda_world.specs.Tellings.{Telling, Between, Makes}
use Rattle.command_engine.specs.declared.answers.Event as told
use Rattle.command_engine.specs.Engines.{EngineState}
use Rattle.command_engine.specs.Entries.{responses_in, unasked_events_of}
use Rattle.command_engine.specs.Polling.{PollReads, AreNew, poll_accesses, found_by, rings_polled}
use Rattle.command_engine.specs.Told.{PollTellsOf, LeadsOn}
use Rattle.driver_progress.specs.Tasks.{Order}
use Rattle.period_writer.specs.Calls as calls
use Rattle.period_writer.specs.declared.registers.TheConstants.{CONTROL}
use Rattle.period_writer.specs.Writers.{WriterState, tally_of}
use Rattle.wav_reader.specs.Supplies.{Supplied}
use Rattle.driver_bring_up.specs.Commanding.{poll_by, submit_made, rings_with}
use Rattle.driver_bring_up.specs.Counted.{IsCount}
use Rattle.driver_bring_up.specs.declared.jacks.Jacks.{Jacks}
use Rattle.jack_rules.specs.Switching.{SwitchingState, told_all}
use Rattle.jack_switch.specs.SwitchRules.{is_overdue, choice_by, order_by, clock_of}
use Rattle.jack_switch.specs.JackDrivers.{JackDriverState}

-- a look at this clock: what it read of RIRB, and what the jack rules were told
pub record LooksNow (old new : EngineState) (clock : ℕ) (switching switching' : SwitchingState) (overdue : Bool)
    (reads : PollReads) (before after : Option Telling) : Type 0 where
  pub new_ones : AreNew old.rings reads
  pub made : Between (Makes (poll_accesses old.rirb.address old.rings reads)) before after
  pub tells : Between (PollTellsOf clock old.corb.address old.rirb.address old.rings (poll_by old.rings reads clock)
      (rings_polled old.rings reads) (unasked_events_of (responses_in reads.entries))) before after
  pub rings : new.rings ≡ rings_polled old.rings reads
  pub corb : new.corb ≡ old.corb
  pub rirb : new.rirb ≡ old.rirb
  pub told : switching' ≡ told_all switching (unasked_events_of (responses_in reads.entries)) (found_by old.rings reads)
  pub overdue_is : overdue ≡ is_overdue new.rings.outstanding clock

-- the next command at this clock, if one comes
pub record SubmitsNow (old new : EngineState) (order : Option Order) (clock : ℕ) (before after : Option Telling)
    : Type 0 where
  pub made : Between (Makes (submit_made old.corb.address old.rings order)) before after
  pub rings : new.rings ≡ rings_with order clock old.rings
  pub tells : Between (LeadsOn old.corb.address old.rirb.address old.rings new.rings) before after

-- the count of jacks goes on by what was read, while it counts fewer events than a counter holds
abbrev pub CountsRead : (old new : Jacks) → PollReads → Type 0
CountsRead old new reads =
    (events : List told.Event) → IsCount events old
    → length (events ++ unasked_events_of (responses_in reads.entries)) ≤ 4294967295
    → IsCount (events ++ unasked_events_of (responses_in reads.entries)) new

-- a look of a driver, at the clock that the run before read last
pub record LooksBefore (old : JackDriverState) (middle : EngineState) (switching : SwitchingState) (overdue : Bool)
    (jacks : Jacks) (before after : Option Telling) : Type 0 where
  pub reads : PollReads
  pub looks : LooksNow old.engine middle old.clock old.switching switching overdue reads before after
  pub counted : CountsRead old.jacks jacks reads

-- what comes after a run, by the engine and what the jack rules keep before it
pub record SubmitsAfter (middle : EngineState) (switching : SwitchingState) (new : JackDriverState)
    (before after : Option Telling) : Type 0 where
  pub submits : SubmitsNow middle new.engine (order_by new.writer.course.ran middle.rings switching) new.clock before
      after
  pub chosen : new.switching ≡ (choice_by new.writer.course.ran middle.rings switching).next
  pub clock_is : new.clock ≡ clock_of (tally_of new.writer)

-- the first run
pub record BeginsNow (budget : ℕ) (old new : JackDriverState) (before after : Option Telling) : Type 0 where
  pub fresh : old.writer.course.started ≡ false
  pub ran : Option Telling
  pub starts : calls.StartsAny budget old.writer new.writer old.supply new.supply before ran
  pub tells : calls.StartTellsAny budget old.writer new.writer old.supply new.supply before ran
  pub after_run : SubmitsAfter old.engine old.switching new ran after
  pub jacks : new.jacks ≡ old.jacks
  pub given_up : new.given_up ≡ old.given_up

-- a later one, after a look
pub record GoesOnNow (budget : ℕ) (old new : JackDriverState) (before after : Option Telling) : Type 0 where
  pub started : old.writer.course.started ≡ true
  pub looked : Option Telling
  pub middle : EngineState
  pub switching : SwitchingState
  pub looks : LooksBefore old middle switching false new.jacks before looked
  pub ran : Option Telling
  pub plays : calls.PlaysAny budget old.writer new.writer old.supply new.supply new.writer.course.ran looked ran
  pub tells : calls.RunTellsAny budget old.writer new.writer old.supply new.supply new.writer.course.ran looked ran
  pub after_run : SubmitsAfter middle switching new ran after
  pub given_up : new.given_up ≡ old.given_up

-- or after the look the stop
pub record GivesUpNow (old new : JackDriverState) (before after : Option Telling) : Type 0 where
  pub started : old.writer.course.started ≡ true
  pub looked : Option Telling
  pub looks : LooksBefore old new.engine new.switching true new.jacks before looked
  pub stopped : Between (Makes (Write CONTROL One 0 ∷ [])) looked after
  pub writer : new.writer ≡ old.writer
  pub supply : new.supply ≡ old.supply
  pub clock : new.clock ≡ old.clock
  pub given_up : new.given_up ≡ Some old.clock

abbrev pub PlaysNow : (budget : ℕ) → (old new : JackDriverState) → (before after : Option Telling) → Type 0
PlaysNow budget old new before after =
    BeginsNow budget old new before after ⊎ (GoesOnNow budget old new before after ⊎ GivesUpNow old new before after)

-- ---- the last call, by both sides of a driver

-- a look of both sides
pub record LooksLast (engine engine' : EngineState) (clock : ℕ) (switching switching' : SwitchingState)
    (jacks jacks' : Jacks) (overdue : Bool) (before after : Option Telling) : Type 0 where
  pub reads : PollReads
  pub looks : LooksNow engine engine' clock switching switching' overdue reads before after
  pub counted : CountsRead jacks jacks' reads

-- nothing, where the stream does not play or the driver gave up before
pub record StaysNow (on : Bool) (engine engine' : EngineState) (writer writer' : WriterState) (switching switching'
    : SwitchingState) (jacks jacks' : Jacks) (gave : Bool) (before after : Option Telling) : Type 0 where
  pub still : (writer.course.started ≡ false) ⊎ (on ≡ false)
  pub engine_is : engine' ≡ engine
  pub writer_is : writer' ≡ writer
  pub switching_is : switching' ≡ switching
  pub jacks_are : jacks' ≡ jacks
  pub gave_none : gave ≡ false
  pub told_is : after ≡ before

-- where it plays, the look and the last run
pub record FinishesNow (on : Bool) (clock : ℕ) (engine engine' : EngineState) (writer writer' : WriterState)
    (supply : Supplied) (switching switching' : SwitchingState) (jacks jacks' : Jacks) (gave : Bool)
    (before after : Option Telling) : Type 0 where
  pub started : writer.course.started ≡ true
  pub on_is : on ≡ true
  pub looked : Option Telling
  pub looks : LooksLast engine engine' clock switching switching' jacks jacks' false before looked
  pub finishes : calls.FinishesAny writer writer' supply writer'.course.ran looked after
  pub tells : calls.FinishTellsAny writer writer' supply writer'.course.ran looked after
  pub gave_none : gave ≡ false

-- or the look and the stop
pub record StopsNow (on : Bool) (clock : ℕ) (engine engine' : EngineState) (writer writer' : WriterState)
    (switching switching' : SwitchingState) (jacks jacks' : Jacks) (gave : Bool) (before after : Option Telling)
    : Type 0 where
  pub started : writer.course.started ≡ true
  pub on_is : on ≡ true
  pub looked : Option Telling
  pub looks : LooksLast engine engine' clock switching switching' jacks jacks' true before looked
  pub stopped : Between (Makes (Write CONTROL One 0 ∷ [])) looked after
  pub writer_is : writer' ≡ writer
  pub gave_it : gave ≡ true

abbrev pub EndsNow : (on : Bool) → (clock : ℕ) → (engine engine' : EngineState) → (writer writer' : WriterState)
    → (supply : Supplied) → (switching switching' : SwitchingState) → (jacks jacks' : Jacks) → (gave : Bool)
    → (before after : Option Telling)
    → Type 0
EndsNow on clock engine engine' writer writer' supply switching switching' jacks jacks' gave before after =
    StaysNow on engine engine' writer writer' switching switching' jacks jacks' gave before after
    ⊎ (FinishesNow on clock engine engine' writer writer' supply switching switching' jacks jacks' gave before after
    ⊎ StopsNow on clock engine engine' writer writer' switching switching' jacks jacks' gave before after)
