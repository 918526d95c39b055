-- The accesses of a look for an answer, with what is read. High Definition Audio 1.0a, 4.4.
use Rattle.std.specs.Prelude.{◌≡◌, ℕ, List, ◌∷◌, Option}
use Rattle.hda_registers.specs.declared.shapes.Width.TheVariants.{Four}
use Rattle.hda_registers.specs.declared.places.TheConstants.{WALCLK}
use Rattle.hda_world.specs.Events.{Read}
use Rattle.hda_world.specs.Events as happens
use Rattle.hda_world.specs.Tellings.{Telling, Between, Makes}
use Rattle.command_engine.specs.declared.ring_places.RingPlaces.{RingPlaces}
use Rattle.command_engine.specs.declared.answers.Event.{Event}
use Rattle.command_engine.specs.Entries.{responses_in, unasked_events_of}
use Rattle.command_engine.specs.Polling.{PollReads, AreNew, poll_accesses, poll_of, found_by, rings_polled}
use Rattle.driver_progress.specs.declared.commands.Asked.{Asked}

abbrev pub ask_accesses : (rirb clock : ℕ) → RingPlaces → PollReads → List happens.Event
ask_accesses rirb clock rings reads = Read WALCLK Four clock ∷ poll_accesses rirb rings reads

pub record Asks (rirb : ℕ) (rings : RingPlaces) (asked : Asked) (rings' : RingPlaces) (events : List Event)
    (old new : Option Telling) : Type 0 where
  pub reads : PollReads
  pub new_ones : AreNew rings reads
  pub made : Between (Makes (ask_accesses rirb asked.clock rings reads)) old new
  pub answer_is : asked.poll ≡ poll_of rings.outstanding (found_by rings reads) asked.clock
  pub rings_are : rings' ≡ rings_polled rings reads
  pub events_are : events ≡ unasked_events_of (responses_in reads.entries)
