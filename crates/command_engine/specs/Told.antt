-- What a start, a submission and a poll promise of what is told.
use Rattle.std.specs.Prelude.{◌≡◌, ◌≢◌, ℕ, List, length, map, drop, Option}
use Rattle.hda_world.specs.Worlds.{World}
use Rattle.hda_world.specs.Tellings.{Telling, world_of}
use Rattle.command_engine.specs.declared.ring_places.RingPlaces.{RingPlaces}
use Rattle.command_engine.specs.declared.answers.Event.{Event}
use Rattle.command_engine.specs.declared.answers.Poll.{Poll}
use Rattle.command_engine.specs.Entries.{unasked_events_of, answer_among}
use Rattle.command_engine.specs.Polling.{asked_of, poll_of}
use Rattle.command_engine.specs.Fetchings.{Stands}
use Rattle.command_engine.specs.Belonging.{as_held, Belongs, from_after}
use Rattle.command_engine.specs.Quiet.{CanStart}

-- a start that gives codecs brings about how the engine stands, from every world that it may start in
abbrev pub Begins : (corb rirb answer : ℕ) (rings : RingPlaces) → Telling → Telling → Type 0
Begins corb rirb answer rings old new =
    answer ≢ 0 → CanStart corb rirb (world_of old)
    → Stands (length (world_of old).commands) (length (world_of old).written) corb rirb rings (world_of new)

-- a submission leads from how the engine stands to how it stands after it
abbrev pub LeadsOn : (corb rirb : ℕ) (rings rings' : RingPlaces) → Telling → Telling → Type 0
LeadsOn corb rirb rings rings' old new =
    (from read : ℕ) → Stands from read corb rirb rings (world_of old) → Stands from read corb rirb rings' (world_of new)

-- the answer to the outstanding command among the responses that were written since the first so many
abbrev pub found_since : ℕ → RingPlaces → World → Option ℕ
found_since read rings world = answer_among (asked_of rings.outstanding) (map as_held (drop read world.written))

-- a poll answers by the responses that were written since the one before, and its events are those of these that came
-- unasked, in order. An answer belongs to the outstanding command. Then all is read, and the engine stands as it does
-- after the poll
pub record PollTells (clock from read corb rirb : ℕ) (rings : RingPlaces) (answer : Poll) (rings' : RingPlaces)
    (events : List Event) (world : World) : Type 0 where
  pub answer_is : answer ≡ poll_of rings.outstanding (found_since read rings world) clock
  pub events_are : events ≡ unasked_events_of (map as_held (drop read world.written))
  pub belongs : Belongs from rings.outstanding world.codecs world.commands (found_since read rings world)
  pub stands : Stands (from_after (found_since read rings world) from world.commands) (length world.written) corb rirb
      rings' world

abbrev pub PollTellsOf : (clock corb rirb : ℕ) (rings : RingPlaces) (answer : Poll) (rings' : RingPlaces)
    (events : List Event) → Telling → Telling → Type 0
PollTellsOf clock corb rirb rings answer rings' events old new =
    (from read : ℕ) → Stands from read corb rirb rings (world_of old)
    → PollTells clock from read corb rirb rings answer rings' events (world_of new)
