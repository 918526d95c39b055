-- What a platform tells: a world at the start, and a journal of all that happened since. This project's own.
use Rattle.std.specs.Prelude.{◌≡◌, List, [], ◌∷◌, ◌++◌, map, Option, Some, None}
use Rattle.world_steps.specs.declared.Step.{Step}
use Rattle.hda_world.specs.Worlds.{World}
use Rattle.hda_world.specs.Events.{Event, Stepped, after, AreHonest}

pub record Telling : Type 0 where
  pub start : World
  pub journal : List Event

-- the world to which the journal leads
abbrev pub world_of : Telling → World
world_of telling = after telling.journal telling.start

-- the journal gained just these events, each of them what the world answered at its moment
pub record Went (old new : Telling) (events : List Event) : Type 0 where
  pub start : new.start ≡ old.start
  pub journal : new.journal ≡ old.journal ++ events
  pub honest : AreHonest events (world_of old)

-- the device made some steps, and then this event happened
pub record Accessed (old new : Telling) (event : Event) : Type 0 where
  pub steps : List Step
  pub went : Went old new (map Stepped steps ++ event ∷ [])

-- the journal only grew
pub record Grew (old new : Telling) : Type 0 where
  pub events : List Event
  pub went : Went old new events

-- a relation of what is told before and after, where it is told; whether it is told does not change
abbrev pub BetweenBy : (Telling → Telling → Type 0) → Option Telling → Option Telling → Type 0
BetweenBy Relation (Some old) (Some new) = Relation old new
BetweenBy Relation None None = Unit {0}
BetweenBy Relation (Some old) None = ⊥
BetweenBy Relation None (Some new) = ⊥

pub record Between (Relation : Telling → Telling → Type 0) (old new : Option Telling) : Type 0 where
  pub is : BetweenBy Relation old new

-- one relation and then another
abbrev pub Then : (Telling → Telling → Type 0) → (Telling → Telling → Type 0) → Telling → Telling → Type 0
Then First Second old new = (middle : Telling) × First old middle × Second middle new

-- just these events happened in a row, before each some steps of the device
abbrev pub MakesBy : List Event → Telling → Telling → Type 0
MakesBy [] old new = new ≡ old
MakesBy (event ∷ events) old new = (middle : Telling) × Accessed old middle event × MakesBy events middle new

pub record Makes (events : List Event) (old new : Telling) : Type 0 where
  pub by : MakesBy events old new
