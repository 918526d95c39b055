-- The moments while a driver makes its accesses: before each of them the device may make steps. This project's own.
use Rattle.std.specs.Prelude.{◌≡◌, List, [], ◌∷◌, ◌++◌, map}
use Rattle.world_steps.specs.declared.Step.{Step}
use Rattle.hda_world.specs.Worlds.{World}
use Rattle.hda_world.specs.Events.{Event, Stepped, happens}

-- these events are the accesses that were made, in order, and before each of them some steps of the device
abbrev pub AreWoven : (made events : List Event) → Type 0
AreWoven [] events = events ≡ []
AreWoven (access ∷ made) events =
    (steps : List Step) × (rest : List Event) × (events ≡ map Stepped steps ++ access ∷ rest) × AreWoven made rest

-- something holds of the world and the event at each of some events, as it comes
abbrev pub AtEach : (World → Event → Type 0) → List Event → World → Type 0
AtEach Holds [] world = Unit {0}
AtEach Holds (event ∷ events) world = Holds world event × AtEach Holds events (happens world event)
