-- Stretches of a journal: the runs of the driver, with the steps that the device makes between its accesses. This
-- project's own.
use Rattle.std.specs.Prelude.{◌≡◌, ◌≤◌, ℕ, Bool, true, false, List, [], ◌∷◌, ◌++◌, length, map, drop, filter, flat_map}
use Rattle.schedule_reader.specs.declared.schedule.Group.{Group}
use Rattle.hda_world.specs.Events.{Event, Stepped, Begin, End, Read, Write, DmaRead, DmaWrite}

-- an access of the driver, which is neither a step of the device nor a mark of a run
abbrev pub is_access : Event → Bool
is_access (Stepped step) = false
is_access Begin = false
is_access End = false
is_access (Read at width value) = true
is_access (Write at width value) = true
is_access (DmaRead at bytes) = true
is_access (DmaWrite at bytes) = true

-- the accesses among some events
abbrev pub accesses_of : List Event → List Event
accesses_of events = filter is_access events

-- the steps of a group, and those of some groups one after another
abbrev pub steps_in : Group → List Event
steps_in group = map Stepped group.steps

abbrev pub all_steps_in : List Group → List Event
all_steps_in groups = flat_map steps_in groups

-- the accesses, each directly behind the steps of its group: those of the k-th group before the k-th access, while
-- there are groups
abbrev pub woven : List Group → List Event → List Event
woven groups [] = []
woven [] (access ∷ accesses) = access ∷ woven [] accesses
woven (group ∷ groups) (access ∷ accesses) = steps_in group ++ access ∷ woven groups accesses

-- a whole run with these accesses: the steps of the groups that no access took stand behind the last access
abbrev pub stretch : List Group → List Event → List Event
stretch groups accesses = Begin ∷ (woven groups accesses ++ (all_steps_in (drop (length accesses) groups) ++ End ∷ []))

-- the events from this one on are those of a run with these groups that is open
pub record IsOpenFrom (begun : ℕ) (groups : List Group) (events : List Event) : Type 0 where
  pub begins : begun ≤ length events
  pub laid : drop begun events ≡ Begin ∷ woven groups (accesses_of (drop begun events))

-- the events from this one on are those of a whole run with these groups
pub record IsStretchFrom (begun : ℕ) (groups : List Group) (events : List Event) : Type 0 where
  pub begins : begun ≤ length events
  pub laid : drop begun events ≡ stretch groups (accesses_of (drop begun events))
