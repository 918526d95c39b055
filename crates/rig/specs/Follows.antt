-- What it means that a journal follows a schedule. This project's own.
use Rattle.std.specs.Prelude.{◌≡◌, List, [], ◌∷◌, ◌++◌, All, map, true, flat_map}
use Rattle.schedule_reader.specs.declared.schedule.Schedule.{Schedule}
use Rattle.schedule_reader.specs.declared.schedule.Item.{Item}
use Rattle.schedule_reader.specs.declared.schedule.Item.TheVariants.{Device, Drive}
use Rattle.schedule_reader.specs.Counts.{items_of}
use Rattle.hda_world.specs.Events.{Event, Stepped}
use Rattle.rig.specs.Stretches.{is_access, stretch}

-- an item of a schedule as it was run, with the accesses that the driver made in it
pub record Piece : Type 0 where
  pub item : Item
  pub accesses : List Event

-- its events: a step of the device, or a run of the driver
abbrev pub laid_out : Item → List Event → List Event
laid_out (Device step) accesses = Stepped step ∷ []
laid_out (Drive line) accesses = stretch line.groups accesses

abbrev pub AreAccesses : List Event → Type 0
AreAccesses events = All (λ event. is_access event ≡ true) events

-- the events are those of these items, one after another
pub record FollowItems (items : List Item) (events : List Event) : Type 0 where
  pub pieces : List Piece
  pub are : map (λ piece. piece.item) pieces ≡ items
  pub accesses : All (λ piece. AreAccesses piece.accesses) pieces
  pub laid : flat_map (λ piece. laid_out piece.item piece.accesses) pieces ≡ events

-- the events are those of the schedule's items with repeats written out, and then those of a closing run without steps
pub record Follows (schedule : Schedule) (events : List Event) : Type 0 where
  pub followed : List Event
  pub closing : List Event
  pub items : FollowItems (items_of schedule) followed
  pub accesses : AreAccesses closing
  pub laid : events ≡ followed ++ stretch [] closing
