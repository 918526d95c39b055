-- The parts that lines without fault make. This project's own.
use Rattle.std.specs.Prelude.{List, [], ◌∷◌, Bool, true, false, Option, Some, if◌then◌else◌}
use Rattle.schedule_reader.specs.declared.schedule.Part.{Part}
use Rattle.schedule_reader.specs.declared.schedule.Item.{Item as ScheduleItem}
use Rattle.schedule_reader.specs.declared.rows.Row.{Row}
use Rattle.schedule_reader.specs.declared.rows.Row.TheVariants.{Item, Repeat, End}

-- the items of the lines up to the next `repeat` or `end`
abbrev pub items_ahead : List (Option Row) → List ScheduleItem
items_ahead [] = []
items_ahead (Some (Item item) ∷ rows) = item ∷ items_ahead rows
items_ahead (Some (Repeat _) ∷ rows) = []
items_ahead (Some End ∷ rows) = []
items_ahead (_ ∷ rows) = items_ahead rows

-- A part begins at each `repeat`, and at the first item outside of one that stands behind the file's start or an `end`;
-- it has the items up to the next `repeat` or `end`. `begun` says whether a part has begun already to which the items
-- belong that come first.
abbrev pub parts_of : Bool → List (Option Row) → List Part
parts_of begun [] = []
parts_of begun (Some (Item item) ∷ rows) = if begun then parts_of true rows else record
    { times = 1; items = item ∷ items_ahead rows } ∷ parts_of true rows
parts_of begun (Some (Repeat times) ∷ rows) = record { times = times; items = items_ahead rows } ∷ parts_of true rows
parts_of begun (Some End ∷ rows) = parts_of false rows
parts_of begun (_ ∷ rows) = parts_of begun rows

-- the parts of all lines
abbrev pub parts : List (Option Row) → List Part
parts rows = parts_of false rows
