-- The first fault of the lines. This project's own.
use Rattle.std.specs.Prelude.{ℕ, ◌+◌, List, [], ◌∷◌, Bool, true, false, Option, Some, None, Result, Ok, Err}
use Rattle.std.specs.Prelude.{if◌then◌else◌}
use Rattle.schedule_reader.specs.declared.rows.Row.{Row}
use Rattle.schedule_reader.specs.declared.rows.Row.TheVariants.{Skipped, Item, Repeat, End}
use Rattle.schedule_reader.specs.declared.fault.SchedFault.{SchedFault}
use Rattle.schedule_reader.specs.declared.fault.SchedFault.TheVariants.{Line, Nested, Unclosed}

-- Whether the lines behind the one of this number stand inside a repeat, where `inside` says whether that one does; or
-- its fault. A line without reading is one, a `repeat` inside a repeat, and an `end` outside.
abbrev pub inside_after : ℕ → Bool → Option Row → Result Bool SchedFault
inside_after number inside None = Err (Line number)
inside_after number inside (Some Skipped) = Ok inside
inside_after number inside (Some (Item _)) = Ok inside
inside_after number false (Some (Repeat _)) = Ok true
inside_after number true (Some (Repeat _)) = Err (Nested number)
inside_after number true (Some End) = Ok false
inside_after number false (Some End) = Err (Line number)

-- the fault of a line, or else what comes behind it
abbrev pub or_behind : Result Bool SchedFault → (Bool → Option SchedFault) → Option SchedFault
or_behind (Err fault) behind = Some fault
or_behind (Ok inside) behind = behind inside

-- The first fault of lines that are numbered from `number` on: that of the first faulty line, or else that the last one
-- stands inside a repeat.
abbrev pub fault_from : ℕ → Bool → List (Option Row) → Option SchedFault
fault_from number inside [] = if inside then Some Unclosed else None
fault_from number inside (row ∷ rows) = or_behind (inside_after number inside row)
    (λ now. fault_from (number + 1) now rows)

-- the first fault of all lines
abbrev pub first_fault : List (Option Row) → Option SchedFault
first_fault rows = fault_from 1 false rows
