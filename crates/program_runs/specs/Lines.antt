-- The lines by which a schedule calls a driver. This project's own.
use Rattle.std.specs.Prelude.{Bool, true, false, List, map}
use Rattle.std.specs.List.{filter_map}
use Rattle.schedule_reader.specs.declared.schedule.DriverLine as scheduled
use Rattle.schedule_reader.specs.declared.schedule.Item.{Item}
use Rattle.schedule_reader.specs.declared.schedule.Item.TheVariants.{Device, Drive}
use Rattle.schedule_reader.specs.declared.schedule.Schedule.{Schedule}
use Rattle.schedule_reader.specs.Counts.{items_of, driver_line}
use Rattle.driver_progress.specs.Tasks.{DriverLine}

abbrev pub driver_line_of : scheduled.DriverLine → DriverLine
driver_line_of line = record { irq = line.irq; budget = line.budget }

-- those among some items
abbrev pub lines_in : List Item → List DriverLine
lines_in items = map driver_line_of (filter_map driver_line items)

-- those of a schedule, with repeats written out
abbrev pub lines_of : Schedule → List DriverLine
lines_of schedule = lines_in (items_of schedule)

abbrev pub is_line : Item → Bool
is_line (Device step) = false
is_line (Drive line) = true
