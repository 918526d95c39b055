-- What a schedule comes to with its repeats written out. This project's own.
use Rattle.std.specs.Prelude.{ℕ, ◌+◌, List, length, sum_by, replicate, flat_map, Option, Some, None}
use Rattle.std.specs.List.{filter_map}
use Rattle.world_steps.specs.declared.Step.{Step}
use Rattle.world_steps.specs.declared.Step.TheVariants.{Link}
use Rattle.schedule_reader.specs.declared.schedule.Schedule.{Schedule}
use Rattle.schedule_reader.specs.declared.schedule.Part.{Part}
use Rattle.schedule_reader.specs.declared.schedule.Item.{Item}
use Rattle.schedule_reader.specs.declared.schedule.Item.TheVariants.{Device, Drive}
use Rattle.schedule_reader.specs.declared.schedule.DriverLine.{DriverLine}
use Rattle.schedule_reader.specs.declared.schedule.Group.{Group}

-- the items of a part, as often as it is repeated
abbrev pub items_in : Part → List Item
items_in part = flat_map (λ items. items) (replicate part.times part.items)

-- the items of a schedule with repeats written out
abbrev pub items_of : Schedule → List Item
items_of schedule = flat_map items_in schedule.parts

-- the driver line, if the item is one
abbrev pub driver_line : Item → Option DriverLine
driver_line (Device _) = None
driver_line (Drive line) = Some line

-- the driver lines of a schedule with repeats written out
abbrev pub driver_lines : Schedule → List DriverLine
driver_lines schedule = filter_map driver_line (items_of schedule)

-- a group counts 1, and 1 for each of its steps
abbrev pub group_steps : Group → ℕ
group_steps group = 1 + length group.steps

-- a step of the device counts 1, and a driver line counts 1 and what its groups count
abbrev pub item_steps : Item → ℕ
item_steps (Device _) = 1
item_steps (Drive line) = 1 + sum_by group_steps line.groups

-- how many steps a schedule has, repeats written out
unfoldable pub steps_of : Schedule → ℕ
steps_of schedule = sum_by item_steps (items_of schedule)

-- the link frames of a step
abbrev pub step_frames : Step → ℕ
step_frames (Link frames) = frames
step_frames _ = 0

abbrev pub group_frames : Group → ℕ
group_frames group = sum_by step_frames group.steps

abbrev pub item_frames : Item → ℕ
item_frames (Device step) = step_frames step
item_frames (Drive line) = sum_by group_frames line.groups

-- how many link frames a schedule has, repeats written out
unfoldable pub frames_of : Schedule → ℕ
frames_of schedule = sum_by item_frames (items_of schedule)
