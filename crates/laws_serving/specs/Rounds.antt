-- A schedule as its driver lines, each with the steps of the device behind it. This project's own.
use Rattle.std.specs.Prelude.{ℕ, ◌+◌, List, [], ◌∷◌, Option, None, Some, sum_by}
use Rattle.world_steps.specs.declared.Step.{Step}
use Rattle.schedule_reader.specs.declared.schedule.DriverLine.{DriverLine}
use Rattle.schedule_reader.specs.declared.schedule.Item.{Item}
use Rattle.schedule_reader.specs.declared.schedule.Item.TheVariants.{Device, Drive}
use Rattle.schedule_reader.specs.Counts.{step_frames, group_frames}

-- a driver line, and the steps of the device behind it: those up to the next driver line, or to the schedule's end
pub record Round : Type 0 where
  pub line : DriverLine
  pub steps : List Step

-- the steps in front of the first driver line, and the rounds of all driver lines in their order
pub record Rounds : Type 0 where
  pub before : List Step
  pub rounds : List Round

abbrev pub rounds_with : Item → Rounds → Rounds
rounds_with (Device step) later = record later { before = step ∷ later.before }
rounds_with (Drive line) later =
    record { before = []; rounds = record { line = line; steps = later.before } ∷ later.rounds }

-- those of some items, one after another
abbrev pub rounds_of : List Item → Rounds
rounds_of [] = record { before = []; rounds = [] }
rounds_of (item ∷ items) = rounds_with item (rounds_of items)

-- ---- link frames

abbrev pub frames_of_steps : List Step → ℕ
frames_of_steps steps = sum_by step_frames steps

-- those of a driver line's groups
abbrev pub frames_of_line : DriverLine → ℕ
frames_of_line line = sum_by group_frames line.groups

-- from the start of a driver line to the end of the next one, where there is one, and else to the schedule's end
abbrev pub frames_to : Round → Option Round → ℕ
frames_to round None = frames_of_line round.line + frames_of_steps round.steps
frames_to round (Some next) = frames_of_line round.line + (frames_of_steps round.steps + frames_of_line next.line)
