-- What the bytes of a schedule mean: the schedule, or its first fault. This project's own format.
use Rattle.std.specs.Prelude.{◌≡◌, ◌≤◌, ◌⊎◌, ℕ, List, map, nat_lt, Option, Some, None, Result, Ok, Err, if◌then◌else◌}
use Rattle.std.specs.Str.Lines.{lines}
use Rattle.schedule_reader.specs.declared.schedule.Schedule.{Schedule}
use Rattle.schedule_reader.specs.declared.rows.Row.{Row}
use Rattle.schedule_reader.specs.declared.fault.SchedFault.{SchedFault}
use Rattle.schedule_reader.specs.declared.fault.SchedFault.TheVariants.{TooManySteps, TooManyFrames, OutOfMemory}
use Rattle.schedule_reader.specs.Rows.{row_on}
use Rattle.schedule_reader.specs.Faults.{first_fault}
use Rattle.schedule_reader.specs.Parts.{parts}
use Rattle.schedule_reader.specs.Counts.{steps_of, frames_of}

-- what each line says
abbrev pub rows : List ℕ → List (Option Row)
rows bytes = map row_on (lines bytes)

-- the most steps and the most link frames of a schedule, with repeats written out
abbrev pub most_steps : ℕ
most_steps = 1000000

abbrev pub most_frames : ℕ
most_frames = 2000000

-- a schedule that is no longer than that
pub record IsLimited (schedule : Schedule) : Type 0 where
  pub steps : steps_of schedule ≤ most_steps
  pub frames : frames_of schedule ≤ most_frames

-- the schedule, where it is no longer than that
unfoldable pub limited : Schedule → Result Schedule SchedFault
limited schedule =
    if nat_lt most_steps (steps_of schedule) then Err TooManySteps
    else (if nat_lt most_frames (frames_of schedule) then Err TooManyFrames else Ok schedule)

-- what lines mean that have this first fault
abbrev pub judged : Option SchedFault → List (Option Row) → Result Schedule SchedFault
judged (Some fault) rows = Err fault
judged None rows = limited (record { parts = parts rows })

-- what the bytes mean
unfoldable pub schedule_of : List ℕ → Result Schedule SchedFault
schedule_of bytes = judged (first_fault (rows bytes)) (rows bytes)

-- the result is what the bytes mean, or memory was wanting
abbrev pub IsReadingOf : List ℕ → Result Schedule SchedFault → Type 0
IsReadingOf bytes result = (result ≡ Err OutOfMemory) ⊎ (result ≡ schedule_of bytes)
