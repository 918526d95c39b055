-- How many frames of sound were written and heard. This project's own.
use Rattle.std.specs.Prelude.{◌-◌, ◌/◌, ℕ, min, List, length, slice_get, sum_by, Option, Some, None}
use Rattle.period_writer.specs.declared.course.Run.{Run}
use Rattle.period_writer.specs.declared.course.Span.{Span}

-- how many bytes of sound some runs wrote, and how many frames of so many bytes
abbrev pub written_in : Run → ℕ
written_in run = run.written

abbrev pub written_by : List Run → ℕ
written_by runs = sum_by written_in runs

abbrev pub frames_written : (block : ℕ) → List Run → ℕ
frames_written block runs = written_by runs / block

-- the position of the last of them, 0 where there is none
abbrev pub position_of : Option Run → ℕ
position_of None = 0
position_of (Some run) = run.at

abbrev pub last_at : List Run → ℕ
last_at runs = position_of (slice_get runs (length runs - 1))

-- the bytes of a silence below a position of the line
abbrev pub silent_below : (at : ℕ) → Span → ℕ
silent_below at span = min span.end at - min span.start at

-- how many frames of sound end at or below a position of the line: its other bytes are silence
abbrev pub frames_below : (block : ℕ) → List Span → (at : ℕ) → ℕ
frames_below block silences at = (at - sum_by (silent_below at) silences) / block
