-- The numbers of a run as the program has them. This project's own.
use Rattle.std.specs.Prelude.{◌≡◌, ◌≤◌, ◌+◌, List}
use Rattle.hda_capture.specs.declared.turns.Measures.{Measures}
use Rattle.hda_capture.specs.declared.turns.Turn.{Turn}
use Rattle.hda_capture.specs.declared.course.RecordedRun.{RecordedRun}
use Rattle.hda_capture.specs.declared.course.RecordCourse.{RecordCourse}
use Rattle.hda_capture.specs.Recordings.{RecordMeasures, RecordTally, record_at, read_upto}

abbrev pub measures_by : Measures → RecordMeasures
measures_by m = record { ring = m.ring; behind = m.behind; limit = m.limit; total = m.total }

abbrev pub tally_by : List RecordedRun → RecordCourse → RecordTally
tally_by runs course = record { runs = runs; course = course }

-- a run stands there, by the LPIB that it read
pub record IsTurn (m : RecordMeasures) (course : RecordCourse) (turn : Turn) : Type 0 where
  pub at : turn.at ≡ record_at m course turn.lpib
  pub upto : turn.upto ≡ read_upto m course turn.lpib
  pub soon : turn.at ≤ course.at + m.ring
  pub ascends : course.read ≤ turn.upto
