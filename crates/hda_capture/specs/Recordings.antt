-- What the runs of a recorder come to, as functions of the numbers that were read. This project's own.
--
-- The link's position counts the bytes that were taken since RUN rose. At a run it is the first position from the one
-- before on that LPIB stands for. What certainly left the FIFO lies at least the FIFO's whole blocks behind it: so far
-- a run reads, and no further than what is to be recorded.
use Rattle.std.specs.Prelude.{ℕ, ◌-◌, ◌==◌, ◌&&◌, Bool, true, false, min, max, List, [], ◌∷◌, ◌++◌}
use Rattle.std.specs.Prelude.{if◌then◌else◌}
use Rattle.stream_format.specs.Cadence.{block_bytes}
use Rattle.period_writer.specs.Rings.{ring_bytes, limit_of, blocks_up}
use Rattle.period_writer.specs.Runs.{position_from, is_over}
use Rattle.period_writer.specs.declared.geometry.Geometry.{Geometry}
use Rattle.hda_capture.specs.declared.course.RecordedRun.{RecordedRun}
use Rattle.hda_capture.specs.declared.course.Recorded.{Recorded}
use Rattle.hda_capture.specs.declared.course.Recorded.TheVariants.{Recording, Complete, Late}
use Rattle.hda_capture.specs.declared.course.RecordCourse.{RecordCourse}

-- the numbers that runs go by: the bytes of the ring, how many of the FIFO's whole blocks, how many link frames may
-- pass from run to run, and the bytes to record
pub record RecordMeasures : Type 0 where
  pub ring : ℕ
  pub behind : ℕ
  pub limit : ℕ
  pub total : ℕ

abbrev pub record_measures : Geometry → (total : ℕ) → RecordMeasures
record_measures geometry total = record {
  ring = ring_bytes geometry.periods geometry.period;
  behind = blocks_up (block_bytes geometry.format) geometry.fifo;
  limit = limit_of geometry.periods geometry.period geometry.fifo geometry.format;
  total = total;
}

-- what a run reads: the clock first, LPIB, and the clock last. The first run reads no LPIB
pub record RecordFacts : Type 0 where
  pub from : ℕ
  pub lpib : ℕ
  pub to : ℕ

abbrev pub facts_of : (from lpib to : ℕ) → RecordFacts
facts_of from lpib to = record { from = from; lpib = lpib; to = to }

-- what is kept: the runs, and where the last one stood
pub record RecordTally : Type 0 where
  pub runs : List RecordedRun
  pub course : RecordCourse

-- before the first run
abbrev pub course_opened : RecordCourse
course_opened = record { started = false; at = 0; read = 0; from = 0; recorded = Recording }

abbrev pub tally_opened : RecordTally
tally_opened = record { runs = []; course = course_opened }

-- ---- where a run stands

abbrev pub record_at : RecordMeasures → RecordCourse → (lpib : ℕ) → ℕ
record_at m course lpib = if course.started then position_from m.ring course.at lpib else 0

-- where the link is here, a run reads so far
abbrev pub upto_by : RecordMeasures → RecordCourse → (at : ℕ) → ℕ
upto_by m course at = min (max course.read (at - m.behind)) m.total

abbrev pub read_upto : RecordMeasures → RecordCourse → (lpib : ℕ) → ℕ
read_upto m course lpib = upto_by m course (record_at m course lpib)

-- how many bytes it reads
abbrev pub read_count : RecordMeasures → RecordCourse → (lpib : ℕ) → ℕ
read_count m course lpib = read_upto m course lpib - course.read

-- ---- how it ends

-- it is late where more time passed since the run before read its first clock than the limit says
abbrev pub is_record_late : RecordMeasures → RecordCourse → (to : ℕ) → Bool
is_record_late m course to = course.started && is_over m.limit course.from to

-- a later run is complete where all that is to be recorded was read up to a position
abbrev pub is_complete_at : RecordMeasures → RecordCourse → (upto : ℕ) → Bool
is_complete_at m course upto = course.started && upto == m.total

abbrev pub is_complete : RecordMeasures → RecordCourse → (lpib : ℕ) → Bool
is_complete m course lpib = is_complete_at m course (read_upto m course lpib)

-- where it reads up to a position and is not late
abbrev pub ends_in_time : RecordMeasures → RecordCourse → (upto : ℕ) → Recorded
ends_in_time m course upto = if is_complete_at m course upto then Complete else Recording

abbrev pub ends_as : RecordMeasures → RecordCourse → RecordFacts → Recorded
ends_as m course facts =
    if is_record_late m course facts.to then Late course.from facts.to
    else ends_in_time m course (read_upto m course facts.lpib)

-- ---- what is recorded

abbrev pub run_of : RecordMeasures → RecordCourse → RecordFacts → RecordedRun
run_of m course facts = record {
  from = facts.from;
  to = facts.to;
  at = record_at m course facts.lpib;
  read = read_count m course facts.lpib;
}

abbrev pub course_after : RecordMeasures → RecordCourse → RecordFacts → RecordCourse
course_after m course facts = record {
  started = true;
  at = record_at m course facts.lpib;
  read = read_upto m course facts.lpib;
  from = facts.from;
  recorded = ends_in_time m course (read_upto m course facts.lpib);
}

-- a late run records nothing
abbrev pub tally_if : (late : Bool) → RecordMeasures → RecordTally → RecordFacts → RecordTally
tally_if true m tally facts = record {
  runs = tally.runs;
  course = record tally.course { recorded = Late tally.course.from facts.to };
}
tally_if false m tally facts = record {
  runs = tally.runs ++ run_of m tally.course facts ∷ [];
  course = course_after m tally.course facts;
}

abbrev pub tally_after : RecordMeasures → RecordTally → RecordFacts → RecordTally
tally_after m tally facts = tally_if (is_record_late m tally.course facts.to) m tally facts

-- the bytes that are recorded, once a run read these
abbrev pub bytes_after : RecordMeasures → RecordCourse → (to : ℕ) → (recorded read : List ℕ) → List ℕ
bytes_after m course to recorded read = if is_record_late m course to then recorded else recorded ++ read
