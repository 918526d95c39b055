-- What contracts see of a recorder. This project's own.
use Rattle.std.specs.Prelude.{◌≡◌, ◌≤◌, ◌<◌, ◌^◌, ◌*◌, ◌-◌, ◌%◌, ℕ, min, List, All, Contains, false}
use Rattle.std.specs.Prelude.{length, sum_by}
use Rattle.dma_pool.specs.declared.blocks.Lent.{Lent}
use Rattle.dma_pool.specs.declared.runs.Run as of_pool
use Rattle.dma_pool.specs.Blocks.{run_at}
use Rattle.stream_format.specs.Cadence.{block_bytes}
use Rattle.wav_writer.specs.declared.file.TheConstants.{MOST_RING_BYTES}
use Rattle.period_writer.specs.declared.geometry.Geometry.{Geometry}
use Rattle.period_writer.specs.Rings.{period_bytes, ring_bytes, list_bytes}
use Rattle.period_writer.specs.Blocks.{addresses_of, AreApart, IsBesideAll}
use Rattle.hda_capture.specs.declared.course.RecordedRun.{RecordedRun}
use Rattle.hda_capture.specs.declared.course.RecordCourse.{RecordCourse}
use Rattle.hda_capture.specs.declared.course.Recorded.TheVariants.{Complete}
use Rattle.hda_capture.specs.Recordings.{RecordMeasures, RecordTally, record_measures}

-- a recorder: its geometry, the blocks of the list and of the periods, how many bytes it is to record, how many runs
-- there is room to record, those that were recorded, the bytes, and where the last run stood
pub record RecorderState : Type 0 where
  pub geometry : Geometry
  pub list : Lent
  pub periods : List Lent
  pub total : ℕ
  pub records : ℕ
  pub runs : List RecordedRun
  pub bytes : List ℕ
  pub course : RecordCourse

abbrev pub tally_of : RecorderState → RecordTally
tally_of recorder = record { runs = recorder.runs; course = recorder.course }

abbrev pub measures_of : RecorderState → RecordMeasures
measures_of recorder = record_measures recorder.geometry recorder.total

-- the bytes of its ring
abbrev pub ring_size : RecorderState → ℕ
ring_size recorder = ring_bytes recorder.geometry.periods recorder.geometry.period

-- the addresses of its periods
abbrev pub periods_of : RecorderState → List ℕ
periods_of recorder = addresses_of recorder.periods

-- ---- what is true of every recorder

-- what holds of the course of runs that go by these numbers, after so many recorded runs
pub record IsRecordCourse (m : RecordMeasures) (runs : ℕ) (course : RecordCourse) : Type 0 where
  -- a run moves the link on by less than a ring
  pub bounded : course.at ≤ m.ring * runs
  -- before the first run nothing is recorded
  pub fresh : course.started ≡ false → runs ≡ 0
  -- what was read, the link had taken
  pub taken : course.read ≤ course.at
  pub wanted : course.read ≤ m.total
  -- all that certainly had left the FIFO was read, so that the next run reads no more than a ring
  pub caught_up : min (course.at - m.behind) m.total ≤ course.read
  -- it is complete only where all was read
  pub complete : course.recorded ≡ Complete → course.read ≡ m.total

-- the link stood at whole blocks of so many bytes
abbrev pub IsAtBlocks : (block : ℕ) → RecordedRun → Type 0
IsAtBlocks block run = run.at % block ≡ 0

-- how many bytes runs read
abbrev pub bytes_read : List RecordedRun → ℕ
bytes_read runs = sum_by (λ (run : RecordedRun). run.read) runs

-- its blocks are those of its geometry and lie apart, no more is recorded than there is room for, its course is one of
-- so many runs, its bytes are those that these read, and they are whole blocks where the link always stood at such
pub record IsRecorder (recorder : RecorderState) : Type 0 where
  pub list_size : recorder.list.bytes ≡ list_bytes recorder.geometry.periods
  pub number : length recorder.periods ≡ recorder.geometry.periods
  pub sizes : All (λ lent. lent.bytes ≡ period_bytes recorder.geometry.period) recorder.periods
  pub apart : AreApart (period_bytes recorder.geometry.period) (addresses_of recorder.periods)
  pub beside : IsBesideAll recorder.list.address (list_bytes recorder.geometry.periods)
      (period_bytes recorder.geometry.period) (addresses_of recorder.periods)
  pub some_records : 1 ≤ recorder.records
  pub few_records : recorder.records < 2 ^ 32
  pub few_runs : length recorder.runs ≤ recorder.records
  -- a WAV file can hold all that it is to record
  pub few_bytes : recorder.total ≤ MOST_RING_BYTES
  pub whole_total : recorder.total % block_bytes recorder.geometry.format ≡ 0
  pub course_is : IsRecordCourse (measures_of recorder) (length recorder.runs) recorder.course
  pub bytes_are : length recorder.bytes ≡ recorder.course.read
  pub reads : bytes_read recorder.runs ≡ recorder.course.read
  pub whole_read : All (IsAtBlocks (block_bytes recorder.geometry.format)) recorder.runs
      → recorder.course.read % block_bytes recorder.geometry.format ≡ 0

-- ---- what a call does to it

-- the ring, the bytes to record and the room for records stay as they are
pub record KeepsRecorderRing (old new : RecorderState) : Type 0 where
  pub geometry : new.geometry ≡ old.geometry
  pub list : new.list ≡ old.list
  pub periods : new.periods ≡ old.periods
  pub total : new.total ≡ old.total
  pub records : new.records ≡ old.records

-- the runs of its blocks are among the taken runs of a pool
pub record OwnsBlocks (taken : List of_pool.Run) (recorder : RecorderState) : Type 0 where
  pub list : Contains taken (run_at recorder.list.address (list_bytes recorder.geometry.periods))
  pub periods : All (λ lent. Contains taken (run_at lent.address (period_bytes recorder.geometry.period)))
      recorder.periods
