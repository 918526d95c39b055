-- How the fields of a recorder are seen. This project's own.
use Rattle.std.specs.Prelude.{◌≡◌, ◌≤◌, length, vec_capacity}
use Rattle.hda_capture.specs.declared.recorder.Recorder.TheInside.{Inside}
use Rattle.period_writer.specs.Rings.{period_bytes}
use Rattle.hda_capture.specs.Recorders.{RecorderState, IsRecorder}

abbrev pub state_inside : Inside → RecorderState
state_inside recorder = record {
  geometry = recorder.geometry;
  list = recorder.list;
  periods = recorder.periods.items;
  total = recorder.total;
  records = recorder.records;
  runs = recorder.runs.items;
  bytes = recorder.bytes.items;
  course = recorder.course;
}

-- there is room for the bytes of one read, for each record, and for all that is to be recorded
pub record IsRoomy (recorder : Inside) : Type 0 where
  pub buffer_size : length recorder.buffer.items ≡ period_bytes recorder.geometry.period
  pub runs_room : recorder.records ≤ vec_capacity recorder.runs
  pub bytes_room : recorder.total ≤ vec_capacity recorder.bytes

abbrev pub IsRecorderInside : Inside → Type 0
IsRecorderInside recorder = IsRecorder (state_inside recorder) × IsRoomy recorder
