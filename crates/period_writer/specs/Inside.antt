-- How the fields of a writer are seen. This project's own.
use Rattle.std.specs.Prelude.{◌≡◌, ◌≤◌, length, vec_capacity}
use Rattle.period_writer.specs.declared.writer.Writer.TheInside.{Inside}
use Rattle.period_writer.specs.Rings.{period_bytes}
use Rattle.period_writer.specs.Writers.{WriterState, IsWriter}

abbrev pub state_inside : Inside → WriterState
state_inside writer = record {
  geometry = writer.geometry;
  list = writer.list;
  periods = writer.periods.items;
  records = writer.records;
  runs = writer.runs.items;
  silences = writer.silences.items;
  course = writer.course;
}

-- there is room for the bytes of one write, and for each record
pub record IsRoomy (writer : Inside) : Type 0 where
  pub buffer_size : length writer.buffer.items ≡ period_bytes writer.geometry.period
  pub runs_room : writer.records ≤ vec_capacity writer.runs
  pub silences_room : writer.records ≤ vec_capacity writer.silences

abbrev pub IsWriterInside : Inside → Type 0
IsWriterInside writer = IsWriter (state_inside writer) × IsRoomy writer
