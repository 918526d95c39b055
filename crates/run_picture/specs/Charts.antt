-- A chart: the columns of a run's moments. This project's own.
use Rattle.std.specs.Prelude.{ℕ, List, replicate, get_or, slice_set, fold}
use Rattle.stream_format.specs.declared.format.Format.{Format}
use Rattle.hda_world.specs.declared.entry.Entry.{Entry}
use Rattle.period_writer.specs.declared.course.Run.{Run}
use Rattle.run_picture.specs.declared.meter.Meter.{Meter}
use Rattle.run_picture.specs.declared.columns.Column.{Column}
use Rattle.run_picture.specs.declared.windows.Extent.{Extent}
use Rattle.run_picture.specs.Columns.{column_empty, column_with, sight_of}
use Rattle.run_picture.specs.Moments.{moments}
use Rattle.run_picture.specs.Windows.{column_in, columns_of, extent_none, extent_noted, per_column}

-- columns of as many link frames each, after so many, with the recorded runs and the ticks of one that was too late
pub record ChartState : Type 0 where
  pub first : ℕ
  pub per : ℕ
  pub runs : List Run
  pub late : ℕ
  pub columns : List Column

-- without a moment
abbrev pub chart_empty : (first per columns : ℕ) → List Run → (late : ℕ) → ChartState
chart_empty first per columns runs late =
    record { first = first; per = per; runs = runs; late = late; columns = replicate columns column_empty }

-- a moment stands in its column
abbrev pub chart_noted : ChartState → Meter → ChartState
chart_noted chart moment = record chart {
  columns = slice_set chart.columns (column_in chart.first chart.per moment.time)
      (column_with (sight_of chart.runs chart.late moment) moment
      (get_or chart.columns (column_in chart.first chart.per moment.time) column_empty));
}

-- from which link frame to which the stream ran
abbrev pub extent_of : Format → (fifo : ℕ) → List Entry → Extent
extent_of format fifo entries = fold extent_noted extent_none (moments format fifo entries)

-- the chart of a journal's moments
abbrev pub chart_in : Extent → Format → (fifo : ℕ) → List Entry → List Run → (late : ℕ) → ChartState
chart_in extent format fifo entries runs late =
    fold chart_noted (chart_empty extent.first (per_column extent.first extent.last)
    (columns_of extent.first extent.last) runs late) (moments format fifo entries)

abbrev pub chart_of : Format → (fifo : ℕ) → List Entry → List Run → (late : ℕ) → ChartState
chart_of format fifo entries runs late =
    chart_in (extent_of format fifo entries) format fifo entries runs late
