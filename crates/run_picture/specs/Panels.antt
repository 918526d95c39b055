-- What is drawn of a run's columns, panel by panel. This project's own.
use Rattle.std.specs.Prelude.{ℕ, ◌+◌, ◌-◌, ◌*◌, ◌/◌, ◌==◌, max, map, List, [], ◌∷◌, ◌++◌, reverse, if◌then◌else◌}
use Rattle.stream_format.specs.declared.format.Format.{Format}
use Rattle.stream_format.specs.Cadence.{most_bytes}
use Rattle.period_writer.specs.declared.course.Span.{Span}
use Rattle.svg_text.specs.declared.shapes.Paint.{Paint}
use Rattle.svg_text.specs.declared.shapes.Paint.TheVariants as paint
use Rattle.svg_text.specs.declared.shapes.Shape.{Shape}
use Rattle.svg_text.specs.declared.shapes.Shape.TheVariants as shape
use Rattle.run_picture.specs.declared.columns.Column.{Column}
use Rattle.run_picture.specs.declared.scales.Measure.{Measure}
use Rattle.run_picture.specs.declared.scales.Series.{Series}
use Rattle.run_picture.specs.declared.scales.Series.TheVariants as series
use Rattle.run_picture.specs.declared.panels.TheConstants.{LINE_BASE, LINE_HEIGHT, SILENCE_BASE, HOLE_BASE, MARK_HEIGHT}
use Rattle.run_picture.specs.declared.panels.TheConstants.{AHEAD_BASE, AHEAD_HEIGHT, HELD_BASE, HELD_HEIGHT}
use Rattle.run_picture.specs.declared.panels.TheConstants.{GAP_BASE, GAP_HEIGHT}
use Rattle.run_picture.specs.declared.series.TheConstants.{LEFT, WIDTH}
use Rattle.run_picture.specs.Scales.{greatest, height_if, heights, pixels, silence_marks, unit_for}
use Rattle.run_picture.specs.Series.{area_points, line_points}

-- ---- the greatest value of each panel

abbrev pub most_line : List Column → ℕ
most_line columns =
    max (max (greatest series.Line columns) (greatest series.Fetched columns)) (greatest series.Sent columns)

abbrev pub most_gap : (limit : ℕ) → List Column → ℕ
most_gap limit columns = max (greatest series.Gap columns) limit

-- how many ticks may pass from a run to the next: what is left of the ring without the FIFO may be sent meanwhile
abbrev pub limit_ticks : Format → (ring fifo : ℕ) → ℕ
limit_ticks format ring fifo =
    if most_bytes format == 0 then 0 else (ring - fifo) / most_bytes format * 500

-- ---- the shapes

-- a line along the values of columns
abbrev pub series_shape : List Column → Series → Measure → Paint → Shape
series_shape columns series measure paint =
    shape.Trail paint (line_points measure.base (heights series measure.unit measure.height columns))

-- the area between the values of columns and greater ones
abbrev pub span_shape : List Column → (lower upper : Series) → Measure → Paint → Shape
span_shape columns lower upper measure paint =
    shape.Area paint (line_points measure.base (heights upper measure.unit measure.height columns)
    ++ reverse (line_points measure.base (heights lower measure.unit measure.height columns)))

-- silence that was sent, and frames that missed their blocks
abbrev pub marks : List Column → List Span → List Shape
marks columns silences =
    shape.Area paint.Silence (area_points SILENCE_BASE (silence_marks silences MARK_HEIGHT 0 columns))
    ∷ shape.Area paint.Hole (area_points HOLE_BASE (map (λ column. height_if MARK_HEIGHT column.missed) columns))
    ∷ []

-- so much stands within so many pixels over a base line
abbrev pub measure_for : (most height base : ℕ) → Measure
measure_for most height base = record { unit = unit_for most height; height = height; base = base }

-- the panel of the line: what the runs wrote, the end of the line, what was fetched and sent, and the marks under it
abbrev pub line_panel_by : Measure → List Column → List Span → List Shape
line_panel_by line columns silences =
    span_shape columns series.Start series.Line line paint.Written
    ∷ series_shape columns series.Line line paint.Reach
    ∷ series_shape columns series.Fetched line paint.Fetched
    ∷ series_shape columns series.Sent line paint.Sent
    ∷ marks columns silences

abbrev pub line_panel : List Column → List Span → List Shape
line_panel columns silences =
    line_panel_by (measure_for (most_line columns) LINE_HEIGHT LINE_BASE) columns silences

-- last values over the least ones
abbrev pub least_panel : List Column → (least last : Series) → Measure → Paint → List Shape
least_panel columns least last measure paint =
    span_shape columns least last measure paint ∷ series_shape columns least measure paint ∷ []

-- the panel of what was written and not sent, and that of the FIFO
abbrev pub ahead_panel : List Column → List Shape
ahead_panel columns =
    least_panel columns series.LeastAhead series.Ahead
    (measure_for (greatest series.Ahead columns) AHEAD_HEIGHT AHEAD_BASE) paint.Reach

abbrev pub held_panel : (fifo : ℕ) → List Column → List Shape
held_panel fifo columns =
    least_panel columns series.LeastHeld series.Held
    (measure_for (max (greatest series.Held columns) fifo) HELD_HEIGHT HELD_BASE) paint.Fetched

-- the line of the limit
abbrev pub limit_shape : (limit : ℕ) → Measure → Shape
limit_shape limit gap =
    shape.Line paint.Limit (record { x = LEFT; y = gap.base - pixels gap.unit gap.height limit })
    (record { x = LEFT + WIDTH; y = gap.base - pixels gap.unit gap.height limit })

-- the panel of the runs: the ticks from each to the next, and how many may pass
abbrev pub gap_panel_by : Measure → List Column → (limit : ℕ) → List Shape
gap_panel_by gap columns limit =
    shape.Area paint.Sent (area_points GAP_BASE (heights series.Gap gap.unit gap.height columns))
    ∷ limit_shape limit gap ∷ []

abbrev pub gap_panel : List Column → (limit : ℕ) → List Shape
gap_panel columns limit =
    gap_panel_by (measure_for (most_gap limit columns) GAP_HEIGHT GAP_BASE) columns limit
