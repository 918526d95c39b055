-- Values of columns as heights in pixels. This project's own.
use Rattle.std.specs.Prelude.{ℕ, ◌+◌, ◌/◌, ◌^◌, ◌-◌, ◌&&◌, Bool, min, max, nat_lt, List, [], ◌∷◌, map, fold}
use Rattle.std.specs.Prelude.{if◌then◌else◌}
use Rattle.std.specs.List.{list_any}
use Rattle.period_writer.specs.declared.course.Span.{Span}
use Rattle.run_picture.specs.declared.columns.Column.{Column}
use Rattle.run_picture.specs.declared.scales.Series.{Series}
use Rattle.run_picture.specs.declared.scales.Series.TheVariants as series
use Rattle.run_picture.specs.Meters.{more}

-- what is drawn of a column
abbrev pub value_of : Series → Column → ℕ
value_of series.Sent column = column.sent
value_of series.Fetched column = column.fetched
value_of series.Line column = column.line
value_of series.Start column = column.start
value_of series.Ahead column = column.line - column.sent
value_of series.LeastAhead column = column.ahead
value_of series.Held column = column.fetched - column.sent
value_of series.LeastHeld column = column.held
value_of series.Gap column = column.gap

-- the greatest value of columns
abbrev pub greatest : Series → List Column → ℕ
greatest series columns = fold (λ most column. max (value_of series column) most) 0 columns

-- how much a pixel stands for, so that so much stands within so many pixels
abbrev pub unit_for : (most height : ℕ) → ℕ
unit_for most height = more (most / height) 1

-- a value in pixels, and no more than so many
abbrev pub pixels : (unit height value : ℕ) → ℕ
pixels unit height value = min (value / max unit 1) height

abbrev pub heights : Series → (unit height : ℕ) → List Column → List ℕ
heights series unit height columns = map (λ column. pixels unit height (value_of series column)) columns

-- a height where something is so
abbrev pub height_if : (height : ℕ) → Bool → ℕ
height_if height is = if is then height else 0

-- a silence begins before a position of the line, and ends after another
abbrev pub meets_silence : List Span → (from to : ℕ) → Bool
meets_silence silences from to =
    list_any (λ (silence : Span). nat_lt silence.start to && nat_lt from silence.end) silences

-- there are bytes of the line from one position to another, and some of them are silence
abbrev pub has_silence : List Span → (from to : ℕ) → Bool
has_silence silences from to = nat_lt from to && meets_silence silences from to

-- marks at columns in which silence was sent, where so many bytes were sent before the first
abbrev pub silence_marks : List Span → (height from : ℕ) → List Column → List ℕ
silence_marks silences height from [] = []
silence_marks silences height from (column ∷ columns) =
    height_if height (has_silence silences from column.sent)
    ∷ silence_marks silences height column.sent columns
