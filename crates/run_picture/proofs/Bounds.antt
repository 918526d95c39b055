-- How large a picture is.
use Rattle.std.proofs.Common.{◌≡◌, ◌≤◌, ◌<◌, ℕ, suc, ◌+◌, ◌*◌, ◌-◌, ◌==◌, ◌&&◌, ◌||◌, Bool, true, false, not, min, max}
use Rattle.std.proofs.Common.{List, [], ◌∷◌, ◌++◌, length, take, map, reverse, fold, All, nat_le, arith, ap, sym, ◌∙◌}
use Rattle.std.proofs.Common.{subst, refl}
use Rattle.std.specs.Prelude.{if◌then◌else◌}
use Rattle.std.specs.List.{list_any}
use Rattle.std.proofs.lemmas.List.{length-append, length-map, length-replicate, length-reverse, length-set, length-take}
use Rattle.std.proofs.lemmas.List.Elements.{All-append, All-cons, All-nil}
use Rattle.std.proofs.lemmas.Bool.{leb-true}
use Rattle.heard_frames.specs.declared.heard.Heard.{Heard}
use Rattle.heard_lists.specs.declared.pin_list.PinHeard.{PinHeard}
use Rattle.heard_lists.specs.declared.stretches.Kind.{Kind}
use Rattle.heard_lists.specs.declared.stretches.Kind.TheVariants as kind
use Rattle.period_writer.specs.declared.course.Span.{Span}
use Rattle.sound_report.specs.declared.played.Played.{Played}
use Rattle.svg_text.specs.declared.shapes.Paint.{Paint}
use Rattle.svg_text.specs.declared.shapes.Paint.TheVariants as paint
use Rattle.svg_text.specs.declared.shapes.Picture.{Picture}
use Rattle.svg_text.specs.declared.shapes.Shape.{Shape}
use Rattle.svg_text.specs.declared.shapes.Shape.TheVariants as shape
use Rattle.run_picture.specs.declared.columns.Column.{Column}
use Rattle.run_picture.specs.declared.meter.Meter.{Meter}
use Rattle.run_picture.specs.declared.scales.Measure.{Measure}
use Rattle.run_picture.specs.declared.scales.Series.{Series}
use Rattle.run_picture.specs.declared.scales.Series.TheVariants as series
use Rattle.run_picture.specs.declared.windows.TheConstants.{MOST_COLUMNS}
use Rattle.run_picture.specs.declared.panels.TheConstants.{AHEAD_BASE, AHEAD_HEIGHT, GAP_BASE, GAP_HEIGHT, HELD_BASE}
use Rattle.run_picture.specs.declared.panels.TheConstants.{HELD_HEIGHT, HOLE_BASE, LINE_BASE, LINE_HEIGHT, MARK_HEIGHT}
use Rattle.run_picture.specs.declared.panels.TheConstants.{SILENCE_BASE}
use Rattle.run_picture.specs.Bands.{band_base, band_shapes, bands, bands_from, kind_marks, kind_shape, until}
use Rattle.run_picture.specs.Charts.{ChartState, chart_empty, chart_noted}
use Rattle.run_picture.specs.Columns.{column_empty}
use Rattle.run_picture.specs.Moments.{moments}
use Rattle.run_picture.specs.Panels.{ahead_panel, gap_panel, held_panel, least_panel, limit_shape, line_panel, marks}
use Rattle.run_picture.specs.Panels.{measure_for, most_gap, most_line, series_shape, span_shape}
use Rattle.run_picture.specs.Pictures.{IsPictureOf, are_behind, columns_in, drawn_in, extent_in, is_behind, late_ticks}
use Rattle.run_picture.specs.Pictures.{limit_in}
use Rattle.run_picture.specs.Scales.{greatest, height_if, heights, silence_marks}
use Rattle.run_picture.specs.Series.{area_points, corner, corners, first_of, line_points, step}
use Rattle.run_picture.specs.Small.{AreSmall, IsSmall, points_of, words_of}
use Rattle.run_picture.specs.Windows.{columns_of, per_column}

-- so many shapes at most, and each of them small
pub record AreSmallUpTo (most : ℕ) (shapes : List Shape) : Type 0 where
  pub few : length shapes ≤ most
  pub small : All IsSmall shapes

-- ---- points

step_few : (count base column last height : ℕ) → length (step count base column last height) ≤ 2
step_few count base column last height =
    elim (height == last) as (λ same. length (if same then [] else corner count base column last ∷ corner count base
    column height ∷ []) ≤ 2)
    [ true ↦ omega arith | false ↦ omega arith ]

corners_few : (count base column last : ℕ) (hs : List ℕ) → length (corners count base column last hs) ≤ 2 * length
    hs + 1
corners_few count base column last [] = omega arith
corners_few count base column last (height ∷ hs) =
    omega (
      arith,
      step_few count base column last height,
      corners_few count base (column + 1) height hs,
      length-append (step count base column last height) (corners count base (column + 1) height hs),
    )

line_few : (base : ℕ) (hs : List ℕ) → length hs ≤ 540 → length (line_points base hs) ≤ 1082
line_few base hs few = omega (arith, corners_few (length hs) base 0 (first_of hs) hs)

area_few : (base : ℕ) (hs : List ℕ) → length hs ≤ 540 → length (area_points base hs) ≤ 2164
area_few base hs few =
    omega (
      arith,
      corners_few (length hs) base 0 0 hs,
      length-append (corners (length hs) base 0 0 hs) (corner (length hs) base (length hs) 0 ∷ []),
    )

-- ---- marks

heights_few : (series : Series) (unit height : ℕ) (columns : List Column) → length columns ≤ 540
    → length (heights series unit height columns) ≤ 540
heights_few series unit height columns few = simp length-map few

silence_len : (silences : List Span) (height from : ℕ) (columns : List Column)
    → length (silence_marks silences height from columns) ≡ length columns
silence_len silences height from [] = refl
silence_len silences height from (column ∷ columns) = ap suc (silence_len silences height column.sent columns)

kind_len : (kind : Kind) (items : List Heard) (from : ℕ) (columns : List Column)
    → length (kind_marks kind items from columns) ≡ length columns
kind_len kind items from [] = refl
kind_len kind items from (column ∷ columns) =
    ap suc (kind_len kind items (until from (length items) column) columns)

-- ---- shapes

area_small : (paint : Paint) (base : ℕ) (hs : List ℕ) → length hs ≤ 540
    → IsSmall (shape.Area paint (area_points base hs))
area_small paint base hs few = record { points = area_few base hs few; words = omega arith }

series_small : (columns : List Column) (series : Series) (measure : Measure) (paint : Paint) → length columns ≤ 540
    → IsSmall (series_shape columns series measure paint)
series_small columns series measure paint few = record {
  points =
      omega (
        arith,
        line_few measure.base (heights series measure.unit measure.height columns)
            (heights_few series measure.unit measure.height columns few),
      );
  words = omega arith;
}

span_small : (columns : List Column) (lower upper : Series) (measure : Measure) (paint : Paint) → length columns ≤ 540
    → IsSmall (span_shape columns lower upper measure paint)
span_small columns lower upper measure paint few =
    let low = line_points measure.base (heights lower measure.unit measure.height columns) in
    let high = line_points measure.base (heights upper measure.unit measure.height columns) in
    record {
      points =
          omega (
            arith,
            length-append high (reverse low),
            length-reverse low,
            line_few measure.base (heights lower measure.unit measure.height columns)
                (heights_few lower measure.unit measure.height columns few),
            line_few measure.base (heights upper measure.unit measure.height columns)
                (heights_few upper measure.unit measure.height columns few),
          );
      words = omega arith;
    }

limit_small : (limit : ℕ) (gap : Measure) → IsSmall (limit_shape limit gap)
limit_small limit gap = record { points = omega arith; words = omega arith }

-- ---- panels and bands

two_small : (one other : Shape) → IsSmall one → IsSmall other → AreSmallUpTo 2 (one ∷ other ∷ [])
two_small one other p q = record {
  few = omega arith;
  small = All-cons IsSmall one (other ∷ []) p (All-cons IsSmall other [] q (All-nil IsSmall));
}

joined : (most more : ℕ) (xs ys : List Shape) → AreSmallUpTo most xs → AreSmallUpTo more ys
    → AreSmallUpTo (most + more) (xs ++ ys)
joined most more xs ys p q = record {
  few = omega (arith, length-append xs ys, p.few, q.few);
  small = All-append IsSmall xs ys p.small q.small;
}

one_more : (most : ℕ) (x : Shape) (xs : List Shape) → IsSmall x → AreSmallUpTo most xs
    → AreSmallUpTo (most + 1) (x ∷ xs)
one_more most x xs p q = record { few = omega (arith, q.few); small = All-cons IsSmall x xs p q.small }

marks_small : (columns : List Column) (silences : List Span) → length columns ≤ 540
    → AreSmallUpTo 2 (marks columns silences)
marks_small columns silences few =
    two_small _ _
    (area_small paint.Silence SILENCE_BASE (silence_marks silences MARK_HEIGHT 0 columns)
    (omega (arith, silence_len silences MARK_HEIGHT 0 columns)))
    (area_small paint.Hole HOLE_BASE (map (λ (column : Column). height_if MARK_HEIGHT column.missed) columns)
    (simp length-map few))

line_small : (columns : List Column) (silences : List Span) → length columns ≤ 540
    → AreSmallUpTo 6 (line_panel columns silences)
line_small columns silences few =
    let line = measure_for (most_line columns) LINE_HEIGHT LINE_BASE in
    one_more 5 _ _ (span_small columns series.Start series.Line line paint.Written few)
    (one_more 4 _ _ (series_small columns series.Line line paint.Reach few)
    (one_more 3 _ _ (series_small columns series.Fetched line paint.Fetched few)
    (one_more 2 _ _ (series_small columns series.Sent line paint.Sent few) (marks_small columns silences few))))

least_small : (columns : List Column) (least last : Series) (measure : Measure) (paint : Paint)
    → length columns ≤ 540 → AreSmallUpTo 2 (least_panel columns least last measure paint)
least_small columns least last measure paint few =
    two_small _ _ (span_small columns least last measure paint few) (series_small columns least measure paint few)

ahead_small : (columns : List Column) → length columns ≤ 540 → AreSmallUpTo 2 (ahead_panel columns)
ahead_small columns few =
    least_small columns series.LeastAhead series.Ahead
    (measure_for (greatest series.Ahead columns) AHEAD_HEIGHT AHEAD_BASE) paint.Reach few

held_small : (fifo : ℕ) (columns : List Column) → length columns ≤ 540 → AreSmallUpTo 2 (held_panel fifo columns)
held_small fifo columns few =
    least_small columns series.LeastHeld series.Held
    (measure_for (max (greatest series.Held columns) fifo) HELD_HEIGHT HELD_BASE) paint.Fetched few

gap_small : (columns : List Column) (limit : ℕ) → length columns ≤ 540 → AreSmallUpTo 2 (gap_panel columns limit)
gap_small columns limit few =
    let gap = measure_for (most_gap limit columns) GAP_HEIGHT GAP_BASE in
    two_small _ _
    (area_small paint.Sent GAP_BASE (heights series.Gap gap.unit gap.height columns)
    (heights_few series.Gap gap.unit gap.height columns few)) (limit_small limit gap)

kind_small : (columns : List Column) (items : List Heard) (kind : Kind) (paint : Paint) (base : ℕ)
    → length columns ≤ 540 → IsSmall (kind_shape columns items kind paint base)
kind_small columns items kind paint base few =
    area_small paint base (kind_marks kind items 0 columns) (omega (arith, kind_len kind items 0 columns))

band_small : (columns : List Column) (items : List Heard) (base : ℕ) → length columns ≤ 540
    → AreSmallUpTo 4 (band_shapes columns items base)
band_small columns items base few =
    one_more 3 _ _ (kind_small columns items kind.Quiet paint.Quiet base few)
    (one_more 2 _ _ (kind_small columns items kind.Sound paint.Sound base few)
    (two_small _ _ (kind_small columns items kind.Altered paint.Limit base few)
    (kind_small columns items kind.Hole paint.Hole base few)))

bands_small : (columns : List Column) (place : ℕ) (pins : List PinHeard) → length columns ≤ 540
    → AreSmallUpTo (4 * length pins) (bands_from columns place pins)
bands_small columns place [] few = record { few = omega arith; small = All-nil IsSmall }
bands_small columns place (pin ∷ pins) few =
    let more = joined 4 (4 * length pins) (band_shapes columns pin.list (band_base place))
    (bands_from columns (place + 1) pins) (band_small columns pin.list (band_base place) few)
    (bands_small columns (place + 1) pins few) in
    record { few = omega (arith, more.few); small = more.small }

drawn_small : (columns : List Column) (limit : ℕ) (played : Played) → length columns ≤ 540
    → AreSmallUpTo 76 (drawn_in columns limit played)
unfolding drawn_in
drawn_small columns limit played few =
    let line = line_panel columns played.silences in
    let pins = bands_small columns 0 (take 16 played.heard) few in
    let all = joined 12 (4 * length (take 16 played.heard))
    (((line ++ ahead_panel columns) ++ held_panel played.machine.fifo columns) ++ gap_panel columns limit)
    (bands columns 0 played.heard)
    (joined 10 2 ((line ++ ahead_panel columns) ++ held_panel played.machine.fifo columns) (gap_panel columns limit)
    (joined 8 2 (line ++ ahead_panel columns) (held_panel played.machine.fifo columns)
    (joined 6 2 line (ahead_panel columns) (line_small columns played.silences few) (ahead_small columns few))
    (held_small played.machine.fifo columns few)) (gap_small columns limit few)) pins in
    record { few = omega (arith, all.few, length-take 16 played.heard); small = all.small }

-- ---- what stands behind

shape_behind : (s : Shape) → is_behind s ≡ true → IsSmall s
shape_behind (shape.Text colour anchor at text) p = record {
  points = omega arith;
  words = leb-true (length text) 160
      p;
}
shape_behind (shape.Line colour from to) p = record { points = omega arith; words = omega arith }
shape_behind (shape.Rect colour at width height) p = record { points = omega arith; words = omega arith }
shape_behind (shape.Trail colour points) p = cc
shape_behind (shape.Area colour points) p = cc
shape_behind (shape.Hint colour at width height text) p = cc

none_of : (b rest : Bool) → not (not b || rest) ≡ true → (b ≡ true) × (not rest ≡ true)
none_of true rest p = (refl, p)
none_of false rest p = cc

all_behind : (shapes : List Shape) → not (list_any (λ s. not (is_behind s)) shapes) ≡ true → All IsSmall shapes
all_behind [] p = All-nil IsSmall
all_behind (s ∷ shapes) p =
    let parts = none_of (is_behind s) (list_any (λ t. not (is_behind t)) shapes) p in
    All-cons IsSmall s shapes (shape_behind s parts.0) (all_behind shapes parts.1)

both : (a b : Bool) → (a && b) ≡ true → (a ≡ true) × (b ≡ true)
both true b p = (refl, p)
both false b p = cc

behind_small : (shapes : List Shape) → are_behind shapes ≡ true → AreSmallUpTo 240 shapes
behind_small shapes p =
    let parts = both (nat_le (length shapes) 240) (not (list_any (λ s. not (is_behind s)) shapes)) p in
    record { few = leb-true (length shapes) 240 parts.0; small = all_behind shapes parts.1 }

-- ---- columns

noted_len : (chart : ChartState) (moments : List Meter)
    → length (fold chart_noted chart moments).columns ≡ length chart.columns
noted_len chart [] = refl
noted_len chart (moment ∷ moments) = noted_len (chart_noted chart moment) moments ∙ length-set _ _ _

columns_few : (first last : ℕ) → columns_of first last ≤ 540
columns_few first last = omega arith

columns_in_few : (played : Played) → length (columns_in played) ≤ 540
columns_in_few played =
    let extent = extent_in played in
    let count = columns_of extent.first extent.last in
    let chart = chart_empty extent.first (per_column extent.first extent.last) count played.runs
    (late_ticks played.fault) in
    omega (
      arith,
      noted_len chart (moments played.format played.machine.fifo played.journal.entries),
      length-replicate count column_empty,
      columns_few extent.first extent.last,
    )

-- ---- the picture

pub shapes_small : (seen : Bool) (behind drawn : List Shape) → AreSmallUpTo 240 behind → AreSmallUpTo 76 drawn
    → AreSmall (behind ++ (if seen then drawn else []))
shapes_small true behind drawn p q =
    let all = joined 240 76 behind drawn p q in record { few = all.few; small = all.small }
shapes_small false behind drawn p q =
    let all = joined 240 0 behind [] p (record { few = omega arith; small = All-nil IsSmall }) in
    record { few = omega (arith, all.few); small = all.small }

pub picture_small : (played : Played) (picture : Picture) → IsPictureOf played picture → AreSmall picture.shapes
picture_small played picture is =
    let small = shapes_small (extent_in played).seen is.behind (drawn_in (columns_in played) (limit_in played) played)
    (behind_small is.behind is.few)
    (drawn_small (columns_in played) (limit_in played) played (columns_in_few played)) in
    subst AreSmall (sym is.shapes) small
