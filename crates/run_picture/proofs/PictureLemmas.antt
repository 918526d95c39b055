-- The picture of a run, from the parts that make it.
use Rattle.std.proofs.Common.{◌≡◌, ℕ, Bool, true, false, List, [], ◌++◌, fold, refl, subst, append_assoc}
use Rattle.std.specs.Prelude.{if◌then◌else◌}
use Rattle.sound_report.specs.declared.played.Played.{Played}
use Rattle.svg_text.specs.declared.shapes.Picture.{Picture}
use Rattle.svg_text.specs.declared.shapes.Shape.{Shape}
use Rattle.run_picture.specs.declared.meter.Meter.{Meter}
use Rattle.run_picture.specs.declared.windows.Extent.{Extent}
use Rattle.run_picture.specs.Charts.{ChartState, chart_empty, chart_noted, chart_of}
use Rattle.run_picture.specs.Moments.{moments}
use Rattle.run_picture.specs.Panels.{limit_ticks}
use Rattle.run_picture.specs.Pictures.{IsPicture, columns_in, drawn_in, extent_in, height_of, late_ticks, limit_in}
use Rattle.run_picture.specs.Pictures.{meter_in}
use Rattle.run_picture.specs.Windows.{columns_of, per_column}

-- shapes after shapes
regroup : (s0 line ahead held gap pins : List Shape)
    → (((s0 ++ line) ++ (ahead ++ held)) ++ gap) ++ pins ≡ s0 ++ ((((line ++ ahead) ++ held) ++ gap) ++ pins)
regroup s0 line ahead held gap pins = simp append_assoc

pub joined : (s0 s1 s2 s3 s4 line ahead held gap pins : List Shape) → s1 ≡ s0 ++ line → s2 ≡ s1 ++ (ahead ++ held)
    → s3 ≡ s2 ++ gap → s4 ≡ s3 ++ pins → s4 ≡ s0 ++ ((((line ++ ahead) ++ held) ++ gap) ++ pins)
joined s0 s1 s2 s3 s4 line ahead held gap pins e1 e2 e3 e4 = rw (e4, e3, e2, e1) (regroup s0 line ahead held gap pins)

-- a chart of the frames in which the stream ran is that of the run
pub drawn_same : (played : Played) (extent : Extent) (meter : Meter) (first per columns : ℕ)
    → extent ≡ extent_in played → meter ≡ meter_in played → first ≡ extent.first
    → per ≡ per_column extent.first extent.last → columns ≡ columns_of extent.first extent.last
    → drawn_in (fold chart_noted (chart_empty first per columns played.runs (late_ticks played.fault))
    (moments played.format played.machine.fifo played.journal.entries)).columns
    (limit_ticks played.format meter.ring played.machine.fifo) played
    ≡ drawn_in (columns_in played) (limit_in played) played
drawn_same played extent meter first per columns ee em ef ep ec = rw (ef, ep, ec, ee, em) refl

-- by whether the stream ran
pub picture_if : (seen seen' : Bool) (height height' : ℕ) (drawn drawn' : List Shape) (picture : Picture)
    → seen' ≡ seen → seen ≡ true → drawn ≡ drawn' → IsPicture height drawn picture
    → IsPicture (if seen' then height else height') (if seen' then drawn' else []) picture
picture_if seen seen' height height' drawn drawn' picture e is same p =
    rw (e, is) (subst (λ (d : List Shape). IsPicture height d picture) same p)

pub picture_unless : (seen seen' : Bool) (height height' : ℕ) (drawn : List Shape) (picture : Picture)
    → seen' ≡ seen → seen ≡ false → IsPicture height' [] picture
    → IsPicture (if seen' then height else height') (if seen' then drawn else []) picture
picture_unless seen seen' height height' drawn picture e is p = rw (e, is) p
