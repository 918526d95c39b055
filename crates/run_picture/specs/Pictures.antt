-- The picture of a run. This project's own.
use Rattle.std.specs.Prelude.{◌≡◌, ℕ, ◌+◌, ◌-◌, ◌%◌, ◌^◌, ◌==◌, ◌&&◌, Bool, true, false, not, nat_le, List, [], ◌∷◌}
use Rattle.std.specs.Prelude.{◌++◌, length}
use Rattle.std.specs.Prelude.{Option, Some, None, if◌then◌else◌}
use Rattle.std.specs.List.{list_any}
use Rattle.sound_report.specs.declared.played.Played.{Played}
use Rattle.sound_report.specs.declared.played.PlayFault.{PlayFault}
use Rattle.sound_report.specs.declared.played.PlayFault.TheVariants.{Unanswered, Late, CommandsLeft, FramesLeft}
use Rattle.svg_text.specs.declared.shapes.Picture.{Picture}
use Rattle.svg_text.specs.declared.shapes.Shape.{Shape}
use Rattle.svg_text.specs.declared.shapes.Shape.TheVariants as shape
use Rattle.run_picture.specs.declared.columns.Column.{Column}
use Rattle.run_picture.specs.declared.meter.Meter.{Meter}
use Rattle.run_picture.specs.declared.windows.Extent.{Extent}
use Rattle.run_picture.specs.declared.whole.TheConstants.{PICTURE_WIDTH, PLAIN_HEIGHT, MOST_BEHIND, MOST_WORDS}
use Rattle.run_picture.specs.Bands.{band_base, band_count, bands}
use Rattle.run_picture.specs.Charts.{chart_of, extent_of}
use Rattle.run_picture.specs.Moments.{meter_after}
use Rattle.run_picture.specs.Panels.{ahead_panel, gap_panel, held_panel, limit_ticks, line_panel}

-- how many ticks a run took that was too late
abbrev pub late_ticks : Option PlayFault → ℕ
late_ticks None = 0
late_ticks (Some (Late from to limit)) = (to + (2 ^ 32 - from)) % 2 ^ 32
late_ticks (Some (Unanswered codec command issued noticed)) = 0
late_ticks (Some (CommandsLeft sent of)) = 0
late_ticks (Some (FramesLeft written heard of)) = 0

-- ---- what stands behind: few words, straight lines and rectangles

abbrev pub is_behind : Shape → Bool
is_behind (shape.Text colour anchor at text) = nat_le (length text) MOST_WORDS
is_behind (shape.Line colour from to) = true
is_behind (shape.Rect colour at width height) = true
is_behind (shape.Trail colour points) = false
is_behind (shape.Area colour points) = false
is_behind (shape.Hint colour at width height text) = false

abbrev pub are_behind : List Shape → Bool
are_behind shapes = nat_le (length shapes) MOST_BEHIND && not (list_any (λ shape. not (is_behind shape)) shapes)

-- ---- what is drawn

-- the height of the picture of a run that played: all bands stand in it
abbrev pub height_by : (bands : ℕ) → ℕ
height_by bands = if bands == 0 then band_base 0 else band_base (bands - 1) + 30

abbrev pub height_of : Played → ℕ
height_of played = height_by (band_count played.heard)

-- the panels and bands of these columns
unfoldable pub drawn_in : List Column → (limit : ℕ) → Played → List Shape
drawn_in columns limit played =
    line_panel columns played.silences ++ ahead_panel columns ++ held_panel played.machine.fifo columns
    ++ gap_panel columns limit
    ++ bands columns 0 played.heard

-- from which link frame to which the stream ran, and where it stood at the end of the journal
abbrev pub extent_in : Played → Extent
extent_in played = extent_of played.format played.machine.fifo played.journal.entries

abbrev pub meter_in : Played → Meter
meter_in played = meter_after played.format played.machine.fifo played.journal.entries

-- the columns of a run's moments
abbrev pub columns_in : Played → List Column
columns_in played =
    (chart_of played.format played.machine.fifo played.journal.entries played.runs (late_ticks played.fault)).columns

abbrev pub limit_in : Played → ℕ
limit_in played = limit_ticks played.format (meter_in played).ring played.machine.fifo

-- ---- the picture

-- a picture of this height has words, straight lines and rectangles, and these shapes over them
pub record IsPicture (height : ℕ) (drawn : List Shape) (picture : Picture) : Type 0 where
  pub width : picture.width ≡ PICTURE_WIDTH
  pub height_is : picture.height ≡ height
  pub behind : List Shape
  pub few : are_behind behind ≡ true
  pub shapes : picture.shapes ≡ behind ++ drawn

-- the picture of a run: panels and bands where the stream ran, and words alone where it never did
abbrev pub IsPictureOf : Played → Picture → Type 0
IsPictureOf played picture =
    IsPicture (if (extent_in played).seen then height_of played else PLAIN_HEIGHT)
    (if (extent_in played).seen then drawn_in (columns_in played) (limit_in played) played else []) picture
