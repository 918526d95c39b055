-- What pins heard, column by column. This project's own.
use Rattle.std.specs.Prelude.{ℕ, ◌+◌, ◌*◌, Bool, true, false, min, max, List, [], ◌∷◌, ◌++◌, length, slice_range, take}
use Rattle.std.specs.List.{list_any}
use Rattle.heard_frames.specs.declared.heard.Heard.{Heard}
use Rattle.heard_lists.specs.declared.stretches.Kind.{Kind}
use Rattle.heard_lists.specs.declared.stretches.Kind.TheVariants as kind
use Rattle.heard_lists.specs.declared.pin_list.PinHeard.{PinHeard}
use Rattle.heard_lists.specs.Stretches.{kind_of, is_same}
use Rattle.svg_text.specs.declared.shapes.Paint.{Paint}
use Rattle.svg_text.specs.declared.shapes.Paint.TheVariants as paint
use Rattle.svg_text.specs.declared.shapes.Shape.{Shape}
use Rattle.svg_text.specs.declared.shapes.Shape.TheVariants as shape
use Rattle.run_picture.specs.declared.columns.Column.{Column}
use Rattle.run_picture.specs.declared.bands.TheConstants.{BAND, PITCH, BANDS}
use Rattle.run_picture.specs.Scales.{height_if}
use Rattle.run_picture.specs.Series.{area_points}

abbrev pub is_of : Kind → Heard → Bool
is_of kind heard = is_same kind (kind_of heard)

abbrev pub has_kind : Kind → List Heard → Bool
has_kind kind items = list_any (is_of kind) items

-- up to which of so many items a column goes, from one on: up to as many as there were at its last moment
abbrev pub until : (from items : ℕ) → Column → ℕ
until from items column = max (min column.items items) from

-- marks at the columns in which a pin heard something of a kind, from an item on
abbrev pub kind_marks : Kind → List Heard → (from : ℕ) → List Column → List ℕ
kind_marks kind items from [] = []
kind_marks kind items from (column ∷ columns) =
    height_if BAND (has_kind kind (slice_range items from (until from (length items) column)))
    ∷ kind_marks kind items (until from (length items) column) columns

abbrev pub kind_shape : List Column → List Heard → Kind → Paint → (base : ℕ) → Shape
kind_shape columns items kind paint base = shape.Area paint (area_points base (kind_marks kind items 0 columns))

-- the band of a pin that heard these items: quiet, sound, what is not followed, and holes over them
abbrev pub band_shapes : List Column → List Heard → (base : ℕ) → List Shape
band_shapes columns items base =
    kind_shape columns items kind.Quiet paint.Quiet base
    ∷ kind_shape columns items kind.Sound paint.Sound base
    ∷ kind_shape columns items kind.Altered paint.Limit base
    ∷ kind_shape columns items kind.Hole paint.Hole base ∷ []

abbrev pub band_base : (place : ℕ) → ℕ
band_base place = BANDS + PITCH * place

abbrev pub band_count : List PinHeard → ℕ
band_count pins = min (length pins) 16

-- the bands of pins, the first of which has a number
abbrev pub bands_from : List Column → (place : ℕ) → List PinHeard → List Shape
bands_from columns place [] = []
bands_from columns place (pin ∷ pins) =
    band_shapes columns pin.list (band_base place) ++ bands_from columns (place + 1) pins

-- those of the first sixteen pins, of which a machine has no more
abbrev pub bands : List Column → (place : ℕ) → List PinHeard → List Shape
bands columns place pins = bands_from columns place (take 16 pins)
