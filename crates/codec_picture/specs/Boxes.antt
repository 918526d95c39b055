-- The boxes in a picture of a codec. This project's own.
use Rattle.std.specs.Prelude.{◌+◌, ◌<◌, ◌⊎◌, Bool, true, false}
use Rattle.svg_text.specs.declared.shapes.Paint.{Paint}
use Rattle.svg_text.specs.declared.shapes.Paint.TheVariants as paint
use Rattle.svg_text.specs.declared.shapes.Point.{Point}
use Rattle.svg_text.specs.declared.shapes.Shape.{Shape}
use Rattle.svg_text.specs.declared.shapes.Shape.TheVariants as shape
use Rattle.codec_picture.specs.declared.columns.TheConstants.{BOX_WIDTH, BOX_HEIGHT}

-- whether a paint is that of boxes
abbrev pub is_for_boxes : Paint → Bool
is_for_boxes paint.Box = true
is_for_boxes _ = false

-- whether a shape is the box of a widget
abbrev pub is_box : Shape → Bool
is_box (shape.Hint colour at width height text) = is_for_boxes colour
is_box (shape.Rect colour at width height) = false
is_box (shape.Line colour from to) = false
is_box (shape.Trail colour points) = false
is_box (shape.Area colour points) = false
is_box (shape.Text colour anchor at text) = false

-- two boxes with these upper left corners have no place in common: one ends further left, or further up, than the other
-- begins
abbrev pub AreApart : (one other : Point) → Type 0
AreApart one other =
    (one.x + BOX_WIDTH < other.x)
    ⊎ ((other.x + BOX_WIDTH < one.x) ⊎ ((one.y + BOX_HEIGHT < other.y) ⊎ (other.y + BOX_HEIGHT < one.y)))
