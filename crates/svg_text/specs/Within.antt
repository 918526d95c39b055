-- Pictures whose numbers are no greater than one. This project's own.
use Rattle.std.specs.Prelude.{ℕ, ◌≤◌, All}
use Rattle.svg_text.specs.declared.shapes.Picture.{Picture}
use Rattle.svg_text.specs.declared.shapes.Point.{Point}
use Rattle.svg_text.specs.declared.shapes.Shape.{Shape}
use Rattle.svg_text.specs.declared.shapes.Shape.TheVariants as shape

pub record IsPointWithin (most : ℕ) (point : Point) : Type 0 where
  pub x : point.x ≤ most
  pub y : point.y ≤ most

pub record IsBoxWithin (most : ℕ) (at : Point) (width height : ℕ) : Type 0 where
  pub corner : IsPointWithin most at
  pub width_is : width ≤ most
  pub height_is : height ≤ most

-- a shape's places and sizes
abbrev pub IsWithin : (most : ℕ) → Shape → Type 0
IsWithin most (shape.Rect colour at width height) = IsBoxWithin most at width height
IsWithin most (shape.Line colour from to) = IsPointWithin most from × IsPointWithin most to
IsWithin most (shape.Trail colour points) = All (IsPointWithin most) points
IsWithin most (shape.Area colour points) = All (IsPointWithin most) points
IsWithin most (shape.Text colour anchor at text) = IsPointWithin most at
IsWithin most (shape.Hint colour at width height text) = IsBoxWithin most at width height

-- those of a picture
pub record IsPictureWithin (most : ℕ) (picture : Picture) : Type 0 where
  pub width_is : picture.width ≤ most
  pub height_is : picture.height ≤ most
  pub shapes : All (IsWithin most) picture.shapes
