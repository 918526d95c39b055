-- How large a picture is. This project's own.
use Rattle.std.specs.Prelude.{◌≤◌, ℕ, List, All, length}
use Rattle.svg_text.specs.declared.shapes.Shape.{Shape}
use Rattle.svg_text.specs.declared.shapes.Shape.TheVariants as shape

-- a shape has few points and words
abbrev pub points_of : Shape → ℕ
points_of (shape.Trail colour points) = length points
points_of (shape.Area colour points) = length points
points_of (shape.Text colour anchor at text) = 0
points_of (shape.Line colour from to) = 0
points_of (shape.Rect colour at width height) = 0
points_of (shape.Hint colour at width height text) = 0

abbrev pub words_of : Shape → ℕ
words_of (shape.Text colour anchor at text) = length text
words_of (shape.Hint colour at width height text) = length text
words_of (shape.Trail colour points) = 0
words_of (shape.Area colour points) = 0
words_of (shape.Line colour from to) = 0
words_of (shape.Rect colour at width height) = 0

pub record IsSmall (shape : Shape) : Type 0 where
  pub points : points_of shape ≤ 2164
  pub words : words_of shape ≤ 160

-- few shapes, and each of them small: as text in SVG less than 2,000,000 bytes, since a point has at most 10
pub record AreSmall (shapes : List Shape) : Type 0 where
  pub few : length shapes ≤ 316
  pub small : All IsSmall shapes
