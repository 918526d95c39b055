-- How long the text of a picture is at most, where its numbers have no more than five digits. This project's own.
use Rattle.std.specs.Prelude.{ℕ, ◌+◌, ◌*◌, length, sum_by}
use Rattle.svg_text.specs.declared.shapes.Picture.{Picture}
use Rattle.svg_text.specs.declared.shapes.Shape.{Shape}
use Rattle.svg_text.specs.declared.shapes.Shape.TheVariants as shape

-- the greatest number of five digits
abbrev pub most_number : ℕ
most_number = 99999

-- how many bytes the element of a shape has at most: twelve for each point, and six for each byte of a text
abbrev pub most_bytes : Shape → ℕ
most_bytes (shape.Rect colour at width height) = 100
most_bytes (shape.Line colour from to) = 100
most_bytes (shape.Trail colour points) = 60 + 12 * length points
most_bytes (shape.Area colour points) = 60 + 12 * length points
most_bytes (shape.Text colour anchor at text) = 100 + 6 * length text
most_bytes (shape.Hint colour at width height text) = 140 + 6 * length text

-- how many bytes a picture has at most
abbrev pub most_picture_bytes : Picture → ℕ
most_picture_bytes picture = 4096 + 6 * length picture.title + sum_by most_bytes picture.shapes
