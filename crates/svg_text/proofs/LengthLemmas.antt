-- How long the texts of shapes are.
use Rattle.std.proofs.Common.{◌≡◌, ℕ, ◌+◌, ◌*◌, ◌≤◌, ◌<◌, ◌%◌, List, [], ◌∷◌, ◌++◌, length, codes, arith, length-append, lit<, lit≤}
use Rattle.std.specs.Prelude.{All, decimal, sum_by}
use Rattle.std.specs.List.{flat_map}
use Rattle.std.proofs.lemmas.Fmt.{length-decimal-le}
use Rattle.std.proofs.lemmas.List.Elements.{All-head, All-tail}
use Rattle.std.proofs.lemmas.List.Sums.{sum_by-cons}
use Rattle.svg_text.specs.declared.shapes.Anchor.{Anchor}
use Rattle.svg_text.specs.declared.shapes.Anchor.TheVariants as anchor
use Rattle.svg_text.specs.declared.shapes.Paint.{Paint}
use Rattle.svg_text.specs.declared.shapes.Paint.TheVariants as paint
use Rattle.svg_text.specs.declared.shapes.Picture.{Picture}
use Rattle.svg_text.specs.declared.shapes.Point.{Point}
use Rattle.svg_text.specs.declared.shapes.Shape.{Shape}
use Rattle.svg_text.specs.declared.shapes.Shape.TheVariants as shape
use Rattle.svg_text.specs.declared.style.TheConstants.{STYLE}
use Rattle.svg_text.specs.Escapes.{byte_text, escaped}
use Rattle.svg_text.specs.Lengths.{most_bytes, most_number, most_picture_bytes}
use Rattle.svg_text.specs.Pictures.{head_text, picture_text, root_text, view_text}
use Rattle.svg_text.specs.Shapes.{along_text, anchor_word, attribute, class_of, count, extent, front, hint_end, place, point_text, rect_front, shape_text, title_text}
use Rattle.svg_text.specs.Within.{IsBoxWithin, IsPictureWithin, IsPointWithin, IsWithin}

len_3 : (a b c : List ℕ) → length (a ++ b ++ c) ≡ length a + length b + length c
len_3 a b c = omega (arith, length-append (a ++ b) c, length-append a b)

len_4 : (a b c d : List ℕ) → length (a ++ b ++ c ++ d) ≡ length a + length b + length c + length d
len_4 a b c d = omega (arith, length-append (a ++ b ++ c) d, len_3 a b c)

len_5 : (a b c d e : List ℕ) → length (a ++ b ++ c ++ d ++ e) ≡ length a + length b + length c + length d + length e
len_5 a b c d e = omega (arith, length-append (a ++ b ++ c ++ d) e, len_4 a b c d)

len_6 : (a b c d e f : List ℕ) → length (a ++ b ++ c ++ d ++ e ++ f) ≡ length a + length b + length c + length d + length e + length f
len_6 a b c d e f = omega (arith, length-append (a ++ b ++ c ++ d ++ e) f, len_5 a b c d e)

len_7 : (a b c d e f g : List ℕ) → length (a ++ b ++ c ++ d ++ e ++ f ++ g) ≡ length a + length b + length c + length d + length e + length f + length g
len_7 a b c d e f g = omega (arith, length-append (a ++ b ++ c ++ d ++ e ++ f) g, len_6 a b c d e f)

-- ---- words and numbers

number_short : (n : ℕ) → n ≤ most_number → length (decimal n) ≤ 5
number_short n small = length-decimal-le 5 n (lit< tt) (omega (arith, small)) (omega (arith, small))

digit_short : (n : ℕ) → n < 8 → length (decimal n) ≤ 1
digit_short n small = length-decimal-le 1 n (lit< tt) (omega (arith, small)) (omega (arith, small))

attribute_length : (name value : List ℕ) → length (attribute name value) ≡ length name + length value + 4
attribute_length name value = omega (arith, len_5 (codes " ") name (codes "=\"") value (codes "\""))

count_short : (name : List ℕ) (n : ℕ) → n ≤ most_number → length (count name n) ≤ length name + 9
count_short name n small = omega (arith, attribute_length name (decimal n), number_short n small)

class_short : (paint : Paint) → length (class_of paint) ≤ 8
class_short paint.Ink = lit≤ tt
class_short paint.Faint = lit≤ tt
class_short paint.Box = lit≤ tt
class_short paint.Edge = lit≤ tt
class_short paint.Grid = lit≤ tt
class_short (paint.Route number) = omega (arith, length-append (codes "route") (decimal (number % 8)), digit_short (number % 8) (omega arith))
class_short paint.Blocked = lit≤ tt
class_short paint.Pathless = lit≤ tt
class_short paint.Sent = lit≤ tt
class_short paint.Fetched = lit≤ tt
class_short paint.Reach = lit≤ tt
class_short paint.Written = lit≤ tt
class_short paint.Silence = lit≤ tt
class_short paint.Hole = lit≤ tt
class_short paint.Limit = lit≤ tt
class_short paint.Sound = lit≤ tt
class_short paint.Quiet = lit≤ tt

anchor_short : (anchor : Anchor) → length (anchor_word anchor) ≤ 6
anchor_short anchor.Start = lit≤ tt
anchor_short anchor.Middle = lit≤ tt
anchor_short anchor.End = lit≤ tt

byte_short : (byte : ℕ) → length (byte_text byte) ≤ 6
byte_short byte = grind arith

escaped_short : (text : List ℕ) → length (escaped text) ≤ 6 * length text
escaped_short [] = omega arith
escaped_short (byte ∷ text) = omega (arith, length-append (byte_text byte) (escaped text), byte_short byte, escaped_short text)

-- ---- parts of elements

front_short : (name : List ℕ) (paint : Paint) → length (front name paint) ≤ length name + 18
front_short name paint = omega (arith, len_3 (codes "<") name (attribute (codes "class") (class_of paint)), attribute_length (codes "class") (class_of paint), class_short paint)

place_short : (at : Point) → IsPointWithin most_number at → length (place at) ≤ 20
place_short at within =
    omega (arith, length-append (count (codes "x") at.x) (count (codes "y") at.y), count_short (codes "x") at.x within.x, count_short (codes "y") at.y within.y)

extent_short : (width height : ℕ) → width ≤ most_number → height ≤ most_number → length (extent width height) ≤ 29
extent_short width height w h =
    omega (arith, length-append (count (codes "width") width) (count (codes "height") height), count_short (codes "width") width w, count_short (codes "height") height h)

rect_short : (paint : Paint) (at : Point) (width height : ℕ) → IsBoxWithin most_number at width height → length (rect_front paint at width height) ≤ 71
rect_short paint at width height within =
    omega (arith, len_3 (front (codes "rect") paint) (place at) (extent width height), front_short (codes "rect") paint, place_short at within.corner, extent_short width height within.width_is within.height_is)

point_short : (point : Point) → IsPointWithin most_number point → length (point_text point) ≤ 12
point_short point within =
    omega (arith, len_4 (decimal point.x) (codes ",") (decimal point.y) (codes " "), number_short point.x within.x, number_short point.y within.y)

points_short : (points : List Point) → All (IsPointWithin most_number) points → length (flat_map point_text points) ≤ 12 * length points
points_short [] within = omega arith
points_short (point ∷ points) within =
    omega (
      arith,
      length-append (point_text point) (flat_map point_text points),
      point_short point (All-head (IsPointWithin most_number) point points within),
      points_short points (All-tail (IsPointWithin most_number) point points within),
    )

along_short : (name : List ℕ) (paint : Paint) (points : List Point) → length name ≤ 8 → All (IsPointWithin most_number) points → length (along_text name paint points) ≤ 60 + 12 * length points
along_short name paint points short within =
    omega (
      arith,
      len_3 (front name paint) (attribute (codes "points") (flat_map point_text points)) (codes "/>\n"),
      front_short name paint,
      short,
      attribute_length (codes "points") (flat_map point_text points),
      points_short points within,
    )

title_short : (words : List ℕ) → length (title_text words) ≤ 15 + 6 * length words
title_short words = omega (arith, len_3 (codes "<title>") (escaped words) (codes "</title>"), escaped_short words)

hint_short : (words : List ℕ) → length (hint_end words) ≤ 30 + 6 * length words
hint_short words = omega (arith, len_3 (codes ">") (title_text words) (codes "</rect>\n"), title_short words)

-- ---- elements

shape_short : (shape : Shape) → IsWithin most_number shape → length (shape_text shape) ≤ most_bytes shape
shape_short (shape.Rect paint at width height) within =
    omega (arith, length-append (rect_front paint at width height) (codes "/>\n"), rect_short paint at width height within)
shape_short (shape.Line paint from to) within =
    omega (
      arith,
      len_6 (front (codes "line") paint) (count (codes "x1") from.x) (count (codes "y1") from.y) (count (codes "x2") to.x) (count (codes "y2") to.y) (codes "/>\n"),
      front_short (codes "line") paint,
      count_short (codes "x1") from.x within.0.x,
      count_short (codes "y1") from.y within.0.y,
      count_short (codes "x2") to.x within.1.x,
      count_short (codes "y2") to.y within.1.y,
    )
shape_short (shape.Trail paint points) within = along_short (codes "polyline") paint points (lit≤ tt) within
shape_short (shape.Area paint points) within = along_short (codes "polygon") paint points (lit≤ tt) within
shape_short (shape.Text paint anchor at text) within =
    omega (
      arith,
      len_6 (front (codes "text") paint) (attribute (codes "text-anchor") (anchor_word anchor)) (place at) (codes ">") (escaped text) (codes "</text>\n"),
      front_short (codes "text") paint,
      attribute_length (codes "text-anchor") (anchor_word anchor),
      anchor_short anchor,
      place_short at within,
      escaped_short text,
    )
shape_short (shape.Hint paint at width height text) within =
    omega (arith, length-append (rect_front paint at width height) (hint_end text), rect_short paint at width height within, hint_short text)

shapes_short : (shapes : List Shape) → All (IsWithin most_number) shapes → length (flat_map shape_text shapes) ≤ sum_by most_bytes shapes
shapes_short [] within = omega arith
shapes_short (shape ∷ shapes) within =
    let whole : length (flat_map shape_text (shape ∷ shapes)) ≡ length (shape_text shape) + length (flat_map shape_text shapes) = length-append (shape_text shape) (flat_map shape_text shapes) in
    let most : sum_by most_bytes (shape ∷ shapes) ≡ most_bytes shape + sum_by most_bytes shapes = sum_by-cons most_bytes shape shapes in
    let first = shape_short shape (All-head (IsWithin most_number) shape shapes within) in
    let rest = shapes_short shapes (All-tail (IsWithin most_number) shape shapes within) in
    omega (arith, whole, most, first, rest)

-- ---- a picture

style_short : length STYLE.now ≤ 3000
style_short = lit≤ tt

view_short : (width height : ℕ) → width ≤ most_number → height ≤ most_number → length (view_text width height) ≤ 30
view_short width height w h =
    omega (
      arith,
      attribute_length (codes "viewBox") (codes "0 0 " ++ decimal width ++ codes " " ++ decimal height),
      len_4 (codes "0 0 ") (decimal width) (codes " ") (decimal height),
      number_short width w,
      number_short height h,
    )

root_short : (width height : ℕ) → width ≤ most_number → height ≤ most_number → length (root_text width height) ≤ 120
root_short width height w h =
    omega (
      arith,
      len_4 (codes "<svg xmlns=\"http://www.w3.org/2000/svg\" role=\"img\"") (extent width height) (view_text width height) (codes ">\n"),
      extent_short width height w h,
      view_short width height w h,
    )

head_short : (picture : Picture) → IsPictureWithin most_number picture → length (head_text picture) ≤ 4000 + 6 * length picture.title
unfolding head_text
head_short picture within =
    omega (
      arith,
      len_7 (root_text picture.width picture.height) (title_text picture.title) (codes "\n<style>") STYLE.now (codes "</style>\n<rect class=\"ground\"")
          (extent picture.width picture.height) (codes "/>\n"),
      root_short picture.width picture.height within.width_is within.height_is,
      title_short picture.title,
      style_short,
      extent_short picture.width picture.height within.width_is within.height_is,
    )

pub picture_short : (picture : Picture) → IsPictureWithin most_number picture → length (picture_text picture) ≤ most_picture_bytes picture
picture_short picture within =
    omega (arith, len_3 (head_text picture) (flat_map shape_text picture.shapes) (codes "</svg>\n"), head_short picture within, shapes_short picture.shapes within.shapes)
