-- The elements of shapes (SVG 1.1, chapters 9 and 10). This project's own.
use Rattle.std.specs.Prelude.{ℕ, List, ◌++◌, ◌%◌, codes, decimal}
use Rattle.std.specs.List.{flat_map}
use Rattle.svg_text.specs.declared.shapes.Anchor.{Anchor}
use Rattle.svg_text.specs.declared.shapes.Anchor.TheVariants as anchor
use Rattle.svg_text.specs.declared.shapes.Paint.{Paint}
use Rattle.svg_text.specs.declared.shapes.Paint.TheVariants as paint
use Rattle.svg_text.specs.declared.shapes.Point.{Point}
use Rattle.svg_text.specs.declared.shapes.Shape.{Shape}
use Rattle.svg_text.specs.declared.shapes.Shape.TheVariants as shape
use Rattle.svg_text.specs.Escapes.{escaped}

-- ---- attributes

abbrev pub attribute : (name value : List ℕ) → List ℕ
attribute name value = codes " " ++ name ++ codes "=\"" ++ value ++ codes "\""

-- one that is a number
abbrev pub count : (name : List ℕ) → ℕ → List ℕ
count name value = attribute name (decimal value)

-- the class of a route of a number: one of eight
abbrev pub route_class : ℕ → List ℕ
route_class number = codes "route" ++ decimal (number % 8)

-- the class of a paint
abbrev pub class_of : Paint → List ℕ
class_of paint.Ink = codes "ink"
class_of paint.Faint = codes "faint"
class_of paint.Box = codes "box"
class_of paint.Edge = codes "edge"
class_of paint.Grid = codes "grid"
class_of (paint.Route number) = route_class number
class_of paint.Blocked = codes "blocked"
class_of paint.Pathless = codes "pathless"
class_of paint.Sent = codes "sent"
class_of paint.Fetched = codes "fetched"
class_of paint.Reach = codes "reach"
class_of paint.Written = codes "written"
class_of paint.Silence = codes "silence"
class_of paint.Hole = codes "hole"
class_of paint.Limit = codes "limit"
class_of paint.Sound = codes "sound"
class_of paint.Quiet = codes "quiet"

abbrev pub anchor_word : Anchor → List ℕ
anchor_word anchor.Start = codes "start"
anchor_word anchor.Middle = codes "middle"
anchor_word anchor.End = codes "end"

abbrev pub place : Point → List ℕ
place at = count (codes "x") at.x ++ count (codes "y") at.y

abbrev pub extent : (width height : ℕ) → List ℕ
extent width height = count (codes "width") width ++ count (codes "height") height

abbrev pub point_text : Point → List ℕ
point_text point = decimal point.x ++ codes "," ++ decimal point.y ++ codes " "

-- ---- elements

-- the front of an element, up to its class
abbrev pub front : (name : List ℕ) → Paint → List ℕ
front name paint = codes "<" ++ name ++ attribute (codes "class") (class_of paint)

abbrev pub rect_front : Paint → Point → (width height : ℕ) → List ℕ
rect_front paint at width height = front (codes "rect") paint ++ place at ++ extent width height

abbrev pub line_text : Paint → (from to : Point) → List ℕ
line_text paint from to =
    front (codes "line") paint ++ count (codes "x1") from.x ++ count (codes "y1") from.y
    ++ count (codes "x2") to.x ++ count (codes "y2") to.y ++ codes "/>\n"

abbrev pub along_text : (name : List ℕ) → Paint → List Point → List ℕ
along_text name paint points =
    front name paint ++ attribute (codes "points") (flat_map point_text points) ++ codes "/>\n"

abbrev pub words_text : Paint → Anchor → Point → (words : List ℕ) → List ℕ
words_text paint anchor at words =
    front (codes "text") paint ++ attribute (codes "text-anchor") (anchor_word anchor) ++ place at ++ codes ">"
    ++ escaped words ++ codes "</text>\n"

abbrev pub title_text : (words : List ℕ) → List ℕ
title_text words = codes "<title>" ++ escaped words ++ codes "</title>"

abbrev pub hint_end : (words : List ℕ) → List ℕ
hint_end words = codes ">" ++ title_text words ++ codes "</rect>\n"

abbrev pub shape_text : Shape → List ℕ
shape_text (shape.Rect paint at width height) = rect_front paint at width height ++ codes "/>\n"
shape_text (shape.Line paint from to) = line_text paint from to
shape_text (shape.Trail paint points) = along_text (codes "polyline") paint points
shape_text (shape.Area paint points) = along_text (codes "polygon") paint points
shape_text (shape.Text paint anchor at text) = words_text paint anchor at text
shape_text (shape.Hint paint at width height text) =
    rect_front paint at width height ++ hint_end text
