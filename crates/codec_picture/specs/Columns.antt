-- Where the boxes of widgets lie: converters at the left, then mixers, selectors and pins, and in each column by their
-- node identifiers. Widgets through which no signal passes to a pin stand with the converters. This project's own.
use Rattle.std.specs.Prelude.{ℕ, ◌+◌, ◌-◌, ◌*◌, ◌/◌, ◌≤◌, ◌==◌, nat_lt, max, List, [], ◌∷◌, length, take, count_by}
use Rattle.std.specs.Prelude.{Bool, true, false, Option, Some, None, if◌then◌else◌}
use Rattle.codec_graph.specs.declared.raw.RawCodec.{RawCodec}
use Rattle.codec_graph.specs.declared.raw.RawNode.{RawNode}
use Rattle.codec_graph.specs.Widget.{is_mixer, is_selector, is_pin, node_at}
use Rattle.svg_text.specs.declared.shapes.Paint.{Paint}
use Rattle.svg_text.specs.declared.shapes.Point.{Point}
use Rattle.svg_text.specs.declared.shapes.Shape.{Shape}
use Rattle.svg_text.specs.declared.shapes.Shape.TheVariants as shape
use Rattle.codec_picture.specs.declared.columns.TheConstants.{BOX_WIDTH, COLUMN, ROW, MARGIN, HEAD, FOOT, BEND}

-- a codec of no more widgets than have node identifiers, which do fit a byte, so far down in a picture that all of it
-- has places there
pub record IsDrawable (codec : RawCodec) (top : ℕ) : Type 0 where
  pub few : length codec.nodes ≤ 128
  pub identified : codec.first + codec.count ≤ 128
  pub down : top ≤ 1000000

-- ---- columns and rows

abbrev pub column_of : RawNode → ℕ
column_of node = if is_mixer node then 1 else (if is_selector node then 2 else (if is_pin node then 3 else 0))

abbrev pub column_in : Option RawNode → ℕ
column_in None = 0
column_in (Some node) = column_of node

-- the column of the widget with this node identifier
abbrev pub column_at : RawCodec → (nid : ℕ) → ℕ
column_at codec nid = column_in (node_at codec nid)

-- how many of some widgets stand in a column
abbrev pub count_in : (column : ℕ) → List RawNode → ℕ
count_in column nodes = count_by (λ (node : RawNode). column_of node == column) nodes

-- the row of a widget: how many of its column have a lesser node identifier
abbrev pub rank_at : RawCodec → (nid : ℕ) → ℕ
rank_at codec nid = count_in (column_at codec nid) (take (nid - codec.first) codec.nodes)

-- how many rows there are
abbrev pub rows_of : RawCodec → ℕ
rows_of codec =
    max (max (count_in 0 codec.nodes) (count_in 1 codec.nodes)) (max (count_in 2 codec.nodes) (count_in 3 codec.nodes))

-- how high the part of a codec is
abbrev pub height_of : RawCodec → ℕ
height_of codec = HEAD + ROW * rows_of codec + FOOT

-- ---- boxes and the lines between them

-- the upper left corner of a widget's box, where the part of its codec begins so far down
abbrev pub corner_of : RawCodec → (top nid : ℕ) → Point
corner_of codec top nid =
    record { x = MARGIN + COLUMN * column_at codec nid; y = top + HEAD + ROW * rank_at codec nid }

-- where a line to another widget's box leaves that of a widget, so far below its upper edge: on its left side where the
-- other one stands further left, and else on its right side
abbrev pub side_of : RawCodec → (top nid other lane : ℕ) → Point
side_of codec top nid other lane =
    record {
      x = (corner_of codec top nid).x + (if nat_lt (column_at codec other) (column_at codec nid) then 0 else BOX_WIDTH);
      y = (corner_of codec top nid).y + lane;
    }

-- half way down between two points, and out to the right
abbrev pub bend_of : Point → Point → Point
bend_of from to = record { x = from.x + BEND; y = (from.y + to.y) / 2 }

-- from one point to another: straight between columns, and round what stands between in a column
abbrev pub path_of : Paint → (from to : Point) → (alike : Bool) → Shape
path_of paint from to false = shape.Line paint from to
path_of paint from to true = shape.Trail paint (from ∷ bend_of from to ∷ to ∷ [])

-- a line between the boxes of two widgets
abbrev pub link_of : Paint → RawCodec → (top from to lane : ℕ) → Shape
link_of paint codec top from to lane =
    path_of paint (side_of codec top from to lane) (side_of codec top to from lane)
    (column_at codec from == column_at codec to)
