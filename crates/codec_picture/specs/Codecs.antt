-- The shapes of a codec: a box for each widget, a line for each connection, the lines of each route, and the mark of
-- each pin that was planned. This project's own.
use Rattle.std.specs.Prelude.{ℕ, ◌+◌, ◌*◌, ◌%◌, List, [], ◌∷◌, ◌++◌, codes, Option, Some, None}
use Rattle.std.specs.List.{flat_map}
use Rattle.codec_graph.specs.declared.raw.RawCodec.{RawCodec}
use Rattle.codec_graph.specs.declared.raw.RawNode.{RawNode}
use Rattle.codec_graph.specs.Widget.{node_at}
use Rattle.route_planner.specs.declared.routes.Hop.{Hop}
use Rattle.route_planner.specs.declared.routes.Outcome.{Outcome}
use Rattle.route_planner.specs.declared.routes.Outcome.TheVariants as outcome
use Rattle.route_planner.specs.declared.routes.PinPlan.{PinPlan}
use Rattle.route_planner.specs.Paths.{connection, list_of}
use Rattle.svg_text.specs.declared.shapes.Anchor.{Anchor}
use Rattle.svg_text.specs.declared.shapes.Anchor.TheVariants as anchor
use Rattle.svg_text.specs.declared.shapes.Paint.{Paint}
use Rattle.svg_text.specs.declared.shapes.Paint.TheVariants as paint
use Rattle.svg_text.specs.declared.shapes.Point.{Point}
use Rattle.svg_text.specs.declared.shapes.Shape.{Shape}
use Rattle.svg_text.specs.declared.shapes.Shape.TheVariants as shape
use Rattle.codec_picture.specs.declared.columns.TheConstants.{BOX_WIDTH, BOX_HEIGHT, COLUMN, MARGIN}
use Rattle.codec_picture.specs.declared.marks.TheConstants.{MARK}
use Rattle.codec_picture.specs.Columns.{corner_of, link_of}
use Rattle.codec_picture.specs.Repeats.{each, numbered}
use Rattle.codec_picture.specs.Texts.{name_of, detail_of, hint_of, pair_text, heading_of}

-- ---- connections and routes

-- the line of a connection: a signal goes from the node that is listed to the one that lists it
abbrev pub connection_line : RawCodec → (top nid from : ℕ) → List Shape
connection_line codec top nid from = link_of paint.Edge codec top from nid 17 ∷ []

-- those of a widget's connections
abbrev pub connections : RawCodec → (top nid : ℕ) → List Shape
connections codec top nid = flat_map (connection_line codec top nid) (list_of (node_at codec nid))

abbrev pub connections_at : RawCodec → (top place : ℕ) → List Shape
connections_at codec top place = connections codec top (codec.first + place)

-- the line of a hop of the route of a number, in its colour: to the node that the hop leaves, from the one to which its
-- connection leads
abbrev pub line_from : RawCodec → (top number nid : ℕ) → Option ℕ → List Shape
line_from codec top number nid None = []
line_from codec top number nid (Some next) =
    link_of (paint.Route (number % 8)) codec top next nid (3 + 4 * (number % 8)) ∷ []

abbrev pub hop_line : RawCodec → (top number : ℕ) → Hop → List Shape
hop_line codec top number hop = line_from codec top number hop.nid (connection codec hop.nid hop.index)

-- the lines of the hops of a pin's route, where it has one
abbrev pub outcome_lines : RawCodec → (top number : ℕ) → Outcome → List Shape
outcome_lines codec top number (outcome.Route route) = flat_map (hop_line codec top number) route.hops
outcome_lines codec top number outcome.Blocked = []
outcome_lines codec top number outcome.NoPath = []

abbrev pub route_lines : RawCodec → (top number : ℕ) → PinPlan → List Shape
route_lines codec top number entry = outcome_lines codec top number entry.outcome

-- ---- boxes

-- the box of a widget
abbrev pub box_in : RawCodec → (top nid : ℕ) → Option RawNode → List Shape
box_in codec top nid None = []
box_in codec top nid (Some node) =
    shape.Hint paint.Box (corner_of codec top nid) BOX_WIDTH BOX_HEIGHT (hint_of node) ∷ []

abbrev pub box_of : RawCodec → (top nid : ℕ) → List Shape
box_of codec top nid = box_in codec top nid (node_at codec nid)

abbrev pub box_at : RawCodec → (top place : ℕ) → List Shape
box_at codec top place = box_of codec top (codec.first + place)

-- words at a place
abbrev pub words_at : Paint → Anchor → Point → (text : List ℕ) → List Shape
words_at paint anchor at text = shape.Text paint anchor at text ∷ []

-- a place in a box with this corner
abbrev pub within : Point → (right down : ℕ) → Point
within corner right down = record { x = corner.x + right; y = corner.y + down }

-- the words in the box of a widget
abbrev pub names_in : RawCodec → (top nid : ℕ) → Option RawNode → List Shape
names_in codec top nid None = []
names_in codec top nid (Some node) =
    words_at paint.Ink anchor.Start (within (corner_of codec top nid) 12 14) (name_of nid node)
    ++ words_at paint.Faint anchor.Start (within (corner_of codec top nid) 12 28) (detail_of node)

abbrev pub names_of : RawCodec → (top nid : ℕ) → List Shape
names_of codec top nid = names_in codec top nid (node_at codec nid)

abbrev pub names_at : RawCodec → (top place : ℕ) → List Shape
names_at codec top place = names_of codec top (codec.first + place)

-- ---- marks

abbrev pub mark_words : Point → (text : List ℕ) → List Shape
mark_words corner text = words_at paint.Ink anchor.End (within corner 194 14) text

-- a pin with a route of this number: a bar in its colour, and its pair
abbrev pub routed_mark : Point → (number pair : ℕ) → List Shape
routed_mark corner number pair =
    shape.Rect (paint.Route (number % 8)) corner MARK BOX_HEIGHT ∷ mark_words corner (pair_text pair)

-- a pin without one: over its box, with a word
abbrev pub unrouted_mark : Point → Paint → (word hint : List ℕ) → List Shape
unrouted_mark corner paint word hint =
    shape.Hint paint corner BOX_WIDTH BOX_HEIGHT hint ∷ mark_words corner word

-- what was found for a pin
abbrev pub outcome_mark : Point → (number pair : ℕ) → Outcome → List Shape
outcome_mark corner number pair (outcome.Route route) = routed_mark corner number pair
outcome_mark corner number pair outcome.Blocked =
    unrouted_mark corner paint.Blocked (codes "blocked")
    (codes "blocked: routes of pins before it take each of its paths")
outcome_mark corner number pair outcome.NoPath =
    unrouted_mark corner paint.Pathless (codes "no path") (codes "no path: none of its paths can carry the sound")

abbrev pub mark_of : RawCodec → (top number : ℕ) → PinPlan → List Shape
mark_of codec top number entry = outcome_mark (corner_of codec top entry.pin) number entry.pair entry.outcome

-- ---- a codec

abbrev pub column_head : (top column : ℕ) → (word : List ℕ) → List Shape
column_head top column word =
    words_at paint.Faint anchor.Start (record { x = MARGIN + COLUMN * column; y = top + 42 }) word

-- the words above a codec
abbrev pub head_of : RawCodec → (top : ℕ) → List Shape
head_of codec top =
    words_at paint.Ink anchor.Start (record { x = MARGIN; y = top + 16 }) (heading_of codec)
    ++ column_head top 0 (codes "Converters and others") ++ column_head top 1 (codes "Mixers")
    ++ column_head top 2 (codes "Selectors") ++ column_head top 3 (codes "Pins")

-- the part of a codec whose pins were planned so: its words, its connections, the boxes of its widgets, the marks of
-- these pins, their routes, numbered by the pins, and the names in the boxes
abbrev pub codec_shapes : RawCodec → (top : ℕ) → List PinPlan → List Shape
codec_shapes codec top pins =
    head_of codec top
    ++ each (connections_at codec top) codec.count
    ++ each (box_at codec top) codec.count
    ++ numbered (mark_of codec top) 0 pins
    ++ numbered (route_lines codec top) 0 pins
    ++ each (names_at codec top) codec.count
