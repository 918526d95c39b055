-- The boxes of widgets: each has one, and they lie apart.
use Rattle.std.proofs.Common.{◌≡◌, ◌≢◌, ◌∙◌, ◌⊎◌, ℕ, zero, suc, ◌+◌, ◌-◌, ◌<◌, ◌≤◌, ◌==◌, Bool, true, false, List, [], ◌∷◌, ◌++◌, length, take, get_or, filter, Option, Some, None, add-zero, ap, append-nil, arith, inl, inr, refl, sym}
use Rattle.std.specs.Prelude.{count_by, nat_lt}
use Rattle.std.specs.List.{flat_map}
use Rattle.std.proofs.lemmas.List.Sums.{count_by_more_no, count_by_more_yes}
use Rattle.std.proofs.lemmas.Option.{slice_get-get_or}
use Rattle.std.proofs.lemmas.Bool.{cases_lt}
use Rattle.std.proofs.lemmas.Bool.Decides.{nat_tests}
use Rattle.std.proofs.lemmas.List.Elements.{filter-append}
use Rattle.codec_graph.specs.declared.raw.RawCodec.{RawCodec}
use Rattle.codec_graph.specs.declared.raw.RawNode.{RawNode}
use Rattle.codec_graph.specs.Widget.{node_at, plain_node}
use Rattle.route_planner.specs.declared.routes.Outcome.{Outcome}
use Rattle.route_planner.specs.declared.routes.Outcome.TheVariants as outcome
use Rattle.route_planner.specs.declared.routes.PinPlan.{PinPlan}
use Rattle.route_planner.specs.Paths.{connection, list_of}
use Rattle.svg_text.specs.declared.shapes.Point.{Point}
use Rattle.svg_text.specs.declared.shapes.Paint.{Paint}
use Rattle.svg_text.specs.declared.shapes.Shape.{Shape}
use Rattle.codec_picture.specs.Boxes.{AreApart, is_box}
use Rattle.codec_picture.specs.Codecs.{box_at, box_in, codec_shapes, connection_line, connections, connections_at, head_of, hop_line, line_from, mark_of, names_at, names_in, outcome_lines, outcome_mark, route_lines}
use Rattle.codec_picture.specs.Columns.{column_at, column_in, column_of, corner_of, count_in, link_of, path_of, rank_at, side_of}
use Rattle.codec_picture.specs.Repeats.{each, numbered}

-- ---- each widget has one box

abbrev boxes : List Shape → List Shape
boxes shapes = filter is_box shapes

boxes-append : (xs ys : List Shape) → boxes (xs ++ ys) ≡ boxes xs ++ boxes ys
boxes-append xs ys = filter-append is_box xs ys

none_of : (xs ys : List Shape) → boxes xs ≡ [] → boxes ys ≡ [] → boxes (xs ++ ys) ≡ []
none_of xs ys e f = rw (boxes-append xs ys, e, f) refl

none_each : (of : ℕ → List Shape) (end : ℕ) → ((k : ℕ) → boxes (of k) ≡ []) → boxes (each of end) ≡ []
none_each of zero none = refl
none_each of (suc end) none = none_of (each of end) (of end) (none_each of end none) (none end)

none_numbered : (of : ℕ → PinPlan → List Shape) (number : ℕ) (pins : List PinPlan) → ((k : ℕ) (pin : PinPlan) → boxes (of k pin) ≡ []) → boxes (numbered of number pins) ≡ []
none_numbered of number [] none = refl
none_numbered of number (pin ∷ pins) none =
    none_of (of number pin) (numbered of (number + 1) pins) (none number pin) (none_numbered of (number + 1) pins none)

none_map : {X : Type 0} (of : X → List Shape) (xs : List X) → ((x : X) → boxes (of x) ≡ []) → boxes (flat_map of xs) ≡ []
none_map of [] none = refl
none_map of (x ∷ xs) none = none_of (of x) (flat_map of xs) (none x) (none_map of xs none)

path_no_box : (paint : Paint) (from to : Point) (alike : Bool) → boxes (path_of paint from to alike ∷ []) ≡ []
path_no_box paint from to true = refl
path_no_box paint from to false = refl

link_no_box : (paint : Paint) (codec : RawCodec) (top from to lane : ℕ) → boxes (link_of paint codec top from to lane ∷ []) ≡ []
link_no_box paint codec top from to lane =
    path_no_box paint (side_of codec top from to lane) (side_of codec top to from lane) (column_at codec from == column_at codec to)

connections_no_box : (codec : RawCodec) (top nid : ℕ) → boxes (connections codec top nid) ≡ []
connections_no_box codec top nid =
    none_map (connection_line codec top nid) (list_of (node_at codec nid)) (λ from. link_no_box _ codec top from nid 17)

line_no_box : (codec : RawCodec) (top number nid : ℕ) (next : Option ℕ) → boxes (line_from codec top number nid next) ≡ []
line_no_box codec top number nid None = refl
line_no_box codec top number nid (Some next) = link_no_box _ codec top next nid _

outcome_no_box : (codec : RawCodec) (top number : ℕ) (found : Outcome) → boxes (outcome_lines codec top number found) ≡ []
outcome_no_box codec top number (outcome.Route route) =
    none_map (hop_line codec top number) route.hops (λ hop. line_no_box codec top number hop.nid (connection codec hop.nid hop.index))
outcome_no_box codec top number outcome.Blocked = refl
outcome_no_box codec top number outcome.NoPath = refl

mark_no_box : (corner : Point) (number pair : ℕ) (found : Outcome) → boxes (outcome_mark corner number pair found) ≡ []
mark_no_box corner number pair (outcome.Route route) = refl
mark_no_box corner number pair outcome.Blocked = refl
mark_no_box corner number pair outcome.NoPath = refl

names_no_box : (codec : RawCodec) (top nid : ℕ) (node : Option RawNode) → boxes (names_in codec top nid node) ≡ []
names_no_box codec top nid None = refl
names_no_box codec top nid (Some node) = refl

box_is_box : (codec : RawCodec) (top nid : ℕ) (node : Option RawNode) → boxes (box_in codec top nid node) ≡ box_in codec top nid node
box_is_box codec top nid None = refl
box_is_box codec top nid (Some node) = refl

boxes_each : (codec : RawCodec) (top end : ℕ) → boxes (each (box_at codec top) end) ≡ each (box_at codec top) end
boxes_each codec top zero = refl
boxes_each codec top (suc end) =
    rw (boxes-append (each (box_at codec top) end) (box_at codec top end), boxes_each codec top end, box_is_box codec top (codec.first + end) (node_at codec (codec.first + end))) refl

parts_6 : (a b c d e f : List Shape) → boxes a ≡ [] → boxes b ≡ [] → boxes c ≡ c → boxes d ≡ [] → boxes e ≡ [] → boxes f ≡ []
    → boxes (a ++ b ++ c ++ d ++ e ++ f) ≡ c
parts_6 a b c d e f ea eb ec ed ee ef =
    rw (boxes-append (a ++ b ++ c ++ d ++ e) f, boxes-append (a ++ b ++ c ++ d) e, boxes-append (a ++ b ++ c) d, boxes-append (a ++ b) c, boxes-append a b, ea, eb, ec, ed, ee, ef) (nothing_after c)
  where
    nothing_after : (xs : List Shape) → xs ++ [] ++ [] ++ [] ≡ xs
    nothing_after xs = simp append-nil

pub widgets_boxed : (codec : RawCodec) (top : ℕ) (pins : List PinPlan) → boxes (codec_shapes codec top pins) ≡ each (box_at codec top) codec.count
widgets_boxed codec top pins =
    parts_6 (head_of codec top) (each (connections_at codec top) codec.count) (each (box_at codec top) codec.count) (numbered (mark_of codec top) 0 pins)
    (numbered (route_lines codec top) 0 pins) (each (names_at codec top) codec.count) refl
    (none_each (connections_at codec top) codec.count (λ k. connections_no_box codec top (codec.first + k))) (boxes_each codec top codec.count)
    (none_numbered (mark_of codec top) 0 pins (λ k pin. mark_no_box (corner_of codec top pin.pin) k pin.pair pin.outcome))
    (none_numbered (route_lines codec top) 0 pins (λ k pin. outcome_no_box codec top k pin.outcome))
    (none_each (names_at codec top) codec.count (λ k. names_no_box codec top (codec.first + k) (node_at codec (codec.first + k))))

-- ---- boxes lie apart

-- among one more there are no fewer
one_more : (p : RawNode → Bool) (nodes : List RawNode) (i : ℕ) (d : RawNode) → i < length nodes → count_by p (take i nodes) ≤ count_by p (take (i + 1) nodes)
one_more p nodes i d within = by (p (get_or nodes i d)) refl
  where
    by : (b : Bool) → p (get_or nodes i d) ≡ b → count_by p (take i nodes) ≤ count_by p (take (i + 1) nodes)
    by true e = omega (arith, count_by_more_yes p nodes i d within e)
    by false e = omega (arith, count_by_more_no p nodes i d within e)

more_by : (p : RawNode → Bool) (nodes : List RawNode) (d : RawNode) (i n : ℕ) → i + n ≤ length nodes → count_by p (take i nodes) ≤ count_by p (take (i + n) nodes)
more_by p nodes d i zero within = rw (add-zero i) (omega arith)
more_by p nodes d i (suc n) within =
    let same : i + suc n ≡ (i + n) + 1 = omega arith in
    let before = more_by p nodes d i n (omega (arith, within)) in
    let step = one_more p nodes (i + n) d (omega (arith, within)) in
    rw same (omega (arith, before, step))

-- a node counts among those before a later one
counts : (p : RawNode → Bool) (nodes : List RawNode) (d : RawNode) (a b : ℕ) → a < b → b < length nodes → p (get_or nodes a d) ≡ true
    → count_by p (take a nodes) + 1 ≤ count_by p (take b nodes)
counts p nodes d a b before within is =
    let same : (a + 1) + (b - (a + 1)) ≡ b = omega (arith, before) in
    let more = more_by p nodes d (a + 1) (b - (a + 1)) (omega (arith, same, within)) in
    let here = count_by_more_yes p nodes a d (omega (arith, before, within)) is in
    let later : count_by p (take (a + 1) nodes) ≤ count_by p (take b nodes) = rw same at more in
    omega (arith, here, later)

-- some widget
abbrev some : RawNode
some = plain_node 0

place_in : (first place : ℕ) → (first + place) - first ≡ place
place_in first place = omega arith

not_before : (first place : ℕ) → nat_lt (first + place) first ≡ false
not_before first place = grind (arith, nat_tests)

node_here : (codec : RawCodec) (place : ℕ) → place < length codec.nodes → node_at codec (codec.first + place) ≡ Some (get_or codec.nodes place some)
node_here codec place within =
    rw (not_before codec.first place, place_in codec.first place) (slice_get-get_or codec.nodes place some within)

column_here : (codec : RawCodec) (place : ℕ) → place < length codec.nodes → column_at codec (codec.first + place) ≡ column_of (get_or codec.nodes place some)
column_here codec place within = ap column_in (node_here codec place within)

same_number : (m n : ℕ) → m ≡ n → (m == n) ≡ true
same_number m n e = grind (arith, nat_tests)

rank_here : (codec : RawCodec) (place : ℕ) → rank_at codec (codec.first + place) ≡ count_in (column_at codec (codec.first + place)) (take place codec.nodes)
rank_here codec place = ap (λ (n : ℕ). count_in (column_at codec (codec.first + place)) (take n codec.nodes)) (place_in codec.first place)

-- of two widgets of one column the one with the lesser place stands further up
ranked : (codec : RawCodec) (top a b : ℕ) → a < b → b < length codec.nodes → column_at codec (codec.first + a) ≡ column_at codec (codec.first + b)
    → rank_at codec (codec.first + a) + 1 ≤ rank_at codec (codec.first + b)
ranked codec top a b before within same =
    let column = column_at codec (codec.first + b) in
    let here : column_of (get_or codec.nodes a some) ≡ column = sym (column_here codec a (omega (arith, before, within))) ∙ same in
    let counted : count_in column (take a codec.nodes) + 1 ≤ count_in column (take b codec.nodes) =
    counts (λ (node : RawNode). column_of node == column) codec.nodes some a b before within (same_number (column_of (get_or codec.nodes a some)) column here) in
    let up : rank_at codec (codec.first + a) ≡ count_in column (take a codec.nodes) =
    rank_here codec a ∙ ap (λ (c : ℕ). count_in c (take a codec.nodes)) same in
    let down = rank_here codec b in
    omega (arith, up, down, counted)

pub boxes_apart : (codec : RawCodec) (top one other : ℕ) → one < length codec.nodes → other < length codec.nodes → one ≢ other
    → AreApart (corner_of codec top (codec.first + one)) (corner_of codec top (codec.first + other))
boxes_apart codec top one other one_within other_within differ =
    by_columns (cases_lt (column_at codec (codec.first + one)) (column_at codec (codec.first + other)))
    (cases_lt (column_at codec (codec.first + other)) (column_at codec (codec.first + one))) (cases_lt one other) (cases_lt other one)
  where
    c : ℕ
    c = column_at codec (codec.first + one)

    d : ℕ
    d = column_at codec (codec.first + other)

    by_columns : (c < d) ⊎ (d ≤ c) → (d < c) ⊎ (c ≤ d) → (one < other) ⊎ (other ≤ one) → (other < one) ⊎ (one ≤ other)
        → AreApart (corner_of codec top (codec.first + one)) (corner_of codec top (codec.first + other))
    by_columns (inl left) y u v = inl (omega (arith, left))
    by_columns (inr x) (inl right) u v = inr (inl (omega (arith, right)))
    by_columns (inr x) (inr y) (inl before) v =
        let below = ranked codec top one other before other_within (omega (arith, x, y)) in inr (inr (inl (omega (arith, below))))
    by_columns (inr x) (inr y) (inr u) (inl before) =
        let below = ranked codec top other one before one_within (omega (arith, x, y)) in inr (inr (inr (omega (arith, below))))
    by_columns (inr x) (inr y) (inr u) (inr v) = absurd (differ (omega (arith, u, v)))
