-- Lists with marks among those of all pins.
use Rattle.std.proofs.Common.{◌≡◌, ◌≤◌, ◌<◌, ◌+◌, ◌-◌, ◌==◌, ◌&&◌, ℕ, zero, suc, Bool, true, false, List, [], ◌∷◌, ◌++◌, length, map, get_or, Some, if◌then◌else◌, refl, sym, ap, subst, ◌∙◌, arith, eq-eqb, rules, tests, length-append}
use Rattle.std.specs.Prelude.{All, Contains, filter}
use Rattle.std.specs.List.{find}
use Rattle.std.proofs.lemmas.Bool.{true≢false}
use Rattle.std.proofs.lemmas.List.{append-nil, get_or-map, length-map, map-append}
use Rattle.std.proofs.lemmas.List.Elements.{All-map, filter-append}
use Rattle.std.proofs.lemmas.Simd.{map-map}
use Rattle.stream_format.specs.Layouts.{Layout}
use Rattle.codec_sound.specs.declared.signals.Signal.{Signal}
use Rattle.codec_sound.specs.declared.signals.Signal.TheVariants as variant
use Rattle.world_streams.specs.Output.{Sent}
use Rattle.heard_frames.specs.declared.heard.Heard.{Heard}
use Rattle.heard_frames.specs.declared.heard.Heard.TheVariants.{Sound, Quiet, Hole, Altered}
use Rattle.heard_frames.specs.declared.mark.Mark.{Mark}
use Rattle.heard_frames.specs.HeardLists.{item_of, heard_in, blocks, block_size}
use Rattle.heard_frames.specs.Marks.{without_holes}
use Rattle.heard_lists.specs.declared.pin_list.PinHeard.{PinHeard}
use Rattle.heard_lists.specs.declared.pin_marks.PinMark.{PinMark}
use Rattle.heard_lists.specs.Listings.{Listing, HasRoom, HasMarkRoom, AreListsAs, AreEmpty, AreUnmarked, handed_out, marks_out, with_items, with_blocks, with_mark, with_marks, marked, is_of, pins_of, marks_in}
use Rattle.heard_lists.specs.Marked.{MarkState, is_marked, marks_among, noted, HaveBlocks}
use Rattle.codec_graph.specs.declared.raw.RawCodec.{RawCodec}
use Rattle.codec_graph.specs.declared.pin_kind.PinKind.{PinKind}

-- ---- at a place

-- what holds of each list that was made of others holds of what was made of each
pub of-lists : (P : Listing → Type 0) (f : Listing → Listing) (lists : List Listing) → All P (map f lists) → All (λ l. P (f l)) lists
of-lists P f lists all k d within = subst P (get_or-map f lists k d (f d) within) (all k (f d) (let long = length-map lists f in omega (arith, long, within)))

-- the same at each, the same of all
pub same-lists : {B : Type 0} (f g : Listing → B) (lists : List Listing) → ((k : ℕ) (d : Listing) → k < length lists → f (get_or lists k d) ≡ g (get_or lists k d)) → map f lists ≡ map g lists
same-lists f g [] each = refl
same-lists {B} f g (listing ∷ lists) each =
    ap (λ (first : B). first ∷ map f lists) (each 0 listing (omega arith))
    ∙ ap (λ (rest : List B). g listing ∷ rest) (same-lists f g lists (λ k d within. each (suc k) d (omega (arith, within))))

module _ (marks : List PinMark) (room : ℕ) where
  -- a list at its place
  pub placed : (lists all : List Listing) (place : ℕ) (d : Listing) → map (noted marks room) lists ≡ all → place < length all → get_or all place d ≡ noted marks room (get_or lists place d)
  placed lists all place d is within =
      let inside : place < length lists = subst (λ (n : ℕ). place < n) (ap length (sym is) ∙ length-map lists (noted marks room)) within in
      ap (λ (these : List Listing). get_or these place d) (sym is) ∙ get_or-map (noted marks room) lists place d d inside

  -- the same lists as they are handed out
  pub handed-noted : (lists : List Listing) → map handed_out (map (noted marks room) lists) ≡ map handed_out lists
  handed-noted lists = map-map handed_out (noted marks room) lists

  pub pins-noted : (lists : List Listing) → pins_of (map (noted marks room) lists) ≡ pins_of lists
  pins-noted lists = map-map (λ (listing : Listing). (listing.codec, listing.pin)) (noted marks room) lists

  -- items are added to the lists alone
  pub blocks-noted : (signal : ℕ → ℕ → Signal) (layout : Layout) (bytes : List ℕ) (lists : List Listing)
      → map (noted marks room) (map (with_blocks signal layout bytes) lists) ≡ map (with_blocks signal layout bytes) (map (noted marks room) lists)
  blocks-noted signal layout bytes lists = map-map (noted marks room) (with_blocks signal layout bytes) lists ∙ sym (map-map (with_blocks signal layout bytes) (noted marks room) lists)

  pub hole-noted : (lists : List Listing) → map (noted marks room) (map (with_items (Hole ∷ [])) lists) ≡ map (with_items (Hole ∷ [])) (map (noted marks room) lists)
  hole-noted lists = map-map (noted marks room) (with_items (Hole ∷ [])) lists ∙ sym (map-map (with_items (Hole ∷ [])) (noted marks room) lists)

-- the marks of each pin, by the pins as they are handed out
abbrev marks_handed : List PinMark → PinHeard → (ℕ × ℕ) × List Mark
marks_handed marks pin = ((pin.codec, pin.pin), marks_among marks pin.codec pin.pin)

pub marks-noted : (marks : List PinMark) (room room' : ℕ) (lists lists' : List Listing) → map handed_out lists' ≡ map handed_out lists
    → map marks_out (map (noted marks room') lists') ≡ map marks_out (map (noted marks room) lists)
marks-noted marks room room' lists lists' same =
    map-map marks_out (noted marks room') lists'
    ∙ (sym (map-map (marks_handed marks) handed_out lists')
    ∙ (ap (map (marks_handed marks)) same
    ∙ (map-map (marks_handed marks) handed_out lists
    ∙ sym (map-map marks_out (noted marks room) lists))))

-- ---- items that are no holes

solid-items : (layout : Layout) (signal : Signal) (found : List (List ℕ)) → without_holes (map (item_of layout signal) found) ≡ map (item_of layout signal) found
solid-items layout variant.Silence [] = refl
solid-items layout (variant.Pair pair) [] = refl
solid-items layout variant.Altered [] = refl
solid-items layout variant.Silence (block ∷ rest) = ap (λ (items : List Heard). Quiet ∷ items) (solid-items layout variant.Silence rest)
solid-items layout (variant.Pair pair) (block ∷ rest) = ap (λ (items : List Heard). item_of layout (variant.Pair pair) block ∷ items) (solid-items layout (variant.Pair pair) rest)
solid-items layout variant.Altered (block ∷ rest) = ap (λ (items : List Heard). Altered ∷ items) (solid-items layout variant.Altered rest)

holes-append : (first second : List Heard) → length (without_holes (first ++ second)) ≡ length (without_holes first) + length (without_holes second)
holes-append first second =
    ap length (filter-append _ first second) ∙ length-append (without_holes first) (without_holes second)

pub few-solid : (list : List Heard) → length (without_holes list) ≤ length list
few-solid [] = omega arith
few-solid (Hole ∷ list) = (let rest = few-solid list in omega (arith, rest))
few-solid (Quiet ∷ list) = (let rest = few-solid list in omega (arith, rest))
few-solid (Altered ∷ list) = (let rest = few-solid list in omega (arith, rest))
few-solid (Sound left right ∷ list) = (let rest = few-solid list in omega (arith, rest))

-- blocks are none
solid-more : (signal : ℕ → ℕ → Signal) (layout : Layout) (bytes : List ℕ) (listing : Listing)
    → length (without_holes (with_blocks signal layout bytes listing).list) ≡ length (without_holes listing.list) + length (heard_in (Some layout) (signal listing.codec listing.pin) (Sent bytes))
solid-more signal layout bytes listing =
    holes-append listing.list (heard_in (Some layout) (signal listing.codec listing.pin) (Sent bytes))
    ∙ ap (λ (items : List Heard). length (without_holes listing.list) + length items) (solid-items layout (signal listing.codec listing.pin) (blocks (block_size layout) bytes))

-- each list has as many more as it got longer
pub blocks-heard : (signal : ℕ → ℕ → Signal) (layout : Layout) (bytes : List ℕ) (blocks before after : ℕ) (lists : List Listing) → HaveBlocks blocks lists
    → All (λ listing. length listing.list ≡ before) lists → All (λ listing. length listing.list ≡ after) (map (with_blocks signal layout bytes) lists)
    → HaveBlocks (blocks + (after - before)) (map (with_blocks signal layout bytes) lists)
blocks-heard signal layout bytes blocks before after lists have was is =
    All-map (λ (listing : Listing). length (without_holes listing.list) ≡ blocks + (after - before)) (with_blocks signal layout bytes) lists
    (λ k d within.
    let listing : Listing = get_or lists k d in
    let more = solid-more signal layout bytes listing in
    let long = length-append listing.list (heard_in (Some layout) (signal listing.codec listing.pin) (Sent bytes)) in
    let one = have k d within in
    let two = was k d within in
    let three = of-lists (λ (listing : Listing). length listing.list ≡ after) (with_blocks signal layout bytes) lists is k d within in
    omega (arith, more, long, one, two, three))

-- which no number misses
pub blocks-fit : (signal : ℕ → ℕ → Signal) (layout : Layout) (bytes : List ℕ) (blocks before after : ℕ) (lists : List Listing) → HaveBlocks blocks lists
    → All (λ listing. length listing.list ≡ before) lists → All (λ listing. length listing.list ≡ after) (map (with_blocks signal layout bytes) lists)
    → (length lists ≡ 0 → ⊥) → (before ≤ after) × (blocks + (after - before) ≤ after)
blocks-fit signal layout bytes blocks before after [] have was is some = absurd (some refl)
blocks-fit signal layout bytes blocks before after (listing ∷ lists) have was is some =
    let long = length-append listing.list (heard_in (Some layout) (signal listing.codec listing.pin) (Sent bytes)) in
    let one : length (without_holes listing.list) ≡ blocks = have 0 listing (omega arith) in
    let two : length listing.list ≡ before = was 0 listing (omega arith) in
    let three = of-lists (λ (listing : Listing). length listing.list ≡ after) (with_blocks signal layout bytes) (listing ∷ lists) is 0 listing (omega arith) in
    let few = few-solid listing.list in
    (omega (arith, long, two, three), omega (arith, long, one, two, three, few))

-- a hole is none
pub hole-heard : (blocks : ℕ) (lists : List Listing) → HaveBlocks blocks lists → HaveBlocks blocks (map (with_items (Hole ∷ [])) lists)
hole-heard blocks lists have =
    All-map (λ (listing : Listing). length (without_holes listing.list) ≡ blocks) (with_items (Hole ∷ [])) lists
    (λ k d within. let more = holes-append (get_or lists k d).list (Hole ∷ []) in let one = have k d within in omega (arith, more, one))

-- lists that are handed out the same have the same
pub blocks-same : (blocks : ℕ) (lists lists' : List Listing) → map handed_out lists' ≡ map handed_out lists → HaveBlocks blocks lists → HaveBlocks blocks lists'
blocks-same blocks lists lists' same have k d within =
    let long : length lists' ≡ length lists = sym (length-map lists' handed_out) ∙ (ap length same ∙ length-map lists handed_out) in
    let inside : k < length lists = omega (arith, long, within) in
    let is : handed_out (get_or lists' k d) ≡ handed_out (get_or lists k d) =
    sym (get_or-map handed_out lists' k d (handed_out d) within)
    ∙ (ap (λ (pins : List PinHeard). get_or pins k (handed_out d)) same ∙ get_or-map handed_out lists k d (handed_out d) inside) in
    ap (λ (pin : PinHeard). length (without_holes pin.list)) is ∙ have k d inside

-- ---- one more mark

marked_last : (codec pin : ℕ) (mark : Mark) (here : Bool) → map (λ (one : PinMark). one.mark) (if here then record { codec = codec; pin = pin; mark = mark } ∷ [] else []) ≡ (if here then mark ∷ [] else [])
marked_last codec pin mark true = refl
marked_last codec pin mark false = refl

marks-push : (marks : List PinMark) (codec pin its_codec its_pin : ℕ) (mark : Mark)
    → marks_among (marks ++ record { codec = codec; pin = pin; mark = mark } ∷ []) its_codec its_pin
    ≡ marks_among marks its_codec its_pin ++ (if its_codec == codec && its_pin == pin then mark ∷ [] else [])
marks-push marks codec pin its_codec its_pin mark =
    ap (map (λ (one : PinMark). one.mark)) (filter-append (is_marked its_codec its_pin) marks (record { codec = codec; pin = pin; mark = mark } ∷ []))
    ∙ (map-append (λ (one : PinMark). one.mark) (filter (is_marked its_codec its_pin) marks) (filter (is_marked its_codec its_pin) (record { codec = codec; pin = pin; mark = mark } ∷ []))
    ∙ ap (λ (last : List Mark). marks_among marks its_codec its_pin ++ last) (marked_last codec pin mark (its_codec == codec && its_pin == pin)))

marked_one : (codec pin at : ℕ) (on : Bool) (marks : List PinMark) (room : ℕ) (listing : Listing) → length (without_holes listing.list) ≡ at
    → noted (marks ++ record { codec = codec; pin = pin; mark = record { at = at; on = on } } ∷ []) (room - 1) listing ≡ with_mark codec pin on (noted marks room listing)
marked_one codec pin at on marks room listing solid =
    ap (λ (its : List Mark). record listing { marks = its; mark_room = room - 1 })
    (marks-push marks codec pin listing.codec listing.pin (record { at = at; on = on })
    ∙ ap (λ (n : ℕ). marks_among marks listing.codec listing.pin ++ (if is_of codec pin listing then record { at = n; on = on } ∷ [] else [])) (sym solid))

pub mark-noted : (codec pin at : ℕ) (on : Bool) (marks : List PinMark) (room : ℕ) (lists : List Listing) → HaveBlocks at lists
    → map (noted (marks ++ record { codec = codec; pin = pin; mark = record { at = at; on = on } } ∷ []) (room - 1)) lists ≡ map (with_mark codec pin on) (map (noted marks room) lists)
mark-noted codec pin at on marks room lists have =
    same-lists (noted (marks ++ record { codec = codec; pin = pin; mark = record { at = at; on = on } } ∷ []) (room - 1)) (λ (listing : Listing). with_mark codec pin on (noted marks room listing)) lists
    (λ k d within. marked_one codec pin at on marks room (get_or lists k d) (have k d within))
    ∙ sym (map-map (with_mark codec pin on) (noted marks room) lists)

-- ---- the marks of one pin

module _ (marks : List PinMark) (room codec pin : ℕ) where
  found_by : (listing : Listing) (lists : List Listing) (here : Bool) → is_of codec pin listing ≡ here
      → (here ≡ false → marks_in (find (is_of codec pin) (map (noted marks room) lists)) ≡ marks_among marks codec pin)
      → marks_in (if here then Some (noted marks room listing) else find (is_of codec pin) (map (noted marks room) lists)) ≡ marks_among marks codec pin
  found_by listing lists true is rest =
      let first : listing.codec ≡ codec = search (rules, tests) in
      let second : listing.pin ≡ pin = search (rules, tests) in
      ap (λ (a : ℕ). marks_among marks a listing.pin) first ∙ ap (λ (b : ℕ). marks_among marks codec b) second
  found_by listing lists false is rest = rest refl

  here_is : (listing : Listing) → listing.codec ≡ codec → listing.pin ≡ pin → is_of codec pin listing ≡ true
  here_is listing same_codec same_pin =
      let first : (listing.codec == codec) ≡ true = eq-eqb listing.codec codec same_codec in
      let second : (listing.pin == pin) ≡ true = eq-eqb listing.pin pin same_pin in
      ap (λ (one : Bool). one && (listing.pin == pin)) first ∙ second

  found_at : (lists : List Listing) (k : ℕ) → k < length (pins_of lists) → get_or (pins_of lists) k (codec, pin) ≡ (codec, pin)
      → marks_in (find (is_of codec pin) (map (noted marks room) lists)) ≡ marks_among marks codec pin
  found_at [] k less is = absurd (omega (arith, less))
  found_at (listing ∷ lists) zero less is =
      found_by listing lists (is_of codec pin listing) refl (λ other. absurd (true≢false (sym (here_is listing (ap (λ (both : ℕ × ℕ). both.0) is) (ap (λ (both : ℕ × ℕ). both.1) is)) ∙ other)))
  found_at (listing ∷ lists) (suc k) less is =
      found_by listing lists (is_of codec pin listing) refl (λ other. found_at lists k (omega (arith, less)) is)

  pub found-marks : (lists : List Listing) → Contains (pins_of (map (noted marks room) lists)) (codec, pin)
      → marks_in (find (is_of codec pin) (map (noted marks room) lists)) ≡ marks_among marks codec pin
  found-marks lists there =
      let inside = subst (λ (pins : List (ℕ × ℕ)). Contains pins (codec, pin)) (pins-noted marks room lists) there in
      found_at lists inside.0 inside.1 inside.2

-- ---- no mark

-- what leaves each list leaves all
pub same-each : (f : Listing → Listing) (lists : List Listing) → ((listing : Listing) → f listing ≡ listing) → map f lists ≡ lists
same-each f [] each = refl
same-each f (listing ∷ lists) each =
    ap (λ (first : Listing). first ∷ map f lists) (each listing) ∙ ap (λ (rest : List Listing). listing ∷ rest) (same-each f lists each)

marked_by_none : (listing : Listing) → with_marks [] listing ≡ listing
marked_by_none listing =
    ap (λ (its : List Mark). record listing { marks = its; mark_room = listing.mark_room - 0 }) (append-nil listing.marks)
    ∙ ap (λ (room : ℕ). record listing { mark_room = room }) (whole listing.mark_room)
  where
    whole : (room : ℕ) → room - 0 ≡ room
    whole room = omega arith

pub marked-none : (lists : List Listing) → marked [] lists ≡ lists
marked-none lists = same-each (with_marks []) lists marked_by_none

-- ---- room

-- where there is some list, the room is that of all
pub mark-fits : (marks : List PinMark) (room more : ℕ) (lists : List Listing) → (length lists ≡ 0 → ⊥) → HasMarkRoom more (map (noted marks room) lists) → more ≤ room
mark-fits marks room more [] some has = absurd (some refl)
mark-fits marks room more (listing ∷ lists) some has = has 0 (noted marks room listing) (omega arith)

pub mark-room : (marks : List PinMark) (room more : ℕ) (lists : List Listing) → more ≤ room → HasMarkRoom more (map (noted marks room) lists)
mark-room marks room more lists fits = All-map (λ (listing : Listing). more ≤ listing.mark_room) (noted marks room) lists (λ k d within. fits)

-- room for items is that of the lists
pub item-room : (marks : List PinMark) (room more : ℕ) (lists : List Listing) → HasRoom more lists → HasRoom more (map (noted marks room) lists)
item-room marks room more lists has = All-map (λ (listing : Listing). more ≤ listing.room) (noted marks room) lists has

pub item-fits : (marks : List PinMark) (room more : ℕ) (lists : List Listing) → HasRoom more (map (noted marks room) lists) → HasRoom more lists
item-fits marks room more lists has = of-lists (λ (listing : Listing). more ≤ listing.room) (noted marks room) lists has

-- no list has less than before
pub mark-kept : (marks marks' : List PinMark) (room room' more : ℕ) (lists lists' : List Listing) → map handed_out lists' ≡ map handed_out lists → room ≤ room'
    → HasMarkRoom more (map (noted marks room) lists) → HasMarkRoom more (map (noted marks' room') lists')
mark-kept marks marks' room room' more lists lists' same no_less has =
    All-map (λ (listing : Listing). more ≤ listing.mark_room) (noted marks' room') lists' (λ k d within.
    let long : length lists' ≡ length lists = sym (length-map lists' handed_out) ∙ (ap length same ∙ length-map lists handed_out) in
    let fits : more ≤ room = of-lists (λ (listing : Listing). more ≤ listing.mark_room) (noted marks room) lists has k d (omega (arith, long, within)) in
    omega (arith, fits, no_less))

-- ---- at the start

pub listed-noted : (marks : List PinMark) (room : ℕ) (kind : PinKind) (graphs : List RawCodec) (lists : List Listing) → AreListsAs kind graphs lists → AreListsAs kind graphs (map (noted marks room) lists)
listed-noted marks room kind graphs lists are = record { orders = are.orders; ordered = are.ordered; pins = pins-noted marks room lists ∙ are.pins }

pub empty-noted : (marks : List PinMark) (room : ℕ) (lists : List Listing) → AreEmpty lists → AreEmpty (map (noted marks room) lists)
empty-noted marks room lists empty = All-map (λ (listing : Listing). listing.list ≡ []) (noted marks room) lists empty

pub unmarked-noted : (state : MarkState) (lists : List Listing) → state ≡ record { marks = []; room = 0 } → AreUnmarked (map (noted state.marks state.room) lists)
unmarked-noted state lists none =
    All-map (λ (listing : Listing). listing.marks ≡ []) (noted state.marks state.room) lists
    (λ k d within. ap (λ (all : MarkState). marks_among all.marks (get_or lists k d).codec (get_or lists k d).pin) none)
