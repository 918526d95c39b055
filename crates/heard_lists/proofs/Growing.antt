-- Lists that grow.
use Rattle.std.proofs.Common.{◌≡◌, ◌≢◌, ◌≤◌, ◌<◌, ◌+◌, ◌-◌, ℕ, suc, List, [], ◌∷◌, ◌++◌, length, map, get_or, set, drop}
use Rattle.std.proofs.Common.{nat_eq, Bool, true, false, Some, if◌then◌else◌, tests, rules, refl, sym, ap, subst, ◌∙◌}
use Rattle.std.proofs.Common.{arith, ◌*◌, length-append, length-set, Option}
use Rattle.std.specs.List.{find, range_with_len, AllZip}
use Rattle.std.proofs.Math.Nat.{suc-mul}
use Rattle.std.proofs.lemmas.List.{drop_more, get_or-set_other, map-append, append-nil, append_assoc, length-map}
use Rattle.std.proofs.lemmas.List.FromFn.{length-range_with_len, map-range_with_len_more}
use Rattle.std.proofs.lemmas.Grind.{get_or-set_at}
use Rattle.std.proofs.lemmas.List.Elements.{All-map}
use Rattle.codec_graph.specs.declared.raw.RawCodec.{RawCodec}
use Rattle.stream_format.specs.Layouts.{Layout, layout_of}
use Rattle.world_streams.specs.Output.{Sent, Missed}
use Rattle.hda_world.specs.Worlds.{CarriedFrame}
use Rattle.codec_sound.specs.declared.signals.Signal.{Signal}
use Rattle.heard_frames.specs.declared.heard.Heard.{Heard}
use Rattle.heard_frames.specs.declared.heard.Heard.TheVariants.{Hole}
use Rattle.heard_frames.specs.HeardLists.{signal_in_as, heard_in, frame_items_as, block_at, block_size, item_of, heard_as}
use Rattle.heard_frames.proofs.Callers.{heard-append, items-missed, items-empty}
use Rattle.codec_graph.specs.declared.pin_kind.PinKind.{PinKind}
use Rattle.codec_graph.specs.Order.{IsOrderAs}
use Rattle.heard_lists.specs.Listings.{HasRoom, with_blocks, Listing, AreListsAs, AreEmpty, places_of, places_in, is_of}
use Rattle.heard_lists.specs.Listings.{pins_of, empty_lists, with_items, items_before, grown_as}

-- ---- one list

-- one more item
pub with_more : (listing : Listing) (items : List Heard) (item : Heard)
    → record (with_items items listing) {
      list = (with_items items listing).list ++ item ∷ [];
      room
          = (with_items items listing).room - 1;
    } ≡ with_items (items ++ item ∷ []) listing
with_more listing items item =
    ap (λ (list : List Heard). record listing { list = list; room = listing.room - length items - 1 })
    (append_assoc listing.list items (item ∷ []))
    ∙ ap (λ (room : ℕ). record listing { list = listing.list ++ (items ++ item ∷ []); room = room })
    (fewer listing.room)
  where
    fewer : (room : ℕ) → room - length items - 1 ≡ room - length (items ++ item ∷ [])
    fewer room = simp (length-append) omega arith

-- and items after items
pub with_both : (listing : Listing) (first second : List Heard)
    → with_items second (with_items first listing) ≡ with_items (first ++ second) listing
with_both listing first second =
    ap (λ (list : List Heard). record listing { list = list; room = listing.room - length first - length second })
    (append_assoc listing.list first second)
    ∙ ap (λ (room : ℕ). record listing { list = listing.list ++ (first ++ second); room = room }) (fewer listing.room)
  where
    fewer : (room : ℕ) → room - length first - length second ≡ room - length (first ++ second)
    fewer room = simp (length-append) omega arith

-- no items
pub with_none : (listing : Listing) → with_items [] listing ≡ listing
with_none listing =
    ap (λ (list : List Heard). record listing { list = list; room = listing.room - 0 }) (append-nil listing.list)
    ∙ ap (λ (room : ℕ). record listing { room = room }) (whole listing.room)
  where
    whole : (room : ℕ) → room - 0 ≡ room
    whole room = omega arith

-- ---- the blocks of a frame

pub length-before : (layout : Layout) (signal : Signal) (bytes : List ℕ) (count : ℕ)
    → length (items_before layout signal bytes count) ≡ count
length-before layout signal bytes count = simp (length-map, length-range_with_len)

pub before-more : (layout : Layout) (signal : Signal) (bytes : List ℕ) (count : ℕ)
    → items_before layout signal bytes (count + 1) ≡ items_before layout signal bytes count ++ item_of layout signal
    (block_at (block_size layout) bytes count) ∷ []
before-more layout signal bytes count =
    ap (map (item_of layout signal)) (map-range_with_len_more (block_at (block_size layout) bytes) 0 count count
    (omega arith))
    ∙ map-append (item_of layout signal) (map (block_at (block_size layout) bytes) (range_with_len 0 count))
    (block_at (block_size layout) bytes count ∷ [])

pub suc_times : (place size : ℕ) → (place + 1) * size ≡ place * size + size
suc_times place size = let e : place + 1 ≡ suc place = omega arith in ap (λ (n : ℕ). n * size) e ∙ suc-mul place size

-- a block ends one block's size after its begin
pub piece_of : (place size : ℕ) → (place + 1) * size - place * size ≡ size
piece_of place size = let e : (place + 1) * size ≡ place * size + size = suc_times place size in rw e omega arith

-- ---- the lists of codecs

places-push : (kind : PinKind) (graphs : List RawCodec) (orders : List (List ℕ)) (graph : RawCodec) (pins : List ℕ)
    → AllZip (IsOrderAs kind) graphs orders
    → places_in (graphs ++ graph ∷ []) (orders ++ pins ∷ []) ≡ places_in graphs orders ++ places_of graph.address pins
places-push kind [] [] graph pins h = append-nil (places_of graph.address pins)
places-push kind [] (first ∷ orders) graph pins h = absurd h
places-push kind (first ∷ graphs) [] graph pins h = absurd h
places-push kind (first ∷ graphs) (order ∷ orders) graph pins h =
    ap (λ (rest : List (ℕ × ℕ)). places_of first.address order ++ rest) (places-push kind graphs orders graph pins h.1)
    ∙ sym (append_assoc (places_of first.address order) (places_in graphs orders) (places_of graph.address pins))

ordered-push : (kind : PinKind) (graphs : List RawCodec) (orders : List (List ℕ)) (graph : RawCodec) (pins : List ℕ)
    → AllZip (IsOrderAs kind) graphs orders → IsOrderAs kind graph pins
    → AllZip (IsOrderAs kind) (graphs ++ graph ∷ []) (orders ++ pins ∷ [])
ordered-push kind [] [] graph pins h order = (order, tt)
ordered-push kind [] (first ∷ orders) graph pins h order = absurd h
ordered-push kind (first ∷ graphs) [] graph pins h order = absurd h
ordered-push kind (first ∷ graphs) (other ∷ orders) graph pins h order = (
  h.0,
  ordered-push kind graphs orders graph pins h.1
      order,
)

pins-empty : (address : ℕ) (pins : List ℕ) → pins_of (empty_lists address pins) ≡ places_of address pins
pins-empty address [] = refl
pins-empty address (pin ∷ pins) = ap (λ (rest : List (ℕ × ℕ)). (address, pin) ∷ rest) (pins-empty address pins)

pub AreListsAs-push : (kind : PinKind) (graphs : List RawCodec) (lists : List Listing) (graph : RawCodec) (pins : List ℕ)
    → AreListsAs kind graphs lists → IsOrderAs kind graph pins
    → AreListsAs kind (graphs ++ graph ∷ []) (lists ++ empty_lists graph.address pins)
AreListsAs-push kind graphs lists graph pins are order = record {
  orders = are.orders ++ pins ∷ [];
  ordered = ordered-push kind graphs are.orders graph pins are.ordered order;
  pins = map-append (λ (listing : Listing). (listing.codec, listing.pin)) lists (empty_lists graph.address pins)
      ∙ (ap (λ (front : List (ℕ × ℕ)). front ++ pins_of (empty_lists graph.address pins)) are.pins
      ∙ (ap (λ (back : List (ℕ × ℕ)). places_in graphs are.orders ++ back) (pins-empty graph.address pins)
      ∙ sym (places-push kind graphs are.orders graph pins are.ordered)));
}

pub AreListsAs-none : (kind : PinKind) → AreListsAs kind [] []
AreListsAs-none kind = record { orders = []; ordered = tt; pins = refl }

-- ---- frames in turn

pub grown-append : (kind : PinKind) (first second : List CarriedFrame) (lists : List Listing)
    → grown_as kind second (grown_as kind first lists) ≡ grown_as kind (first ++ second) lists
grown-append kind first second [] = refl
grown-append kind first second (listing ∷ lists) =
    let one : with_items (heard_as kind listing.codec listing.pin second) (with_items (heard_as kind listing.codec listing.pin first)
    listing) ≡ with_items (heard_as kind listing.codec listing.pin (first ++ second)) listing =
    with_both listing (heard_as kind listing.codec listing.pin first) (heard_as kind listing.codec listing.pin second)
    ∙ ap (λ (items : List Heard). with_items items listing) (sym (heard-append kind listing.codec listing.pin first second))
    in
    ap (λ (l : Listing). l ∷ grown_as kind second (grown_as kind first lists)) one
    ∙ ap (λ (rest : List Listing). with_items (heard_as kind listing.codec listing.pin (first ++ second)) listing ∷ rest)
    (grown-append kind first second lists)

pub grown-none : (kind : PinKind) (lists : List Listing) → grown_as kind [] lists ≡ lists
grown-none kind [] = refl
grown-none kind (listing ∷ lists) =
    ap (λ (l : Listing). l ∷ grown_as kind [] lists) (with_none listing) ∙ ap (λ (rest : List Listing). listing ∷ rest)
    (grown-none kind lists)

-- ---- loops over lists

-- a list that isn't looked for
pub find-on : (p : Listing → Bool) (lists : List Listing) (i : ℕ) (listing : Listing) → i < length lists
    → listing ≡ get_or lists i listing → p listing ≡ false
    → find p (drop (i + 1) lists) ≡ find p (drop i lists)
find-on p lists i listing inside is other =
    sym (ap (find p) (drop_more lists i listing inside ∙ ap (λ (l : Listing). l ∷ drop (i + 1) lists) (sym is))
    ∙ ap (λ (found : Bool). if found then Some listing else find p (drop (i + 1) lists)) other)

pub found-is : (codec pin : ℕ) (listing : Listing) → ◌≡◌ {A = ℕ × ℕ} (listing.codec, listing.pin) (codec, pin)
    → is_of codec pin listing ≡ true
found-is codec pin listing e =
    let address : listing.codec ≡ codec = ap (λ (p : ℕ × ℕ). p.0) e in
    let node : listing.pin ≡ pin = ap (λ (p : ℕ × ℕ). p.1) e in
    search (rules, tests)

-- one more list has room
pub room-more : (lists : List Listing) (i items : ℕ) (new : Listing) → i < length lists → items ≤ new.room
    → ((k : ℕ) (d : Listing) → k < i → items ≤ (get_or lists k d).room) → (k : ℕ) (d : Listing) → k < i + 1
    → items ≤ (get_or (set lists i new) k d).room
room-more lists i items new inside some before k d within = by_place (nat_eq k i) refl
  where
    by_place : (same : Bool) → nat_eq k i ≡ same → items ≤ (get_or (set lists i new) k d).room
    by_place true is =
        let here : k ≡ i = search (rules, tests) in
        subst (λ (l : Listing). items ≤ l.room) (sym (get_or-set_at lists i k new d here inside)) some
    by_place false is =
        let apart : k ≢ i = search (rules, tests) in
        let below : k < i = omega (arith, apart) in
        subst (λ (l : Listing). items ≤ l.room) (sym (get_or-set_other lists i k new d apart)) (before k d below)

pub AreEmpty-empty : (address : ℕ) (pins : List ℕ) → AreEmpty (empty_lists address pins)
AreEmpty-empty address pins =
    All-map (λ (listing : Listing). listing.list ≡ [])
    (λ (pin : ℕ). record { codec = address; pin = pin; list = []; room = 0; marks = []; mark_room = 0 }) pins (λ k d within. refl)

-- a list that has no less room than the one that it replaces
pub room-kept : (lists : List Listing) (i more : ℕ) (new : Listing) → i < length lists
    → (get_or lists i new).room ≤ new.room → HasRoom more lists → HasRoom more (set lists i new)
room-kept lists i more new inside no_less holds k d within = by_place (nat_eq k i) refl
  where
    by_place : (same : Bool) → nat_eq k i ≡ same → more ≤ (get_or (set lists i new) k d).room
    by_place true is =
        let here : k ≡ i = search (rules, tests) in
        let some : more ≤ (get_or lists i new).room = holds i new inside in
        subst (λ (l : Listing). more ≤ l.room) (sym (get_or-set_at lists i k new d here inside))
        (omega (arith, some, no_less))
    by_place false is =
        let apart : k ≢ i = search (rules, tests) in
        let long : length (set lists i new) ≡ length lists = length-set lists i new in
        subst (λ (l : Listing). more ≤ l.room) (sym (get_or-set_other lists i k new d apart))
        (holds k d (omega (arith, long, within)))

-- ---- one frame

heard-one : (kind : PinKind) (codec pin : ℕ) (frame : CarriedFrame) → heard_as kind codec pin (frame ∷ []) ≡ frame_items_as kind codec pin frame
heard-one kind codec pin frame = append-nil (frame_items_as kind codec pin frame)

-- what each list gains by a frame
grown-by : (kind : PinKind) (items : Listing → List Heard) (frame : CarriedFrame) (lists : List Listing)
    → ((listing : Listing) → frame_items_as kind listing.codec listing.pin frame ≡ items listing)
    → map (λ (listing : Listing). with_items (items listing) listing) lists ≡ grown_as kind (frame ∷ []) lists
grown-by kind items frame [] same = refl
grown-by kind items frame (listing ∷ lists) same =
    ap (λ (l : Listing). l ∷ map (λ (listing : Listing). with_items (items listing) listing) lists)
    (ap (λ (i : List Heard). with_items i listing) (sym (heard-one kind listing.codec listing.pin frame ∙ same listing)))
    ∙ ap (λ (rest : List Listing). with_items (heard_as kind listing.codec listing.pin (frame ∷ [])) listing ∷ rest)
    (grown-by kind items frame lists same)

pub blocks-grow : (kind : PinKind) (frame : CarriedFrame) (layout : Layout) (bytes : List ℕ) (lists : List Listing)
    → layout_of frame.format ≡ Some layout → frame.carriage ≡ Sent bytes
    → map (with_blocks (λ codec pin. signal_in_as kind codec pin frame) layout bytes) lists ≡ grown_as kind (frame ∷ []) lists
blocks-grow kind frame layout bytes lists reading carried =
    grown-by kind (λ listing. heard_in (Some layout) (signal_in_as kind listing.codec listing.pin frame) (Sent bytes)) frame lists
    (λ listing. ap (λ (found : Option Layout). heard_in found (signal_in_as kind listing.codec listing.pin frame)
    frame.carriage) reading
    ∙ ap (heard_in (Some layout) (signal_in_as kind listing.codec listing.pin frame)) carried)

pub hole-grows : (kind : PinKind) (frame : CarriedFrame) (lists : List Listing) → frame.carriage ≡ Missed
    → map (with_items (Hole ∷ [])) lists ≡ grown_as kind (frame ∷ []) lists
hole-grows kind frame lists missed = grown-by kind (λ listing. Hole ∷ []) frame lists
    (λ listing. items-missed kind listing.codec listing.pin frame missed)

pub gap-grows : (kind : PinKind) (frame : CarriedFrame) (lists : List Listing) → frame.carriage ≡ Sent []
    → lists ≡ grown_as kind (frame ∷ []) lists
gap-grows kind frame lists none = sym (grown-nothing lists) ∙ grown-by kind (λ listing. []) frame lists
    (λ listing. items-empty kind listing.codec listing.pin frame none)
  where
    grown-nothing : (lists : List Listing) → map (λ (listing : Listing). with_items [] listing) lists ≡ lists
    grown-nothing [] = refl
    grown-nothing (listing ∷ lists) =
        ap (λ (l : Listing). l ∷ map (λ (listing : Listing). with_items [] listing) lists) (with_none listing) ∙ ap
        (λ (rest : List Listing). listing ∷ rest) (grown-nothing lists)

-- ---- the room that is left

pub room-after : (count more : ℕ) (items : Listing → List Heard) (lists : List Listing)
    → ((listing : Listing) → length (items listing) ≡ count) → HasRoom (count + more) lists
    → HasRoom more (map (λ (listing : Listing). with_items (items listing) listing) lists)
room-after count more items lists size has =
    All-map (λ (listing : Listing). more ≤ listing.room) (λ (listing : Listing). with_items (items listing) listing)
    lists
    (λ k d within. left (get_or lists k d) (has k d within))
  where
    left : (listing : Listing) → count + more ≤ listing.room → more ≤ listing.room - length (items listing)
    left listing fits = let same = size listing in omega (arith, same, fits)

-- lists with room for some items have room for fewer
pub HasRoom-fewer : (fewer items : ℕ) (lists : List Listing) → fewer ≤ items → HasRoom items lists → HasRoom fewer lists
HasRoom-fewer fewer items lists no_more has k d within = let room = has k d within in omega (arith, no_more, room)
