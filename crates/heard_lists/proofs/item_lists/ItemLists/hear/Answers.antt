use Rattle.std.proofs.Common.{◌≡◌, ◌≤◌, ◌+◌, ◌-◌, ◌*◌, ◌/◌, ℕ, List, length, map, take, [], ◌++◌, sym, ap, subst, ◌∙◌, arith, refl}
use Rattle.std.specs.Prelude.{All, vec_len}
use Rattle.std.specs.Vec as vec
use Rattle.std.proofs.lemmas.List.{with_items_is, length-take-le, nil_from_length}
use Rattle.std.proofs.lemmas.Bool.Decides.{nat_tests}
use Rattle.std.proofs.Math.Nat.{div-mul-le_self}
use Rattle.stream_format.specs.Cadence.{block_bytes}
use Rattle.stream_format.specs.Layouts.{layout}
use Rattle.codec_sound.specs.declared.signals.Signal.{Signal}
use Rattle.codec_sound.specs.Signals.{IsAmong}
use Rattle.heard_lists.specs.Listings.{Listing, HasRoom, with_blocks}
use Rattle.heard_lists.specs.Pieces.{PinSignals, AreKept, listing_of}
use Rattle.heard_lists.proofs.Pieced.{room-of, has-room, some_from}
use Rattle.heard_lists.proofs.Taken.{of-pins, each-of, room-for-one, as-many, blocks-bytes, no-blocks}
use Rattle.heard_lists.proofs.item_lists.ItemLists.hear.Goals as goal
use Rattle.heard_lists.proofs.item_lists.ItemLists.hear.Goals.{then-blocks-eq0-via-then-blocks-eq0, then-blocks-eq0-via-else-blocks-eq0+then-is_empty}

pub take_in-requires-clause-known : goal.take_in-requires-clause-known
take_in-requires-clause-known g c =
    let h = c.self.inside in
    let value = c.as_mut_slice.ensures.value in
    subst (All (λ (pin : PinSignals). g.S.Sounds.IsKnown c.args.sounds.now pin.codec pin.pin)) (sym value)
    (of-pins (λ (l : Listing). g.S.Sounds.IsKnown c.args.sounds.now l.codec l.pin) (listing_of h.pieces.items h.bytes.items h.holes h.room) h.lists.items
    (subst (All (λ (l : Listing). g.S.Sounds.IsKnown c.args.sounds.now l.codec l.pin)) (sym c.self.view_is) c.requires.known))

pub take_in-requires-clause-pairs : goal.take_in-requires-clause-pairs
take_in-requires-clause-pairs g c =
    let h = c.self.inside in
    let signal : ℕ → ℕ → Signal = g.S.Sounds.signal_of c.args.sounds.now in
    let value = c.as_mut_slice.ensures.value in
    subst (All (λ (pin : PinSignals). IsAmong c.args.format.channels (signal pin.codec pin.pin))) (sym value)
    (of-pins (λ (l : Listing). IsAmong c.args.format.channels (signal l.codec l.pin)) (listing_of h.pieces.items h.bytes.items h.holes h.room) h.lists.items
    (subst (All (λ (l : Listing). IsAmong c.args.format.channels (signal l.codec l.pin))) (sym c.self.view_is) c.requires.pairs))

pub take_in-requires-clause-each : goal.take_in-requires-clause-each
take_in-requires-clause-each g c =
    let h = c.self.inside in
    let kept = c.self.invariant.0 in
    let value = c.as_mut_slice.ensures.value in
    subst (All (λ (pin : PinSignals). length pin.signals ≡ length h.pieces.items)) (sym value) (each-of h.pieces.items h.room h.lists.items kept.signalled)

pub take_in-requires-clause-room : goal.take_in-requires-clause-room
take_in-requires-clause-room g c =
    let h = c.self.inside in
    let size : ℕ = c.block_bytes-size.result in
    let given : List ℕ = c.args.bytes.now in
    let blocks : ℕ = length given / size in
    let is = c.block_bytes-size.ensures in
    let count : blocks ≡ length given / block_bytes c.args.format = ap (λ (n : ℕ). length given / n) is in
    let lists_ok = sym h.lists.ok.0 in
    let no_list = c.if-is_empty.false in
    let empty_is = c.is_empty.ensures in
    let room : length given / block_bytes c.args.format ≤ h.room =
    room-of h.pieces.items h.bytes.items h.holes h.room (length given / block_bytes c.args.format) h.lists.items
    (some_from (vec_len h.lists) h.lists.items c.is_empty.result empty_is no_list lists_ok)
    (subst (HasRoom (length given / block_bytes c.args.format)) (sym c.self.view_is) c.requires.room) in
    let fits : blocks ≤ h.room = subst (λ (n : ℕ). n ≤ h.room) (sym count) room in
    let not_none = c.if-blocks-eq0.false in
    let some : 1 ≤ blocks = grind (arith, nat_tests, not_none) in
    let kept = c.self.invariant.0 in
    let value = c.as_mut_slice.ensures.value in
    subst (All (λ (pin : PinSignals). 1 ≤ pin.room)) (sym value) (room-for-one h.pieces.items h.room h.lists.items (omega (arith, some, fits)) kept.signalled)

pub take_in-requires-clause-piece : goal.take_in-requires-clause-piece
take_in-requires-clause-piece g c =
    let h = c.self.inside in
    let size : ℕ = c.block_bytes-size.result in
    let given : List ℕ = c.args.bytes.now in
    let blocks : ℕ = length given / size in
    let is = c.block_bytes-size.ensures in
    let count : blocks ≡ length given / block_bytes c.args.format = ap (λ (n : ℕ). length given / n) is in
    let lists_ok = sym h.lists.ok.0 in
    let no_list = c.if-is_empty.false in
    let empty_is = c.is_empty.ensures in
    let room : length given / block_bytes c.args.format ≤ h.room =
    room-of h.pieces.items h.bytes.items h.holes h.room (length given / block_bytes c.args.format) h.lists.items
    (some_from (vec_len h.lists) h.lists.items c.is_empty.result empty_is no_list lists_ok)
    (subst (HasRoom (length given / block_bytes c.args.format)) (sym c.self.view_is) c.requires.room) in
    let fits : blocks ≤ h.room = subst (λ (n : ℕ). n ≤ h.room) (sym count) room in
    let not_none = c.if-blocks-eq0.false in
    let some : 1 ≤ blocks = grind (arith, nat_tests, not_none) in
    let held = c.self.invariant.2 in
    omega (arith, held, some, fits)

pub extend_within_capacity-requires : goal.extend_within_capacity-requires
extend_within_capacity-requires g c =
    let h = c.self.inside in
    let size : ℕ = c.block_bytes-size.result in
    let given : List ℕ = c.args.bytes.now in
    let blocks : ℕ = length given / size in
    let is = c.block_bytes-size.ensures in
    let count : blocks ≡ length given / block_bytes c.args.format = ap (λ (n : ℕ). length given / n) is in
    let lists_ok = sym h.lists.ok.0 in
    let no_list = c.if-is_empty.false in
    let empty_is = c.is_empty.ensures in
    let room : length given / block_bytes c.args.format ≤ h.room =
    room-of h.pieces.items h.bytes.items h.holes h.room (length given / block_bytes c.args.format) h.lists.items
    (some_from (vec_len h.lists) h.lists.items c.is_empty.result empty_is no_list lists_ok)
    (subst (HasRoom (length given / block_bytes c.args.format)) (sym c.self.view_is) c.requires.room) in
    let fits : blocks ≤ h.room = subst (λ (n : ℕ). n ≤ h.room) (sym count) room in
    let inside : blocks * block_bytes c.args.format ≤ length given = subst (λ (n : ℕ). blocks * n ≤ length given) is (div-mul-le_self (length given) size) in
    let most = (blocks-bytes c.args.format blocks).1 in
    let whole : List ℕ = take (blocks * size) given in
    let long : length whole ≡ blocks * block_bytes c.args.format =
    length-take-le (blocks * size) given (subst (λ (n : ℕ). blocks * n ≤ length given) (sym is) inside) ∙ ap (λ (n : ℕ). blocks * n) is in
    let held = c.self.invariant.1 in
    omega (arith, held, long, most, fits)

pub overflow_add-self : goal.overflow_add-self
overflow_add-self g c =
    let h = c.self.inside in
    let size : ℕ = c.block_bytes-size.result in
    let given : List ℕ = c.args.bytes.now in
    let blocks : ℕ = length given / size in
    let is = c.block_bytes-size.ensures in
    let count : blocks ≡ length given / block_bytes c.args.format = ap (λ (n : ℕ). length given / n) is in
    let lists_ok = sym h.lists.ok.0 in
    let no_list = c.if-is_empty.false in
    let empty_is = c.is_empty.ensures in
    let room : length given / block_bytes c.args.format ≤ h.room =
    room-of h.pieces.items h.bytes.items h.holes h.room (length given / block_bytes c.args.format) h.lists.items
    (some_from (vec_len h.lists) h.lists.items c.is_empty.result empty_is no_list lists_ok)
    (subst (HasRoom (length given / block_bytes c.args.format)) (sym c.self.view_is) c.requires.room) in
    let fits : blocks ≤ h.room = subst (λ (n : ℕ). n ≤ h.room) (sym count) room in
    let few = c.self.invariant.4 in
    omega (arith, few, fits)

pub overflow_sub-self : goal.overflow_sub-self
overflow_sub-self g c =
    let h = c.self.inside in
    let size : ℕ = c.block_bytes-size.result in
    let given : List ℕ = c.args.bytes.now in
    let blocks : ℕ = length given / size in
    let is = c.block_bytes-size.ensures in
    let count : blocks ≡ length given / block_bytes c.args.format = ap (λ (n : ℕ). length given / n) is in
    let lists_ok = sym h.lists.ok.0 in
    let no_list = c.if-is_empty.false in
    let empty_is = c.is_empty.ensures in
    let room : length given / block_bytes c.args.format ≤ h.room =
    room-of h.pieces.items h.bytes.items h.holes h.room (length given / block_bytes c.args.format) h.lists.items
    (some_from (vec_len h.lists) h.lists.items c.is_empty.result empty_is no_list lists_ok)
    (subst (HasRoom (length given / block_bytes c.args.format)) (sym c.self.view_is) c.requires.room) in
    let fits : blocks ≤ h.room = subst (λ (n : ℕ). n ≤ h.room) (sym count) room in
    fits

pub invariant_of-self : goal.invariant_of-self
invariant_of-self g c =
    let h = c.self.inside in
    let signal : ℕ → ℕ → Signal = g.S.Sounds.signal_of c.args.sounds.now in
    let size : ℕ = c.block_bytes-size.result in
    let given : List ℕ = c.args.bytes.now in
    let blocks : ℕ = length given / size in
    let is = c.block_bytes-size.ensures in
    let count : blocks ≡ length given / block_bytes c.args.format = ap (λ (n : ℕ). length given / n) is in
    let lists_ok = sym h.lists.ok.0 in
    let no_list = c.if-is_empty.false in
    let empty_is = c.is_empty.ensures in
    let room : length given / block_bytes c.args.format ≤ h.room =
    room-of h.pieces.items h.bytes.items h.holes h.room (length given / block_bytes c.args.format) h.lists.items
    (some_from (vec_len h.lists) h.lists.items c.is_empty.result empty_is no_list lists_ok)
    (subst (HasRoom (length given / block_bytes c.args.format)) (sym c.self.view_is) c.requires.room) in
    let fits : blocks ≤ h.room = subst (λ (n : ℕ). n ≤ h.room) (sym count) room in
    let not_none = c.if-blocks-eq0.false in
    let some : 1 ≤ blocks = grind (arith, nat_tests, not_none) in
    let kept = c.self.invariant.0 in
    let value = c.as_mut_slice.ensures.value in
    let inside : blocks * block_bytes c.args.format ≤ length given = subst (λ (n : ℕ). blocks * n ≤ length given) is (div-mul-le_self (length given) size) in
    let most = (blocks-bytes c.args.format blocks).1 in
    let pins : List PinSignals = c.as_mut_slice.result.now in
    let are : AreKept pins h.pieces.items h.bytes.items h.room = subst (λ (p : List PinSignals). AreKept p h.pieces.items h.bytes.items h.room) (sym value) kept in
    let whole : List ℕ = take (blocks * size) given in
    let long : length whole ≡ blocks * block_bytes c.args.format =
    length-take-le (blocks * size) given (subst (λ (n : ℕ). blocks * n ≤ length given) (sym is) inside) ∙ ap (λ (n : ℕ). blocks * n) is in
    let took = c.take_in.ensures.took in
    let many = as-many signal c.args.format blocks h.holes pins c.take_in.new.lists h.pieces.items c.take_in.new.pieces.items h.bytes.items given h.room took are count inside in
    let new_items : (vec.with_items h.lists c.take_in.new.lists).items ≡ c.take_in.new.lists =
    with_items_is h.lists c.take_in.new.lists (many ∙ (ap length value ∙ lists_ok)) in
    let bytes_held = c.self.invariant.1 in
    let pieces_held = c.self.invariant.2 in
    let counted = c.self.invariant.3 in
    let few = c.self.invariant.4 in
    let count_took = took.count in
    let bytes_len = c.extend_within_capacity.ensures.length in
    let bytes_cap = c.extend_within_capacity.ensures.capacity in
    let pieces_len = c.take_in.ensures.length in
    let pieces_cap = c.take_in.ensures.capacity in (
      subst (λ (p : List PinSignals). AreKept p c.take_in.new.pieces.items c.extend_within_capacity.new.items.items (h.room - blocks)) (sym new_items)
          (subst (λ (b : List ℕ). AreKept c.take_in.new.lists c.take_in.new.pieces.items b (h.room - blocks)) (sym c.extend_within_capacity.ensures.items)
          (took.kept h.bytes.items whole h.room are some fits long)),
      omega (arith, bytes_held, bytes_len, bytes_cap, long, most, fits),
      omega (arith, pieces_held, pieces_len, pieces_cap, some, fits),
      omega (arith, counted, count_took),
      omega (arith, few, fits),
    )

pub returns-clause-lists : goal.returns-clause-lists
returns-clause-lists g c =
    let h = c.self.inside in
    let signal : ℕ → ℕ → Signal = g.S.Sounds.signal_of c.args.sounds.now in
    let size : ℕ = c.block_bytes-size.result in
    let given : List ℕ = c.args.bytes.now in
    let blocks : ℕ = length given / size in
    let is = c.block_bytes-size.ensures in
    let count : blocks ≡ length given / block_bytes c.args.format = ap (λ (n : ℕ). length given / n) is in
    let lists_ok = sym h.lists.ok.0 in
    let kept = c.self.invariant.0 in
    let value = c.as_mut_slice.ensures.value in
    let inside : blocks * block_bytes c.args.format ≤ length given = subst (λ (n : ℕ). blocks * n ≤ length given) is (div-mul-le_self (length given) size) in
    let pins : List PinSignals = c.as_mut_slice.result.now in
    let are : AreKept pins h.pieces.items h.bytes.items h.room = subst (λ (p : List PinSignals). AreKept p h.pieces.items h.bytes.items h.room) (sym value) kept in
    let whole : List ℕ = take (blocks * size) given in
    let took = c.take_in.ensures.took in
    let many = as-many signal c.args.format blocks h.holes pins c.take_in.new.lists h.pieces.items c.take_in.new.pieces.items h.bytes.items given h.room took are count inside in
    let new_items : (vec.with_items h.lists c.take_in.new.lists).items ≡ c.take_in.new.lists =
    with_items_is h.lists c.take_in.new.lists (many ∙ (ap length value ∙ lists_ok)) in
    let on = took.lists h.bytes.items given h.room are count inside in
    let same : whole ≡ take (blocks * block_bytes c.args.format) given = ap (λ (n : ℕ). take (blocks * n) given) is in
    ap (map (listing_of c.take_in.new.pieces.items c.extend_within_capacity.new.items.items 0 (h.room - blocks))) new_items
    ∙ (ap (λ (b : List ℕ). map (listing_of c.take_in.new.pieces.items b 0 (h.room - blocks)) c.take_in.new.lists) (c.extend_within_capacity.ensures.items ∙ ap (λ (w : List ℕ). h.bytes.items ++ w) same)
    ∙ (on
    ∙ ap (map (with_blocks signal (layout c.args.format) given)) (ap (map (listing_of h.pieces.items h.bytes.items h.holes h.room)) value ∙ c.self.view_is)))

pub returns-clause-room : goal.returns-clause-room
returns-clause-room g c more has =
    let h = c.self.inside in
    let size : ℕ = c.block_bytes-size.result in
    let given : List ℕ = c.args.bytes.now in
    let blocks : ℕ = length given / size in
    let is = c.block_bytes-size.ensures in
    let count : blocks ≡ length given / block_bytes c.args.format = ap (λ (n : ℕ). length given / n) is in
    let lists_ok = sym h.lists.ok.0 in
    let no_list = c.if-is_empty.false in
    let empty_is = c.is_empty.ensures in
    let room : length given / block_bytes c.args.format ≤ h.room =
    room-of h.pieces.items h.bytes.items h.holes h.room (length given / block_bytes c.args.format) h.lists.items
    (some_from (vec_len h.lists) h.lists.items c.is_empty.result empty_is no_list lists_ok)
    (subst (HasRoom (length given / block_bytes c.args.format)) (sym c.self.view_is) c.requires.room) in
    let more_room : length given / block_bytes c.args.format + more ≤ h.room =
    room-of h.pieces.items h.bytes.items h.holes h.room (length given / block_bytes c.args.format + more) h.lists.items
    (some_from (vec_len h.lists) h.lists.items c.is_empty.result empty_is no_list lists_ok)
    (subst (HasRoom (length given / block_bytes c.args.format + more)) (sym c.self.view_is) has) in
    has-room c.take_in.new.pieces.items c.extend_within_capacity.new.items.items 0 (h.room - blocks) more (vec.with_items h.lists c.take_in.new.lists).items
    (omega (arith, more_room, count))

pub returns-then-blocks-eq0-clause-lists : goal.returns-then-blocks-eq0-clause-lists
returns-then-blocks-eq0-clause-lists g c =
    let h = c.self.inside in
    let signal : ℕ → ℕ → Signal = g.S.Sounds.signal_of c.args.sounds.now in
    let given : List ℕ = c.args.bytes.now in
    let size_is = c.block_bytes-size.ensures in
    elim c.then-blocks-eq0.branch [
      | then-blocks-eq0-via-then-blocks-eq0 w ↦
          let none = w.if-blocks-eq0.true in
          let zero_blocks : length given / c.block_bytes-size.result ≡ 0 = grind (arith, nat_tests, none) in
          no-blocks signal (layout c.args.format) given c.args.self.now (ap (λ (n : ℕ). length given / n) (sym size_is) ∙ zero_blocks)
      | then-blocks-eq0-via-else-blocks-eq0+then-is_empty w ↦
          let none = w.if-is_empty.true in
          let is = w.is_empty.ensures in
          let ok = h.lists.ok.0 in
          let long : length h.lists.items ≡ 0 = grind (arith, nat_tests, none, is, ok) in
          let nil : h.lists.items ≡ [] = nil_from_length h.lists.items long in
          let now : [] ≡ c.args.self.now = sym (ap (map (listing_of h.pieces.items h.bytes.items h.holes h.room)) nil) ∙ c.self.view_is in
          subst (λ (l : List Listing). l ≡ map (with_blocks signal (layout c.args.format) given) l) now refl
    ]
