use Rattle.std.proofs.Common.{◌≡◌, ◌+◌, ℕ, List, map, sym, ap, subst, ◌∙◌, arith, rules}
use Rattle.std.specs.Vec as vec
use Rattle.std.proofs.lemmas.List.{with_items_is}
use Rattle.std.proofs.lemmas.Bool.Decides.{nat_tests}
use Rattle.heard_lists.specs.declared.pieces.Piece.{Piece}
use Rattle.heard_lists.specs.Listings.{HasRoom, handed_out}
use Rattle.heard_lists.specs.Pieces.{PinSignals, AreKept, HaveRoom, listing_of, pieces_count, without_room}
use Rattle.heard_lists.proofs.Pieced.{has-room}
use Rattle.heard_lists.proofs.Reserved.{handed-same, as-long, fits-of, signalled-same, room-same}
use Rattle.heard_lists.proofs.item_lists.ItemLists.make_room.Goals as goal

pub returns-then-items-self-clause-room : goal.returns-then-items-self-clause-room
returns-then-items-self-clause-room c =
    let h = c.self.inside in
    let test = c.if-items-self.true in
    subst (HasRoom c.args.blocks) c.self.view_is (has-room h.pieces.items h.bytes.items h.holes h.room c.args.blocks h.lists.items (grind (arith, nat_tests, test)))

pub invariant_of-self-in_err-reserve_all : goal.invariant_of-self-in_err-reserve_all
invariant_of-self-in_err-reserve_all c =
    let h = c.self.inside in
    let new : List PinSignals = c.reserve_all.new.lists in
    let value = c.as_mut_slice.ensures.value in
    let same : map without_room new ≡ map without_room h.lists.items = c.in_err-reserve_all.ensures.lists ∙ ap (map without_room) value in
    let long = as-long h.lists.items new same in
    let lists_ok = sym h.lists.ok.0 in
    let new_items : (vec.with_items h.lists new).items ≡ new = with_items_is h.lists new (long ∙ lists_ok) in
    let all = c.self.invariant.0.signalled in
    let bytes_same = c.in_ok-reserve.ensures.items in
    let pieces_same = c.in_ok-reserve-2.ensures.items in
    let has : HaveRoom h.room new = c.in_err-reserve_all.ensures.kept h.room (subst (HaveRoom h.room) (sym value) (fits-of h.pieces.items h.room h.lists.items all)) in
    let whole_new : AreKept new h.pieces.items h.bytes.items h.room =
    record { whole = c.self.invariant.0.whole; signalled = signalled-same h.pieces.items h.room h.room h.lists.items new same has all } in
    let there : AreKept (vec.with_items h.lists new).items c.reserve-2.new.self.items c.reserve.new.self.items h.room =
    subst (λ (l : List PinSignals). AreKept l c.reserve-2.new.self.items c.reserve.new.self.items h.room) (sym new_items)
    (subst (λ (p : List Piece). AreKept new p c.reserve.new.self.items h.room) (sym pieces_same)
    (subst (λ (b : List ℕ). AreKept new h.pieces.items b h.room) (sym bytes_same) whole_new)) in
    let a = c.self.invariant.1 in
    let b = c.self.invariant.2 in
    let counted = c.self.invariant.3 in
    let e = c.self.invariant.4 in
    let bl = c.in_ok-reserve.ensures.len in
    let bc = c.in_ok-reserve.ensures.capacity in
    let pl = c.in_ok-reserve-2.ensures.len in
    let pc = c.in_ok-reserve-2.ensures.capacity in
    (there, omega (arith, a, bl, bc), omega (arith, b, pl, pc), subst (λ (p : List Piece). pieces_count p + h.holes ≡ h.count) (sym pieces_same) counted, e)

pub returns-in_err-reserve_all-clause-kept : goal.returns-in_err-reserve_all-clause-kept
returns-in_err-reserve_all-clause-kept c items has =
    let h = c.self.inside in
    let new : List PinSignals = c.reserve_all.new.lists in
    let value = c.as_mut_slice.ensures.value in
    let same : map without_room new ≡ map without_room h.lists.items = c.in_err-reserve_all.ensures.lists ∙ ap (map without_room) value in
    let long = as-long h.lists.items new same in
    let lists_ok = sym h.lists.ok.0 in
    let new_items : (vec.with_items h.lists new).items ≡ new = with_items_is h.lists new (long ∙ lists_ok) in
    subst (λ (l : List PinSignals). HasRoom items (map (listing_of c.reserve-2.new.self.items c.reserve.new.self.items h.holes h.room) l)) (sym new_items)
    (room-same h.pieces.items c.reserve-2.new.self.items h.bytes.items c.reserve.new.self.items h.holes h.holes h.room h.room items h.lists.items new long (omega arith)
    (subst (HasRoom items) (sym c.self.view_is) has))

pub returns-in_err-reserve_all-clause-lists : goal.returns-in_err-reserve_all-clause-lists
returns-in_err-reserve_all-clause-lists c =
    let h = c.self.inside in
    let new : List PinSignals = c.reserve_all.new.lists in
    let value = c.as_mut_slice.ensures.value in
    let same : map without_room new ≡ map without_room h.lists.items = c.in_err-reserve_all.ensures.lists ∙ ap (map without_room) value in
    let long = as-long h.lists.items new same in
    let lists_ok = sym h.lists.ok.0 in
    let new_items : (vec.with_items h.lists new).items ≡ new = with_items_is h.lists new (long ∙ lists_ok) in
    let bytes_same = c.in_ok-reserve.ensures.items in
    let pieces_same = c.in_ok-reserve-2.ensures.items in
    ap (λ (l : List PinSignals). map handed_out (map (listing_of c.reserve-2.new.self.items c.reserve.new.self.items h.holes h.room) l)) new_items
    ∙ (ap (λ (p : List Piece). map handed_out (map (listing_of p c.reserve.new.self.items h.holes h.room) new)) pieces_same
    ∙ (ap (λ (b : List ℕ). map handed_out (map (listing_of h.pieces.items b h.holes h.room) new)) bytes_same
    ∙ (handed-same h.pieces.items h.bytes.items h.holes h.room h.room h.lists.items new same
    ∙ ap (map handed_out) c.self.view_is)))

pub invariant_of-self-2 : goal.invariant_of-self-2
invariant_of-self-2 c =
    let h = c.self.inside in
    let new : List PinSignals = c.reserve_all.new.lists in
    let value = c.as_mut_slice.ensures.value in
    let same : map without_room new ≡ map without_room h.lists.items = c.in_ok-reserve_all.ensures.lists ∙ ap (map without_room) value in
    let long = as-long h.lists.items new same in
    let lists_ok = sym h.lists.ok.0 in
    let new_items : (vec.with_items h.lists new).items ≡ new = with_items_is h.lists new (long ∙ lists_ok) in
    let all = c.self.invariant.0.signalled in
    let bytes_same = c.in_ok-reserve.ensures.items in
    let pieces_same = c.in_ok-reserve-2.ensures.items in
    let has : HaveRoom c.args.blocks new = c.in_ok-reserve_all.ensures.room in
    let whole_new : AreKept new h.pieces.items h.bytes.items c.args.blocks =
    record { whole = c.self.invariant.0.whole; signalled = signalled-same h.pieces.items h.room c.args.blocks h.lists.items new same has all } in
    let there : AreKept (vec.with_items h.lists new).items c.reserve-2.new.self.items c.reserve.new.self.items c.args.blocks =
    subst (λ (l : List PinSignals). AreKept l c.reserve-2.new.self.items c.reserve.new.self.items c.args.blocks) (sym new_items)
    (subst (λ (p : List Piece). AreKept new p c.reserve.new.self.items c.args.blocks) (sym pieces_same)
    (subst (λ (b : List ℕ). AreKept new h.pieces.items b c.args.blocks) (sym bytes_same) whole_new)) in
    let a = c.self.invariant.1 in
    let b = c.self.invariant.2 in
    let counted = c.self.invariant.3 in
    let e = c.self.invariant.4 in
    let bl = c.in_ok-reserve.ensures.len in
    let bo = c.in_ok-reserve.ensures.ok in
    let bc = c.in_ok-reserve.ensures.capacity in
    let pl = c.in_ok-reserve-2.ensures.len in
    let po = c.in_ok-reserve-2.ensures.ok in
    let pc = c.in_ok-reserve-2.ensures.capacity in
    let times = c.in-Some.ensures in
    let sum = c.checked_add.ensures in
    let none = c.if-is_none.false in
    let is = c.is_none.ensures in
    (there, grind (arith, bl, bo, times), omega (arith, pl, po), subst (λ (p : List Piece). pieces_count p + h.holes ≡ h.count) (sym pieces_same) counted, search (rules))

pub returns-clause-kept : goal.returns-clause-kept
returns-clause-kept c items has =
    let h = c.self.inside in
    let new : List PinSignals = c.reserve_all.new.lists in
    let value = c.as_mut_slice.ensures.value in
    let same : map without_room new ≡ map without_room h.lists.items = c.in_ok-reserve_all.ensures.lists ∙ ap (map without_room) value in
    let long = as-long h.lists.items new same in
    let lists_ok = sym h.lists.ok.0 in
    let new_items : (vec.with_items h.lists new).items ≡ new = with_items_is h.lists new (long ∙ lists_ok) in
    subst (λ (l : List PinSignals). HasRoom items (map (listing_of c.reserve-2.new.self.items c.reserve.new.self.items h.holes c.args.blocks) l)) (sym new_items)
    (room-same h.pieces.items c.reserve-2.new.self.items h.bytes.items c.reserve.new.self.items h.holes h.holes h.room c.args.blocks items h.lists.items new long (let a = c.if-items-self.false in grind (arith, nat_tests, a))
    (subst (HasRoom items) (sym c.self.view_is) has))

pub returns-clause-lists : goal.returns-clause-lists
returns-clause-lists c =
    let h = c.self.inside in
    let new : List PinSignals = c.reserve_all.new.lists in
    let value = c.as_mut_slice.ensures.value in
    let same : map without_room new ≡ map without_room h.lists.items = c.in_ok-reserve_all.ensures.lists ∙ ap (map without_room) value in
    let long = as-long h.lists.items new same in
    let lists_ok = sym h.lists.ok.0 in
    let new_items : (vec.with_items h.lists new).items ≡ new = with_items_is h.lists new (long ∙ lists_ok) in
    let bytes_same = c.in_ok-reserve.ensures.items in
    let pieces_same = c.in_ok-reserve-2.ensures.items in
    ap (λ (l : List PinSignals). map handed_out (map (listing_of c.reserve-2.new.self.items c.reserve.new.self.items h.holes c.args.blocks) l)) new_items
    ∙ (ap (λ (p : List Piece). map handed_out (map (listing_of p c.reserve.new.self.items h.holes c.args.blocks) new)) pieces_same
    ∙ (ap (λ (b : List ℕ). map handed_out (map (listing_of h.pieces.items b h.holes c.args.blocks) new)) bytes_same
    ∙ (handed-same h.pieces.items h.bytes.items h.holes h.room c.args.blocks h.lists.items new same
    ∙ ap (map handed_out) c.self.view_is)))

pub returns-clause-room : goal.returns-clause-room
returns-clause-room c =
    let h = c.self.inside in
    has-room c.reserve-2.new.self.items c.reserve.new.self.items h.holes c.args.blocks c.args.blocks (vec.with_items h.lists c.reserve_all.new.lists).items (omega arith)
