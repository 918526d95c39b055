use Rattle.std.proofs.Common.{◌+◌, ◌-◌, List, map, [], ◌∷◌, sym, ap, subst, ◌∙◌, arith}
use Rattle.std.specs.Prelude.{vec_len}
use Rattle.heard_frames.specs.declared.heard.Heard.TheVariants.{Hole}
use Rattle.heard_lists.specs.Listings.{Listing, HasRoom, with_items}
use Rattle.heard_lists.specs.Pieces.{listing_of, IsSignalled}
use Rattle.heard_lists.proofs.Pieced.{listing-missed, map-each, room-of, has-room, signalled-fewer, some_from}
use Rattle.heard_lists.proofs.item_lists.ItemLists.miss.Goals as goal

pub overflow_add-self : goal.overflow_add-self
overflow_add-self c = let room = (let h = c.self.inside in let ok = sym h.lists.ok.0 in let none = c.if-is_empty.false in let is = c.is_empty.ensures in
    room-of h.pieces.items h.bytes.items h.holes h.room 1 h.lists.items (some_from (vec_len h.lists) h.lists.items c.is_empty.result is none ok) (subst (HasRoom 1) (sym c.self.view_is) c.requires)) in let few = c.self.invariant.4 in let counted = c.self.invariant.3 in omega (arith, room, few, counted)

pub overflow_add-self-2 : goal.overflow_add-self-2
overflow_add-self-2 c = let room = (let h = c.self.inside in let ok = sym h.lists.ok.0 in let none = c.if-is_empty.false in let is = c.is_empty.ensures in
    room-of h.pieces.items h.bytes.items h.holes h.room 1 h.lists.items (some_from (vec_len h.lists) h.lists.items c.is_empty.result is none ok) (subst (HasRoom 1) (sym c.self.view_is) c.requires)) in let few = c.self.invariant.4 in let counted = c.self.invariant.3 in omega (arith, room, few, counted)

pub overflow_sub-self : goal.overflow_sub-self
overflow_sub-self c = (let h = c.self.inside in let ok = sym h.lists.ok.0 in let none = c.if-is_empty.false in let is = c.is_empty.ensures in
    room-of h.pieces.items h.bytes.items h.holes h.room 1 h.lists.items (some_from (vec_len h.lists) h.lists.items c.is_empty.result is none ok) (subst (HasRoom 1) (sym c.self.view_is) c.requires))

pub invariant_of-self : goal.invariant_of-self
invariant_of-self c =
    let h = c.self.inside in
    let room = (let h = c.self.inside in let ok = sym h.lists.ok.0 in let none = c.if-is_empty.false in let is = c.is_empty.ensures in
    room-of h.pieces.items h.bytes.items h.holes h.room 1 h.lists.items (some_from (vec_len h.lists) h.lists.items c.is_empty.result is none ok) (subst (HasRoom 1) (sym c.self.view_is) c.requires)) in
    let inside = c.self.invariant in
    let bytes = inside.1 in
    let pieces = inside.2 in
    let counted = inside.3 in
    let few = inside.4 in (
      record { whole = inside.0.whole; signalled = signalled-fewer h.pieces.items h.room (h.room - 1) h.lists.items (omega arith) inside.0.signalled },
      omega (arith, bytes),
      omega (arith, pieces),
      omega (arith, counted),
      omega (arith, few, room),
    )

pub returns-clause-lists : goal.returns-clause-lists
returns-clause-lists c =
    let h = c.self.inside in
    map-each (listing_of h.pieces.items h.bytes.items (h.holes + 1) (h.room - 1)) (listing_of h.pieces.items h.bytes.items h.holes h.room) (with_items (Hole ∷ []))
    (IsSignalled h.pieces.items h.room) h.lists.items c.self.invariant.0.signalled (λ pin is. listing-missed h.pieces.items h.bytes.items h.holes h.room pin)
    ∙ ap (λ (lists : List Listing). map (with_items (Hole ∷ [])) lists) c.self.view_is

pub returns-clause-room : goal.returns-clause-room
returns-clause-room c more has =
    let h = c.self.inside in
    let room = (let ok = sym h.lists.ok.0 in let none = c.if-is_empty.false in let is = c.is_empty.ensures in
    room-of h.pieces.items h.bytes.items h.holes h.room (1 + more) h.lists.items (some_from (vec_len h.lists) h.lists.items c.is_empty.result is none ok) (subst (HasRoom (1 + more)) (sym c.self.view_is) has)) in
    has-room h.pieces.items h.bytes.items (h.holes + 1) (h.room - 1) more h.lists.items (omega (arith, room))
