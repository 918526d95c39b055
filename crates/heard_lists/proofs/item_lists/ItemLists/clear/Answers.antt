use Rattle.std.proofs.Common.{◌≡◌, ◌+◌, [], ℕ, List, length, map, sym, ap, subst, ◌∙◌, arith}
use Rattle.std.specs.Vec as vec
use Rattle.std.proofs.lemmas.List.{with_items_is, length-map}
use Rattle.heard_lists.specs.declared.pieces.Piece.{Piece}
use Rattle.heard_lists.specs.Listings.{forgotten}
use Rattle.heard_lists.specs.Pieces.{PinSignals, AreKept, listing_of, pieces_count, without_signals}
use Rattle.heard_lists.proofs.Cleared.{cleared, listings-cleared}
use Rattle.heard_lists.proofs.item_lists.ItemLists.clear.Goals as goal

pub invariant_of-self : goal.invariant_of-self
invariant_of-self c =
    let h = c.self.inside in
    let new : List PinSignals = c.clear_all.new.lists in
    let is : new ≡ map without_signals h.lists.items = c.clear_all.ensures ∙ ap (map without_signals) c.as_mut_slice.ensures.value in
    let lists_ok = sym h.lists.ok.0 in
    let new_items : (vec.with_items h.lists new).items ≡ new =
    with_items_is h.lists new (ap length is ∙ (length-map h.lists.items without_signals ∙ lists_ok)) in
    let kept : AreKept (map without_signals h.lists.items) [] [] h.room =
    record { whole = omega arith; signalled = cleared h.pieces.items h.room h.lists.items c.self.invariant.0.signalled } in
    let pieces_none = c.clear.ensures.items in
    let bytes_none = c.clear-2.ensures.items in
    let bytes_held = c.self.invariant.1 in
    let pieces_held = c.self.invariant.2 in
    let few = c.self.invariant.4 in
    let bytes_len = c.clear-2.ensures.len in
    let bytes_cap = c.clear-2.ensures.capacity in
    let pieces_len = c.clear.ensures.len in
    let pieces_cap = c.clear.ensures.capacity in (
      subst (λ (l : List PinSignals). AreKept l c.clear.new.self.items c.clear-2.new.self.items h.room) (sym (new_items ∙ is))
          (subst (λ (p : List Piece). AreKept (map without_signals h.lists.items) p c.clear-2.new.self.items h.room) (sym pieces_none)
          (subst (λ (b : List ℕ). AreKept (map without_signals h.lists.items) [] b h.room) (sym bytes_none) kept)),
      omega (arith, bytes_held, bytes_len, bytes_cap),
      omega (arith, pieces_held, pieces_len, pieces_cap),
      ap (λ (p : List Piece). pieces_count p + 0) pieces_none,
      omega (arith, few),
    )

pub returns : goal.returns
returns c =
    let h = c.self.inside in
    let new : List PinSignals = c.clear_all.new.lists in
    let is : new ≡ map without_signals h.lists.items = c.clear_all.ensures ∙ ap (map without_signals) c.as_mut_slice.ensures.value in
    let lists_ok = sym h.lists.ok.0 in
    let new_items : (vec.with_items h.lists new).items ≡ new =
    with_items_is h.lists new (ap length is ∙ (length-map h.lists.items without_signals ∙ lists_ok)) in
    ap (map (listing_of c.clear.new.self.items c.clear-2.new.self.items 0 h.room)) (new_items ∙ is)
    ∙ (ap (λ (p : List Piece). map (listing_of p c.clear-2.new.self.items 0 h.room) (map without_signals h.lists.items)) c.clear.ensures.items
    ∙ (ap (λ (b : List ℕ). map (listing_of [] b 0 h.room) (map without_signals h.lists.items)) c.clear-2.ensures.items
    ∙ (listings-cleared h.pieces.items h.bytes.items h.holes h.room h.lists.items
    ∙ ap (map forgotten) c.self.view_is)))
