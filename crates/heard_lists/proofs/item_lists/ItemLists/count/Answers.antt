use Rattle.std.proofs.Common.{◌≡◌, length, get_or, subst}
use Rattle.std.specs.Prelude.{All}
use Rattle.std.proofs.lemmas.List.Elements.{All-map}
use Rattle.heard_lists.specs.Listings.{Listing}
use Rattle.heard_lists.specs.Pieces.{listing_of}
use Rattle.heard_lists.proofs.Taken.{each-of}
use Rattle.heard_lists.proofs.Reading.{length-listing}
use Rattle.heard_lists.proofs.item_lists.ItemLists.count.Goals as goal

pub returns : goal.returns
returns c =
    let h = c.self.inside in
    let each = each-of h.pieces.items h.room h.lists.items c.self.invariant.0.signalled in
    subst (All (λ (l : Listing). length l.list ≡ h.count)) c.self.view_is
    (All-map (λ (l : Listing). length l.list ≡ h.count) (listing_of h.pieces.items h.bytes.items h.holes h.room) h.lists.items
    (λ k d within. length-listing h.pieces.items h.bytes.items h.holes h.room h.count (get_or h.lists.items k d) (each k d within) c.self.invariant.3))
