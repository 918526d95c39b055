use Rattle.std.proofs.Common.{◌≡◌, length, subst}
use Rattle.std.specs.Prelude.{All}
use Rattle.std.proofs.lemmas.List.Elements.{All-map}
use Rattle.heard_lists.specs.Listings.{Listing}
use Rattle.heard_lists.specs.Marked.{noted}
use Rattle.heard_lists.proofs.lists.HeardLists.count.Goals as goal

pub returns : goal.returns
returns c =
    let h = c.self.inside in
    subst (All (λ (l : Listing). length l.list ≡ c.count.result)) c.self.view_is
    (All-map (λ (l : Listing). length l.list ≡ c.count.result) (noted h.marks.marks h.marks.room) h.lists c.count.ensures)
