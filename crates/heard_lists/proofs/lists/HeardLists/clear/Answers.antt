use Rattle.std.proofs.Common.{◌≡◌, [], length, map, refl, sym, ap, subst, ◌∙◌}
use Rattle.std.proofs.lemmas.List.Elements.{All-map}
use Rattle.std.proofs.lemmas.Simd.{map-map}
use Rattle.heard_frames.specs.Marks.{without_holes}
use Rattle.heard_lists.specs.Listings.{Listing, forgotten}
use Rattle.heard_lists.specs.Marked.{MarkState, noted, HaveBlocks}
use Rattle.heard_lists.proofs.lists.HeardLists.clear.Goals as goal

pub invariant_of-self : goal.invariant_of-self
invariant_of-self c =
    subst (HaveBlocks 0) (sym c.clear.ensures)
    (All-map (λ (l : Listing). length (without_holes l.list) ≡ 0) forgotten c.self.inside.lists (λ k d within. refl))

pub returns : goal.returns
returns c =
    let h = c.self.inside in
    ap (map (noted c.clear-2.new.self.marks c.clear-2.new.self.room)) c.clear.ensures
    ∙ (ap (λ (state : MarkState). map (noted state.marks state.room) (map forgotten h.lists)) c.clear-2.ensures
    ∙ (map-map (noted [] h.marks.room) forgotten h.lists
    ∙ (sym (map-map forgotten (noted h.marks.marks h.marks.room) h.lists)
    ∙ ap (map forgotten) c.self.view_is)))
