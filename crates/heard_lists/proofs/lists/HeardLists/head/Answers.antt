use Rattle.std.proofs.Common.{sym, ap, ◌∙◌}
use Rattle.heard_lists.specs.Listings.{Listing}
use Rattle.heard_lists.proofs.Noted.{placed}
use Rattle.heard_lists.proofs.lists.HeardLists.head.Goals as goal

pub returns : goal.returns
returns c listing =
    let h = c.self.inside in
    c.head.ensures listing
    ∙ ap (λ (l : Listing). (l.codec, l.pin)) (sym (placed h.marks.marks h.marks.room h.lists c.args.self.now c.args.place listing c.self.view_is c.requires))
