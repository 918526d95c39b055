use Rattle.std.proofs.Common.{drop, sym, ap, ◌∙◌}
use Rattle.heard_lists.specs.Listings.{Listing}
use Rattle.heard_lists.proofs.Noted.{placed}
use Rattle.heard_lists.proofs.lists.HeardLists.reader.Goals as goal

pub returns : goal.returns
returns c listing =
    let h = c.self.inside in
    c.reader.ensures listing
    ∙ ap (λ (l : Listing). drop c.args.from l.list) (sym (placed h.marks.marks h.marks.room h.lists c.args.self.now c.args.place listing c.self.view_is c.requires))
