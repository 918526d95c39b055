use Rattle.std.proofs.Common.{◌≡◌, ◌++◌, sym, subst}
use Rattle.std.specs.Prelude.{OnOk}
use Rattle.heard_lists.specs.Listings.{Listing}
use Rattle.heard_lists.proofs.Noted.{placed}
use Rattle.heard_lists.proofs.lists.HeardLists.push_list.Goals as goal

pub returns : goal.returns
returns c listing =
    let h = c.self.inside in
    subst (λ (l : Listing). OnOk c.push_list.result (c.push_list.new.items.items ≡ c.args.items.now.items ++ l.list))
    (sym (placed h.marks.marks h.marks.room h.lists c.args.self.now c.args.place listing c.self.view_is c.requires)) (c.push_list.ensures listing)
