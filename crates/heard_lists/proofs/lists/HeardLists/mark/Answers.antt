use Rattle.std.proofs.Common.{◌≤◌, ◌+◌, map, sym, ap, subst, ◌∙◌, arith}
use Rattle.heard_lists.specs.Listings.{HasRoom, HasMarkRoom, with_mark}
use Rattle.heard_lists.specs.Marked.{MarkState, noted}
use Rattle.heard_lists.proofs.Noted.{mark-noted, mark-fits, mark-room, item-room, item-fits}
use Rattle.heard_lists.proofs.lists.HeardLists.mark.Goals as goal

pub push-requires : goal.push-requires
push-requires c =
    let h = c.self.inside in
    mark-fits h.marks.marks h.marks.room 1 h.lists (λ none. c.if-len-eq0.false (c.len.ensures ∙ none)) (subst (HasMarkRoom 1) (sym c.self.view_is) c.requires)

pub returns-clause-lists : goal.returns-clause-lists
returns-clause-lists c =
    let h = c.self.inside in
    ap (λ (state : MarkState). map (noted state.marks state.room) h.lists) c.push.ensures
    ∙ (mark-noted c.args.codec c.args.pin h.blocks c.args.on h.marks.marks h.marks.room h.lists c.self.invariant
    ∙ ap (map (with_mark c.args.codec c.args.pin c.args.on)) c.self.view_is)

pub returns-clause-items : goal.returns-clause-items
returns-clause-items c items has =
    let h = c.self.inside in
    item-room c.push.new.self.marks c.push.new.self.room items h.lists
    (item-fits h.marks.marks h.marks.room items h.lists (subst (HasRoom items) (sym c.self.view_is) has))

pub returns-clause-room : goal.returns-clause-room
returns-clause-room c more has =
    let h = c.self.inside in
    let fits : 1 + more ≤ h.marks.room =
    mark-fits h.marks.marks h.marks.room (1 + more) h.lists (λ none. c.if-len-eq0.false (c.len.ensures ∙ none)) (subst (HasMarkRoom (1 + more)) (sym c.self.view_is) has) in
    let left = ap (λ (state : MarkState). state.room) c.push.ensures in
    mark-room c.push.new.self.marks c.push.new.self.room more h.lists (omega (arith, fits, left))
