use Rattle.std.proofs.Common.{List, map, sym, ap, subst, ◌∙◌, arith}
use Rattle.std.proofs.lemmas.Result.{on_ok_weaker}
use Rattle.heard_lists.specs.declared.pin_marks.PinMark.{PinMark}
use Rattle.heard_lists.specs.Listings.{HasRoom, HasMarkRoom, handed_out, marks_out}
use Rattle.heard_lists.specs.Marked.{MarkState, noted}
use Rattle.heard_lists.proofs.Noted.{item-room, item-fits, mark-room, mark-kept, handed-noted, marks-noted, blocks-same}
use Rattle.heard_lists.proofs.lists.HeardLists.reserve.Goals as goal

pub invariant_of-self-2 : goal.invariant_of-self-2
invariant_of-self-2 c = blocks-same c.self.inside.blocks c.self.inside.lists c.reserve-2.new.self c.reserve-2.ensures.lists c.self.invariant

pub returns-clause-room : goal.returns-clause-room
returns-clause-room c =
    on_ok_weaker c.reserve-2.result (item-room c.reserve.new.self.marks c.reserve.new.self.room c.args.blocks c.reserve-2.new.self) c.reserve-2.ensures.room

pub returns-clause-kept : goal.returns-clause-kept
returns-clause-kept c items has =
    let h = c.self.inside in
    item-room c.reserve.new.self.marks c.reserve.new.self.room items c.reserve-2.new.self
    (c.reserve-2.ensures.kept items (item-fits h.marks.marks h.marks.room items h.lists (subst (HasRoom items) (sym c.self.view_is) has)))

pub returns-clause-mark_room : goal.returns-clause-mark_room
returns-clause-mark_room c =
    let most = ap (λ (state : MarkState). state.room) c.in_ok-reserve.ensures.ok in
    on_ok_weaker c.reserve-2.result (λ (room : HasRoom c.args.blocks c.reserve-2.new.self). mark-room c.reserve.new.self.marks c.reserve.new.self.room c.args.marks c.reserve-2.new.self (omega (arith, most)))
    c.reserve-2.ensures.room

pub returns-clause-mark_kept : goal.returns-clause-mark_kept
returns-clause-mark_kept c more has =
    let h = c.self.inside in
    let most = ap (λ (state : MarkState). state.room) c.in_ok-reserve.ensures.ok in
    mark-kept h.marks.marks c.reserve.new.self.marks h.marks.room c.reserve.new.self.room more h.lists c.reserve-2.new.self c.reserve-2.ensures.lists (omega (arith, most))
    (subst (HasMarkRoom more) (sym c.self.view_is) has)

pub returns-clause-lists : goal.returns-clause-lists
returns-clause-lists c =
    let h = c.self.inside in
    handed-noted c.reserve.new.self.marks c.reserve.new.self.room c.reserve-2.new.self
    ∙ (c.reserve-2.ensures.lists ∙ (sym (handed-noted h.marks.marks h.marks.room h.lists) ∙ ap (map handed_out) c.self.view_is))

pub returns-clause-marks : goal.returns-clause-marks
returns-clause-marks c =
    let h = c.self.inside in
    let same = ap (λ (state : MarkState). state.marks) c.in_ok-reserve.ensures.ok in
    ap (λ (marks : List PinMark). map marks_out (map (noted marks c.reserve.new.self.room) c.reserve-2.new.self)) same
    ∙ (marks-noted h.marks.marks h.marks.room c.reserve.new.self.room h.lists c.reserve-2.new.self c.reserve-2.ensures.lists ∙ ap (map marks_out) c.self.view_is)
