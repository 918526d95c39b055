use Rattle.std.proofs.Common.{◌≡◌, List, Vec, Global, sym, ap, subst, ◌∙◌}
use Rattle.std.specs.Prelude.{Contains}
use Rattle.std.proofs.lemmas.Result.{IfOk-weaker}
use Rattle.heard_frames.specs.declared.mark.Mark.{Mark}
use Rattle.heard_lists.specs.Listings.{Listing, pins_of, marks_listed}
use Rattle.heard_lists.specs.Marked.{marks_among}
use Rattle.heard_lists.proofs.Noted.{found-marks}
use Rattle.heard_lists.proofs.lists.HeardLists.marks.Goals as goal

pub returns : goal.returns
returns c =
    let h = c.self.inside in
    let there = subst (λ (lists : List Listing). Contains (pins_of lists) (c.args.codec, c.args.pin)) (sym c.self.view_is) c.requires in
    IfOk-weaker c.of.result (λ (marks : Vec Mark Global). marks.items ≡ marks_among h.marks.marks c.args.codec c.args.pin)
    (λ (marks : Vec Mark Global). marks.items ≡ marks_listed c.args.codec c.args.pin c.args.self.now)
    (λ marks is. is ∙ (sym (found-marks h.marks.marks h.marks.room c.args.codec c.args.pin h.lists there) ∙ ap (marks_listed c.args.codec c.args.pin) c.self.view_is))
    c.of.ensures
