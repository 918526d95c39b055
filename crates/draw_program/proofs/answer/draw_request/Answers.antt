use Rattle.std.proofs.Common.{◌≡◌, ◌+◌, ◌≤◌, ℕ, List}
use Rattle.hda_outside.specs.Counts.{Rose}
use Rattle.hda_program.specs.Meanings.{answer_meant}
use Rattle.draw_program.proofs.DrawLemmas.{captures_nothing}
use Rattle.draw_program.proofs.answer.draw_request.Goals as goal

-- what is answered to these words is no capture
pub draw_answer-requires : goal.draw_answer-requires
draw_answer-requires g c =
    let failed : List ℕ → Type 0 = λ name. Rose (g.S.Shelf.faults c.args.shelf.now name) (g.S.Shelf.faults c.answer_request.new.shelf name) in
    let emptied : List ℕ → Type 0 = λ name. Rose (g.S.Shelf.empties c.args.shelf.now name) (g.S.Shelf.empties c.answer_request.new.shelf name) in
    let unasked : List ℕ → Type 0 = λ name. g.S.Shelf.asked c.answer_request.new.shelf name ≡ g.S.Shelf.asked c.args.shelf.now name in
    let gave : ℕ → Type 0 = λ n. g.S.Shelf.given c.answer_request.new.shelf ≤ g.S.Shelf.given c.args.shelf.now + n in
    captures_nothing (g.S.Shelf.told c.args.shelf.now) failed emptied unasked gave c.args.request (answer_meant c.in_ok-answer-in-Play.answer) c.requires.draws c.in_ok-answer-in-Play.ensures.answers
