use Rattle.std.proofs.Common.{◌≡◌, ℕ, ◌+◌, ◌≤◌, List, map, string_bytes}
use Rattle.std.proofs.lemmas.Result.{IfOk-weaker}
use Rattle.hda_outside.specs.Counts.{Rose}
use Rattle.program_words.specs.Asked.{asked_by}
use Rattle.hda_program.specs.Answers.{RequestAnswers, IsMeant}
use Rattle.hda_program.specs.Meanings.{answer_meant}
use Rattle.hda_program.proofs.WalkLemmas.{request_meant, other_name}
use Rattle.hda_program.proofs.answer.answer_words.Goals as goal

pub returns-in-Ok-clause-meant : goal.returns-in-Ok-clause-meant
returns-in-Ok-clause-meant g c =
    let told = g.S.Shelf.told c.args.shelf.now in
    let failed : List ℕ → Type 0 = λ name. Rose (g.S.Shelf.faults c.args.shelf.now name) (g.S.Shelf.faults c.answer_request.new.shelf name) in
    let emptied : List ℕ → Type 0 = λ name. Rose (g.S.Shelf.empties c.args.shelf.now name) (g.S.Shelf.empties c.answer_request.new.shelf name) in
    let gave : ℕ → Type 0 = λ n. g.S.Shelf.given c.answer_request.new.shelf ≤ g.S.Shelf.given c.args.shelf.now + n in
    let unasked : List ℕ → Type 0 = λ name. g.S.Shelf.asked c.answer_request.new.shelf name ≡ g.S.Shelf.asked c.args.shelf.now name in
    let words = map string_bytes c.args.words.now in
    IfOk-weaker c.answer_request.result (λ answer. RequestAnswers told failed emptied unasked gave c.in-Ok.request (answer_meant answer)) (λ answer. IsMeant told failed emptied unasked gave words (answer_meant answer))
    (λ answer h. request_meant told failed emptied unasked gave words c.in-Ok.request (answer_meant answer) c.in-Ok.ensures.asked h) c.answer_request.ensures.answers

pub returns-in-Ok-clause-asked : goal.returns-in-Ok-clause-asked
returns-in-Ok-clause-asked g c = λ name other.
    c.answer_request.ensures.asked name (other_name (map string_bytes c.args.words.now) (asked_by c.in-Ok.request) name c.in-Ok.ensures.asked other)
