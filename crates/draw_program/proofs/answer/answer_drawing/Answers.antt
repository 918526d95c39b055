use Rattle.std.proofs.Common.{◌≡◌, ◌+◌, ◌≤◌, ℕ, List, Some, drop, map, string_bytes}
use Rattle.std.proofs.lemmas.Result.{IfOk-weaker}
use Rattle.hda_outside.specs.Counts.{Rose}
use Rattle.program_words.specs.Asked.{asked_by, request_of}
use Rattle.hda_program.proofs.Callers.{other_name}
use Rattle.draw_program.specs.Drawn.{IsDrawn, RequestDrawn, drawing_meant}
use Rattle.draw_program.specs.Words.{played_words}
use Rattle.draw_program.proofs.WordLemmas.{played_draws, request_drawn}
use Rattle.draw_program.proofs.answer.answer_drawing.Goals as goal

-- the words ask for a picture
pub draw_request-requires-clause-draws : goal.draw_request-requires-clause-draws
draw_request-requires-clause-draws g c =
    let words = drop 1 (map string_bytes c.args.words.now) in
    let asked : request_of (played_words words) ≡ Some (asked_by c.in-Ok.request) = rw (c.as_slice.ensures.value, c.in_ok-words.ensures) at c.in-Ok.ensures.asked in
    played_draws words (asked_by c.in-Ok.request) asked

pub returns-in-Ok-clause-meant : goal.returns-in-Ok-clause-meant
returns-in-Ok-clause-meant g c =
    let told = g.S.Shelf.told c.args.shelf.now in
    let failed : List ℕ → Type 0 = λ name. Rose (g.S.Shelf.faults c.args.shelf.now name) (g.S.Shelf.faults c.draw_request.new.shelf name) in
    let emptied : List ℕ → Type 0 = λ name. Rose (g.S.Shelf.empties c.args.shelf.now name) (g.S.Shelf.empties c.draw_request.new.shelf name) in
    let unasked : List ℕ → Type 0 = λ name. g.S.Shelf.asked c.draw_request.new.shelf name ≡ g.S.Shelf.asked c.args.shelf.now name in
    let gave : ℕ → Type 0 = λ n. g.S.Shelf.given c.draw_request.new.shelf ≤ g.S.Shelf.given c.args.shelf.now + n in
    let words = drop 1 (map string_bytes c.args.words.now) in
    let asked : request_of (played_words words) ≡ Some (asked_by c.in-Ok.request) = rw (c.as_slice.ensures.value, c.in_ok-words.ensures) at c.in-Ok.ensures.asked in
    IfOk-weaker c.draw_request.result (λ drawing. RequestDrawn told failed emptied unasked gave c.in-Ok.request (drawing_meant drawing))
    (λ drawing. IsDrawn told failed emptied unasked gave words (drawing_meant drawing))
    (λ drawing h. request_drawn told failed emptied unasked gave words c.in-Ok.request (drawing_meant drawing) asked h) c.draw_request.ensures.drawn

pub returns-in-Ok-clause-asked : goal.returns-in-Ok-clause-asked
returns-in-Ok-clause-asked g c = λ name other.
    let words = drop 1 (map string_bytes c.args.words.now) in
    let asked : request_of (played_words words) ≡ Some (asked_by c.in-Ok.request) = rw (c.as_slice.ensures.value, c.in_ok-words.ensures) at c.in-Ok.ensures.asked in
    c.draw_request.ensures.asked name (other_name (played_words words) (asked_by c.in-Ok.request) name asked other)
