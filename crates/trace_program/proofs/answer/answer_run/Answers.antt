use Rattle.std.proofs.Common.{◌≡◌, ◌∙◌, ◌+◌, ◌≤◌, ℕ, List, [], drop, map, string_bytes, inl, inr, ap, rules, sym, tests}
use Rattle.std.proofs.lemmas.Result.{IfOk-weaker}
use Rattle.hda_outside.specs.Counts.{Rose}
use Rattle.program_words.specs.Asked.{asked_by, request_of}
use Rattle.program_words.specs.RunWords.{run_words}
use Rattle.program_words.proofs.Callers.{nothing_asked}
use Rattle.hda_program.specs.Answers.{RequestAnswers}
use Rattle.hda_program.specs.Meanings.{answer_meant}
use Rattle.hda_program.proofs.Callers.{other_name, request_meant}
use Rattle.trace_program.specs.Traced.{IsAnswered}
use Rattle.trace_program.specs.Words.{played_words}
use Rattle.trace_program.proofs.WordLemmas.{no_words}
use Rattle.trace_program.proofs.answer.answer_run.Goals as goal

-- a request of the words is one of those of `hda_play`
pub returns-in-Ok-clause-meant : goal.returns-in-Ok-clause-meant
returns-in-Ok-clause-meant g c =
    let told = g.S.Shelf.told c.args.shelf.now in
    let failed : List ℕ → Type 0 = λ name. Rose (g.S.Shelf.faults c.args.shelf.now name) (g.S.Shelf.faults c.answer_request.new.shelf name) in
    let emptied : List ℕ → Type 0 = λ name. Rose (g.S.Shelf.empties c.args.shelf.now name) (g.S.Shelf.empties c.answer_request.new.shelf name) in
    let unasked : List ℕ → Type 0 = λ name. g.S.Shelf.asked c.answer_request.new.shelf name ≡ g.S.Shelf.asked c.args.shelf.now name in
    let gave : ℕ → Type 0 = λ n. g.S.Shelf.given c.answer_request.new.shelf ≤ g.S.Shelf.given c.args.shelf.now + n in
    let words = drop 1 (map string_bytes c.args.words.now) in
    let asked = ap (λ (w : List (List ℕ)). request_of (run_words w)) (sym c.operand_words-words.ensures) in
    IfOk-weaker c.answer_request.result (λ answer. RequestAnswers told failed emptied unasked gave c.in-Ok.request (answer_meant answer))
    (λ answer. IsAnswered told failed emptied unasked gave words (answer_meant answer))
    (λ answer h. inr (
      asked_by c.in-Ok.request,
      asked ∙ c.in-Ok.ensures.asked,
      request_meant told failed emptied unasked gave (played_words words) c.in-Ok.request (answer_meant answer) (asked ∙ c.in-Ok.ensures.asked) h,
    )) c.answer_request.ensures.answers

-- words for no run: there are none, or they are those of neither command
pub returns-then-is_empty-clause-meant : goal.returns-then-is_empty-clause-meant
returns-then-is_empty-clause-meant g c =
    let empty = no_words string_bytes c.operand_words-words.result.now (search (rules, tests)) in
    let none = ap (λ (w : List (List ℕ)). request_of (run_words w)) (sym c.operand_words-words.ensures ∙ empty) ∙ nothing_asked in
    IfOk-weaker c.words_refused.result _ _ (λ answer e. inl (none, e)) c.words_refused.ensures

pub returns-in-Err-NoCommand-clause-meant : goal.returns-in-Err-NoCommand-clause-meant
returns-in-Err-NoCommand-clause-meant g c =
    let none = ap (λ (w : List (List ℕ)). request_of (run_words w)) (sym c.operand_words-words.ensures) ∙ c.in-Err-NoCommand.ensures.no_run (rw c.in-Err-NoCommand.field-0-is) in
    IfOk-weaker c.words_refused-in-Err-NoCommand.result _ _ (λ answer e. inl (none, e)) c.words_refused-in-Err-NoCommand.ensures

pub returns-in-Ok-clause-asked : goal.returns-in-Ok-clause-asked
returns-in-Ok-clause-asked g c = λ name other.
    let words = drop 1 (map string_bytes c.args.words.now) in
    let asked = ap (λ (w : List (List ℕ)). request_of (run_words w)) (sym c.operand_words-words.ensures) in
    c.answer_request.ensures.asked name (other_name (played_words words) (asked_by c.in-Ok.request) name (asked ∙ c.in-Ok.ensures.asked) other)
