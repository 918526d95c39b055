-- That a poll finds an answer where one was written since the submission.
use Rattle.std.proofs.Common.{◌≡◌, ◌≤◌, ℕ, Bool, true, false, not, ◌&&◌, ◌||◌, List, [], ◌∷◌, ◌++◌, length, map, drop, Option, Some, None, if◌then◌else◌, refl, sym, ap, ◌∙◌, arith}
use Rattle.std.specs.List.{find}
use Rattle.std.specs.Option.{is_some, option_map}
use Rattle.std.proofs.lemmas.List.{length-append, drop-append-le}
use Rattle.std.proofs.lemmas.List.Folds.{list_any-append}
use Rattle.world_rings.specs.declared.response.Response.{Response}
use Rattle.command_engine.specs.Entries.{answers_it, answer_among}
use Rattle.command_engine.specs.Belonging.{as_held}
use Rattle.driver_progress.specs.Answers.{has_answer, AnswersAgree}

-- an answer is found among entries exactly where one of the responses is one
found_if : (asked : Option ℕ) (is : Bool) (response : Response) (rest : Option Response) (more : Bool) → is_some (option_map (λ (response : Response). response.answer) rest) ≡ more
    → is_some (option_map (λ (response : Response). response.answer) (if is then Some response else rest)) ≡ (is || more)
found_if asked true response rest more is = refl
found_if asked false response rest more is = is

pub found_any : (asked : Option ℕ) (responses : List Response) → is_some (answer_among asked (map as_held responses)) ≡ has_answer asked responses
found_any asked [] = refl
found_any asked (response ∷ responses) =
    found_if asked (answers_it asked response) (as_held response) (find (answers_it asked) (map as_held responses)) (has_answer asked responses) (found_any asked responses)

-- what is written later counts for both
pub agree_on : (asked : Option ℕ) (submitted read : ℕ) (written more : List Response) → AnswersAgree asked submitted read written → AnswersAgree asked submitted read (written ++ more)
agree_on asked submitted read written more is =
    let long = length-append written more in
    let a = is.submitted_within in
    let b = is.read_within in
    record {
      submitted_within = omega (arith, long, a);
      read_within = omega (arith, long, b);
      agree = any_dropped submitted is.submitted_within ∙ ap (λ (early : Bool). early || has_answer asked more) is.agree ∙ sym (any_dropped read is.read_within);
    }
  where
    any_dropped : (n : ℕ) → n ≤ length written → has_answer asked (drop n (written ++ more)) ≡ (has_answer asked (drop n written) || has_answer asked more)
    any_dropped n within = ap (has_answer asked) (drop-append-le n written more within) ∙ list_any-append (answers_it asked) (drop n written) more

-- a poll that found none has read all
pub agree_polled : (asked : Option ℕ) (submitted read : ℕ) (written : List Response) → AnswersAgree asked submitted read written → has_answer asked (drop read written) ≡ false
    → AnswersAgree asked submitted (length written) written
agree_polled asked submitted read written is none = record {
  submitted_within = is.submitted_within;
  read_within = omega arith;
  agree = is.agree ∙ none ∙ sym (ap (has_answer asked) (all_dropped written));
}
  where
    all_dropped : (xs : List Response) → drop (length xs) xs ≡ []
    all_dropped [] = refl
    all_dropped (x ∷ xs) = all_dropped xs

no_asked : (response : Response) → answers_it None response ≡ false
no_asked response = by response.unsolicited
  where
    by : (b : Bool) → (not b && false) ≡ false
    by true = refl
    by false = refl

none_asked : (responses : List Response) → has_answer None responses ≡ false
none_asked [] = refl
none_asked (response ∷ responses) = ap (λ (b : Bool). b || has_answer None responses) (no_asked response) ∙ none_asked responses

-- where nothing is asked nothing answers
pub agree_none : (submitted read : ℕ) (written : List Response) → submitted ≤ length written → read ≤ length written → AnswersAgree None submitted read written
agree_none submitted read written submitted_within read_within = record {
  submitted_within = submitted_within;
  read_within = read_within;
  agree = none_asked (drop submitted written) ∙ sym (none_asked (drop read written));
}
