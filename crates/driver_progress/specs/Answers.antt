-- Whether the outstanding command was answered, by the responses that were written since it was submitted and by those
-- that were not read. This project's own.
use Rattle.std.specs.Prelude.{◌≡◌, ◌≤◌, ℕ, Bool, List, length, drop, Option}
use Rattle.std.specs.List.{list_any}
use Rattle.world_rings.specs.declared.response.Response.{Response}
use Rattle.command_engine.specs.Entries.{answers_it}

-- whether one of these responses answers the codec that is asked
abbrev pub has_answer : (asked : Option ℕ) → List Response → Bool
has_answer asked responses = list_any (answers_it asked) responses

-- since the submission just those answer it that were not read
pub record AnswersAgree (asked : Option ℕ) (submitted read : ℕ) (written : List Response) : Type 0 where
  pub submitted_within : submitted ≤ length written
  pub read_within : read ≤ length written
  pub agree : has_answer asked (drop submitted written) ≡ has_answer asked (drop read written)
