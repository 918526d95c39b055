-- What the proofs of other crates cite.
use Rattle.std.proofs.Common.{◌≡◌, ◌≤◌, ℕ, List, [], ◌∷◌, ◌++◌, length, Some, refl, sym, subst, arith}
use Rattle.std.specs.Prelude.{slice_get}
use Rattle.verb_codes.specs.declared.verbs.Command.{Command}
use Rattle.codec_walk.specs.Dialogues.{Dialogue, answered, after}
use Rattle.codec_walk.specs.Replies.{AreReplies}

-- a dialogue after one answer more
pub after-push : (dialogue : Dialogue) (answers : List ℕ) (answer : ℕ) → after dialogue (answers ++ answer ∷ []) ≡ answered (after dialogue answers) answer
after-push dialogue [] answer = refl
after-push dialogue (first ∷ answers) answer = after-push (answered dialogue first) answers answer

-- words that answer the first commands, and one more that answers the next of them
pub replies-push : (Answers : Command → ℕ → Type 0) (commands : List Command) (answers : List ℕ) (command : Command) (answer : ℕ)
    → AreReplies Answers commands answers → slice_get commands (length answers) ≡ Some command → Answers command answer
    → AreReplies Answers commands (answers ++ answer ∷ [])
replies-push Answers [] [] command answer replies next answers_it = cc
replies-push Answers [] (first ∷ answers) command answer replies next answers_it = absurd replies
replies-push Answers (asked ∷ commands) [] command answer replies next answers_it =
    let same : asked ≡ command = cc in
    (subst (λ (c : Command). Answers c answer) (sym same) answers_it, tt)
replies-push Answers (asked ∷ commands) (first ∷ answers) command answer replies next answers_it =
    (replies.0, replies-push Answers commands answers command answer replies.1 next answers_it)

-- there are at most as many answers as commands
pub replies-few : (Answers : Command → ℕ → Type 0) (commands : List Command) (answers : List ℕ) → AreReplies Answers commands answers → length answers ≤ length commands
replies-few Answers commands [] replies = omega arith
replies-few Answers [] (first ∷ answers) replies = absurd replies
replies-few Answers (asked ∷ commands) (first ∷ answers) replies =
    let fewer = replies-few Answers commands answers replies.1 in
    omega arith
