-- A dialogue that some answers lead through some commands to its end.
use Rattle.std.proofs.Common.{◌≡◌, ℕ, List, [], ◌∷◌, ◌++◌, length, Some, refl, sym, ap, subst, arith}
use Rattle.std.specs.Prelude.{slice_get}
use Rattle.codec_graph.specs.declared.raw.RawCodec.{RawCodec}
use Rattle.verb_codes.specs.declared.verbs.Command.{Command}
use Rattle.codec_walk.specs.Dialogues.{Dialogue, Ask, Told, question, answered, after}
use Rattle.codec_walk.specs.Replies.{AreReplies}

-- the dialogue asks these commands in turn and then is another one, as long as each is answered like that
abbrev pub Leads : (Command → ℕ → Type 0) → List Command → Dialogue → Dialogue → Type 0
Leads Answers [] from to = from ≡ to
Leads Answers (command ∷ commands) from to =
    (question from ≡ Some command) × ((answer : ℕ) → Answers command answer → Leads Answers commands (answered from answer) to)

module _ (Answers : Command → ℕ → Type 0) where
  pub leads_append : (first second : List Command) (from middle to : Dialogue) → Leads Answers first from middle → Leads Answers second middle to → Leads Answers (first ++ second) from to
  leads_append [] second from middle to leads more = subst (λ (dialogue : Dialogue). Leads Answers second dialogue to) (sym leads) more
  leads_append (command ∷ first) second from middle to leads more =
      (leads.0, λ answer answers. leads_append first second (answered from answer) middle to (leads.1 answer answers) more)

  pub leads_ask : (command : Command) (rest : ℕ → Dialogue) (value : ℕ) (commands : List Command) (to : Dialogue)
      → ((answer : ℕ) → Answers command answer → answer ≡ value) → Leads Answers commands (rest value) to → Leads Answers (command ∷ commands) (Ask command rest) to
  leads_ask command rest value commands to only more =
      (refl, λ answer answers. subst (λ (word : ℕ). Leads Answers commands (rest word) to) (sym (only answer answers)) more)

  -- what is asked next
  pub next_question : (commands : List Command) (answers : List ℕ) (from : Dialogue) (codec : RawCodec) → Leads Answers commands from (Told codec)
      → AreReplies Answers commands answers → question (after from answers) ≡ slice_get commands (length answers)
  next_question [] [] from codec leads replies = ap question leads
  next_question [] (answer ∷ answers) from codec leads replies = absurd replies
  next_question (command ∷ commands) [] from codec leads replies = leads.0
  next_question (command ∷ commands) (answer ∷ answers) from codec leads replies =
      next_question commands answers (answered from answer) codec (leads.1 answer replies.0) replies.1

  -- what is told at last
  pub told_last : (commands : List Command) (answers : List ℕ) (from : Dialogue) (codec : RawCodec) → Leads Answers commands from (Told codec)
      → AreReplies Answers commands answers → length answers ≡ length commands → after from answers ≡ Told codec
  told_last [] [] from codec leads replies all = leads
  told_last [] (answer ∷ answers) from codec leads replies all = absurd replies
  told_last (command ∷ commands) [] from codec leads replies all = absurd (omega arith)
  told_last (command ∷ commands) (answer ∷ answers) from codec leads replies all =
      told_last commands answers (answered from answer) codec (leads.1 answer replies.0) replies.1 (omega arith)
