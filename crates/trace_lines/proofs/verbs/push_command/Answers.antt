use Rattle.std.proofs.Common.{append_assoc}
use Rattle.std.proofs.lemmas.Result.{IfOk-equal}
use Rattle.trace_lines.proofs.verbs.push_command.Goals as goal

pub returns : goal.returns
returns c =
    IfOk-equal c.push_verb.result _ _ _ c.push_verb.ensures
    (rw (c.in_ok-push_word-3.ensures, c.in_ok-push_byte.ensures, c.in_ok-push_word-2.ensures, c.in_ok-push_number.ensures, c.into.ensures, c.in_ok-push_word.ensures) (simp append_assoc))
