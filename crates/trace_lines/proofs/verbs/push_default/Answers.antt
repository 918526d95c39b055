use Rattle.std.proofs.Common.{append_assoc}
use Rattle.std.proofs.lemmas.Result.{IfOk-equal}
use Rattle.trace_lines.proofs.verbs.push_default.Goals as goal

pub returns : goal.returns
returns c =
    IfOk-equal c.push_byte.result _ _ _ c.push_byte.ensures
    (rw (c.in_ok-push_word.ensures, c.in_ok-push_with_byte.ensures) (simp append_assoc))
