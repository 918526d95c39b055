use Rattle.std.proofs.Common.{append_assoc}
use Rattle.std.proofs.lemmas.Result.{IfOk-equal}
use Rattle.trace_lines.proofs.raw.push_step_line.Goals as goal

pub returns : goal.returns
returns c =
    IfOk-equal c.push_word-2.result _ _ _ c.push_word-2.ensures
    (rw (c.in_ok-push_step.ensures, c.in_ok-push_word.ensures, c.in_ok-push_front.ensures) (simp append_assoc))
