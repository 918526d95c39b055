use Rattle.std.proofs.Common.{append_assoc}
use Rattle.std.proofs.lemmas.Result.{IfOk-equal}
use Rattle.capture_report.proofs.ends.push_frames_read.Goals as goal

pub returns : goal.returns
returns c =
    IfOk-equal c.push_word-3.result _ _ _ c.push_word-3.ensures
    (rw (c.in_ok-push_number-2.ensures, c.in_ok-push_word-2.ensures, c.in_ok-push_number.ensures, c.in_ok-push_word.ensures) (simp append_assoc))
