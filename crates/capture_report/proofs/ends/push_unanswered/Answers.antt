use Rattle.std.proofs.Common.{append_assoc}
use Rattle.std.proofs.lemmas.Result.{IfOk-equal}
use Rattle.capture_report.proofs.ends.push_unanswered.Goals as goal

pub returns : goal.returns
returns c =
    IfOk-equal c.push_word-5.result _ _ _ c.push_word-5.ensures
    (rw (c.in_ok-push_number-3.ensures, c.into-3.ensures, c.in_ok-push_word-4.ensures, c.in_ok-push_number-2.ensures, c.into-2.ensures, c.in_ok-push_word-3.ensures, c.in_ok-push_hex.ensures, c.to_be_bytes.ensures, c.in_ok-push_word-2.ensures, c.in_ok-push_number.ensures, c.into.ensures, c.in_ok-push_word.ensures) (simp append_assoc))
