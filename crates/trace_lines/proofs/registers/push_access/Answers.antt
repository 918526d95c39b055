use Rattle.std.proofs.Common.{append_assoc}
use Rattle.std.proofs.lemmas.Result.{IfOk-equal}
use Rattle.trace_lines.proofs.registers.push_access.Goals as goal

pub returns : goal.returns
returns c =
    IfOk-equal c.push_bits.result _ _ _ c.push_bits.ensures
    (rw (c.in_ok-push_ticks.ensures, c.in_ok-push_value.ensures, c.in_ok-push_word-2.ensures, c.in_ok-push_register.ensures, c.in_ok-push_word.ensures, c.in_ok-push_number.ensures, c.into.ensures, c.bytes_in-bytes.ensures.value) (simp append_assoc))
