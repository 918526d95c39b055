use Rattle.std.proofs.lemmas.Result.{IfOk-equal}
use Rattle.trace_lines.proofs.RawLemmas.{memory_pieces}
use Rattle.trace_lines.proofs.raw.push_memory_line.Goals as goal

pub returns : goal.returns
returns c =
    IfOk-equal c.push_word-2.result _ _ _ c.push_word-2.ensures
    (rw (c.in_ok-push_hex.ensures, c.in_ok-push_word.ensures, c.in_ok-push_item.ensures, c.into.ensures, c.in_ok-push_front.ensures) (memory_pieces _ _ _ _))
