use Rattle.std.proofs.lemmas.Result.{IfOk-equal}
use Rattle.trace_lines.proofs.RawLemmas.{register_pieces}
use Rattle.trace_lines.proofs.raw.push_register_line.Goals as goal

pub returns : goal.returns
returns c =
    IfOk-equal c.push_word.result _ _ _ c.push_word.ensures
    (rw (c.in_ok-push_item-3.ensures, c.into-3.ensures, c.in_ok-push_item-2.ensures, c.into-2.ensures, c.bytes.ensures, c.in_ok-push_item.ensures, c.into.ensures, c.in_ok-push_front.ensures) (register_pieces _ _ _ _ _))
