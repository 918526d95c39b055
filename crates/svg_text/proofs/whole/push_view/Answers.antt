use Rattle.std.proofs.Common.{codes}
use Rattle.std.specs.Prelude.{decimal}
use Rattle.std.proofs.lemmas.Result.{IfOk-equal}
use Rattle.svg_text.proofs.Pieces.{pieces_5}
use Rattle.svg_text.proofs.whole.push_view.Goals as goal

pub returns : goal.returns
returns c =
    IfOk-equal c.push_word-3.result _ _ _ c.push_word-3.ensures
    (rw (c.in_ok-push_number-2.ensures, c.into-2.ensures, c.in_ok-push_word-2.ensures, c.in_ok-push_number.ensures, c.into.ensures, c.in_ok-push_word.ensures)
    (pieces_5 c.args.out.now.items (codes " viewBox=\"0 0 ") (decimal c.args.width) (codes " ") (decimal c.args.height) (codes "\"")))
