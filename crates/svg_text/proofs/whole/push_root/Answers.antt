use Rattle.std.proofs.Common.{codes}
use Rattle.std.proofs.lemmas.Result.{IfOk-equal}
use Rattle.svg_text.specs.Pictures.{view_text}
use Rattle.svg_text.specs.Shapes.{extent}
use Rattle.svg_text.proofs.Pieces.{pieces_4}
use Rattle.svg_text.proofs.whole.push_root.Goals as goal

pub returns : goal.returns
returns c =
    IfOk-equal c.push_word-2.result _ _ _ c.push_word-2.ensures
    (rw (c.in_ok-push_view.ensures, c.in_ok-push_extent.ensures, c.in_ok-push_word.ensures)
    (pieces_4 c.args.out.now.items (codes "<svg xmlns=\"http://www.w3.org/2000/svg\" role=\"img\"") (extent c.args.width c.args.height) (view_text c.args.width c.args.height) (codes ">\n")))
