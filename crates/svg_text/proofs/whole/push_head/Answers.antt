use Rattle.std.proofs.Common.{codes}
use Rattle.std.proofs.lemmas.Result.{IfOk-equal}
use Rattle.svg_text.specs.declared.style.TheConstants.{STYLE}
use Rattle.svg_text.specs.Pictures.{head_text, root_text}
use Rattle.svg_text.specs.Shapes.{extent, title_text}
use Rattle.svg_text.proofs.Pieces.{pieces_7}
use Rattle.svg_text.proofs.whole.push_head.Goals as goal

pub returns : goal.returns
unfolding head_text
returns c =
    let picture = c.args.picture.now in
    IfOk-equal c.push_word-4.result _ _ _ c.push_word-4.ensures
    (rw (c.in_ok-push_extent.ensures, c.in_ok-push_word-3.ensures, c.in_ok-push_word-2.ensures, c.in_ok-push_word.ensures, c.in_ok-push_title.ensures, c.as_str.ensures, c.in_ok-push_root.ensures)
    (pieces_7 c.args.out.now.items (root_text picture.width picture.height) (title_text picture.title) (codes "\n<style>") STYLE.now (codes "</style>\n<rect class=\"ground\"") (extent picture.width picture.height) (codes "/>\n")))
