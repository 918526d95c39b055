use Rattle.std.proofs.Common.{◌≡◌, codes, rules}
use Rattle.std.proofs.lemmas.Result.{IfOk-equal}
use Rattle.svg_text.specs.Escapes.{escaped}
use Rattle.svg_text.specs.Shapes.{anchor_word, attribute, front, place}
use Rattle.svg_text.proofs.Pieces.{pieces_6}
use Rattle.svg_text.proofs.texts.push_text.Goals as goal

pub returns : goal.returns
returns c =
    let bytes : c.as_bytes.result.now ≡ c.args.words.now = search rules in
    IfOk-equal c.push_word-2.result _ _ _ c.push_word-2.ensures
    (rw (c.in_ok-push_escaped.ensures, bytes, c.in_ok-push_word.ensures, c.in_ok-push_place.ensures, c.in_ok-push_attribute.ensures, c.anchor_word.ensures, c.in_ok-push_front.ensures)
    (pieces_6 c.args.out.now.items (front (codes "text") c.args.paint) (attribute (codes "text-anchor") (anchor_word c.args.anchor)) (place c.args.at) (codes ">") (escaped c.args.words.now) (codes "</text>\n")))
