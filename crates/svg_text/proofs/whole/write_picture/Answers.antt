use Rattle.std.proofs.Common.{◌≡◌, codes, rules}
use Rattle.sound_report.proofs.Callers.{all_taken, front_taken, on_err}
use Rattle.svg_text.specs.Pictures.{head_text}
use Rattle.svg_text.proofs.Pieces.{front_longer, front_of_rest}
use Rattle.svg_text.proofs.whole.write_picture.Goals as goal

pub returns-in_err-write_shapes-clause-front : goal.returns-in_err-write_shapes-clause-front
returns-in_err-write_shapes-clause-front g c =
    let head : c.push_head.new.out.items ≡ head_text c.args.picture.now = search rules in
    on_err c.from_residual-in_err-write_shapes.result (front_longer _ _ _ (codes "</svg>\n") (rw (head, c.as_slice.ensures) at c.in_err-write_shapes.ensures.text))

pub returns-in_err-push_word-clause-front : goal.returns-in_err-push_word-clause-front
returns-in_err-push_word-clause-front g c =
    let head : c.push_head.new.out.items ≡ head_text c.args.picture.now = search rules in
    on_err c.from_residual-in_err-push_word.result (front_longer _ _ _ (codes "</svg>\n") (front_of_rest (rw (head, c.as_slice.ensures) at c.in_ok-write_shapes.ensures.text)))

pub returns-clause-all : goal.returns-clause-all
returns-clause-all g c =
    let head : c.push_head.new.out.items ≡ head_text c.args.picture.now = search rules in
    all_taken _ c.write_all.result (codes "</svg>\n") (rw (head, c.as_slice.ensures) at c.in_ok-write_shapes.ensures.text) c.in_ok-push_word.ensures (rw c.as_slice-2.ensures.value at c.write_all.ensures.all)

pub returns-clause-front : goal.returns-clause-front
returns-clause-front g c =
    let head : c.push_head.new.out.items ≡ head_text c.args.picture.now = search rules in
    front_taken _ c.write_all.result (codes "</svg>\n") (rw (head, c.as_slice.ensures) at c.in_ok-write_shapes.ensures.text) c.in_ok-push_word.ensures (rw c.as_slice-2.ensures.value at c.write_all.ensures.front)
