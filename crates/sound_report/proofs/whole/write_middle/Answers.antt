use Rattle.sound_report.proofs.PageLemmas.{failed, front_more, then_front, then_last, then_more}
use Rattle.sound_report.proofs.whole.write_middle.Goals as goal

pub returns-in_err-write_lines-clause-text : goal.returns-in_err-write_lines-clause-text
returns-in_err-write_lines-clause-text g c =
    let page = c.args.page.now.items in
    failed c.from_residual.result _ c.from_residual.ensures.0
    (front_more page _ _ (front_more page _ _ (front_more page _ _ (front_more page _ _ (rw c.as_slice.ensures at c.in_err-write_lines.ensures.text)))))

pub returns-in_err-write_lines-2-clause-text : goal.returns-in_err-write_lines-2-clause-text
returns-in_err-write_lines-2-clause-text g c =
    let page = c.args.page.now.items in
    failed c.from_residual-in_err-write_lines-2.result _ c.from_residual-in_err-write_lines-2.ensures.0
    (front_more page _ _
    (front_more page _ _
    (front_more page _ _
    (then_front page _ _ (rw c.as_slice.ensures at c.in_ok-write_lines.ensures.text) (rw c.as_slice-2.ensures at c.in_err-write_lines-2.ensures.text)))))

pub returns-in_err-write_lines-3-clause-text : goal.returns-in_err-write_lines-3-clause-text
returns-in_err-write_lines-3-clause-text g c =
    let page = c.args.page.now.items in
    failed c.from_residual-in_err-write_lines-3.result _ c.from_residual-in_err-write_lines-3.ensures.0
    (front_more page _ _
    (front_more page _ _
    (then_front page _ _
    (then_more page _ _ (rw c.as_slice.ensures at c.in_ok-write_lines.ensures.text) (rw c.as_slice-2.ensures at c.in_ok-write_lines-2.ensures.text))
    (rw c.as_slice-3.ensures at c.in_err-write_lines-3.ensures.text))))

pub returns-in_err-write_lines-4-clause-text : goal.returns-in_err-write_lines-4-clause-text
returns-in_err-write_lines-4-clause-text g c =
    let page = c.args.page.now.items in
    failed c.from_residual-in_err-write_lines-4.result _ c.from_residual-in_err-write_lines-4.ensures.0
    (front_more page _ _
    (then_front page _ _
    (then_more page _ _
    (then_more page _ _ (rw c.as_slice.ensures at c.in_ok-write_lines.ensures.text) (rw c.as_slice-2.ensures at c.in_ok-write_lines-2.ensures.text))
    (rw c.as_slice-3.ensures at c.in_ok-write_lines-3.ensures.text))
    c.in_err-write_lines-4.ensures.text))

pub returns-clause-text : goal.returns-clause-text
returns-clause-text g c =
    let page = c.args.page.now.items in
    then_last _ c.write_pins.result _ page _ _
    (then_more page _ _
    (then_more page _ _
    (then_more page _ _ (rw c.as_slice.ensures at c.in_ok-write_lines.ensures.text) (rw c.as_slice-2.ensures at c.in_ok-write_lines-2.ensures.text))
    (rw c.as_slice-3.ensures at c.in_ok-write_lines-3.ensures.text))
    c.in_ok-write_lines-4.ensures.text)
    c.write_pins.ensures.text
