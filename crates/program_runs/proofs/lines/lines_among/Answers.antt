use Rattle.std.proofs.Common.{ap, ◌∙◌, arith, sym}
use Rattle.program_runs.proofs.Counting.{count_more, one_line, one_if, none_if}
use Rattle.program_runs.proofs.lines.lines_among.Goals.{then-is_line, else-is_line}
use Rattle.program_runs.proofs.lines.lines_among.Goals as goal

pub loop-item-preserved : goal.loop-item-preserved
loop-item-preserved c =
    let items = c.args.items.now in
    let i = c.loop-item.item-index in
    let item = c.item-item.result in
    let more = count_more items i item c.loop-item-test.true in
    let here = ap one_line c.item-item.is in
    let before = c.loop-item.invariant.count in
    let few = c.loop-item.invariant.few in
    elim c.if-is_line.branch [
      | then-is_line w ↦ (let one = one_if item (sym c.is_line.ensures ∙ w.if-is_line.true) in record { count = omega (arith, more, here, before, one, w.count-is); few = omega (arith, few, w.count-is) })
      | else-is_line w ↦ (let none = none_if item (sym c.is_line.ensures ∙ w.if-is_line.false) in record { count = omega (arith, more, here, before, none, w.count-is); few = omega (arith, few, w.count-is) })
    ]
