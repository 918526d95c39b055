use Rattle.std.proofs.Common.{◌≡◌, ◌≤◌, ◌<◌, ◌+◌, ◌*◌, ℕ, List, length, take, get_or, ap, sym, subst, ◌∙◌, arith}
use Rattle.std.specs.Prelude.{sum_by}
use Rattle.std.proofs.lemmas.List.{take_all}
use Rattle.std.proofs.lemmas.List.Sums.{sum_by_more}
use Rattle.schedule_reader.specs.declared.schedule.Item.{Item}
use Rattle.schedule_reader.specs.declared.schedule.Part.{Part}
use Rattle.program_runs.specs.Lines.{lines_in}
use Rattle.program_runs.proofs.Counting.{part_lines, part_is, part_counts, few_lines, few_before}
use Rattle.program_runs.proofs.lines.line_count.Goals as goal

-- the lines of the part of a turn
product : (c : goal.After-lines_among) → c.from.result * c.lines_among.result ≡ part_lines c.part-item.result
product c =
    let lines = c.lines_among.ensures ∙ ap (λ (items : List Item). length (lines_in items)) c.as_slice.ensures in
    ap (λ (n : ℕ). n * c.lines_among.result) c.from.ensures ∙ ap (λ (n : ℕ). c.part-item.result.times * n) lines ∙ sym (part_is c.part-item.result)

-- are few, with those before it
few : (c : goal.After-lines_among) → c.loop-part.count + part_lines c.part-item.result ≤ 1000000
few c =
    let parts = c.args.schedule.now.parts in
    let i = c.loop-part.part-index in
    let same = c.as_slice-part-items.ensures in
    let within = few_before c.args.schedule.now i c.part-item.result c.requires (subst (λ (parts : List Part). i < length parts) same c.loop-part-test.true) in
    let here = ap part_lines (c.part-item.is ∙ ap (λ (parts : List Part). get_or parts i c.part-item.result) same) in
    let before = c.loop-part.invariant ∙ ap (λ (parts : List Part). sum_by part_lines (take i parts)) same in
    omega (arith, within, here, before)

pub overflow_mul-count : goal.overflow_mul-count
overflow_mul-count c = omega (arith, product c, few c)

pub overflow_add-count : goal.overflow_add-count
overflow_add-count c = omega (arith, product c, few c)

pub loop-part-preserved : goal.loop-part-preserved
loop-part-preserved c =
    let more = sum_by_more part_lines c.as_slice-part-items.result.now c.loop-part.part-index c.part-item.result c.loop-part-test.true in
    let here = ap part_lines c.part-item.is in
    let before = c.loop-part.invariant in
    omega (arith, more, here, before, product c)

-- all of them
all : (c : goal.After-loop-part) → c.loop-part.count ≡ sum_by part_lines c.args.schedule.now.parts
all c =
    c.loop-part.invariant ∙ ap (sum_by part_lines) (take_all c.loop-part.part-index c.as_slice-part-items.result.now (omega (arith, c.loop-part-test.false)) ∙ c.as_slice-part-items.ensures)

pub overflow_cast-result : goal.overflow_cast-result
overflow_cast-result c =
    let whole = all c in
    let lines = part_counts c.args.schedule.now.parts in
    let steps = few_lines c.args.schedule.now in
    omega (arith, whole, lines, steps, c.requires.steps)

pub returns : goal.returns
returns c = all c ∙ sym (part_counts c.args.schedule.now.parts)
