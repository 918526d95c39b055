use Rattle.std.proofs.Common.{◌≡◌, ◌+◌, ◌*◌, ℕ, List, ◌++◌, length, ap, sym, subst, ◌∙◌, arith}
use Rattle.schedule_reader.specs.declared.schedule.Item.{Item}
use Rattle.program_runs.specs.Lines.{lines_in}
use Rattle.program_runs.proofs.Callers.{items_times, items_more, count_times, times_within, part_is}
use Rattle.program_captures.specs.Capturing.{CaptureRan}
use Rattle.program_captures.proofs.Going.{ran_none, ran_both}
use Rattle.program_captures.proofs.items.run_part.Goals as goal

pub loop-init : goal.loop-init
loop-init c = ran_none c.args.terms c.pieces_follow.ensures.none c.args.capturer c.args.rig.now c.requires.between c.requires.is

pub run_items-requires-clause-few : goal.run_items-requires-clause-few
run_items-requires-clause-few c =
    let items = c.args.part.now.items in
    let lines = length (lines_in items) in
    let before = count_times items c.loop.counter in
    let whole = part_is c.args.part.now in
    let within = times_within lines c.loop.counter c.args.part.now.times (c.args.part.now.times * lines) c.loop-test.true (omega arith) in
    let here = ap (λ (items : List Item). length (lines_in items)) c.as_slice.ensures in
    let calls = c.loop.invariant.calls in
    omega (arith, before, whole, within, here, calls, c.requires.few)

pub loop-preserved : goal.loop-preserved
loop-preserved c =
    let items = c.args.part.now.items in
    let turn : items_times items (c.loop.counter + 1) ≡ items_times items c.loop.counter ++ c.as_slice.result.now =
    items_more items c.loop.counter ∙ ap (λ (back : List Item). items_times items c.loop.counter ++ back) (sym c.as_slice.ensures) in
    subst (λ (all : List Item). CaptureRan c.args.terms all c.args.capturer c.in_ok-capturer.capturer c.args.rig.now c.run_items.new.rig) (sym turn)
    (ran_both c.args.terms c.pieces_follow.ensures.both (items_times items c.loop.counter) c.as_slice.result.now c.args.capturer c.loop.capturer c.in_ok-capturer.capturer c.args.rig.now c.loop.rig c.run_items.new.rig
    c.loop.invariant c.in_ok-capturer.ensures)

pub returns : goal.returns
returns c =
    let items = c.args.part.now.items in
    let all : c.loop.counter ≡ c.args.part.now.times = omega (arith, c.loop.auto.counter-end, c.loop-test.false) in
    subst (λ (n : ℕ). CaptureRan c.args.terms (items_times items n) c.args.capturer c.loop.capturer c.args.rig.now c.loop.rig) all c.loop.invariant
