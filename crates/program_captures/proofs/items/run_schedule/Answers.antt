use Rattle.std.proofs.Common.{◌≡◌, ◌+◌, List, [], ◌∷◌, ◌++◌, length, take, ap, sym, subst, ◌∙◌, arith, append-nil}
use Rattle.std.specs.List.{flat_map}
use Rattle.std.proofs.lemmas.List.{take_more}
use Rattle.std.proofs.lemmas.List.Concat.{flat_map-append}
use Rattle.std.proofs.lemmas.List.Sums.{sum_by_more_le}
use Rattle.schedule_reader.specs.declared.schedule.Item.{Item}
use Rattle.schedule_reader.specs.declared.schedule.Part.{Part}
use Rattle.schedule_reader.specs.Counts.{items_in}
use Rattle.program_runs.specs.Lines.{lines_in}
use Rattle.program_runs.proofs.Callers.{part_lines, part_counts}
use Rattle.program_captures.specs.Capturing.{CaptureRan}
use Rattle.program_captures.proofs.Going.{ran_none, ran_both}
use Rattle.program_captures.proofs.items.run_schedule.Goals as goal

pub loop-part-init : goal.loop-part-init
loop-part-init c = ran_none c.args.terms c.pieces_follow.ensures.none c.args.capturer c.args.rig.now c.requires.between c.requires.is

pub run_part-requires-clause-few : goal.run_part-requires-clause-few
run_part-requires-clause-few c =
    let parts = c.as_slice-part-items.result.now in
    let i = c.loop-part.part-index in
    let before = part_counts (take i parts) in
    let whole = part_counts parts in
    let same = ap (λ (parts : List Part). length (lines_in (flat_map items_in parts))) c.as_slice-part-items.ensures in
    let within = sum_by_more_le part_lines parts i c.part-item.result c.loop-part-test.true in
    let here = ap part_lines c.part-item.is in
    let calls = c.loop-part.invariant.calls in
    omega (arith, before, whole, same, within, here, calls, c.requires.few)

pub loop-part-preserved : goal.loop-part-preserved
loop-part-preserved c =
    let parts = c.as_slice-part-items.result.now in
    let i = c.loop-part.part-index in
    let part = c.part-item.result in
    let front = flat_map items_in (take i parts) in
    let turn : flat_map items_in (take (i + 1) parts) ≡ front ++ items_in part =
    ap (flat_map items_in) (take_more parts i part c.loop-part-test.true ∙ ap (λ (one : Part). take i parts ++ one ∷ []) (sym c.part-item.is))
    ∙ flat_map-append items_in (take i parts) (part ∷ []) ∙ ap (λ (back : List Item). front ++ back) (append-nil (items_in part)) in
    subst (λ (all : List Item). CaptureRan c.args.terms all c.args.capturer c.in_ok-capturer.capturer c.args.rig.now c.run_part.new.rig) (sym turn)
    (ran_both c.args.terms c.pieces_follow.ensures.both front (items_in part) c.args.capturer c.loop-part.capturer c.in_ok-capturer.capturer c.args.rig.now c.loop-part.rig c.run_part.new.rig
    c.loop-part.invariant c.in_ok-capturer.ensures)
