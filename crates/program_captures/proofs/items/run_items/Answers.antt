use Rattle.std.proofs.Common.{◌≡◌, ◌+◌, List, [], ◌∷◌, ◌++◌, take, get_or, ap, sym, subst, ◌∙◌, arith}
use Rattle.std.proofs.lemmas.List.{take_more}
use Rattle.schedule_reader.specs.declared.schedule.Item.{Item}
use Rattle.program_runs.proofs.Callers.{count_within, one_line}
use Rattle.program_captures.specs.Capturing.{CaptureRan}
use Rattle.program_captures.proofs.Going.{ran_none, ran_both}
use Rattle.program_captures.proofs.items.run_items.Goals as goal

pub loop-item-init : goal.loop-item-init
loop-item-init c = ran_none c.args.terms c.pieces_follow.ensures.none c.args.capturer c.args.rig.now c.requires.between c.requires.is

pub run_item-requires-clause-few : goal.run_item-requires-clause-few
run_item-requires-clause-few c =
    let within = count_within c.args.items.now c.loop-item.item-index c.item-item.result c.loop-item-test.true in
    let here = ap one_line c.item-item.is in
    let calls = c.loop-item.invariant.calls in
    omega (arith, within, here, calls, c.requires.few)

pub loop-item-preserved : goal.loop-item-preserved
loop-item-preserved c =
    let items = c.args.items.now in
    let i = c.loop-item.item-index in
    let item : c.item-item.result ≡ get_or items i c.item-item.result = c.item-item.is in
    let turn : take (i + 1) items ≡ take i items ++ c.item-item.result ∷ [] = take_more items i c.item-item.result c.loop-item-test.true ∙ ap (λ (one : Item). take i items ++ one ∷ []) (sym item) in
    subst (λ (front : List Item). CaptureRan c.args.terms front c.args.capturer c.in_ok-capturer.capturer c.args.rig.now c.run_item.new.rig) (sym turn)
    (ran_both c.args.terms c.pieces_follow.ensures.both (take i items) (c.item-item.result ∷ []) c.args.capturer c.loop-item.capturer c.in_ok-capturer.capturer c.args.rig.now c.loop-item.rig c.run_item.new.rig
    c.loop-item.invariant c.in_ok-capturer.ensures)
