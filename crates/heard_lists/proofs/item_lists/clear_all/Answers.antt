use Rattle.std.proofs.Common.{set, get_or, ap, ◌∙◌, arith}
use Rattle.std.proofs.lemmas.List.{get_or_default}
use Rattle.std.proofs.lemmas.List.Edits.{map_over_more}
use Rattle.heard_lists.specs.Pieces.{PinSignals, without_signals}
use Rattle.heard_lists.proofs.item_lists.clear_all.Goals as goal

pub loop-list-preserved : goal.loop-list-preserved
loop-list-preserved c =
    ap (λ (l : PinSignals). set c.loop-list.lists c.loop-list.list-index l) c.clear.ensures
    ∙ map_over_more without_signals c.args.lists.now c.loop-list.lists c.loop-list.list-index
    (get_or c.loop-list.lists c.loop-list.list-index c.list-item.result) (omega arith) c.loop-list.invariant
    (get_or_default c.loop-list.lists c.loop-list.list-index _ _ (omega arith))
