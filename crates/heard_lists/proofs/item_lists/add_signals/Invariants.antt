use Rattle.std.proofs.Common.{◌≡◌, ◌++◌, map, take, drop}
use Rattle.heard_lists.specs.Pieces.{signalled}
use Rattle.heard_lists.proofs.item_lists.add_signals.Given as goal

abbrev pub invariant-loop-list : goal.invariant-loop-list
invariant-loop-list g l =
    l.lists ≡ map (signalled (g.S.Sounds.signal_of l.sounds)) (take l.list-index l.initial.lists) ++ drop l.list-index l.initial.lists
