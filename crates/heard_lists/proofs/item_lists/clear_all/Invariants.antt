use Rattle.std.proofs.Common.{◌≡◌, ◌++◌, map, take, drop}
use Rattle.heard_lists.specs.Pieces.{without_signals}
use Rattle.heard_lists.proofs.item_lists.clear_all.Given as goal

abbrev pub invariant-loop-list : goal.invariant-loop-list
invariant-loop-list l = l.lists ≡ map without_signals (take l.list-index l.initial.lists) ++ drop l.list-index l.initial.lists
