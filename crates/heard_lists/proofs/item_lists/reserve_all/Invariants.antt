use Rattle.std.proofs.Common.{◌≡◌, ◌≤◌, ◌<◌, ℕ, map, get_or}
use Rattle.heard_lists.specs.Pieces.{PinSignals, HaveRoom, without_room}
use Rattle.heard_lists.proofs.item_lists.reserve_all.Given as goal

abbrev pub invariant-loop-list : goal.invariant-loop-list
invariant-loop-list l =
    (map without_room l.lists ≡ map without_room l.initial.lists)
    × ((k : ℕ) (d : PinSignals) → k < l.list-index → l.signals ≤ (get_or l.lists k d).room)
    × ((more : ℕ) → HaveRoom more l.initial.lists → HaveRoom more l.lists)
