use Rattle.std.proofs.Common.{◌≡◌, ◌++◌, take}
use Rattle.heard_lists.specs.Pieces.{empty_pins}
use Rattle.heard_lists.proofs.item_lists.add_lists.Given as goal

abbrev pub invariant-loop-pin : goal.invariant-loop-pin
invariant-loop-pin l = l.lists.items ≡ l.initial.lists.items ++ empty_pins l.codec (take l.pin-index l.pins)
