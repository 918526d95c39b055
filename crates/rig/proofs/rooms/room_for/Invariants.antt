use Rattle.std.proofs.Common.{◌≡◌, ◌+◌, take}
use Rattle.rig.specs.Rooms.{step_count, item_count}
use Rattle.rig.proofs.rooms.room_for.Given as goal

abbrev pub invariant-loop-group : goal.invariant-loop-group
invariant-loop-group l = record {
  entries : l.entries ≡ l.accesses + 2 + step_count (take l.group-index l.groups);
  items : l.items ≡ item_count (take l.group-index l.groups);
}
