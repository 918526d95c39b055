use Rattle.std.proofs.Common.{◌≡◌, take}
use Rattle.rig.specs.Recordings.{items_for}
use Rattle.rig.proofs.rooms.items_for_all.Given as goal

abbrev pub invariant-loop-step : goal.invariant-loop-step
invariant-loop-step l = l.items ≡ items_for (take l.step-index l.steps)
