use Rattle.std.proofs.Common.{◌≡◌, false}
use Rattle.rig.specs.Rigs.{setting_of}
use Rattle.rig.specs.Liars.{rig_of}
use Rattle.test_device.proofs.liars.make.Given as goal

-- no run is open
abbrev pub invariant-loop-step : goal.invariant-loop-step
invariant-loop-step l = (setting_of (rig_of l.liar)).in_run ≡ false
