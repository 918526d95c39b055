use Rattle.std.proofs.Common.{◌≡◌, false}
use Rattle.rig.specs.Rigs.{setting_of}
use Rattle.test_device.proofs.recorders.make.Given as goal

-- no run is open
abbrev pub invariant-loop-step : goal.invariant-loop-step
invariant-loop-step l = (setting_of l.rig).in_run ≡ false
