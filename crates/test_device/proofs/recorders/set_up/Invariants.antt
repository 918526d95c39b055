use Rattle.std.proofs.Common.{◌≡◌, false}
use Rattle.period_writer.specs.Writers.{ring_size}
use Rattle.rig.specs.Rigs.{setting_of}
use Rattle.test_device.proofs.recorders.set_up.Given as goal

-- no run is open, nothing is played, and the ring stays
abbrev pub invariant-loop-command : goal.invariant-loop-command
invariant-loop-command l = ((setting_of l.rig).in_run ≡ false) × (l.driver.play ≡ false) × (ring_size l.driver.writer ≡ 768)
