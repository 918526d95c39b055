use Rattle.std.proofs.Common.{◌≡◌, false}
use Rattle.period_writer.specs.Writers.{ring_size}
use Rattle.rig.specs.Rigs.{setting_of}
use Rattle.rig.specs.Liars.{rig_of}
use Rattle.test_device.proofs.liars.serve.Given as goal

-- no run is open, nothing is played, and the ring stays
abbrev pub invariant-loop-turn : goal.invariant-loop-turn
invariant-loop-turn l = ((setting_of (rig_of l.liar)).in_run ≡ false) × (l.driver.play ≡ false) × (ring_size l.driver.writer ≡ 768)
