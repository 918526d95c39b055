use Rattle.std.proofs.Common.{◌≡◌, false}
use Rattle.rig.specs.Rigs.{setting_of}
use Rattle.hda_capture.specs.Recorders.{KeepsRecorderRing, ring_size}
use Rattle.test_device.proofs.recorders.follow.Given as goal

-- no run is open, and the recorder's ring stays
abbrev pub invariant-loop-pair : goal.invariant-loop-pair
invariant-loop-pair l = ((setting_of l.rig).in_run ≡ false) × (ring_size l.recorder ≡ 768) × KeepsRecorderRing l.initial.recorder l.recorder
