use Rattle.std.proofs.Common.{◌≡◌}
use Rattle.hda_capture.specs.Recorders.{KeepsRecorderRing}
use Rattle.writer_plays.proofs.recordings.run_all.Given as goal

-- the recorder's ring and its blocks stay
abbrev pub invariant-loop-up_to : goal.invariant-loop-up_to
invariant-loop-up_to l = (l.recorder.geometry ≡ l.geometry) × KeepsRecorderRing l.initial.recorder l.recorder
