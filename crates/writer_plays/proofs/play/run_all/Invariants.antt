use Rattle.std.proofs.Common.{◌≡◌}
use Rattle.period_writer.specs.Writers.{KeepsRing}
use Rattle.writer_plays.proofs.play.run_all.Given as goal

-- the writer's ring and its blocks stay
abbrev pub invariant-loop-budget : goal.invariant-loop-budget
invariant-loop-budget l = (l.writer.geometry ≡ l.geometry) × KeepsRing l.initial.writer l.writer
