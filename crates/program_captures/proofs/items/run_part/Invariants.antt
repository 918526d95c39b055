use Rattle.program_runs.proofs.Callers.{items_times}
use Rattle.program_captures.specs.Capturing.{CaptureRan}
use Rattle.program_captures.proofs.items.run_part.Given as goal

-- the items were run so often
abbrev pub invariant-loop : goal.invariant-loop
invariant-loop l = CaptureRan l.terms (items_times l.part.items l.counter) l.fn.capturer l.capturer l.fn.rig l.rig
