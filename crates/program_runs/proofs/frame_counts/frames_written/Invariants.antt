use Rattle.std.proofs.Common.{◌≡◌, take}
use Rattle.std.specs.Prelude.{sum_by}
use Rattle.program_runs.specs.FrameCounts.{written_in}
use Rattle.program_runs.proofs.frame_counts.frames_written.Given as goal

-- what the first runs wrote is counted
abbrev pub invariant-loop-run : goal.invariant-loop-run
invariant-loop-run l = l.bytes ≡ sum_by written_in (take l.run-index l.runs)
