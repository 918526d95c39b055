use Rattle.std.proofs.Common.{ap}
use Rattle.program_runs.specs.FrameCounts.{position_of}
use Rattle.program_runs.proofs.frame_counts.last_at.Goals as goal

pub returns-in-Some : goal.returns-in-Some
returns-in-Some c = ap position_of c.in-Some.ensures.value
