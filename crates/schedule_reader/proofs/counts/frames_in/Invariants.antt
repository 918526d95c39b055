use Rattle.std.proofs.Common.{◌≡◌, take, sum_by}
use Rattle.schedule_reader.specs.Counts.{step_frames}
use Rattle.schedule_reader.specs.Left.{held}
use Rattle.schedule_reader.proofs.counts.frames_in.Given as goal

abbrev pub invariant-loop-step : goal.invariant-loop-step
invariant-loop-step l = l.frames ≡ held (sum_by step_frames (take l.step-index l.steps))
