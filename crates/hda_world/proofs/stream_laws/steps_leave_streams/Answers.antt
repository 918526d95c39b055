use Rattle.hda_world.proofs.Streaming.{step_leaves_streams, steps_leave_streams}
use Rattle.hda_world.proofs.stream_laws.steps_leave_streams.Goals as goal

pub returns : goal.returns
returns c = record { one = step_leaves_streams; all = steps_leave_streams }
