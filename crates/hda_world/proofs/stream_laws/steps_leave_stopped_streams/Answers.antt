use Rattle.hda_world.proofs.Streaming.{steps_leave_stopped}
use Rattle.hda_world.proofs.stream_laws.steps_leave_stopped_streams.Goals as goal

pub returns : goal.returns
returns c = steps_leave_stopped
