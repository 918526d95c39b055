use Rattle.hda_world.specs.Streaming.{HoldsFifo}
use Rattle.hda_world.proofs.Stepping.{kept_steps}
use Rattle.hda_world.proofs.Streaming.{keeps_fifo}
use Rattle.hda_world.proofs.stream_laws.steps_keep_fifo.Goals as goal

pub returns : goal.returns
returns c = λ steps world holds. kept_steps HoldsFifo keeps_fifo steps world holds
