use Rattle.hda_world.specs.Streaming.{ShowsTakenReady}
use Rattle.hda_world.proofs.Stepping.{kept_steps}
use Rattle.hda_world.proofs.Taking.{keeps_taken_ready}
use Rattle.hda_world.proofs.input_laws.steps_keep_taken_ready.Goals as goal

pub returns : goal.returns
returns c = λ steps world holds. kept_steps ShowsTakenReady keeps_taken_ready steps world holds
