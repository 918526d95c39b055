use Rattle.hda_world.specs.Streaming.{HoldsTaken}
use Rattle.hda_world.proofs.Stepping.{kept_steps}
use Rattle.hda_world.proofs.Taking.{keeps_taken}
use Rattle.hda_world.proofs.input_laws.steps_keep_taken.Goals as goal

pub returns : goal.returns
returns c = λ steps world holds. kept_steps HoldsTaken keeps_taken steps world holds
