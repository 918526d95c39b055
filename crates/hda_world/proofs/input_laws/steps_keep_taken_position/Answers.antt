use Rattle.hda_world.specs.Streaming.{HasTakenPosition}
use Rattle.hda_world.proofs.Stepping.{kept_steps}
use Rattle.hda_world.proofs.Taking.{keeps_taken_position}
use Rattle.hda_world.proofs.input_laws.steps_keep_taken_position.Goals as goal

pub returns : goal.returns
returns c = λ steps world holds. kept_steps HasTakenPosition keeps_taken_position steps world holds
