use Rattle.hda_world.specs.Streaming.{HasPosition}
use Rattle.hda_world.proofs.Stepping.{kept_steps}
use Rattle.hda_world.proofs.Streaming.{keeps_position}
use Rattle.hda_world.proofs.stream_laws.steps_keep_position.Goals as goal

pub returns : goal.returns
returns c = λ steps world holds. kept_steps HasPosition keeps_position steps world holds
