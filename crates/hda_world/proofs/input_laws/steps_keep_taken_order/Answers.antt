use Rattle.hda_world.specs.Streaming.{HasTakenBlocks}
use Rattle.hda_world.proofs.Stepping.{kept_steps}
use Rattle.hda_world.proofs.Taking.{keeps_taken_order}
use Rattle.hda_world.proofs.input_laws.steps_keep_taken_order.Goals as goal

pub returns : goal.returns
returns c = λ steps world holds. kept_steps HasTakenBlocks keeps_taken_order steps world holds
