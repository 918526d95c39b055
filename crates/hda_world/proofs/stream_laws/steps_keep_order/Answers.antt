use Rattle.hda_world.specs.Streaming.{HasSent}
use Rattle.hda_world.proofs.Stepping.{kept_steps}
use Rattle.hda_world.proofs.Streaming.{keeps_sent}
use Rattle.hda_world.proofs.stream_laws.steps_keep_order.Goals as goal

pub returns : goal.returns
returns c = λ from steps world holds. kept_steps (HasSent from) (keeps_sent from) steps world holds
