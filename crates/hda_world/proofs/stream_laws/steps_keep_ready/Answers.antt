use Rattle.hda_world.specs.Streaming.{ShowsReady}
use Rattle.hda_world.proofs.Stepping.{kept_steps}
use Rattle.hda_world.proofs.Streaming.{keeps_ready}
use Rattle.hda_world.proofs.stream_laws.steps_keep_ready.Goals as goal

pub returns : goal.returns
returns c = λ steps world holds. kept_steps ShowsReady keeps_ready steps world holds
