use Rattle.hda_world.proofs.Discovery.{steps_keep_discovery}
use Rattle.hda_world.proofs.laws.steps_keep_discovery.Goals as goal

pub returns : goal.returns
returns c = steps_keep_discovery
