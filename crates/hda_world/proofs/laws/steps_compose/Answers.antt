use Rattle.hda_world.proofs.Stepping.{after_steps-append}
use Rattle.hda_world.proofs.laws.steps_compose.Goals as goal

pub returns : goal.returns
returns c = after_steps-append
