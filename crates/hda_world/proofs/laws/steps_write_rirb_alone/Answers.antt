use Rattle.hda_world.proofs.Leaving.{steps_leave}
use Rattle.hda_world.proofs.laws.steps_write_rirb_alone.Goals as goal

pub returns : goal.returns
returns c = steps_leave
