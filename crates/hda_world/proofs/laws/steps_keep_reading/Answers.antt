use Rattle.hda_world.proofs.Unread.{steps_keep_reading}
use Rattle.hda_world.proofs.laws.steps_keep_reading.Goals as goal

pub returns : goal.returns
returns c = steps_keep_reading
