use Rattle.hda_world.proofs.TakenWrites.{given_after}
use Rattle.hda_world.proofs.input_laws.the_given_sound_stays.Goals as goal

pub returns : goal.returns
returns c = given_after
