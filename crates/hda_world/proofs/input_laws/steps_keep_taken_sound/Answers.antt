use Rattle.hda_world.proofs.TakenSound.{steps_keep_sound}
use Rattle.hda_world.proofs.input_laws.steps_keep_taken_sound.Goals as goal

pub returns : goal.returns
returns c = steps_keep_sound
