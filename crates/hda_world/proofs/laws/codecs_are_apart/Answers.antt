use Rattle.hda_world.proofs.Leaving.{found_apart}
use Rattle.hda_world.proofs.laws.codecs_are_apart.Goals as goal

pub returns : goal.returns
returns c = λ address other change codecs keeps apart. found_apart address other change keeps apart codecs
