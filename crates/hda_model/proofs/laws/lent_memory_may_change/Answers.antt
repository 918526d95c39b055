use Rattle.hda_model.proofs.Standing.{other_memory}
use Rattle.hda_model.proofs.laws.lent_memory_may_change.Goals as goal

pub returns : goal.returns
returns c = other_memory
