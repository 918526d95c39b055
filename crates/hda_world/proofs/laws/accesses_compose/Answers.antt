use Rattle.hda_world.proofs.Rows.{makes_both}
use Rattle.hda_world.proofs.laws.accesses_compose.Goals as goal

pub returns : goal.returns
returns c = λ first second old middle new before after. makes_both before after
