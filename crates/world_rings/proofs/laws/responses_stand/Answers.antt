use Rattle.world_rings.proofs.Standing.{each_stands}
use Rattle.world_rings.proofs.laws.responses_stand.Goals as goal

pub returns : goal.returns
returns c = λ fields memory responses. each_stands responses fields memory
