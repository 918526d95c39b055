use Rattle.laws_start.proofs.Apart.{opened_apart}
use Rattle.laws_start.proofs.laws.opened_blocks_lie_apart.Goals as goal

pub returns : goal.returns
returns c = opened_apart
