use Rattle.codec_walk.proofs.OneOutcome.{one_outcome}
use Rattle.codec_walk.proofs.laws.outcomes_are_one.Goals as goal

pub returns : goal.returns
returns c = λ codec one other a b. one_outcome codec one other a b
