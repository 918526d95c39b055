use Rattle.laws_start.proofs.Whole.{whole}
use Rattle.laws_start.proofs.laws.read_machines_are_whole.Goals as goal

pub returns : goal.returns
returns c = whole
