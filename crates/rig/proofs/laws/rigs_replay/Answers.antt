use Rattle.rig.proofs.Replayed.{replayed}
use Rattle.rig.proofs.laws.rigs_replay.Goals as goal

pub returns : goal.returns
returns c = replayed
