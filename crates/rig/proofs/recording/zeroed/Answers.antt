use Rattle.std.proofs.Common.{rules}
use Rattle.rig.specs.Replays.{zeros}
use Rattle.rig.proofs.recording.zeroed.Goals as goal

pub returns-clause-items : goal.returns-clause-items
unfolding zeros
returns-clause-items c = search rules
