use Rattle.rig.proofs.Following.{follow_both, follow_step, follow_run}
use Rattle.rig.proofs.laws.pieces_follow.Goals as goal

pub returns-clause-both : goal.returns-clause-both
returns-clause-both c = follow_both

pub returns-clause-step : goal.returns-clause-step
returns-clause-step c = follow_step

pub returns-clause-run : goal.returns-clause-run
returns-clause-run c = follow_run
