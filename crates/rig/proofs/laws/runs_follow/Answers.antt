use Rattle.std.specs.Prelude.{[]}
use Rattle.rig.proofs.Following.{follow_more, run_more, all_accesses}
use Rattle.rig.proofs.laws.runs_follow.Goals as goal

pub returns-clause-line : goal.returns-clause-line
returns-clause-line c = follow_more

pub returns-clause-closing : goal.returns-clause-closing
returns-clause-closing c = run_more []

pub returns-clause-accesses : goal.returns-clause-accesses
returns-clause-accesses c = all_accesses
