use Rattle.period_writer.proofs.SameRuns.{tally_same}
use Rattle.period_writer.proofs.SameStretches.{stretches_same}
use Rattle.period_writer.proofs.laws.later_sound_changes_no_run.Goals as goal

pub returns-clause-run : goal.returns-clause-run
returns-clause-run c = λ m runs tally budget left part from lpib to some is less enough none.
    tally_same m runs tally budget left part from lpib to some is less enough none

pub returns-clause-runs : goal.returns-clause-runs
returns-clause-runs c = λ m runs total more tally stretches some is has. stretches_same m total more some stretches runs tally is has
