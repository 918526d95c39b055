use Rattle.laws_bring_up.proofs.Rows.{rests, rest_stays, opens, closes, rest_progress, done_progress}
use Rattle.laws_bring_up.proofs.laws.stretches_are_progress.Goals as goal

pub returns-clause-rests : goal.returns-clause-rests
returns-clause-rests c = rests

pub returns-clause-steps : goal.returns-clause-steps
returns-clause-steps c = rest_stays

pub returns-clause-opens : goal.returns-clause-opens
returns-clause-opens c = opens

pub returns-clause-closes : goal.returns-clause-closes
returns-clause-closes c = closes

pub returns-clause-at_rest : goal.returns-clause-at_rest
returns-clause-at_rest c = rest_progress

pub returns-clause-done : goal.returns-clause-done
returns-clause-done c = done_progress
