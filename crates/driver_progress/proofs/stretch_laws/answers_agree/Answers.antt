use Rattle.driver_progress.proofs.Agreeing.{found_any, agree_on, agree_polled, agree_none}
use Rattle.driver_progress.proofs.Unasked.{agree_submitted}
use Rattle.driver_progress.proofs.stretch_laws.answers_agree.Goals as goal

pub returns-clause-found : goal.returns-clause-found
returns-clause-found c = found_any

pub returns-clause-grows : goal.returns-clause-grows
returns-clause-grows c = agree_on

pub returns-clause-polled : goal.returns-clause-polled
returns-clause-polled c = agree_polled

pub returns-clause-none : goal.returns-clause-none
returns-clause-none c = agree_none

pub returns-clause-submitted : goal.returns-clause-submitted
returns-clause-submitted c = agree_submitted
