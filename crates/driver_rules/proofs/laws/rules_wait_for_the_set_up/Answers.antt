use Rattle.driver_rules.proofs.Onwards.{trail_is}
use Rattle.driver_rules.proofs.Waiting.{waits_steps, waits_stretch, rest_waits, progress_waits}
use Rattle.driver_rules.proofs.laws.rules_wait_for_the_set_up.Goals as goal

pub returns-clause-steps : goal.returns-clause-steps
returns-clause-steps g c = waits_steps

pub returns-clause-stretch : goal.returns-clause-stretch
returns-clause-stretch g c = waits_stretch

pub returns-clause-trail : goal.returns-clause-trail
returns-clause-trail g c = trail_is

pub returns-clause-rest : goal.returns-clause-rest
returns-clause-rest g c = rest_waits

pub returns-clause-over : goal.returns-clause-over
returns-clause-over g c = progress_waits
