use Rattle.driver_progress.proofs.TrailLaws.{steps_leave_trail, steps_conform}
use Rattle.driver_progress.proofs.laws.steps_leave_a_trail.Goals as goal

pub returns-clause-trail : goal.returns-clause-trail
returns-clause-trail c = steps_leave_trail

pub returns-clause-conforms : goal.returns-clause-conforms
returns-clause-conforms c = steps_conform
