use Rattle.driver_progress.proofs.TrailLaws.{trail_append, conforms_both, conforms_front, conforms_back}
use Rattle.driver_progress.proofs.laws.trails_go_on.Goals as goal

pub returns-clause-trail : goal.returns-clause-trail
returns-clause-trail c = trail_append

pub returns-clause-both : goal.returns-clause-both
returns-clause-both c = conforms_both

pub returns-clause-front : goal.returns-clause-front
returns-clause-front c = conforms_front

pub returns-clause-back : goal.returns-clause-back
returns-clause-back c = conforms_back
