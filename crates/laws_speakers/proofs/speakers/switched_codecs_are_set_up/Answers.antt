use Rattle.laws_speakers.proofs.SetUpSwitched.{routes_left_on, set_up_at_once, set_up_later}
use Rattle.laws_speakers.proofs.speakers.switched_codecs_are_set_up.Goals as goal

pub returns-clause-routes : goal.returns-clause-routes
returns-clause-routes c = routes_left_on

pub returns-clause-at_once : goal.returns-clause-at_once
returns-clause-at_once c = set_up_at_once

pub returns-clause-later : goal.returns-clause-later
returns-clause-later c = set_up_later
