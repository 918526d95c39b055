use Rattle.driver_rules.proofs.Noting.{begins_noted, ends_noted, plain_noted, polls_noted, submits_noted, steps_noted}
use Rattle.driver_rules.proofs.note_laws.answers_are_noted.Goals as goal

pub returns-clause-begins : goal.returns-clause-begins
returns-clause-begins g c rules = begins_noted rules

pub returns-clause-plain : goal.returns-clause-plain
returns-clause-plain g c rules = plain_noted rules

pub returns-clause-polls : goal.returns-clause-polls
returns-clause-polls g c rules = polls_noted rules

pub returns-clause-submits : goal.returns-clause-submits
returns-clause-submits g c rules = submits_noted rules

pub returns-clause-ends : goal.returns-clause-ends
returns-clause-ends g c rules = ends_noted rules

pub returns-clause-steps : goal.returns-clause-steps
returns-clause-steps g c rules = steps_noted rules
