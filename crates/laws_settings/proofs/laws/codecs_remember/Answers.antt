use Rattle.laws_settings.proofs.Remembering.{remembers_itself, steps_remember, events_remember, found_by}
use Rattle.laws_settings.proofs.laws.codecs_remember.Goals as goal

pub returns-clause-begins : goal.returns-clause-begins
returns-clause-begins c = remembers_itself

pub returns-clause-steps : goal.returns-clause-steps
returns-clause-steps c = steps_remember

pub returns-clause-events : goal.returns-clause-events
returns-clause-events c = events_remember

pub returns-clause-found : goal.returns-clause-found
returns-clause-found c = found_by
