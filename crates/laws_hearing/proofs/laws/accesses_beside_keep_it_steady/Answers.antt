use Rattle.laws_hearing.proofs.SteadyEvents.{events_steady, events_sent}
use Rattle.laws_hearing.proofs.laws.accesses_beside_keep_it_steady.Goals as goal

pub returns-clause-steady : goal.returns-clause-steady
returns-clause-steady c = λ codecs tag word layout from events world known all steady. events_steady codecs tag word layout from known events world all steady

pub returns-clause-sent : goal.returns-clause-sent
returns-clause-sent c = events_sent
