use Rattle.laws_hearing.proofs.StartedSteady.{steady_at_first, sent_at_first}
use Rattle.laws_hearing.proofs.laws.a_started_stream_is_steady.Goals as goal

pub returns-clause-steady : goal.returns-clause-steady
returns-clause-steady c = steady_at_first

pub returns-clause-sent : goal.returns-clause-sent
returns-clause-sent c = sent_at_first
