use Rattle.laws_hearing.proofs.Streaming.{streams_at_first, steps_stream, events_stream, events_send}
use Rattle.laws_hearing.proofs.signals.streams_go_on.Goals as goal

pub returns-clause-begins : goal.returns-clause-begins
returns-clause-begins c = streams_at_first

pub returns-clause-steps : goal.returns-clause-steps
returns-clause-steps c = λ tag word layout from steps world known streams. steps_stream tag word layout from known steps world streams

pub returns-clause-events : goal.returns-clause-events
returns-clause-events c = λ tag word layout from events world known all streams. events_stream tag word layout from known events world all streams

pub returns-clause-sent : goal.returns-clause-sent
returns-clause-sent c = events_send
