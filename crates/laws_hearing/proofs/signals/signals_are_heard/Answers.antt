use Rattle.laws_hearing.proofs.LineHeard.{playing_heard, drained_heard, stopped_heard, count_heard, alone_heard}
use Rattle.laws_hearing.proofs.Playing.{plays_longer_by}
use Rattle.laws_hearing.proofs.signals.signals_are_heard.Goals as goal

pub returns-clause-playing : goal.returns-clause-playing
returns-clause-playing c = λ kind tag word layout from world address pin signals ring pcm tally known streams sent along playing few.
    playing_heard kind tag word layout known from world streams address pin signals along sent ring pcm tally playing few

pub returns-clause-drained : goal.returns-clause-drained
returns-clause-drained c = λ kind tag word layout from world address pin signals ring pcm tally known streams sent along drained.
    drained_heard kind tag word layout known from world streams address pin signals along sent ring pcm tally drained

pub returns-clause-stopped : goal.returns-clause-stopped
returns-clause-stopped c = λ kind tag word layout from world address pin signals ring pcm tally known streams sent along stopped.
    stopped_heard kind tag word layout known from world streams address pin signals along sent ring pcm tally stopped

pub returns-clause-all_sent : goal.returns-clause-all_sent
returns-clause-all_sent c = λ kind tag word layout from world address pin signals known streams sent along.
    count_heard kind tag word layout known from world streams address pin signals along sent

pub returns-clause-alone : goal.returns-clause-alone
returns-clause-alone c = λ kind tag word layout from world address pin signals known streams along.
    alone_heard kind tag word layout known from world streams address pin signals along

pub returns-clause-longer : goal.returns-clause-longer
returns-clause-longer c = plays_longer_by
