use Rattle.laws_hearing.proofs.OneSignal.{pair_plays, pairs_were_sent, silences_are_silent}
use Rattle.laws_hearing.proofs.signals.one_signal_is_played.Goals as goal

pub returns-clause-plays : goal.returns-clause-plays
returns-clause-plays c = pair_plays

pub returns-clause-sent : goal.returns-clause-sent
returns-clause-sent c = pairs_were_sent

pub returns-clause-silent : goal.returns-clause-silent
returns-clause-silent c = silences_are_silent
