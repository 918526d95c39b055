use Rattle.laws_settings.proofs.Readings.{reply_to, reply_after}
use Rattle.laws_settings.proofs.laws.an_answer_is_a_reply.Goals as goal

pub returns-clause-to_it : goal.returns-clause-to_it
returns-clause-to_it c = reply_to

pub returns-clause-to_all : goal.returns-clause-to_all
returns-clause-to_all c = reply_after
