use Rattle.codec_walk.specs.Remaining.{remaining}
use Rattle.driver_agenda.proofs.Telling.{outcome_address}
use Rattle.driver_agenda.proofs.agenda.taking.graph_of.Goals as goal

pub returns-in-Ok-clause-of_it : goal.returns-in-Ok-clause-of_it
returns-in-Ok-clause-of_it c = outcome_address (remaining c.args.walk) c.in-Ok.graph c.args.address c.requires.tells c.in-Ok.ensures
