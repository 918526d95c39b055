use Rattle.laws_switching.proofs.SensesTold.{poll_tells, beside_tells}
use Rattle.laws_switching.proofs.senses.sense_answers_are_known.Goals as goal

pub returns-clause-beside : goal.returns-clause-beside
returns-clause-beside c = λ corb rirb speakers senses events all. beside_tells corb rirb speakers senses events all

pub returns-clause-polls : goal.returns-clause-polls
returns-clause-polls c = λ corb rirb speakers senses switching rings reads new_ones knows asks. poll_tells corb rirb speakers senses switching rings reads new_ones knows asks
