use Rattle.driver_rules.proofs.Waiting.{rest_onward}
use Rattle.driver_rules.proofs.Going.{rules_turn, rules_open, rules_row, rules_close, rest_steps}
use Rattle.driver_rules.proofs.laws.stretches_go_by_rules.Goals as goal

pub returns-clause-turns : goal.returns-clause-turns
returns-clause-turns g c = rules_turn

pub returns-clause-opens : goal.returns-clause-opens
returns-clause-opens g c = rules_open

pub returns-clause-row : goal.returns-clause-row
returns-clause-row g c = rules_row

pub returns-clause-closes : goal.returns-clause-closes
returns-clause-closes g c = rules_close

pub returns-clause-steps : goal.returns-clause-steps
returns-clause-steps g c = rest_steps

pub returns-clause-ended : goal.returns-clause-ended
returns-clause-ended g c = rest_onward
