use Rattle.jack_rules.proofs.Choices.{choices_are, choices_in_range, told_pins, chosen_pins}
use Rattle.jack_rules.proofs.laws.choices_are_commands.Goals as goal

pub returns-clause-commands : goal.returns-clause-commands
returns-clause-commands c = choices_are

pub returns-clause-in_range : goal.returns-clause-in_range
returns-clause-in_range c = choices_in_range

pub returns-clause-told : goal.returns-clause-told
returns-clause-told c = told_pins

pub returns-clause-chosen : goal.returns-clause-chosen
returns-clause-chosen c = chosen_pins
