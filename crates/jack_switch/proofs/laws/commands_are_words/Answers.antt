use Rattle.jack_rules.specs.Switching.{next_choice}
use Rattle.jack_switch.proofs.Words.{are_words, some_words, reach_on}
use Rattle.jack_switch.proofs.laws.commands_are_words.Goals as goal

pub returns-clause-words : goal.returns-clause-words
returns-clause-words c = are_words

pub returns-clause-chosen : goal.returns-clause-chosen
returns-clause-chosen c switching reach = some_words (next_choice switching).command (c.choices_are_commands.ensures.in_range switching reach)

pub returns-clause-stays : goal.returns-clause-stays
returns-clause-stays c = reach_on
