use Rattle.laws_settings.proofs.Addressed.{word_names, words_naming-words, commands_to-graphs, words_to-naming}
use Rattle.laws_settings.proofs.laws.words_name_their_codecs.Goals as goal

pub returns-clause-word : goal.returns-clause-word
returns-clause-word c = word_names

pub returns-clause-words : goal.returns-clause-words
returns-clause-words c = words_naming-words

pub returns-clause-graphs : goal.returns-clause-graphs
returns-clause-graphs c = commands_to-graphs

pub returns-clause-world : goal.returns-clause-world
returns-clause-world c = words_to-naming
