use Rattle.codec_graph.proofs.ListWords.{entries_of-list_word}
use Rattle.codec_graph.proofs.laws.list_words_have_entries.Goals as goal

pub returns : goal.returns
returns c = λ long entries place all. entries_of-list_word long entries place all
