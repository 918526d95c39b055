use Rattle.codec_walk.specs.Commands.{walk_commands}
use Rattle.codec_walk.specs.Walks.{walk}
use Rattle.codec_walk.specs.Replies.{CanAnswer}
use Rattle.codec_walk.proofs.Leading.{next_question}
use Rattle.codec_walk.proofs.Whole.{unlisted_codec, leads_walk}
use Rattle.codec_walk.proofs.laws.asks_what_the_graph_has.Goals as goal

pub returns : goal.returns
returns c = λ graph answers well replies.
    next_question (CanAnswer graph) (walk_commands graph) answers (walk graph.address) (unlisted_codec graph)
    (leads_walk c.list_words_have_entries.ensures graph well) replies
