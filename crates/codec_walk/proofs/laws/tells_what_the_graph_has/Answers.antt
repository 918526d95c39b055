use Rattle.std.proofs.Common.{subst}
use Rattle.codec_walk.specs.Dialogues.{Dialogue}
use Rattle.codec_walk.specs.Commands.{walk_commands}
use Rattle.codec_walk.specs.Walks.{walk}
use Rattle.codec_walk.specs.Replies.{CanAnswer}
use Rattle.codec_walk.specs.Outcomes.{IsOutcomeOf}
use Rattle.codec_walk.proofs.Leading.{told_last}
use Rattle.codec_walk.proofs.Whole.{unlisted_codec, leads_walk, told_good, only_graph}
use Rattle.codec_walk.proofs.laws.tells_what_the_graph_has.Goals as goal

pub returns-clause-told : goal.returns-clause-told
returns-clause-told c = λ graph answers well replies all. (
  unlisted_codec graph,
  (
    told_last (CanAnswer graph) (walk_commands graph) answers (walk graph.address) (unlisted_codec graph) (leads_walk c.list_words_have_entries.ensures graph well) replies all,
    told_good graph well,
  ),
)

pub returns-clause-finished : goal.returns-clause-finished
returns-clause-finished c = λ graph answers result well replies all outcome.
    let last = told_last (CanAnswer graph) (walk_commands graph) answers (walk graph.address) (unlisted_codec graph) (leads_walk c.list_words_have_entries.ensures graph well) replies all in
    only_graph (unlisted_codec graph) graph result (told_good graph well) (subst (λ (dialogue : Dialogue). IsOutcomeOf dialogue result) last outcome)
