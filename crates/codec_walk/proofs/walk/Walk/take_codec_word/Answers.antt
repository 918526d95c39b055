use Rattle.std.proofs.Common.{◌∙◌}
use Rattle.codec_walk.specs.Remaining.{remaining}
use Rattle.codec_walk.proofs.WalkLemmas.{word_more, word_none}
use Rattle.codec_walk.proofs.walk.Walk.take_codec_word.Goals as goal

pub returns-in-Some : goal.returns-in-Some
unfolding remaining
returns-in-Some c =
    let walk = c.args.self.now in
    word_more walk.node walk.nid walk.left walk.codec c.put.new.codec walk.nodes.items c.args.word c.in-Some.next c.args.answer c.put.ensures c.in-Some.ensures

pub returns-in-None : goal.returns-in-None
returns-in-None c =
    let walk = c.args.self.now in
    c.begin_widgets.ensures ∙ word_none walk.codec c.put.new.codec walk.nodes.items c.args.word c.args.answer c.put.ensures c.in-None.ensures
