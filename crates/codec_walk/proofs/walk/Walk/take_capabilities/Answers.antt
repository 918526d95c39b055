use Rattle.codec_walk.specs.Steps.{from_next_widget}
use Rattle.codec_walk.specs.Remaining.{remaining, so_far}
use Rattle.codec_graph.specs.Widget.{plain_node}
use Rattle.codec_walk.proofs.StepLemmas.{words_next}
use Rattle.codec_walk.proofs.walk.Walk.take_capabilities.Goals as goal

pub returns : goal.returns
unfolding remaining
returns c =
    let walk = c.args.self.now in
    rw (c.go_on.ensures, c.first_step-next.ensures, c.new.ensures, c.requires)
    (words_next walk.codec.address walk.nid (from_next_widget walk.left walk.nid (so_far walk)) (plain_node c.args.answer))
