use Rattle.std.proofs.Common.{◌+◌, ◌<◌, arith}
use Rattle.codec_walk.specs.Walks.{with_node}
use Rattle.codec_walk.specs.Remaining.{remaining, so_far}
use Rattle.codec_walk.proofs.WalkLemmas.{widgets_more}
use Rattle.codec_walk.proofs.walk.Walk.go_on.Goals as goal

pub returns-else-self-eq0 : goal.returns-else-self-eq0
unfolding remaining
returns-else-self-eq0 c =
    let walk = c.args.self.now in
    let some : 0 < walk.left = grind (arith, c.if-self-eq0.false) in
    rw (c.in-None.is, c.requires.among, c.append.ensures.items) (widgets_more c.append.new.node (walk.nid + 1) walk.left (with_node (so_far walk) walk.node) some)
