use Rattle.codec_graph.proofs.safe_nodes.mark_more.Goals as goal

pub returns-then-down : goal.returns-then-down
returns-then-down c = λ before. c.look_up-up.ensures (c.look_down-down.ensures before)

pub returns-else-down : goal.returns-else-down
returns-else-down c = λ before. c.look_up-up.ensures (c.look_down-down.ensures before)
