use Rattle.codec_graph.proofs.safe_nodes.look_down.Goals as goal

pub loop-place-preserved : goal.loop-place-preserved
loop-place-preserved c = λ before. c.look_at-more.ensures (c.loop-place.invariant before)
