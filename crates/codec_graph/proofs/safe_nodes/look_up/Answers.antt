use Rattle.codec_graph.proofs.safe_nodes.look_up.Goals as goal

pub loop-nid-preserved : goal.loop-nid-preserved
loop-nid-preserved c = λ before. c.look_at-more.ensures (c.loop-nid.invariant before)
