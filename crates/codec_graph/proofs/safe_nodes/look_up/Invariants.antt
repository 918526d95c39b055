use Rattle.codec_graph.specs.SafeNodes.{AreSafe}
use Rattle.codec_graph.proofs.safe_nodes.look_up.Given as goal

abbrev pub invariant-loop-nid : goal.invariant-loop-nid
invariant-loop-nid l = AreSafe l.codec l.initial.safe → AreSafe l.codec l.safe
