use Rattle.codec_graph.specs.SafeNodes.{AreSafe}
use Rattle.codec_graph.proofs.safe_nodes.look_down.Given as goal

abbrev pub invariant-loop-place : goal.invariant-loop-place
invariant-loop-place l = AreSafe l.codec l.initial.safe → AreSafe l.codec l.safe
