use Rattle.codec_graph.specs.SafeNodes.{AreSafe}
use Rattle.codec_graph.proofs.safe_nodes.are_safe.Given as goal

abbrev pub invariant-loop-round : goal.invariant-loop-round
invariant-loop-round l = AreSafe l.codec l.safe
