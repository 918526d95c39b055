use Rattle.std.proofs.Common.{◌≡◌, ◌+◌, drop}
use Rattle.codec_graph.specs.Faults.{first_fault, nodes_faults}
use Rattle.codec_graph.proofs.graph.check_nodes.Given as goal

-- the widgets that are left have the first fault of all
abbrev pub invariant-loop-node : goal.invariant-loop-node
invariant-loop-node l = record {
  at : l.nid ≡ l.codec.first + l.node-index;
  rest : first_fault (nodes_faults l.codec l.codec.first l.codec.nodes) ≡ first_fault (nodes_faults l.codec l.nid (drop l.node-index l.codec.nodes));
}
