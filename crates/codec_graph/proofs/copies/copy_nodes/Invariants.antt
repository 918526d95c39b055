use Rattle.std.proofs.Common.{◌≡◌, take}
use Rattle.codec_graph.proofs.copies.copy_nodes.Given as goal

-- the widgets so far have their copies
abbrev pub invariant-loop-node : goal.invariant-loop-node
invariant-loop-node l = l.copies ≡ take l.node-index l.nodes
