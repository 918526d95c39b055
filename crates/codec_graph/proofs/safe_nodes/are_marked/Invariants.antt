use Rattle.std.proofs.Common.{ℕ, ◌<◌}
use Rattle.codec_graph.specs.Marks.{IsMarked}
use Rattle.codec_graph.proofs.safe_nodes.are_marked.Given as goal

abbrev pub invariant-loop-nid : goal.invariant-loop-nid
invariant-loop-nid l = (nid : ℕ) → nid < l.nid → IsMarked l.marks nid
