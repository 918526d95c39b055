use Rattle.std.proofs.Common.{ℕ, ◌<◌, get_or}
use Rattle.codec_graph.specs.Marks.{IsMarked}
use Rattle.codec_graph.proofs.safe_nodes.lists_marked.Given as goal

abbrev pub invariant-loop-nid : goal.invariant-loop-nid
invariant-loop-nid l = (k : ℕ) → k < l.nid-index → IsMarked l.marks (get_or l.list k 0)
