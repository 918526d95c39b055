use Rattle.std.proofs.Common.{ℕ, ◌<◌, ◌⊎◌, Contains, get_or}
use Rattle.codec_graph.specs.Marks.{IsMarked}
use Rattle.codec_graph.proofs.cycles.mark.Given as goal

abbrev pub invariant-loop-nid : goal.invariant-loop-nid
invariant-loop-nid l = record {
  kept : (nid : ℕ) → IsMarked l.initial.marks nid → IsMarked l.marks nid;
  listed : (k : ℕ) → k < l.nid-index → IsMarked l.marks (get_or l.list k 0);
  only : (nid : ℕ) → IsMarked l.marks nid → IsMarked l.initial.marks nid ⊎ Contains l.list nid;
}
