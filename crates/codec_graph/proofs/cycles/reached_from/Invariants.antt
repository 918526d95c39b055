use Rattle.std.proofs.Common.{ℕ, ◌≡◌, length, Contains}
use Rattle.codec_graph.proofs.Reaching.{unmarked_count}
use Rattle.codec_graph.specs.Cycles.{Reaches, inner_list}
use Rattle.codec_graph.specs.Marks.{IsMarked}
use Rattle.codec_graph.proofs.cycles.reached_from.Given as goal

-- what is found is reached, and what the start and each followed node list is found
abbrev pub invariant-loop-next : goal.invariant-loop-next
invariant-loop-next l = record {
  long : length l.followed ≡ 256;
  reached : (nid : ℕ) → IsMarked l.found nid → Reaches l.codec l.start nid;
  first : (nid : ℕ) → Contains (inner_list l.codec l.start) nid → IsMarked l.found nid;
  followed : (node nid : ℕ) → IsMarked l.followed node → Contains (inner_list l.codec node) nid → IsMarked l.found nid;
}

abbrev pub decreases-loop-next : goal.decreases-loop-next
decreases-loop-next l = unmarked_count l.followed
