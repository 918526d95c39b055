use Rattle.std.proofs.Common.{ℕ, ◌<◌}
use Rattle.codec_graph.specs.Marks.{IsMarked}
use Rattle.codec_graph.proofs.cycles.next_open.Given as goal

-- each node so far that was found was followed
abbrev pub invariant-loop-nid : goal.invariant-loop-nid
invariant-loop-nid l = (nid : ℕ) → nid < l.nid → IsMarked l.found nid → IsMarked l.followed nid
