use Rattle.std.proofs.Common.{ℕ, ◌<◌}
use Rattle.codec_graph.specs.Cycles.{IsOnCycle}
use Rattle.codec_graph.proofs.cycles.check_cycles.Given as goal

-- no node so far is on a cycle
abbrev pub invariant-loop-nid : goal.invariant-loop-nid
invariant-loop-nid l = (other : ℕ) → other < l.nid → IsOnCycle l.codec other → ⊥
