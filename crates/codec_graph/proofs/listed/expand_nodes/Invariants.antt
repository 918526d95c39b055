use Rattle.std.proofs.Common.{◌≡◌, ◌<◌, ◌++◌, ℕ, map, take, drop, None}
use Rattle.std.specs.Prelude.{slice_get}
use Rattle.std.specs.Option.{option_and_then}
use Rattle.codec_graph.specs.Listed.{list_fault, listed_node}
use Rattle.codec_graph.proofs.listed.expand_nodes.Given as goal

-- the lists so far are expanded, and none has a fault
abbrev pub invariant-loop-place : goal.invariant-loop-place
invariant-loop-place l = record {
  value : l.nodes ≡ map listed_node (take l.place l.initial.nodes) ++ drop l.place l.initial.nodes;
  clean : (k : ℕ) → k < l.place → option_and_then list_fault (slice_get l.initial.nodes k) ≡ None;
}
