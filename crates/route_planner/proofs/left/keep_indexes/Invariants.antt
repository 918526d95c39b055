use Rattle.std.proofs.Common.{◌≡◌, ◌<◌, ◌&&◌, ℕ, take, length}
use Rattle.std.specs.List.{list_all}
use Rattle.route_planner.specs.Search.{left_at, allows, is_alike}
use Rattle.route_planner.proofs.left.keep_indexes.Given as goal

abbrev pub invariant-loop-hop : goal.invariant-loop-hop
invariant-loop-hop l = record {
  whole : length l.lefts ≡ 256;
  kept : (nid index : ℕ) → nid < 256 → allows (left_at l.lefts nid) index ≡ (allows (left_at l.initial.lefts nid) index && list_all (is_alike nid index) (take l.hop-index l.hops));
}
