use Rattle.std.proofs.Common.{◌≡◌, ◌<◌, ℕ, take}
use Rattle.std.specs.List.{list_all}
use Rattle.route_planner.specs.Search.{left_at, allows, leaves_alike}
use Rattle.route_planner.proofs.left.lefts_of.Given as goal

abbrev pub invariant-loop-entry : goal.invariant-loop-entry
invariant-loop-entry l =
    (nid index : ℕ) → nid < 256 → allows (left_at l.lefts nid) index ≡ list_all (leaves_alike nid index) (take l.entry-index l.earlier)
