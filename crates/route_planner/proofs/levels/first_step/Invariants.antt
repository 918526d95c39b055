use Rattle.std.proofs.Common.{◌≡◌, ◌≢◌, ◌<◌, ℕ, Some}
use Rattle.route_planner.specs.Search.{level_of, target}
use Rattle.route_planner.proofs.levels.first_step.Given as goal

abbrev pub invariant-loop-index : goal.invariant-loop-index
invariant-loop-index l =
    (index : ℕ) → index < l.index → (to : ℕ) → target l.direction l.codec l.lefts l.nid index ≡ Some to → level_of l.levels to ≢ l.level
