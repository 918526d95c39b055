use Rattle.std.proofs.Common.{◌≡◌, ◌≤◌, ◌+◌, ℕ, Bool, length}
use Rattle.route_planner.specs.Search.{is_inner_at, target, count_far}
use Rattle.route_planner.specs.Levels.{AreEndLevels}
use Rattle.route_planner.proofs.Nearest.{IsAway}
use Rattle.route_planner.proofs.levels.nearest_level.Given as goal

abbrev pub invariant-loop-direction : goal.invariant-loop-direction
invariant-loop-direction l = record {
  whole : length l.levels ≡ 256;
  counted : l.level + count_far l.levels ≤ 256;
  away : (end : ℕ → Bool) → AreEndLevels end l.initial.levels → IsAway (is_inner_at l.codec) (target l.direction l.codec l.lefts) end l.levels l.from l.level;
}

abbrev pub decreases-loop-direction : goal.decreases-loop-direction
decreases-loop-direction l = count_far l.levels
