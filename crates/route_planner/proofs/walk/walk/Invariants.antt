use Rattle.route_planner.specs.Search.{is_inner_at, target}
use Rattle.route_planner.specs.Ways.{has_level_0}
use Rattle.route_planner.proofs.Downward.{IsOnTheWay}
use Rattle.route_planner.proofs.walk.walk.Given as goal

abbrev pub invariant-loop-step : goal.invariant-loop-step
invariant-loop-step l = IsOnTheWay (is_inner_at l.codec) (target l.direction l.codec l.lefts) (has_level_0 l.levels) l.levels l.fn.level l.start l.hops l.from l.level

abbrev pub decreases-loop-step : goal.decreases-loop-step
decreases-loop-step l = l.level
