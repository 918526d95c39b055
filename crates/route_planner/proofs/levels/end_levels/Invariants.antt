use Rattle.route_planner.specs.Search.{is_end}
use Rattle.route_planner.proofs.Ends.{AreEndsBelow}
use Rattle.route_planner.proofs.levels.end_levels.Given as goal

abbrev pub invariant-loop-nid : goal.invariant-loop-nid
invariant-loop-nid l = AreEndsBelow (is_end l.kind l.codec l.format l.earlier l.pair) l.levels l.nid
