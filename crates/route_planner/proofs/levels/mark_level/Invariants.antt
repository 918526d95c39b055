use Rattle.route_planner.specs.Search.{is_inner_at, target}
use Rattle.route_planner.proofs.Marks.{AreMarkedBelow}
use Rattle.route_planner.proofs.levels.mark_level.Given as goal

abbrev pub invariant-loop-nid : goal.invariant-loop-nid
invariant-loop-nid l = AreMarkedBelow (is_inner_at l.codec) (target l.direction l.codec l.lefts) l.initial.levels l.levels l.level l.nid l.marked
