use Rattle.std.proofs.Common.{arith}
use Rattle.route_planner.specs.Search.{is_inner_at, target}
use Rattle.route_planner.specs.Levels.{IsNext}
use Rattle.route_planner.proofs.Marks.{AreMarkedBelow-yes, AreMarkedBelow-no, IsNextLevel-all}
use Rattle.route_planner.proofs.Targets.{is_inner_at-below}
use Rattle.route_planner.proofs.levels.mark_level.Goals as goal
use Rattle.route_planner.proofs.levels.mark_level.Goals.{then-is_next, else-is_next}

pub loop-nid-preserved : goal.loop-nid-preserved
loop-nid-preserved c =
    let inner = is_inner_at c.args.codec.now in
    let next = target c.args.direction c.args.codec.now c.args.lefts.now in
    let here = IsNext inner next c.loop-nid.levels c.args.level c.loop-nid.nid in
    elim c.if-is_next.branch [
      | then-is_next w ↦ rw (w.levels-is, w.marked-is, w.from.ensures) (AreMarkedBelow-yes inner next c.args.levels.now c.loop-nid.levels c.args.level c.loop-nid.nid c.loop-nid.marked c.loop-nid.invariant c.requires.near (omega arith) (rw w.if-is_next.true at c.is_next.ensures.yes))
      | else-is_next w ↦ rw (w.levels-is, w.marked-is) (AreMarkedBelow-no inner next c.args.levels.now c.loop-nid.levels c.args.level c.loop-nid.nid c.loop-nid.marked c.loop-nid.invariant c.requires.near (rw w.if-is_next.false at c.is_next.ensures.no))
    ]

pub returns-clause-marked : goal.returns-clause-marked
returns-clause-marked c =
    let inner = is_inner_at c.args.codec.now in
    let next = target c.args.direction c.args.codec.now c.args.lefts.now in
    IsNextLevel-all inner next c.args.levels.now c.loop-nid.levels c.args.level c.loop-nid.nid c.loop-nid.marked c.loop-nid.invariant (λ other e. omega (arith, is_inner_at-below c.args.codec.now other c.requires.bounded e))
