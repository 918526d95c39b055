use Rattle.route_planner.specs.Search.{is_inner_at, target}
use Rattle.route_planner.specs.Ways.{has_level_0}
use Rattle.route_planner.proofs.Downward.{IsOnTheWay-start, IsOnTheWay-step, IsLeastWay-end}
use Rattle.route_planner.proofs.walk.walk.Goals as goal

pub loop-step-init : goal.loop-step-init
loop-step-init c =
    rw c.new-hops.ensures (IsOnTheWay-start (is_inner_at c.args.codec.now) (target c.args.direction c.args.codec.now c.args.lefts.now) (has_level_0 c.args.levels.now) c.args.levels.now c.args.start c.args.level c.requires.nearest)

pub returns-then-level-eq0 : goal.returns-then-level-eq0
returns-then-level-eq0 c =
    rw c.in_ok-push.ensures.ok (IsLeastWay-end (is_inner_at c.args.codec.now) (target c.args.direction c.args.codec.now c.args.lefts.now) (has_level_0 c.args.levels.now) c.args.levels.now c.args.level c.args.start c.loop-step.hops c.loop-step.from c.loop-step.level c.in-Some.step c.requires.nearest.right c.loop-step.invariant c.in-Some.ensures c.if-level-eq0.true)

pub loop-step-preserved : goal.loop-step-preserved
loop-step-preserved c =
    rw c.in_ok-push.ensures.ok (IsOnTheWay-step (is_inner_at c.args.codec.now) (target c.args.direction c.args.codec.now c.args.lefts.now) (has_level_0 c.args.levels.now) c.args.levels.now c.args.level c.args.start c.loop-step.hops c.loop-step.from c.loop-step.level c.in-Some.step c.requires.nearest.below c.requires.nearest.right c.loop-step.invariant c.in-Some.ensures c.if-level-eq0.false)
