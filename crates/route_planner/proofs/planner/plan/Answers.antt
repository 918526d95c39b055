use Rattle.route_planner.proofs.OneWay.{one_pair}
use Rattle.route_planner.proofs.planner.plan.Goals as goal

pub returns-clause-unblocked : goal.returns-clause-unblocked
returns-clause-unblocked c = λ two. c.plan_as.ensures.unblocked (one_pair c.args.graph.now c.args.format.channels two)
