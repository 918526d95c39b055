use Rattle.route_planner.proofs.OneWay.{one_digital_pair}
use Rattle.route_planner.proofs.planner.digital_plan.Goals as goal

pub returns-clause-unblocked : goal.returns-clause-unblocked
returns-clause-unblocked c = c.plan_as.ensures.unblocked (one_digital_pair c.args.graph.now c.args.format.channels)
