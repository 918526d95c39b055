use Rattle.route_planner.proofs.OnlyInput.{one_plan}
use Rattle.route_planner.proofs.laws.one_input_plan.Goals as goal

pub returns : goal.returns
returns c = one_plan
