use Rattle.std.proofs.Common.{ap}
use Rattle.route_planner.specs.declared.routes.Plan.{Plan}
use Rattle.route_planner.proofs.Callers.{only_input_plan}
use Rattle.input_verbs.specs.InputVerbs.{input_verbs}
use Rattle.input_verbs.proofs.laws.one_input_verbs.Goals as goal

pub returns : goal.returns
returns c = λ graph format tag first second is twin. ap (λ (plan : Plan). input_verbs graph plan format tag) (only_input_plan graph format second twin first is)
