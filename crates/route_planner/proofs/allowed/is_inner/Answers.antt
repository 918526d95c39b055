use Rattle.std.proofs.Common.{◌∙◌, None, Some}
use Rattle.route_planner.proofs.Targets.{is_inner_at-node}
use Rattle.route_planner.proofs.allowed.is_inner.Goals as goal

pub returns-in-Some : goal.returns-in-Some
returns-in-Some c = c.is_inner.ensures ∙ is_inner_at-node c.args.codec.now c.args.nid (Some c.in-Some.node.now) c.in-Some.ensures

pub returns-in-None : goal.returns-in-None
returns-in-None c = is_inner_at-node c.args.codec.now c.args.nid None c.in-None.ensures
