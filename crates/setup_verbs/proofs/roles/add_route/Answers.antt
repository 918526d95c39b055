use Rattle.setup_verbs.proofs.RoleLists.{route_more}
use Rattle.setup_verbs.proofs.roles.add_route.Goals as goal

pub returns : goal.returns
returns c = λ nid below. route_more _ _ _ c.args.hops.now c.args.source c.args.pair nid (c.add_hops.ensures nid below) (c.add_role.ensures nid below)
