use Rattle.input_verbs.proofs.RoleTables.{input_outcome_more}
use Rattle.input_verbs.proofs.roles.add_entry.Goals as goal

pub returns-in-Route : goal.returns-in-Route
returns-in-Route c = λ nid below.
    input_outcome_more _ _ c.args.entry.now.pin c.args.entry.now.pair nid c.args.entry.now.outcome c.in-Route.route.hops c.as_slice.result.now c.in-Route.route.converter c.in-Route.is c.as_slice.ensures (c.add_route.ensures nid below)
