use Rattle.driver_agenda.specs.declared.plans.TheConstants.{TAG}
use Rattle.driver_agenda.proofs.Following.{begins_follow, leads_follow, fault_never, route_there}
use Rattle.driver_agenda.proofs.laws.agendas_follow.Goals as goal

pub returns-clause-begins : goal.returns-clause-begins
returns-clause-begins g c = λ setter format verbs first rest agenda are begins.
    begins_follow c.counts_the_commands.ensures (g.T.Setter.means setter format TAG) verbs first rest agenda are begins

pub returns-clause-leads : goal.returns-clause-leads
returns-clause-leads g c = λ setter format verbs graphs count answer old new right follows reply led same.
    leads_follow c.asks_what_the_graph_has.ensures c.tells_what_the_graph_has.ensures.told c.counts_the_commands.ensures
    (g.T.Setter.means setter format TAG)
    verbs graphs right count answer old new follows reply led same

pub returns-clause-well_formed : goal.returns-clause-well_formed
returns-clause-well_formed g c = λ setter format verbs graphs count answer old fault right follows reply faulty.
    fault_never c.asks_what_the_graph_has.ensures c.tells_what_the_graph_has.ensures.told c.counts_the_commands.ensures c.outcomes_are_one.ensures
    (g.T.Setter.means setter format TAG)
    verbs graphs right count answer old fault follows reply faulty

pub returns-clause-routed : goal.returns-clause-routed
returns-clause-routed g c = λ setter format verbs graphs count answer old new right follows reply nothing.
    route_there c.asks_what_the_graph_has.ensures c.tells_what_the_graph_has.ensures.told c.counts_the_commands.ensures
    (g.T.Setter.means setter format TAG)
    verbs graphs right count answer old new follows reply nothing
