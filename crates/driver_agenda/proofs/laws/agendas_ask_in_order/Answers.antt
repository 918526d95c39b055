use Rattle.driver_agenda.specs.declared.plans.TheConstants.{TAG}
use Rattle.driver_agenda.proofs.Following.{next_follows}
use Rattle.driver_agenda.proofs.laws.agendas_ask_in_order.Goals as goal

pub returns : goal.returns
returns g c = λ setter format verbs graphs count agenda all follows.
    next_follows c.asks_what_the_graph_has.ensures (g.T.Setter.means setter format TAG) verbs graphs count agenda all follows
