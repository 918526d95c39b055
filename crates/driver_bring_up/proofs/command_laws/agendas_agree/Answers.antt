use Rattle.driver_bring_up.specs.declared.answers.TheConstants.{TAG}
use Rattle.driver_bring_up.proofs.Agreeing.{agree}
use Rattle.driver_bring_up.proofs.command_laws.agendas_agree.Goals as goal

pub returns : goal.returns
returns g c = λ setter format verbs graphs count agenda task all follows for.
    agree (g.T.Setter.means setter format TAG) verbs graphs count agenda task (c.agendas_ask_in_order.ensures setter format verbs graphs count agenda all follows) follows for
