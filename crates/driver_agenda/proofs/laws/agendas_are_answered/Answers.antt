use Rattle.driver_agenda.specs.declared.plans.TheConstants.{TAG}
use Rattle.driver_agenda.proofs.Answering.{begins_answered, led_answered, faulty_answered, unrouted_answered, left_answered}
use Rattle.driver_agenda.proofs.laws.agendas_are_answered.Goals as goal

pub returns-clause-begins : goal.returns-clause-begins
returns-clause-begins g c = λ setter format agenda begins. begins_answered (g.T.Setter.means setter format TAG) agenda begins

pub returns-clause-leads : goal.returns-clause-leads
returns-clause-leads g c = λ setter format words answer old new stands led same.
    led_answered (g.T.Setter.means setter format TAG) words answer old new stands led same

pub returns-clause-malformed : goal.returns-clause-malformed
returns-clause-malformed g c = λ setter format words answer old fault stands tells.
    faulty_answered (g.T.Setter.means setter format TAG) words answer old fault stands tells

pub returns-clause-nothing : goal.returns-clause-nothing
returns-clause-nothing g c = λ setter format words answer old new stands ends.
    unrouted_answered (g.T.Setter.means setter format TAG) words answer old new stands ends

pub returns-clause-wanting : goal.returns-clause-wanting
returns-clause-wanting g c = λ setter format words answer old new stands same left.
    left_answered (g.T.Setter.means setter format TAG) words answer old new same stands left
