use Rattle.driver_agenda.specs.declared.plans.TheConstants.{TAG}
use Rattle.driver_agenda.proofs.Answering.{one_fault_told, leads_or_faulty, leads_or_unrouted, faulty_or_unrouted}
use Rattle.driver_agenda.proofs.laws.answers_come_to_one.Goals as goal

pub returns-clause-one_fault : goal.returns-clause-one_fault
returns-clause-one_fault g c = λ answer one other old first second.
    one_fault_told c.outcomes_are_one.ensures answer one other old.walk first second

pub returns-clause-leads_or_faulty : goal.returns-clause-leads_or_faulty
returns-clause-leads_or_faulty g c = λ setter format answer fault old new led tells.
    leads_or_faulty c.outcomes_are_one.ensures (g.T.Setter.means setter format TAG) answer fault old new old.walk led tells

pub returns-clause-leads_or_unrouted : goal.returns-clause-leads_or_unrouted
returns-clause-leads_or_unrouted g c = λ setter format answer old new plans led ends.
    leads_or_unrouted (g.T.Setter.means setter format TAG) (λ graph plan other. g.met.T.Setter.one_plan setter graph format TAG plan other)
    answer old new plans old.walk led ends

pub returns-clause-faulty_or_unrouted : goal.returns-clause-faulty_or_unrouted
returns-clause-faulty_or_unrouted g c = λ setter format answer fault old plans tells ends.
    faulty_or_unrouted c.outcomes_are_one.ensures (g.T.Setter.means setter format TAG) answer fault old plans old.walk tells ends
