use Rattle.driver_bring_up.specs.declared.answers.TheConstants.{TAG}
use Rattle.driver_bring_up.proofs.AnsweredWords.{fault_named, no_route_named}
use Rattle.driver_bring_up.proofs.Exact.{ends_faulty, ends_unrouted}
use Rattle.driver_bring_up.proofs.command_laws.ends_are_exact.Goals as goal

pub returns-clause-malformed : goal.returns-clause-malformed
returns-clause-malformed g c = λ setter format answer old new phase fault leads ends tells.
    fault_named (g.T.Setter.means setter format TAG) answer old new c.answers_come_to_one.ensures.one_fault
    (λ fault. c.answers_come_to_one.ensures.leads_or_faulty setter format answer fault old new)
    (λ plans. c.answers_come_to_one.ensures.leads_or_unrouted setter format answer old new plans)
    (λ fault plans. c.answers_come_to_one.ensures.faulty_or_unrouted setter format answer fault old plans) phase fault leads ends tells

pub returns-clause-nothing : goal.returns-clause-nothing
returns-clause-nothing g c = λ setter format answer old new phase plans leads ends none.
    no_route_named (g.T.Setter.means setter format TAG) answer old new c.answers_come_to_one.ensures.one_fault
    (λ fault. c.answers_come_to_one.ensures.leads_or_faulty setter format answer fault old new)
    (λ plans. c.answers_come_to_one.ensures.leads_or_unrouted setter format answer old new plans)
    (λ fault plans. c.answers_come_to_one.ensures.faulty_or_unrouted setter format answer fault old plans) phase plans leads ends none

pub returns-clause-faulty : goal.returns-clause-faulty
returns-clause-faulty g c = λ setter format words agenda phase graphs codec fault stands faulty.
    let law = c.words_come_to_one.ensures in
    ends_faulty (g.T.Setter.means setter format TAG) words agenda graphs codec fault faulty law.faulty law.faulty_or_whole (law.led_or_faulty setter format) law.none_or_faulty phase stands

pub returns-clause-unrouted : goal.returns-clause-unrouted
returns-clause-unrouted g c = λ setter format words agenda phase graphs plans stands unrouted.
    let law = c.words_come_to_one.ensures in
    ends_unrouted (g.T.Setter.means setter format TAG) words agenda graphs plans unrouted (law.unrouted setter format) law.faulty_or_whole (law.led_or_unrouted setter format) (law.none_or_unrouted setter format) phase stands

pub returns-clause-bring_up_faulty : goal.returns-clause-bring_up_faulty
returns-clause-bring_up_faulty g c = λ setter format words bring_up graphs codec fault stands faulty.
    returns-clause-faulty g c setter format words bring_up.agenda bring_up.phase graphs codec fault stands.is faulty

pub returns-clause-bring_up_unrouted : goal.returns-clause-bring_up_unrouted
returns-clause-bring_up_unrouted g c = λ setter format words bring_up graphs plans stands unrouted.
    returns-clause-unrouted g c setter format words bring_up.agenda bring_up.phase graphs plans stands.is unrouted
