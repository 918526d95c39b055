use Rattle.driver_agenda.specs.declared.plans.TheConstants.{TAG}
use Rattle.driver_agenda.proofs.OneWay.{one_faulty_way, faulty_or_under_way, faulty_or_whole, under_way_or_whole, one_whole, one_unrouted, routed_or_unrouted, one_routed, one_under_way, none_faulty, none_unrouted, led_faulty, led_unrouted}
use Rattle.driver_agenda.proofs.laws.words_come_to_one.Goals as goal

pub returns-clause-faulty : goal.returns-clause-faulty
returns-clause-faulty g c = λ addresses words one other codec codec' fault fault' first second.
    one_faulty_way c.outcomes_are_one.ensures addresses words one other codec codec' fault fault' first second

pub returns-clause-faulty_or_under_way : goal.returns-clause-faulty_or_under_way
returns-clause-faulty_or_under_way g c = λ addresses words one other codec fault dialogue faulty stands asks.
    faulty_or_under_way c.outcomes_are_one.ensures addresses words one codec fault faulty other dialogue stands asks

pub returns-clause-faulty_or_whole : goal.returns-clause-faulty_or_whole
returns-clause-faulty_or_whole g c = λ addresses words before rest one other codec fault faulty split all.
    faulty_or_whole c.outcomes_are_one.ensures addresses words one codec fault faulty before rest other split all

pub returns-clause-under_way_or_whole : goal.returns-clause-under_way_or_whole
returns-clause-under_way_or_whole g c = λ addresses words before rest one other dialogue stands asks split all.
    under_way_or_whole addresses words before rest one other dialogue stands asks split all

pub returns-clause-whole : goal.returns-clause-whole
returns-clause-whole g c = λ addresses before before' rest rest' one other all all' is.
    one_whole addresses before before' rest rest' one other all all' is

pub returns-clause-unrouted : goal.returns-clause-unrouted
returns-clause-unrouted g c = λ setter format addresses words one other plans plans' first second.
    one_unrouted (g.T.Setter.means setter format TAG) (λ graph plan plan'. g.met.T.Setter.one_plan setter graph format TAG plan plan')
    addresses words one other plans plans' first second

pub returns-clause-unrouted_or_routed : goal.returns-clause-unrouted_or_routed
returns-clause-unrouted_or_routed g c = λ setter format addresses words one other plans plans' verbs unrouted routed.
    routed_or_unrouted (g.T.Setter.means setter format TAG) (λ graph plan plan'. g.met.T.Setter.one_plan setter graph format TAG plan plan')
    addresses words one other plans plans' verbs unrouted routed

pub returns-clause-under_way : goal.returns-clause-under_way
returns-clause-under_way g c = λ addresses words one other dialogue dialogue' is asks is' asks'.
    one_under_way addresses words one other dialogue dialogue' is asks is' asks'

pub returns-clause-routed : goal.returns-clause-routed
returns-clause-routed g c = λ setter format addresses words one other plans plans' verbs verbs' first second.
    one_routed (g.T.Setter.means setter format TAG) (λ graph plan plan'. g.met.T.Setter.one_plan setter graph format TAG plan plan')
    addresses words one other plans plans' verbs verbs' first second

pub returns-clause-led_or_faulty : goal.returns-clause-led_or_faulty
returns-clause-led_or_faulty g c = λ setter format words agenda graphs codec fault stands faulty.
    led_faulty c.outcomes_are_one.ensures (g.T.Setter.means setter format TAG) words agenda graphs codec fault stands faulty

pub returns-clause-led_or_unrouted : goal.returns-clause-led_or_unrouted
returns-clause-led_or_unrouted g c = λ setter format words agenda graphs plans stands unrouted.
    led_unrouted (g.T.Setter.means setter format TAG) (λ graph plan plan'. g.met.T.Setter.one_plan setter graph format TAG plan plan')
    words agenda graphs plans stands unrouted

pub returns-clause-none_or_faulty : goal.returns-clause-none_or_faulty
returns-clause-none_or_faulty g c = λ addresses graphs codec fault faulty. none_faulty addresses graphs codec fault faulty

pub returns-clause-none_or_unrouted : goal.returns-clause-none_or_unrouted
returns-clause-none_or_unrouted g c = λ setter format addresses graphs plans unrouted.
    none_unrouted (g.T.Setter.means setter format TAG) addresses graphs plans unrouted
