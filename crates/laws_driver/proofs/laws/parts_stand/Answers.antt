use Rattle.std.proofs.Common.{lit≤}
use Rattle.route_setup.specs.Means.{Means}
use Rattle.driver_bring_up.specs.declared.answers.TheConstants.{TAG}
use Rattle.laws_bring_up.proofs.Callers.{AgendaLaws, SetterLaws}
use Rattle.laws_driver.proofs.Leaving.{left_standing}
use Rattle.laws_driver.proofs.laws.parts_stand.Goals as goal

pub returns : goal.returns
returns g c = λ setter format verbs graphs task lines left parts telling of was fresh goes.
    let means : Means = g.T.Setter.means setter format TAG in
    let agenda : AgendaLaws means verbs graphs = record {
      leads = λ count answer old new follows reply led same. c.agendas_follow.ensures.leads setter format verbs graphs count answer old new of.right follows reply led same;
      well_formed = λ count answer old fault follows reply faulty. c.agendas_follow.ensures.well_formed setter format verbs graphs count answer old fault of.right follows reply faulty;
      routed = λ count answer old new follows reply none. c.agendas_follow.ensures.routed setter format verbs graphs count answer old new of.right follows reply none;
      agrees = λ count agenda task follows is_for. c.agendas_agree.ensures setter format verbs graphs count agenda task of.right.well_formed follows is_for;
    } in
    let opening : SetterLaws means = record {
      encodable = λ graph plan well planned. g.met.T.Setter.encodable setter graph plan format 1 well planned (lit≤ tt);
      opens = λ graph plan settings well planned are. g.met.T.Setter.opens setter graph plan format 1 settings well planned (lit≤ tt) (lit≤ tt) are;
    } in
    left_standing means verbs graphs task agenda of opening lines left parts telling was fresh goes
