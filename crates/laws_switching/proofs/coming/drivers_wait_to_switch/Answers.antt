use Rattle.std.proofs.Common.{lit≤}
use Rattle.route_setup.specs.Means.{Means}
use Rattle.driver_bring_up.specs.declared.answers.TheConstants.{TAG}
use Rattle.laws_bring_up.proofs.Callers.{AgendaLaws, SetterLaws, Laws}
use Rattle.laws_switching.proofs.ComingGiven.{ComingGiven}
use Rattle.laws_switching.proofs.ComingOn.{coming_on}
use Rattle.laws_switching.proofs.coming.drivers_wait_to_switch.Goals as goal

pub returns : goal.returns
returns g c = λ setter format verbs graphs plans task of silent.
    let means : Means = g.T.Setter.means setter format TAG in
    let agenda : AgendaLaws means verbs graphs = record {
      leads = λ count answer old new follows reply led same. c.agendas_follow.ensures.leads setter format verbs graphs count answer old new of.right follows reply led same;
      well_formed = λ count answer old fault follows reply faulty. c.agendas_follow.ensures.well_formed setter format verbs graphs count answer old fault of.right follows reply faulty;
      routed = λ count answer old new follows reply none. c.agendas_follow.ensures.routed setter format verbs graphs count answer old new of.right follows reply none;
      agrees = λ count agenda task follows is_for. c.agendas_agree.ensures setter format verbs graphs count agenda task of.right.well_formed follows is_for;
    } in
    let opening : SetterLaws means = record {
      encodable = λ graph plan well planned. g.met.T.Setter.encodable setter graph plan format 1 well planned (lit≤ tt);
      opens = λ graph plan settings well planned are. g.met.T.Setter.opens setter graph plan format 1 settings well planned (lit≤ tt) (lit≤ tt) are;
    } in
    let notes : Laws = record {
      polls = c.polls_are_noted.ensures;
      found = c.answers_agree.ensures.found;
      grows = c.answers_agree.ensures.grows;
      submitted = c.answers_agree.ensures.submitted;
      polled = c.answers_agree.ensures.polled;
      none = c.answers_agree.ensures.none;
    } in
    let laws : ComingGiven means verbs graphs task = record {
      of = of;
      silent = silent;
      told = c.bring_ups_keep_to_progress.ensures setter format verbs graphs task of;
      driver = c.drivers_keep_to_progress.ensures setter format verbs graphs task of;
      agenda = agenda;
      setter = opening;
      notes = notes;
    } in
    coming_on means verbs graphs plans task laws
