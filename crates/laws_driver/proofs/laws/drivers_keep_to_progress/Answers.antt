use Rattle.std.proofs.Common.{List, lit≤}
use Rattle.verb_codes.specs.declared.verbs.Command.{Command}
use Rattle.codec_graph.specs.declared.raw.RawCodec.{RawCodec}
use Rattle.codec_graph.specs.Settings.{Entries}
use Rattle.route_planner.specs.declared.routes.Plan.{Plan}
use Rattle.route_setup.specs.Means.{Means}
use Rattle.driver_bring_up.specs.declared.answers.TheConstants.{TAG}
use Rattle.laws_bring_up.proofs.Callers.{AgendaLaws, SetterLaws, Laws}
use Rattle.laws_driver.proofs.Given.{HeardLaws, Given}
use Rattle.laws_driver.proofs.Whole.{whole}
use Rattle.laws_driver.proofs.laws.drivers_keep_to_progress.Goals as goal

pub returns : goal.returns
returns g c = λ setter format verbs graphs task of.
    let means : Means = g.T.Setter.means setter format TAG in
    let agenda : AgendaLaws means verbs graphs = record {
      leads = λ count answer old new follows reply led same. c.agendas_follow.ensures.leads setter format verbs graphs count answer old new of.right follows reply led same;
      well_formed = λ count answer old fault follows reply faulty. c.agendas_follow.ensures.well_formed setter format verbs graphs count answer old fault of.right follows reply faulty;
      routed = λ count answer old new follows reply none. c.agendas_follow.ensures.routed setter format verbs graphs count answer old new of.right follows reply none;
      agrees = λ count agenda task follows is_for. c.agendas_agree.ensures setter format verbs graphs count agenda task of.right.well_formed follows is_for;
    } in
    let opening : SetterLaws means = record {
      encodable = λ graph plan well planned. g.met.T.Setter.encodable setter graph plan format 1 well planned (lit≤ tt);
      opens = λ graph plan settings well planned are. g.met.T.Setter.opens setter graph plan format 1 settings well planned (lit≤ tt) (lit≤ tt) are;
    } in
    let notes : Laws = record {
      polls = c.polls_are_noted.ensures;
      found = c.answers_agree.ensures.found;
      grows = c.answers_agree.ensures.grows;
      submitted = c.answers_agree.ensures.submitted;
      polled = c.answers_agree.ensures.polled;
      none = c.answers_agree.ensures.none;
    } in
    let heard : HeardLaws = record {
      steps = c.the_stream_goes_on.ensures.steps;
      begin = c.the_stream_goes_on.ensures.begin;
      end = c.the_stream_goes_on.ensures.end;
      calls = c.the_stream_goes_on.ensures.calls;
      first = c.a_first_run_is_heard.ensures;
      last = c.the_last_run_is_heard.ensures;
      over = c.a_stopped_stream_is_over.ensures.end;
    } in
    let laws : Given means verbs graphs task = record {
      told = c.bring_ups_keep_to_progress.ensures setter format verbs graphs task of;
      agenda = agenda;
      of = of;
      setter = opening;
      notes = notes;
      events = c.streams_rest_before_sound.ensures.events;
      stretches = c.streams_rest_before_sound.ensures.stretches;
      heard = heard;
    } in
    whole means verbs graphs task laws
