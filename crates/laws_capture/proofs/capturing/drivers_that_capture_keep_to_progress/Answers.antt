use Rattle.std.proofs.Common.{lit≤}
use Rattle.route_setup.specs.Means.{Means}
use Rattle.driver_bring_up.specs.declared.answers.TheConstants.{TAG}
use Rattle.laws_bring_up.proofs.Callers.{AgendaLaws, SetterLaws, Laws}
use Rattle.laws_capture.proofs.NoneCame.{CameLaws}
use Rattle.laws_capture.proofs.Given.{RecorderLaws, TakenLaws, Given}
use Rattle.laws_capture.proofs.LedOn.{led_on}
use Rattle.laws_capture.proofs.capturing.drivers_that_capture_keep_to_progress.Goals as goal

pub returns : goal.returns
returns g c = λ setter format verbs graphs task total nid of silent hears.
    let means : Means = g.T.Setter.means setter format TAG in
    let agenda : AgendaLaws means verbs graphs = record {
      leads = λ count answer old new follows reply led same. c.agendas_follow.ensures.leads setter format verbs graphs count answer old new of.right follows reply led same;
      well_formed = λ count answer old fault follows reply faulty. c.agendas_follow.ensures.well_formed setter format verbs graphs count answer old fault of.right follows reply faulty;
      routed = λ count answer old new follows reply none. c.agendas_follow.ensures.routed setter format verbs graphs count answer old new of.right follows reply none;
      agrees = λ count agenda task follows is_for. c.agendas_agree.ensures setter format verbs graphs count agenda task of.right.well_formed follows is_for;
    } in
    let opening : SetterLaws means = record {
      encodable = λ graph plan well planned. g.met.T.Setter.encodable setter graph plan format 1 well planned (lit≤ tt);
      opens = λ graph plan settings well planned are. g.met.T.Setter.opens setter graph plan format 1 settings well planned (lit≤ tt) (lit≤ tt) are;
    } in
    let notes : Laws = record {
      polls = c.polls_are_noted.ensures;
      found = c.answers_agree.ensures.found;
      grows = c.answers_agree.ensures.grows;
      submitted = c.answers_agree.ensures.submitted;
      polled = c.answers_agree.ensures.polled;
      none = c.answers_agree.ensures.none;
    } in
    let came : CameLaws = record {
      steps = c.steps_leave_stopped_inputs.ensures;
      begins = c.writes_begin_taken_order.ensures.begins;
      stays = c.writes_begin_taken_order.ensures.stays;
      rests = c.streams_rest_before_sound.ensures.events;
    } in
    let recorder : RecorderLaws = record {
      can_begin = c.a_first_run_can_begin.ensures;
      first = c.a_first_recording_begins.ensures;
      later = c.recordings_go_on.ensures.answer;
      steps = c.steps_keep_recording.ensures;
      events = c.events_beside_keep_recording.ensures.fillings;
      rows = c.events_beside_keep_recording.ensures.rows;
      polls = c.events_beside_keep_recording.ensures.polls;
      stop = c.a_stop_ends_a_recording.ensures;
      over = c.a_stopped_recording_is_over.ensures.events;
    } in
    let taken : TakenLaws = record {
      first = c.given_sound_is_taken.ensures.first;
      later = c.given_sound_is_taken.ensures.later;
      steps = c.given_sound_is_taken.ensures.steps;
      events = c.given_sound_is_taken.ensures.events;
      rows = c.given_sound_is_taken.ensures.rows;
      stop = c.given_sound_is_taken.ensures.stop;
      over = c.given_sound_is_taken.ensures.ended;
      given = c.what_was_recorded_is_given.ensures.ended;
    } in
    let laws : Given means verbs graphs task nid = record {
      of = of;
      silent = silent;
      hears = hears;
      told = c.bring_ups_keep_to_progress.ensures setter format verbs graphs task of;
      driver = c.drivers_keep_to_progress.ensures setter format verbs graphs task of;
      stand = λ lines left parts telling ready fresh goes. c.parts_stand.ensures setter format verbs graphs task lines left parts telling of ready fresh goes;
      agenda = agenda;
      setter = opening;
      notes = notes;
      stretches = c.streams_rest_before_sound.ensures.stretches;
      came = came;
      recorder = recorder;
      taken = taken;
    } in
    led_on means verbs graphs task total nid laws
