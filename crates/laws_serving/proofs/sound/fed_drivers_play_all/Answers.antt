use Rattle.laws_serving.proofs.Callers.{Laws}
use Rattle.laws_serving.proofs.Rolling.{StreamLaws}
use Rattle.laws_serving.proofs.First.{RiseLaws}
use Rattle.laws_serving.proofs.Ending.{fed_play_all, sent_lines}
use Rattle.laws_serving.proofs.sound.fed_drivers_play_all.Goals as goal

pub returns-clause-all : goal.returns-clause-all
returns-clause-all c = λ task codecs items telling frames loud to start run serves sound may stopped long sent.
    let laws : Laws = record {
      looks = c.looks_keep_serving.ensures;
      comes = c.a_submission_comes.ensures;
      finds = c.answers_agree.ensures.found;
      steps = c.steps_keep_serving.ensures;
      trips = c.round_trips_answer.ensures;
    } in
    let stream : StreamLaws = record {
      steady = c.accesses_beside_keep_it_steady.ensures.steady;
      sent = c.accesses_beside_keep_it_steady.ensures.sent;
      steps = c.steps_keep_position.ensures;
      accesses = c.accesses_keep_position.ensures;
    } in
    let rise : RiseLaws = record { begins = c.writes_keep_order.ensures.begins; idle = c.idle_codecs_keep_their_settings.ensures } in
    let done = fed_play_all laws stream rise task codecs items telling frames loud to start run serves sound may stopped long sent in (done.phase, done.late)

pub returns-clause-lines : goal.returns-clause-lines
returns-clause-lines c = λ task items telling calls bytes run calm sent. sent_lines task items telling calls bytes run calm sent
