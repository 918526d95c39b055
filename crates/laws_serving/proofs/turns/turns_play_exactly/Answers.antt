use Rattle.laws_serving.proofs.Callers.{Laws}
use Rattle.laws_serving.proofs.SoundCallers.{StreamLaws, RiseLaws}
use Rattle.laws_serving.proofs.WholeTurns.{play_exactly}
use Rattle.laws_serving.proofs.Holes.{no_holes}
use Rattle.laws_serving.proofs.turns.turns_play_exactly.Goals as goal

pub returns-clause-turns : goal.returns-clause-turns
returns-clause-turns c = λ task codecs items telling frames lengths loud to start run serves sound turns stopped rate long ends.
    let laws : Laws = record {
      looks = c.looks_keep_serving.ensures;
      comes = c.a_submission_comes.ensures;
      finds = c.answers_agree.ensures.found;
      steps = c.steps_keep_serving.ensures;
      trips = c.round_trips_answer.ensures;
    } in
    let stream : StreamLaws = record {
      steady = c.accesses_beside_keep_it_steady.ensures.steady;
      sent = c.accesses_beside_keep_it_steady.ensures.sent;
      steps = c.steps_keep_position.ensures;
      accesses = c.accesses_keep_position.ensures;
    } in
    let rise : RiseLaws = record { begins = c.writes_keep_order.ensures.begins; idle = c.idle_codecs_keep_their_settings.ensures } in
    play_exactly laws stream rise c.reset_keeps_state_status.ensures.shape task codecs items telling frames lengths loud to start run serves sound turns stopped rate long ends

pub returns-clause-no_holes : goal.returns-clause-no_holes
returns-clause-no_holes c = λ block address pin carried are. no_holes block address pin carried are
