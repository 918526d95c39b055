use Rattle.laws_stream.proofs.Beside.{Laws}
use Rattle.laws_stream.proofs.Begun.{FirstLaws, first_sounds}
use Rattle.laws_stream.proofs.played.a_first_run_is_heard.Goals as goal

pub returns : goal.returns
returns c = λ pcm irq budget old new writer writer' supply made before after from read corb rirb begins stays is_all rests stands idle apart small.
    let laws : FirstLaws = record {
      rests = c.streams_rest_before_sound.ensures.rows;
      can_begin = c.a_first_run_can_begin.ensures;
      idle = c.idle_codecs_keep_their_settings.ensures;
      begun_sent = c.a_started_stream_is_steady.ensures.sent;
    } in
    let on : Laws = record {
      steps = c.steps_keep_the_ring.ensures;
      events = c.events_between_runs_keep_the_ring.ensures;
      steady = c.accesses_beside_keep_it_steady.ensures.steady;
      sent = c.accesses_beside_keep_it_steady.ensures.sent;
    } in
    first_sounds laws on pcm irq budget old new writer writer' supply made before after from read corb rirb begins stays is_all rests stands idle apart small
