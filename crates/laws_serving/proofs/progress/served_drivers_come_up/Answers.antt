use Rattle.std.proofs.Common.{length}
use Rattle.hda_world.specs.Leaving.{graphs_of}
use Rattle.laws_serving.specs.Rounds.{rounds_of}
use Rattle.laws_serving.specs.Coming.{HasComeTo}
use Rattle.laws_serving.proofs.Whole.{Laws, Nothing, quiet_onward}
use Rattle.laws_serving.proofs.Over.{come_up}
use Rattle.laws_serving.proofs.progress.served_drivers_come_up.Goals as goal

pub returns : goal.returns
returns c = λ task codecs items telling quiet to start run serves.
    let laws : Laws = record {
      looks = c.looks_keep_serving.ensures;
      comes = c.a_submission_comes.ensures;
      finds = c.answers_agree.ensures.found;
      steps = c.steps_keep_serving.ensures;
      trips = c.round_trips_answer.ensures;
    } in
    let total = length (rounds_of items).rounds in
    let graphs = graphs_of telling.start in
    come_up laws task codecs items telling Nothing (HasComeTo (length task.orders) total task.plays) to start run serves (quiet_onward task graphs run.closing quiet total) tt
