use Rattle.std.proofs.Common.{length, sym, subst}
use Rattle.hda_world.specs.Leaving.{graphs_of}
use Rattle.hda_world.specs.Steps.{after_steps}
use Rattle.period_writer.specs.Runs.{measures}
use Rattle.laws_serving.specs.Rounds.{rounds_of}
use Rattle.laws_serving.specs.ServingSchedules.{ServesSound}
use Rattle.laws_serving.specs.Coming.{HasComeTo}
use Rattle.laws_serving.proofs.Whole.{Laws}
use Rattle.laws_serving.proofs.Over.{laid_run, come_up}
use Rattle.laws_serving.proofs.Sounding.{SoundServed, sound_onward, first_served}
use Rattle.laws_serving.proofs.progress.served_drivers_play.Goals as goal

pub returns : goal.returns
returns c = λ task codecs items telling loud to start run serves sound.
    let laws : Laws = record {
      looks = c.looks_keep_serving.ensures;
      comes = c.a_submission_comes.ensures;
      finds = c.answers_agree.ensures.found;
      steps = c.steps_keep_serving.ensures;
      trips = c.round_trips_answer.ensures;
    } in
    let commands = length task.orders in
    let limit = (measures task.geometry).limit in
    let slack = (measures task.geometry).slack in
    let total = length (rounds_of items).rounds in
    let laid = laid_run task items telling run in
    come_up laws task codecs items telling (SoundServed commands limit slack) (HasComeTo commands total task.plays) to start run serves (sound_onward task (graphs_of telling.start) run.closing total loud)
    (first_served commands limit slack laid.ran (after_steps (rounds_of items).before telling.start) (subst (ServesSound commands limit slack) (sym laid.are) sound))
