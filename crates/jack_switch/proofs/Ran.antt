-- A run's answer is how its course ended.
use Rattle.std.proofs.Common.{ℕ, Option, subst}
use Rattle.hda_world.specs.Tellings.{Telling, Between}
use Rattle.wav_reader.specs.Supplies.{Supplied, sound_before}
use Rattle.period_writer.specs.declared.course.Ran.{Ran}
use Rattle.period_writer.specs.Outcomes.{RunTellsOf, FinishTellsOf}
use Rattle.period_writer.specs.Playing.{PlaysRun, Finishes}
use Rattle.period_writer.specs.Calls.{PlaysAny, RunTellsAny, FinishesAny, FinishTellsAny}
use Rattle.period_writer.specs.Writers.{WriterState, tally_of, periods_of, ring_of}

pub plays_answered : (budget : ℕ) (old new : WriterState) (supply supply' : Supplied) (answer : Ran) (before after : Option Telling)
    → PlaysAny budget old new supply supply' answer before after → PlaysAny budget old new supply supply' new.course.ran before after
plays_answered budget old new supply supply' answer before after plays later may ends =
    let run = plays later may ends in
    subst (λ (ran : Ran). PlaysRun old.geometry (periods_of old) budget (sound_before supply supply' later) (tally_of old) ran (tally_of new) later before after) run.answer_is run

pub tells_answered : (budget : ℕ) (old new : WriterState) (supply supply' : Supplied) (answer : Ran) (before after : Option Telling)
    → PlaysAny budget old new supply supply' answer before after → RunTellsAny budget old new supply supply' answer before after → RunTellsAny budget old new supply supply' new.course.ran before after
tells_answered budget old new supply supply' answer before after plays tells later may ends pcm is =
    subst (λ (ran : Ran). Between (RunTellsOf (ring_of old) pcm budget (tally_of old) ran (tally_of new)) before after) (plays later may ends).answer_is (tells later may ends pcm is)

pub finishes_answered : (old new : WriterState) (supply : Supplied) (answer : Ran) (before after : Option Telling)
    → FinishesAny old new supply answer before after → FinishesAny old new supply new.course.ran before after
finishes_answered old new supply answer before after finishes sound may ends =
    let run = finishes sound may ends in
    subst (λ (ran : Ran). Finishes old.geometry (periods_of old) sound (tally_of old) ran (tally_of new) before after) run.answer_is run

pub last_answered : (old new : WriterState) (supply : Supplied) (answer : Ran) (before after : Option Telling)
    → FinishesAny old new supply answer before after → FinishTellsAny old new supply answer before after → FinishTellsAny old new supply new.course.ran before after
last_answered old new supply answer before after finishes tells sound may ends pcm is =
    subst (λ (ran : Ran). Between (FinishTellsOf (ring_of old) pcm (tally_of old) ran (tally_of new)) before after) (finishes sound may ends).answer_is (tells sound may ends pcm is)
