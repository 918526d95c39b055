use Rattle.std.proofs.Common.{ℕ, ◌+◌, ◌≤◌, List, length, inr, Option, Result, subst, sym}
use Rattle.std.specs.Prelude.{IfOk}
use Rattle.std.proofs.Math.Nat.{le_refl}
use Rattle.std.proofs.lemmas.Result.{IfOk-weaker}
use Rattle.hda_outside.specs.Counts.{Rose}
use Rattle.hda_outside.specs.Shelf.{Files}
use Rattle.schedule_reader.specs.declared.schedule.Schedule.{Schedule}
use Rattle.hda_program.specs.Playing.{SchedulePlays, SoundPlays}
use Rattle.hda_program.specs.declared.message.Message.{Message}
use Rattle.hda_program.specs.Files.{IsHeadOf, IsScheduleRead}
use Rattle.hda_program.specs.Meanings.{answer_meant}
use Rattle.hda_program.proofs.PlayLemmas.{SchedulePlays-both}
use Rattle.hda_program.proofs.WalkLemmas.{given_longer}
use Rattle.hda_program.proofs.play.play_sound.Goals as goal
use Rattle.hda_outside.proofs.Callers.{Rose-longer}

-- the WAV file is the same then
pub play_schedule-requires-clause-file : goal.play_schedule-requires-clause-file
play_schedule-requires-clause-file g c =
    subst (λ (files : Option Files). IsHeadOf files c.args.wav.now c.args.head) (sym c.read_schedule_file.ensures.told) c.requires.file

-- the schedule was read, and then more of the WAV file
pub returns-in-Ok-clause-answers : goal.returns-in-Ok-clause-answers
returns-in-Ok-clause-answers g c =
    let told = g.S.Shelf.told c.args.shelf.now in
    let faults = g.S.Shelf.faults in
    let empties = g.S.Shelf.empties in
    let given = g.S.Shelf.given in
    let early : List ℕ → Type 0 = λ name. Rose (faults c.args.shelf.now name) (faults c.read_schedule_file.new.shelf name) in
    let later : List ℕ → Type 0 = λ name. Rose (faults c.read_schedule_file.new.shelf name) (faults c.play_schedule.new.shelf name) in
    let failed : List ℕ → Type 0 = λ name. Rose (faults c.args.shelf.now name) (faults c.play_schedule.new.shelf name) in
    let emptied_later : List ℕ → Type 0 = λ name. Rose (empties c.read_schedule_file.new.shelf name) (empties c.play_schedule.new.shelf name) in
    let emptied : List ℕ → Type 0 = λ name. Rose (empties c.args.shelf.now name) (empties c.play_schedule.new.shelf name) in
    let gave_early : ℕ → Type 0 = λ n. given c.read_schedule_file.new.shelf ≤ given c.args.shelf.now + n in
    let gave_later : ℕ → Type 0 = λ n. given c.play_schedule.new.shelf ≤ given c.read_schedule_file.new.shelf + n in
    let gave : ℕ → Type 0 = λ n. given c.play_schedule.new.shelf ≤ given c.args.shelf.now + n in
    let read = subst (λ (r : Result Schedule Message). IsScheduleRead told early gave_early c.args.schedule.now r) c.in-Ok.is c.in_ok-steps.ensures.read in
    let answers = subst (λ (files : Option Files). IfOk c.play_schedule.result (λ answer. SchedulePlays c.args.kind files later emptied_later gave_later c.args.periods c.args.period c.args.wav.now c.args.machine c.args.head c.in-Ok.steps (answer_meant answer))) c.read_schedule_file.ensures.told c.play_schedule.ensures.answers in
    IfOk-weaker c.play_schedule.result
    (λ answer. SchedulePlays c.args.kind told later emptied_later gave_later c.args.periods c.args.period c.args.wav.now c.args.machine c.args.head c.in-Ok.steps (answer_meant answer))
    (λ answer. SoundPlays c.args.kind told failed emptied gave c.args.periods c.args.period c.args.wav.now c.args.machine c.args.head c.args.schedule.now (answer_meant answer))
    (λ answer h. inr (
      c.in-Ok.steps,
      read.0,
      SchedulePlays-both c.args.kind told later emptied_later failed emptied (answer_meant answer)
          (λ name rose. Rose-longer (faults c.args.shelf.now name) (faults c.read_schedule_file.new.shelf name) (faults c.play_schedule.new.shelf name) (faults c.play_schedule.new.shelf name) (c.read_schedule_file.ensures.later name) rose (le_refl (faults c.play_schedule.new.shelf name)))
          (λ name rose. Rose-longer (empties c.args.shelf.now name) (empties c.read_schedule_file.new.shelf name) (empties c.play_schedule.new.shelf name) (empties c.play_schedule.new.shelf name) (c.read_schedule_file.ensures.empties_later name) rose (le_refl (empties c.play_schedule.new.shelf name)))
          gave_later (λ n. gave (length read.0.bytes + n)) (given_longer (given c.args.shelf.now) (given c.read_schedule_file.new.shelf) (given c.play_schedule.new.shelf) (length read.0.bytes) read.2)
          c.args.periods c.args.period c.args.wav.now c.args.machine c.args.head c.in-Ok.steps h,
    )) answers
