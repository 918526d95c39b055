use Rattle.std.proofs.Common.{◌≡◌, ℕ, List, inr, Option, Result, subst}
use Rattle.std.specs.Prelude.{IfOk}
use Rattle.std.proofs.Math.Nat.{le_refl}
use Rattle.std.proofs.lemmas.Result.{IfOk-weaker}
use Rattle.hda_outside.specs.Counts.{Rose}
use Rattle.hda_outside.specs.Shelf.{Files}
use Rattle.wav_reader.specs.declared.wav.Wav.{Wav}
use Rattle.hda_program.specs.Capturing.{MachineCaptures, SoundCaptures}
use Rattle.hda_program.specs.declared.message.Message.{Message}
use Rattle.hda_program.specs.Given.{IsGivenRead}
use Rattle.hda_program.specs.Meanings.{answer_meant}
use Rattle.hda_program.proofs.CaptureLemmas.{SoundCaptures-both}
use Rattle.hda_program.proofs.capture.capture_machine.Goals as goal
use Rattle.hda_outside.proofs.Callers.{Rose-longer}

-- the WAV file was read, and then the schedule
pub returns-in-Ok-clause-answers : goal.returns-in-Ok-clause-answers
returns-in-Ok-clause-answers g c =
    let told = g.S.Shelf.told c.args.shelf.now in
    let faults = g.S.Shelf.faults in
    let early : List ℕ → Type 0 = λ name. Rose (faults c.args.shelf.now name) (faults c.read_given_file.new.shelf name) in
    let later : List ℕ → Type 0 = λ name. Rose (faults c.read_given_file.new.shelf name) (faults c.capture_sound.new.shelf name) in
    let failed : List ℕ → Type 0 = λ name. Rose (faults c.args.shelf.now name) (faults c.capture_sound.new.shelf name) in
    let unasked : List ℕ → Type 0 = λ name. g.S.Shelf.asked c.capture_sound.new.shelf name ≡ g.S.Shelf.asked c.args.shelf.now name in
    let read = subst (λ (r : Result Wav Message). IsGivenRead told early c.args.wav.now r) c.in-Ok.is c.in_ok-given.ensures.read in
    let answers = subst (λ (files : Option Files). IfOk c.capture_sound.result (λ answer. SoundCaptures files later c.args.periods c.args.period c.args.machine c.in-Ok.given c.args.schedule.now (answer_meant answer))) c.read_given_file.ensures.told c.capture_sound.ensures.answers in
    IfOk-weaker c.capture_sound.result
    (λ answer. SoundCaptures told later c.args.periods c.args.period c.args.machine c.in-Ok.given c.args.schedule.now (answer_meant answer))
    (λ answer. MachineCaptures told failed unasked c.args.periods c.args.period c.args.machine c.args.wav.now c.args.schedule.now (answer_meant answer))
    (λ answer h. inr (
      c.in-Ok.given,
      read.0,
      SoundCaptures-both told later failed (answer_meant answer)
          (λ name rose. Rose-longer (faults c.args.shelf.now name) (faults c.read_given_file.new.shelf name) (faults c.capture_sound.new.shelf name) (faults c.capture_sound.new.shelf name) (c.read_given_file.ensures.later name) rose (le_refl (faults c.capture_sound.new.shelf name)))
          c.args.periods c.args.period c.args.machine c.in-Ok.given c.args.schedule.now h,
    )) answers
