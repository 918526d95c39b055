use Rattle.std.proofs.Common.{◌≡◌, ℕ, ◌+◌, ◌≤◌, List, inr, Option, Result, subst, sym}
use Rattle.std.specs.Prelude.{IfOk}
use Rattle.std.proofs.Math.Nat.{le_refl}
use Rattle.std.proofs.lemmas.Result.{IfOk-weaker}
use Rattle.hda_outside.specs.Counts.{Rose}
use Rattle.hda_outside.specs.Shelf.{Files}
use Rattle.wav_reader.specs.declared.opened.WavHead.{WavHead}
use Rattle.hda_program.specs.Playing.{PinsPlay, SoundPlays}
use Rattle.hda_program.specs.declared.message.Message.{Message}
use Rattle.hda_program.specs.Files.{IsHeadOf, IsWavOpened, bytes_before}
use Rattle.hda_program.specs.Meanings.{answer_meant}
use Rattle.hda_program.proofs.PlayLemmas.{SoundPlays-both}
use Rattle.hda_program.proofs.WalkLemmas.{given_longer}
use Rattle.hda_program.proofs.play.play_pins.Goals as goal
use Rattle.hda_outside.proofs.Callers.{Rose-longer}

-- it says this of the shelf as it is then, too
pub play_sound-requires-clause-file : goal.play_sound-requires-clause-file
play_sound-requires-clause-file g c =
    let told = g.S.Shelf.told c.args.shelf.now in
    let early : List ℕ → Type 0 = λ name. Rose (g.S.Shelf.faults c.args.shelf.now name) (g.S.Shelf.faults c.open_wav_file.new.shelf name) in
    let gave_early : ℕ → Type 0 = λ n. g.S.Shelf.given c.open_wav_file.new.shelf ≤ g.S.Shelf.given c.args.shelf.now + n in
    let read = subst (λ (r : Result WavHead Message). IsWavOpened told early gave_early c.args.wav.now r) c.in-Ok.is c.in_ok-head.ensures.read in
    subst (λ (files : Option Files). IsHeadOf files c.args.wav.now c.in-Ok.head) (sym c.open_wav_file.ensures.told) read.0

-- the WAV file was opened, and then the schedule was read
pub returns-in-Ok-clause-answers : goal.returns-in-Ok-clause-answers
returns-in-Ok-clause-answers g c =
    let told = g.S.Shelf.told c.args.shelf.now in
    let faults = g.S.Shelf.faults in
    let empties = g.S.Shelf.empties in
    let given = g.S.Shelf.given in
    let early : List ℕ → Type 0 = λ name. Rose (faults c.args.shelf.now name) (faults c.open_wav_file.new.shelf name) in
    let later : List ℕ → Type 0 = λ name. Rose (faults c.open_wav_file.new.shelf name) (faults c.play_sound.new.shelf name) in
    let failed : List ℕ → Type 0 = λ name. Rose (faults c.args.shelf.now name) (faults c.play_sound.new.shelf name) in
    let emptied_later : List ℕ → Type 0 = λ name. Rose (empties c.open_wav_file.new.shelf name) (empties c.play_sound.new.shelf name) in
    let emptied : List ℕ → Type 0 = λ name. Rose (empties c.args.shelf.now name) (empties c.play_sound.new.shelf name) in
    let unasked : List ℕ → Type 0 = λ name. g.S.Shelf.asked c.play_sound.new.shelf name ≡ g.S.Shelf.asked c.args.shelf.now name in
    let gave_early : ℕ → Type 0 = λ n. given c.open_wav_file.new.shelf ≤ given c.args.shelf.now + n in
    let gave_later : ℕ → Type 0 = λ n. given c.play_sound.new.shelf ≤ given c.open_wav_file.new.shelf + n in
    let gave : ℕ → Type 0 = λ n. given c.play_sound.new.shelf ≤ given c.args.shelf.now + n in
    let read = subst (λ (r : Result WavHead Message). IsWavOpened told early gave_early c.args.wav.now r) c.in-Ok.is c.in_ok-head.ensures.read in
    let answers = subst (λ (files : Option Files). IfOk c.play_sound.result (λ answer. SoundPlays c.args.kind files later emptied_later gave_later c.args.periods c.args.period c.args.wav.now c.args.machine c.in-Ok.head c.args.schedule.now (answer_meant answer))) c.open_wav_file.ensures.told c.play_sound.ensures.answers in
    IfOk-weaker c.play_sound.result
    (λ answer. SoundPlays c.args.kind told later emptied_later gave_later c.args.periods c.args.period c.args.wav.now c.args.machine c.in-Ok.head c.args.schedule.now (answer_meant answer))
    (λ answer. PinsPlay c.args.kind told failed emptied unasked gave c.args.periods c.args.period c.args.machine c.args.wav.now c.args.schedule.now (answer_meant answer))
    (λ answer h. inr (
      c.in-Ok.head,
      read.0,
      SoundPlays-both c.args.kind told later emptied_later failed emptied (answer_meant answer)
          (λ name rose. Rose-longer (faults c.args.shelf.now name) (faults c.open_wav_file.new.shelf name) (faults c.play_sound.new.shelf name) (faults c.play_sound.new.shelf name) (c.open_wav_file.ensures.later name) rose (le_refl (faults c.play_sound.new.shelf name)))
          (λ name rose. Rose-longer (empties c.args.shelf.now name) (empties c.open_wav_file.new.shelf name) (empties c.play_sound.new.shelf name) (empties c.play_sound.new.shelf name) (c.open_wav_file.ensures.empties_later name) rose (le_refl (empties c.play_sound.new.shelf name)))
          gave_later (λ n. gave (bytes_before c.in-Ok.head + n)) (given_longer (given c.args.shelf.now) (given c.open_wav_file.new.shelf) (given c.play_sound.new.shelf) (bytes_before c.in-Ok.head) read.1)
          c.args.periods c.args.period c.args.wav.now c.args.machine c.in-Ok.head c.args.schedule.now h,
    )) answers
