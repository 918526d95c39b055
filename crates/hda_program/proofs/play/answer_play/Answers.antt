use Rattle.std.proofs.Common.{◌≡◌, ◌≢◌, ◌∙◌, ℕ, ◌+◌, ◌≤◌, List, length, Option, Result, subst}
use Rattle.std.specs.Prelude.{IfOk}
use Rattle.std.proofs.Math.Nat.{le_refl}
use Rattle.std.proofs.lemmas.Result.{IfOk-weaker}
use Rattle.hda_outside.specs.Counts.{Rose}
use Rattle.hda_outside.specs.Shelf.{Files}
use Rattle.hda_files.specs.declared.machine.Machine.{Machine}
use Rattle.hda_program.specs.Answers.{PlayAnswers, AtCodec}
use Rattle.hda_program.specs.Playing.{MachinePlays}
use Rattle.hda_program.specs.declared.message.Message.{Message}
use Rattle.hda_program.specs.Files.{IsCodecRead}
use Rattle.hda_program.specs.Meanings.{answer_meant}
use Rattle.hda_program.proofs.PlayLemmas.{MachinePlays-both}
use Rattle.hda_program.proofs.PlayWays.{of_machine}
use Rattle.hda_program.proofs.WalkLemmas.{given_longer}
use Rattle.hda_program.proofs.play.answer_play.Goals as goal
use Rattle.hda_outside.proofs.Callers.{Rose-longer}

-- the codec file was read, and then the other two
pub returns-in-Ok-clause-answers : goal.returns-in-Ok-clause-answers
returns-in-Ok-clause-answers g c =
    let told = g.S.Shelf.told c.args.shelf.now in
    let faults = g.S.Shelf.faults in
    let empties = g.S.Shelf.empties in
    let given = g.S.Shelf.given in
    let early : List ℕ → Type 0 = λ name. Rose (faults c.args.shelf.now name) (faults c.read_codec_file.new.shelf name) in
    let later : List ℕ → Type 0 = λ name. Rose (faults c.read_codec_file.new.shelf name) (faults c.play_machine.new.shelf name) in
    let failed : List ℕ → Type 0 = λ name. Rose (faults c.args.shelf.now name) (faults c.play_machine.new.shelf name) in
    let emptied_later : List ℕ → Type 0 = λ name. Rose (empties c.read_codec_file.new.shelf name) (empties c.play_machine.new.shelf name) in
    let emptied : List ℕ → Type 0 = λ name. Rose (empties c.args.shelf.now name) (empties c.play_machine.new.shelf name) in
    let asked = g.S.Shelf.asked in
    let unasked_later : List ℕ → Type 0 = λ name. asked c.play_machine.new.shelf name ≡ asked c.read_codec_file.new.shelf name in
    let unasked : List ℕ → Type 0 = λ name. asked c.play_machine.new.shelf name ≡ asked c.args.shelf.now name in
    let beside : List ℕ → Type 0 = λ other. other ≢ c.args.codec.now → unasked other in
    let gave_early : ℕ → Type 0 = λ n. given c.read_codec_file.new.shelf ≤ given c.args.shelf.now + n in
    let gave_later : ℕ → Type 0 = λ n. given c.play_machine.new.shelf ≤ given c.read_codec_file.new.shelf + n in
    let gave : ℕ → Type 0 = λ n. given c.play_machine.new.shelf ≤ given c.args.shelf.now + n in
    let read = subst (λ (r : Result Machine Message). IsCodecRead told early gave_early c.args.codec.now r) c.in-Ok.is c.in_ok-machine.ensures.read in
    let answers = subst (λ (files : Option Files). IfOk c.play_machine.result (λ answer. MachinePlays c.args.kind files later emptied_later unasked_later gave_later c.args.periods c.args.period c.in-Ok.machine c.args.wav.now c.args.schedule.now (answer_meant answer))) c.read_codec_file.ensures.told c.play_machine.ensures.answers in
    IfOk-weaker c.play_machine.result
    (λ answer. MachinePlays c.args.kind told later emptied_later unasked_later gave_later c.args.periods c.args.period c.in-Ok.machine c.args.wav.now c.args.schedule.now (answer_meant answer))
    (λ answer. PlayAnswers c.args.kind told failed emptied unasked gave c.args.codec.now c.args.wav.now c.args.schedule.now c.args.periods c.args.period (answer_meant answer))
    (λ answer h. of_machine c.args.kind told failed emptied unasked gave c.args.codec.now c.args.wav.now c.args.schedule.now c.args.periods c.args.period (answer_meant answer) c.in-Ok.machine read.0
    (MachinePlays-both c.args.kind told later emptied_later failed emptied (answer_meant answer)
    (λ name rose. Rose-longer (faults c.args.shelf.now name) (faults c.read_codec_file.new.shelf name) (faults c.play_machine.new.shelf name) (faults c.play_machine.new.shelf name) (c.read_codec_file.ensures.later name) rose (le_refl (faults c.play_machine.new.shelf name)))
    (λ name rose. Rose-longer (empties c.args.shelf.now name) (empties c.read_codec_file.new.shelf name) (empties c.play_machine.new.shelf name) (empties c.play_machine.new.shelf name) (c.read_codec_file.ensures.empties_later name) rose (le_refl (empties c.play_machine.new.shelf name)))
    unasked_later beside (λ other still apart. still ∙ c.read_codec_file.ensures.asked other apart)
    gave_later (λ n. gave (length read.0.bytes + n)) (given_longer (given c.args.shelf.now) (given c.read_codec_file.new.shelf) (given c.play_machine.new.shelf) (length read.0.bytes) read.2)
    c.args.periods c.args.period c.in-Ok.machine c.args.wav.now c.args.schedule.now h)) answers

-- it ends at the codec file
pub returns-in-Err-clause-answers : goal.returns-in-Err-clause-answers
returns-in-Err-clause-answers g c =
    let told = g.S.Shelf.told c.args.shelf.now in
    let given = g.S.Shelf.given in
    let failed : List ℕ → Type 0 = λ name. Rose (g.S.Shelf.faults c.args.shelf.now name) (g.S.Shelf.faults c.read_codec_file.new.shelf name) in
    let gave : ℕ → Type 0 = λ n. given c.read_codec_file.new.shelf ≤ given c.args.shelf.now + n in
    let read = subst (λ (r : Result Machine Message). IsCodecRead told failed gave c.args.codec.now r) c.in-Err.is c.in_ok-machine.ensures.read in
    AtCodec read (λ other apart. c.read_codec_file.ensures.asked other apart)
