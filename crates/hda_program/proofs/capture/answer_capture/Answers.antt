use Rattle.std.proofs.Common.{◌≡◌, ◌≢◌, ◌∙◌, ℕ, ◌+◌, ◌≤◌, List, Option, Result, subst}
use Rattle.std.specs.Prelude.{IfOk}
use Rattle.std.proofs.Math.Nat.{le_refl}
use Rattle.std.proofs.lemmas.Result.{IfOk-weaker}
use Rattle.hda_outside.specs.Counts.{Rose}
use Rattle.hda_outside.specs.Shelf.{Files}
use Rattle.hda_files.specs.declared.machine.Machine.{Machine}
use Rattle.hda_program.specs.CaptureAnswers.{CaptureAnswers, AtCodec}
use Rattle.hda_program.specs.Capturing.{MachineCaptures}
use Rattle.hda_program.specs.declared.message.Message.{Message}
use Rattle.hda_program.specs.Files.{IsCodecRead}
use Rattle.hda_program.specs.Meanings.{answer_meant}
use Rattle.hda_program.proofs.CaptureLemmas.{MachineCaptures-both, capture_ways}
use Rattle.hda_program.proofs.capture.answer_capture.Goals as goal
use Rattle.hda_outside.proofs.Callers.{Rose-longer}

-- the codec file was read, and then the other two
pub returns-in-Ok-clause-answers : goal.returns-in-Ok-clause-answers
returns-in-Ok-clause-answers g c =
    let told = g.S.Shelf.told c.args.shelf.now in
    let faults = g.S.Shelf.faults in
    let asked = g.S.Shelf.asked in
    let early : List ℕ → Type 0 = λ name. Rose (faults c.args.shelf.now name) (faults c.read_codec_file.new.shelf name) in
    let later : List ℕ → Type 0 = λ name. Rose (faults c.read_codec_file.new.shelf name) (faults c.capture_machine.new.shelf name) in
    let failed : List ℕ → Type 0 = λ name. Rose (faults c.args.shelf.now name) (faults c.capture_machine.new.shelf name) in
    let unasked_later : List ℕ → Type 0 = λ name. asked c.capture_machine.new.shelf name ≡ asked c.read_codec_file.new.shelf name in
    let unasked : List ℕ → Type 0 = λ name. asked c.capture_machine.new.shelf name ≡ asked c.args.shelf.now name in
    let beside : List ℕ → Type 0 = λ other. other ≢ c.args.codec.now → unasked other in
    let gave_early : ℕ → Type 0 = λ n. g.S.Shelf.given c.read_codec_file.new.shelf ≤ g.S.Shelf.given c.args.shelf.now + n in
    let read = subst (λ (r : Result Machine Message). IsCodecRead told early gave_early c.args.codec.now r) c.in-Ok.is c.in_ok-machine.ensures.read in
    let answers = subst (λ (files : Option Files). IfOk c.capture_machine.result (λ answer. MachineCaptures files later unasked_later c.args.periods c.args.period c.in-Ok.machine c.args.wav.now c.args.schedule.now (answer_meant answer))) c.read_codec_file.ensures.told c.capture_machine.ensures.answers in
    IfOk-weaker c.capture_machine.result
    (λ answer. MachineCaptures told later unasked_later c.args.periods c.args.period c.in-Ok.machine c.args.wav.now c.args.schedule.now (answer_meant answer))
    (λ answer. CaptureAnswers told failed unasked c.args.codec.now c.args.wav.now c.args.schedule.now c.args.periods c.args.period (answer_meant answer))
    (λ answer h. capture_ways told failed unasked c.args.codec.now c.args.wav.now c.args.schedule.now c.args.periods c.args.period (answer_meant answer) c.in-Ok.machine read.0
    (MachineCaptures-both told later failed (answer_meant answer)
    (λ name rose. Rose-longer (faults c.args.shelf.now name) (faults c.read_codec_file.new.shelf name) (faults c.capture_machine.new.shelf name) (faults c.capture_machine.new.shelf name) (c.read_codec_file.ensures.later name) rose (le_refl (faults c.capture_machine.new.shelf name)))
    c.args.periods c.args.period c.in-Ok.machine unasked_later beside (λ other still apart. still ∙ c.read_codec_file.ensures.asked other apart) c.args.wav.now c.args.schedule.now h)) answers

-- it ends at the codec file
pub returns-in-Err-clause-answers : goal.returns-in-Err-clause-answers
returns-in-Err-clause-answers g c =
    let told = g.S.Shelf.told c.args.shelf.now in
    let failed : List ℕ → Type 0 = λ name. Rose (g.S.Shelf.faults c.args.shelf.now name) (g.S.Shelf.faults c.read_codec_file.new.shelf name) in
    let gave : ℕ → Type 0 = λ n. g.S.Shelf.given c.read_codec_file.new.shelf ≤ g.S.Shelf.given c.args.shelf.now + n in
    let read = subst (λ (r : Result Machine Message). IsCodecRead told failed gave c.args.codec.now r) c.in-Err.is c.in_ok-machine.ensures.read in
    AtCodec read (λ other apart. c.read_codec_file.ensures.asked other apart)
