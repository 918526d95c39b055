use Rattle.std.proofs.Common.{◌≡◌, ℕ, ◌+◌, ◌≤◌, List, inr, Result, subst}
use Rattle.std.proofs.Math.Nat.{le_refl}
use Rattle.std.proofs.lemmas.Result.{IfOk-weaker}
use Rattle.hda_outside.specs.Counts.{Rose}
use Rattle.hda_program.specs.Answers.{MachineWalks, WalkAnswers}
use Rattle.hda_files.specs.declared.machine.Machine.{Machine}
use Rattle.hda_program.specs.declared.message.Message.{Message}
use Rattle.hda_program.specs.Files.{IsCodecRead}
use Rattle.hda_program.specs.Meanings.{answer_meant}
use Rattle.hda_program.proofs.WalkLemmas.{MachineWalks-both}
use Rattle.hda_program.proofs.walk.answer_walk.Goals as goal
use Rattle.hda_outside.proofs.Callers.{Rose-longer}

-- the codec file was read, and then the schedule
pub returns-in-Ok-clause-answers : goal.returns-in-Ok-clause-answers
returns-in-Ok-clause-answers g c =
    let told = g.S.Shelf.told c.args.shelf.now in
    let faults = g.S.Shelf.faults in
    let later : List ℕ → Type 0 = λ name. Rose (faults c.read_codec_file.new.shelf name) (faults c.walk_machine.new.shelf name) in
    let failed : List ℕ → Type 0 = λ name. Rose (faults c.args.shelf.now name) (faults c.walk_machine.new.shelf name) in
    let unasked : List ℕ → Type 0 = λ name. g.S.Shelf.asked c.walk_machine.new.shelf name ≡ g.S.Shelf.asked c.args.shelf.now name in
    let early : List ℕ → Type 0 = λ name. Rose (faults c.args.shelf.now name) (faults c.read_codec_file.new.shelf name) in
    let gave : ℕ → Type 0 = λ n. g.S.Shelf.given c.read_codec_file.new.shelf ≤ g.S.Shelf.given c.args.shelf.now + n in
    let read = subst (λ (r : Result Machine Message). IsCodecRead told early gave c.args.codec.now r) c.in-Ok.is c.in_ok-machine.ensures.read in
    IfOk-weaker c.walk_machine.result
    (λ answer. MachineWalks (g.S.Shelf.told c.read_codec_file.new.shelf) later c.in-Ok.machine c.args.schedule.now (answer_meant answer))
    (λ answer. WalkAnswers told failed unasked c.args.codec.now c.args.schedule.now (answer_meant answer))
    (λ answer h. inr (
      c.in-Ok.machine,
      read.0,
      MachineWalks-both told (g.S.Shelf.told c.read_codec_file.new.shelf) later failed c.in-Ok.machine c.args.schedule.now (answer_meant answer) c.read_codec_file.ensures.told
          (λ name rose. Rose-longer (faults c.args.shelf.now name) (faults c.read_codec_file.new.shelf name) (faults c.walk_machine.new.shelf name) (faults c.walk_machine.new.shelf name) (c.read_codec_file.ensures.later name) rose (le_refl (faults c.walk_machine.new.shelf name))) h,
    )) c.walk_machine.ensures.answers
