use Rattle.std.proofs.Common.{ℕ, ◌+◌, ◌≤◌, List, inr, Result, subst}
use Rattle.std.proofs.lemmas.Result.{IfOk-weaker}
use Rattle.hda_outside.specs.Counts.{Rose}
use Rattle.schedule_reader.specs.declared.schedule.Schedule.{Schedule}
use Rattle.hda_program.specs.Capturing.{ScheduleCaptures, SoundCaptures}
use Rattle.hda_program.specs.declared.message.Message.{Message}
use Rattle.hda_program.specs.Files.{IsScheduleRead}
use Rattle.hda_program.specs.Meanings.{answer_meant}
use Rattle.hda_program.proofs.capture.capture_sound.Goals as goal

-- the schedule was read
pub returns-in-Ok-clause-answers : goal.returns-in-Ok-clause-answers
returns-in-Ok-clause-answers g c =
    let told = g.S.Shelf.told c.args.shelf.now in
    let failed : List ℕ → Type 0 = λ name. Rose (g.S.Shelf.faults c.args.shelf.now name) (g.S.Shelf.faults c.read_schedule_file.new.shelf name) in
    let gave : ℕ → Type 0 = λ n. g.S.Shelf.given c.read_schedule_file.new.shelf ≤ g.S.Shelf.given c.args.shelf.now + n in
    let read = subst (λ (r : Result Schedule Message). IsScheduleRead told failed gave c.args.schedule.now r) c.in-Ok.is c.in_ok-steps.ensures.read in
    IfOk-weaker c.capture_schedule.result
    (λ answer. ScheduleCaptures c.args.periods c.args.period c.args.machine c.args.given c.in-Ok.steps (answer_meant answer))
    (λ answer. SoundCaptures told failed c.args.periods c.args.period c.args.machine c.args.given c.args.schedule.now (answer_meant answer))
    (λ answer h. inr (c.in-Ok.steps, read.0, h)) c.capture_schedule.ensures
