use Rattle.std.proofs.Common.{ap, sym, refl, ◌∙◌, ◌⊎◌, inl, inr, ◌&&◌, Bool, true, false, ◌≡◌}
use Rattle.period_writer.specs.declared.course.Course.{Course}
use Rattle.period_writer.specs.Writers.{tally_of}
use Rattle.audio_driver.specs.States.{is_open}
use Rattle.audio_driver.proofs.Kept.{was_not, was_so}
use Rattle.audio_driver.proofs.Ended.{ends_alone, ends_playing}
use Rattle.audio_driver.proofs.driver.ending.end_sound.Goals as goal
use Rattle.audio_driver.proofs.driver.ending.end_sound.Goals.{then-not-course-via-then-not-course, then-not-course-via-else-not-course+then-not-is_open}
use Rattle.driver_progress.proofs.Callers.{ready_is}

pub returns-clause-sounds : goal.returns-clause-sounds
returns-clause-sounds g c sound may ends =
    let writer = c.args.writer.now in
    let started : writer.course.started ≡ true = sym (ap (λ (course : Course). course.started) c.course.ensures.value) ∙ was_so c.course.result.started c.if-not-course.false in
    ends_playing c.args.bring_up.now c.listen.new.self writer (tally_of c.finish-ran.new.self) sound c.finish-ran.result (g.P.Platform.told c.args.platform.now) (g.P.Platform.told c.listen.new.platform) (g.P.Platform.told c.finish-ran.new.platform) (g.P.Platform.told c.shut-2.new.platform)
    c.course.ensures.writer.course_is started (sym c.is_open.ensures ∙ c.if-not-is_open.false) c.listen.ensures.listens (c.finish-ran.ensures.finishes sound may ends) (c.finish-ran.ensures.tells sound may ends) c.shut-2.ensures.made

neither : (started more : Bool) → (started ≡ false) ⊎ (more ≡ false) → (started && more) ≡ false
neither true true (inl none) = none
neither true true (inr none) = none
neither true false none = refl
neither false more none = refl

pub returns-then-not-course-clause-sounds : goal.returns-then-not-course-clause-sounds
returns-then-not-course-clause-sounds g c sound may ends =
    let writer = c.args.writer.now in
    let silent : (writer.course.started ≡ false) ⊎ (is_open writer.course.ran ≡ false) = elim c.then-not-course.branch [
      | then-not-course-via-then-not-course w ↦ inl (sym (ap (λ (course : Course). course.started) c.course.ensures.value) ∙ was_not c.course.result.started w.if-not-course.true)
      | then-not-course-via-else-not-course+then-not-is_open w ↦ inr (sym w.is_open.ensures ∙ w.if-not-is_open.true)
    ] in
    ends_alone c.args.bring_up.now writer sound (g.P.Platform.told c.args.platform.now) (g.P.Platform.told c.shut.new.platform) (ready_is c.args.bring_up.now.phase c.requires.ready)
    (neither writer.course.started (is_open writer.course.ran) silent) c.shut.ensures.made
