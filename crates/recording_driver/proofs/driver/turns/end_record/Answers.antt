use Rattle.std.proofs.Common.{sym, ap, subst, ◌∙◌, inr}
use Rattle.hda_world.specs.Tellings.{Between, Makes}
use Rattle.hda_capture.specs.declared.course.RecordCourse.{RecordCourse}
use Rattle.hda_capture.specs.declared.course.Recorded.{Recorded}
use Rattle.recording_driver.specs.RecordingCalls.{last_stop}
use Rattle.recording_driver.proofs.Kept.{was_so}
use Rattle.recording_driver.proofs.Called.{run_answered}
use Rattle.recording_driver.proofs.driver.turns.end_record.Goals as goal

pub returns-clause-ends : goal.returns-clause-ends
returns-clause-ends g c =
    let ran = g.P.Platform.told c.run-recorded.new.platform in
    let after = g.P.Platform.told c.stop_after.new.platform in inr (record {
      started = sym (ap (λ (course : RecordCourse). course.started) c.course.ensures.value) ∙ was_so c.course.result.started c.if-not-course.false;
      more = sym c.records_on.ensures ∙ c.if-not-records_on.false;
      begins = g.P.Platform.told c.listen.new.platform;
      listens = c.listen.ensures.listens;
      ran = ran;
      records = run_answered c.args.recorder.now c.run-recorded.result c.run-recorded.new.self (g.P.Platform.told c.listen.new.platform) ran c.run-recorded.ensures.records;
      stopped = subst (λ (recorded : Recorded). Between (Makes (last_stop recorded)) ran after) c.run-recorded.ensures.records.answer_is c.stop_after.ensures.made;
    })
