use Rattle.std.proofs.Common.{sym, ap, ◌∙◌, inr}
use Rattle.hda_capture.specs.declared.course.RecordCourse.{RecordCourse}
use Rattle.recording_driver.proofs.Kept.{was_so}
use Rattle.recording_driver.proofs.Called.{run_answered}
use Rattle.recording_driver.proofs.driver.turns.record.Goals as goal

pub returns-clause-records : goal.returns-clause-records
returns-clause-records g c = inr (record {
  started = sym (ap (λ (course : RecordCourse). course.started) c.course.ensures.value) ∙ was_so c.course.result.started c.if-not-course.false;
  begins = g.P.Platform.told c.listen.new.platform;
  listens = c.listen.ensures.listens;
  records = run_answered c.args.recorder.now c.run-recorded.result c.run-recorded.new.self (g.P.Platform.told c.listen.new.platform) (g.P.Platform.told c.run-recorded.new.platform) c.run-recorded.ensures.records;
})
