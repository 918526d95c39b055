use Rattle.std.proofs.Common.{inr}
use Rattle.std.proofs.lemmas.Result.{IfOk-weaker}
use Rattle.hda_program.specs.Capturing.{RingCaptures, ScheduleCaptures}
use Rattle.hda_program.specs.Meanings.{answer_meant}
use Rattle.hda_program.specs.Rings.{IsRingIn}
use Rattle.hda_program.proofs.capture.capture_schedule.Goals as goal

-- the ring is good, and has what it was asked for
pub returns-in-Ok : goal.returns-in-Ok
returns-in-Ok c =
    let ring : IsRingIn c.args.periods c.args.period c.args.machine c.args.given.format c.in-Ok.geometry = record {
      periods_are = c.in-Ok.ensures.periods;
      period_is = c.in-Ok.ensures.period;
      fifo_is = c.in-Ok.ensures.fifo;
      format_is = c.in-Ok.ensures.format;
    } in
    IfOk-weaker c.capture_ring.result
    (λ answer. RingCaptures c.args.machine c.args.given c.in-Ok.geometry c.args.schedule.now (answer_meant answer))
    (λ answer. ScheduleCaptures c.args.periods c.args.period c.args.machine c.args.given c.args.schedule.now (answer_meant answer))
    (λ answer h. inr (c.in-Ok.geometry, ring, h)) c.capture_ring.ensures
