use Rattle.std.proofs.Common.{◌≡◌, subst, sym}
use Rattle.schedule_reader.specs.Counts.{items_of}
use Rattle.program_runs.proofs.Callers.{if_ok}
use Rattle.program_captures.specs.declared.capturer.Capturer.{Capturer}
use Rattle.program_captures.specs.declared.capturer.Capturer.TheVariants.{Coming, Recording}
use Rattle.program_captures.specs.Capturing.{CaptureRan, IsCapturerFor}
use Rattle.program_captures.proofs.Ended.{both_drive, drives_as}
use Rattle.program_captures.proofs.closing.drive.Goals as goal

pub close_coming-requires-clause-coming : goal.close_coming-requires-clause-coming
close_coming-requires-clause-coming c = subst (λ (capturer : Capturer). IsCapturerFor c.args.terms capturer) c.in-Coming.is c.in_ok-capturer.ensures.stays

pub close_recording-requires-clause-recording : goal.close_recording-requires-clause-recording
close_recording-requires-clause-recording c = subst (λ (capturer : Capturer). IsCapturerFor c.args.terms capturer) c.in-Recording.is c.in_ok-capturer.ensures.stays

pub returns-in-Coming : goal.returns-in-Coming
returns-in-Coming c =
    let terms = c.args.terms in
    let ran : CaptureRan terms (items_of c.args.schedule.now) (Coming c.in_ok-driver.driver) (Coming c.in-Coming.driver) c.args.rig.now c.run_schedule.new.rig =
    subst (λ (capturer : Capturer). CaptureRan terms (items_of c.args.schedule.now) (Coming c.in_ok-driver.driver) capturer c.args.rig.now c.run_schedule.new.rig) c.in-Coming.is c.in_ok-capturer.ensures in
    if_ok c.close_coming.result (λ driven ends. drives_as c.in_ok-driver.ensures (both_drive terms c.args.schedule.now c.in_ok-driver.driver (Coming c.in-Coming.driver) driven c.args.rig.now c.run_schedule.new.rig c.close_coming.new.rig ran ends)) c.close_coming.ensures

pub returns-in-Recording : goal.returns-in-Recording
returns-in-Recording c =
    let terms = c.args.terms in
    let ran : CaptureRan terms (items_of c.args.schedule.now) (Coming c.in_ok-driver.driver) (Recording c.in-Recording.driver) c.args.rig.now c.run_schedule.new.rig =
    subst (λ (capturer : Capturer). CaptureRan terms (items_of c.args.schedule.now) (Coming c.in_ok-driver.driver) capturer c.args.rig.now c.run_schedule.new.rig) c.in-Recording.is c.in_ok-capturer.ensures in
    if_ok c.close_recording.result (λ driven ends. drives_as c.in_ok-driver.ensures (both_drive terms c.args.schedule.now c.in_ok-driver.driver (Recording c.in-Recording.driver) driven c.args.rig.now c.run_schedule.new.rig c.close_recording.new.rig ran ends)) c.close_recording.ensures
