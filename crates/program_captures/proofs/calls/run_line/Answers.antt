use Rattle.std.proofs.Common.{◌≡◌, [], ◌∷◌, ap, sym, subst, ◌∙◌}
use Rattle.analog_in.specs.declared.input.Input.{Input}
use Rattle.schedule_reader.specs.declared.schedule.Item.TheVariants.{Drive}
use Rattle.audio_driver.specs.Drivers.{DriverState}
use Rattle.audio_driver.specs.Parting.{ArePartsOf}
use Rattle.driver_progress.specs.Phases.{is_ready}
use Rattle.recording_driver.specs.RecordingDrivers.{RecordingState}
use Rattle.program_captures.specs.declared.capturer.Capturer.{Capturer}
use Rattle.program_captures.specs.declared.capturer.Capturer.TheVariants.{Coming, Recording}
use Rattle.program_captures.specs.Capturing.{CaptureRan, RecordsLine, IsCapturerFor, IsComingFor, total_of}
use Rattle.program_captures.proofs.Going.{KeepsFor}
use Rattle.program_captures.proofs.Turning.{not_ready, silent_phase, ran_in, recorded_ran, turned_ran}
use Rattle.program_captures.proofs.calls.run_line.Goals as goal

pub run_coming-requires-clause-early : goal.run_coming-requires-clause-early
run_coming-requires-clause-early c =
    let terms = c.args.terms in
    let driver = c.in-Err.driver in
    let coming : IsComingFor terms c.in-Coming.driver.value = subst (λ (capturer : Capturer). IsCapturerFor terms capturer) c.in-Coming.is c.requires.is in
    let left : IsComingFor terms driver = subst (λ (one : DriverState Input). IsComingFor terms one) (sym (c.in-Err.ensures.same ∙ c.into_inner.ensures)) coming in
    ap (λ (one : DriverState Input). is_ready one.bring_up.phase) c.in_ok-driver-in-Err.ensures ∙ not_ready driver.bring_up.phase (λ ready. c.in-Err.ensures.other (silent_phase terms driver left ∙ ready))

pub returns-in_ok-driver-in-Recording : goal.returns-in_ok-driver-in-Recording
returns-in_ok-driver-in-Recording c =
    let terms = c.args.terms in
    let keeps : KeepsFor terms = λ verbs graphs task nid is. c.drivers_that_capture_keep_to_progress.ensures terms.input terms.geometry.format verbs graphs task (total_of terms) nid is.of_codecs is.silent is.hears in
    let new = c.in_ok-driver-in-Recording.driver in
    subst (λ (capturer : Capturer). CaptureRan terms (Drive c.args.line.now ∷ []) capturer (Recording new) c.args.rig.now c.run_recording.new.rig) (sym c.in-Recording.is)
    (recorded_ran terms keeps c.args.line.now c.in-Recording.driver new c.args.rig.now c.run_recording.new.rig c.in_ok-driver-in-Recording.ensures)

pub returns-in_ok-driver-in-Ok-3 : goal.returns-in_ok-driver-in-Ok-3
returns-in_ok-driver-in-Ok-3 c =
    let terms = c.args.terms in
    let keeps : KeepsFor terms = λ verbs graphs task nid is. c.drivers_that_capture_keep_to_progress.ensures terms.input terms.geometry.format verbs graphs task (total_of terms) nid is.of_codecs is.silent is.hears in
    let new = c.in_ok-driver-in-Ok-3.driver in
    let opened = c.in_ok-driver-in-Ok.driver in
    let coming : IsComingFor terms c.in-Coming.driver.value = subst (λ (capturer : Capturer). IsCapturerFor terms capturer) c.in-Coming.is c.requires.is in
    let are : ArePartsOf c.in-Coming.driver.value c.in-Ok.parts = subst (λ (one : DriverState Input). ArePartsOf one c.in-Ok.parts) c.into_inner.ensures c.in-Ok.ensures.parts in
    let ran : RecordsLine terms c.args.line.now opened new.value c.args.rig.now c.run_recording-in-Ok.new.rig =
    subst (λ (one : RecordingState). RecordsLine terms c.args.line.now one new.value c.args.rig.now c.run_recording-in-Ok.new.rig) c.in_ok-driver-in-Ok-2.ensures c.in_ok-driver-in-Ok-3.ensures in
    subst (λ (capturer : Capturer). CaptureRan terms (Drive c.args.line.now ∷ []) capturer (Recording new) c.args.rig.now c.run_recording-in-Ok.new.rig) (sym c.in-Coming.is)
    (turned_ran terms keeps c.args.line.now c.in-Coming.driver c.in-Ok.parts opened new c.args.rig.now c.run_recording-in-Ok.new.rig coming are c.in_ok-driver-in-Ok.ensures.opens ran)

pub returns-in_ok-driver-in-Err-2 : goal.returns-in_ok-driver-in-Err-2
returns-in_ok-driver-in-Err-2 c =
    let terms = c.args.terms in
    let new = c.in_ok-driver-in-Err-2.driver in
    let same : c.in_ok-driver-in-Err.driver.value ≡ c.in-Coming.driver.value = c.in_ok-driver-in-Err.ensures ∙ c.in-Err.ensures.same ∙ c.into_inner.ensures in
    subst (λ (capturer : Capturer). CaptureRan terms (Drive c.args.line.now ∷ []) capturer (Coming new) c.args.rig.now c.run_coming.new.rig) (sym c.in-Coming.is)
    (ran_in terms (Drive c.args.line.now ∷ []) c.in_ok-driver-in-Err.driver c.in-Coming.driver (Coming new) c.args.rig.now c.run_coming.new.rig same c.in_ok-driver-in-Err-2.ensures)
