use Rattle.std.proofs.Common.{◌≡◌, [], length, Some, ap, subst, ◌∙◌, refl}
use Rattle.rig.specs.declared.setting.Setting.{Setting}
use Rattle.rig.specs.Rigs.{setting_of, telling_of}
use Rattle.rig.specs.Stretches.{IsStretchFrom}
use Rattle.program_runs.proofs.Callers.{stretched_from}
use Rattle.program_captures.specs.declared.closing.Driven.{Driven}
use Rattle.hda_capture.specs.Recorders.{IsRecorder}
use Rattle.recording_driver.specs.RecordingClosing.{ClosesRecording}
use Rattle.recording_driver.specs.RecordingDrivers.{RecordingState, IsRecordingDriver}
use Rattle.program_captures.specs.Capturing.{total_of}
use Rattle.program_captures.proofs.Going.{KeepsFor}
use Rattle.program_captures.proofs.Ended.{recording_ends}
use Rattle.program_captures.proofs.closing.close_recording.Goals as goal

pub returns : goal.returns
returns c =
    let terms = c.args.terms in
    let boxed = c.args.driver in
    let driver = boxed.value in
    let keeps : KeepsFor terms = λ verbs graphs task nid is. c.drivers_that_capture_keep_to_progress.ensures terms.input terms.geometry.format verbs graphs task (total_of terms) nid is.of_codecs is.silent is.hears in
    let before = c.args.rig.now in
    let after = c.end.new.self in
    let closed = c.close-closed.ensures in
    let left = c.close-closed.result in
    let driven : Driven = record { phase = left.phase; graphs = left.graphs; sent = left.sent; runs = left.runs; bytes = left.bytes } in
    let stretched : IsStretchFrom (length (telling_of before).journal) [] (telling_of after).journal =
    stretched_from (setting_of c.close-closed.new.platform) (setting_of c.begin.new.self) _ (telling_of after).journal closed.fixed c.in-Ok.ensures.setting c.end.ensures.stretch in
    let of_driver : IsRecordingDriver driver = subst IsRecordingDriver c.deref.ensures c.phase-phase.ensures.driver in
    let of_recorder : IsRecorder driver.recorder = subst (λ (one : RecordingState). IsRecorder one.recorder) c.deref.ensures c.phase-phase.ensures.recorder in
    let closes : ClosesRecording driver left (Some (telling_of c.begin.new.self)) (Some (telling_of c.close-closed.new.platform)) =
    subst (λ (one : RecordingState). ClosesRecording one left (Some (telling_of c.begin.new.self)) (Some (telling_of c.close-closed.new.platform))) c.into_inner-2.ensures closed.closes in
    recording_ends terms keeps c.runs_follow.ensures.closing c.runs_follow.ensures.accesses before after (telling_of c.begin.new.self) (telling_of c.close-closed.new.platform) driven boxed c.close-closed.result c.requires.recording
    of_driver of_recorder c.in-Ok.ensures.told.is closes c.end.ensures.told.is stretched
    (ap (λ (s : Setting). s.machine) c.end.ensures.setting ∙ ap (λ (s : Setting). s.machine) closed.fixed ∙ ap (λ (s : Setting). s.machine) c.in-Ok.ensures.setting)
    (record { phase = refl; sent = refl; graphs = refl; runs = refl; bytes = refl })
