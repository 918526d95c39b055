-- How the driver of a capture is closed over a rig. What private functions promise one another; this project's own.
use Rattle.std.specs.Prelude.{◌≡◌, ◌⊎◌, [], ℕ, List, length}
use Rattle.verb_codes.specs.declared.verbs.Command.{Command}
use Rattle.codec_graph.specs.declared.raw.RawCodec.{RawCodec}
use Rattle.analog_in.specs.declared.input.Input.{Input}
use Rattle.schedule_reader.specs.declared.schedule.Schedule.{Schedule}
use Rattle.hda_world.specs.Events.{Event}
use Rattle.hda_world.specs.Tellings.{Telling, Went}
use Rattle.hda_capture.specs.Recorders.{IsRecorder}
use Rattle.driver_progress.specs.Tasks.{Blocks, Task, DriverLine}
use Rattle.driver_bring_up.specs.declared.bringing.BringUp.{BringUp}
use Rattle.audio_driver.specs.Drivers.{DriverState}
use Rattle.recording_driver.specs.RecordingDrivers.{RecordingState, phase_of}
use Rattle.laws_capture.specs.Capturing.{IsComing, HasNotRecorded, CaptureHasGone}
use Rattle.rig.specs.Follows.{AreAccesses, Follows}
use Rattle.rig.specs.Rigs.{telling_of, setting_of}
use Rattle.rig.specs.Stretches.{stretch}
use Rattle.rig.specs.declared.rig.Rig.{Rig}
use Rattle.program_runs.specs.FirstFits.{AreFirstFits}
use Rattle.program_runs.specs.LinkFrames.{IsShort}
use Rattle.program_runs.specs.Lines.{lines_of}
use Rattle.program_captures.specs.declared.closing.Driven.{Driven}
use Rattle.program_captures.specs.declared.terms.CaptureTerms.{CaptureTerms}
use Rattle.program_captures.specs.declared.capturer.Capturer.{Capturer}
use Rattle.program_captures.specs.Capturing.{IsCaptureTask, HasTask, GoesOn, means_of, total_of, parts_with}

-- ---- what is left

-- of a driver that did not record
pub record EndedComing (terms : CaptureTerms) (graphs : List RawCodec) (task : Task) (lines : List DriverLine)
    (driven : Driven) (telling : Telling) : Type 0 where
  pub ended : BringUp
  pub has : HasNotRecorded (means_of terms) graphs task (total_of terms) lines ended telling
  pub phase : driven.phase ≡ ended.phase
  pub sent : driven.sent ≡ ended.sent
  pub graphs_are : driven.graphs.items ≡ ended.agenda.graphs.items
  pub runs : driven.runs.items ≡ []
  pub bytes : driven.bytes.items ≡ []

-- of one that recorded
pub record EndedRecording (terms : CaptureTerms) (graphs : List RawCodec) (task : Task) (lines : List DriverLine)
    (driven : Driven) (telling : Telling) : Type 0 where
  pub ended : RecordingState
  pub has : CaptureHasGone (means_of terms) graphs task lines ended telling
  pub recorder : IsRecorder ended.recorder
  pub total_is : ended.recorder.total ≡ total_of terms
  pub geometry : ended.recorder.geometry ≡ terms.geometry
  pub phase : driven.phase ≡ phase_of ended
  pub sent : driven.sent ≡ ended.sent
  pub graphs_are : driven.graphs.items ≡ ended.graphs
  pub runs : driven.runs.items ≡ ended.recorder.runs
  pub bytes : driven.bytes.items ≡ ended.recorder.bytes

abbrev pub IsOver : CaptureTerms → (graphs : List RawCodec) → Task → (lines : List DriverLine) → Driven → Telling
    → Type 0
IsOver terms graphs task lines driven telling =
    EndedComing terms graphs task lines driven telling ⊎ EndedRecording terms graphs task lines driven telling

-- ---- the last call, in a run without steps

pub record CaptureEnds (terms : CaptureTerms) (old : Capturer) (driven : Driven) (before after : Rig) : Type 0 where
  pub accesses : List Event
  pub are : AreAccesses accesses
  pub went : Went (telling_of before) (telling_of after) (stretch [] accesses)
  pub over : (verbs : RawCodec → List Command) (graphs : List RawCodec) (task : Task) (nid : ℕ) (all : List DriverLine)
      → IsCaptureTask terms verbs graphs task nid → HasTask old task → IsShort (telling_of after)
      → GoesOn terms verbs graphs task all [] old (telling_of before)
      → IsOver terms graphs task all driven (telling_of after)
  pub machine : (setting_of after).machine ≡ (setting_of before).machine

-- ---- a whole schedule, and then the last call

-- the blocks in which the driver ended are first fits, with CORB and RIRB where they were
pub record CaptureDriven (terms : CaptureTerms) (schedule : Schedule) (old : DriverState Input) (driven : Driven)
    (before after : Rig) : Type 0 where
  pub blocks : Blocks
  pub first_fits : AreFirstFits terms.geometry blocks
  pub corb : blocks.corb ≡ old.bring_up.engine.corb.address
  pub rirb : blocks.rirb ≡ old.bring_up.engine.rirb.address
  pub events : List Event
  pub went : Went (telling_of before) (telling_of after) events
  pub follows : Follows schedule events
  pub over : (verbs : RawCodec → List Command) (graphs : List RawCodec) (task : Task) (nid : ℕ)
      → IsCaptureTask terms verbs graphs task nid → task.blocks ≡ blocks → task.geometry ≡ terms.geometry
      → IsShort (telling_of after)
      → IsComing (means_of terms) verbs graphs task (total_of terms) (lines_of schedule) (lines_of schedule)
      (parts_with old.bring_up old.writer) (telling_of before)
      → IsOver terms graphs task (lines_of schedule) driven (telling_of after)
  pub machine : (setting_of after).machine ≡ (setting_of before).machine
