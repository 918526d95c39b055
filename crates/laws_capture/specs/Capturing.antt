-- How a driver that captures is led on, as it is told: it brings its codecs up, and from the first line at `Ready` on
-- it records. This project's own.
use Rattle.std.specs.Prelude.{◌≡◌, ◌≤◌, ℕ, false, List, [], ◌∷◌, map, All, length, None, Some}
use Rattle.verb_codes.specs.declared.verbs.Command.{Command}
use Rattle.codec_graph.specs.declared.raw.RawCodec.{RawCodec}
use Rattle.stream_format.specs.Cadence.{block_bytes}
use Rattle.route_setup.specs.Means.{Means}
use Rattle.world_steps.specs.declared.Step.{Step}
use Rattle.hda_world.specs.declared.world.TheConstants.{REGION_BYTES}
use Rattle.hda_world.specs.Events.{Event, Stepped, Begin, End}
use Rattle.hda_world.specs.Tellings.{Telling, world_of, Went, Accessed}
use Rattle.period_writer.specs.Runs.{Tally, tally_opened as writer_opened}
use Rattle.period_writer.specs.Outcomes.{HasNotWrapped}
use Rattle.hda_capture.specs.Recordings.{tally_opened}
use Rattle.hda_capture.specs.Recorders.{IsRecorder, IsAtBlocks, tally_of, measures_of}
use Rattle.driver_progress.specs.declared.phase.Phase.TheVariants.{Ready}
use Rattle.driver_progress.specs.Phases.{is_ready}
use Rattle.driver_progress.specs.Tasks.{Task, DriverLine, walks_over}
use Rattle.driver_progress.specs.States.{state_opened}
use Rattle.driver_progress.specs.Progress as trail
use Rattle.driver_progress.specs.Progress.{trail_of}
use Rattle.driver_bring_up.specs.declared.bringing.BringUp.{BringUp}
use Rattle.driver_bring_up.specs.Calls as bringing
use Rattle.driver_rules.specs.Onward.{onward_of, later_of, IsOnward, IsAtOnwardRest}
use Rattle.laws_bring_up.specs.Stretches.{HasFound}
use Rattle.laws_bring_up.specs.Standing.{IsBroughtUp, IsEnded}
use Rattle.laws_bring_up.specs.SettingUp.{StaysSetUp, AreSetUpForGood}
use Rattle.laws_recording.specs.Sound.{RecordsGiven}
use Rattle.laws_stream.specs.Resting.{Rests, AreApartFrom}
use Rattle.laws_stream.specs.Lives.{Along}
use Rattle.laws_driver.specs.Sounding.{Parts, ring_in, tally_in}
use Rattle.laws_driver.specs.Keeping.{DriverGoesOn, Calls, Closes}
use Rattle.recording_driver.specs.RecordRules.{record_rules}
use Rattle.recording_driver.specs.RecordStretches.{record_tally_of, record_stretches_of}
use Rattle.recording_driver.specs.RecordingDrivers.{RecordingState, record_state, IsRecordingDriver, IsTaskOfRecording}
use Rattle.recording_driver.specs.RecordingCalls.{Records, EndsRecord}
use Rattle.laws_capture.specs.Taking.{StreamTakes}

-- ---- while it brings its codecs up

-- a driver that plays nothing brings its codecs up, and its rules wait: no line has begun at `Ready`. No block has come
-- to the input stream
pub record IsComing (means : Means) (verbs : RawCodec → List Command) (graphs : List RawCodec) (task : Task)
    (total : ℕ) (lines left : List DriverLine) (parts : Parts) (telling : Telling) : Type 0 where
  pub under_way : DriverGoesOn means verbs graphs task lines left parts telling
  pub waits : (onward_of (record_rules task total) task lines telling).later ≡ None
  pub none_came : (world_of telling).came ≡ []

-- it was closed before it recorded: the journal is progress and its rules wait, it leads to the driver's state, and no
-- block came
pub record HasNotRecorded (means : Means) (graphs : List RawCodec) (task : Task) (total : ℕ) (lines : List DriverLine)
    (ended : BringUp) (telling : Telling) : Type 0 where
  pub onward : IsOnward (record_rules task total) task lines telling
  pub later_is : later_of (record_rules task total) task lines telling ≡ None
  pub finds : HasFound task lines telling
  pub state_is : trail.state_of task lines telling ≡ bringing.state_of ended
  pub ended_is : IsEnded graphs task ended
  pub set_up : StaysSetUp means graphs task lines telling
  pub none_came : (world_of telling).came ≡ []

-- ---- the turn

-- a driver that records was made of the parts of one that brought its codecs up
pub record IsMadeOf (parts : Parts) (total : ℕ) (driver : RecordingState) : Type 0 where
  pub engine : driver.engine ≡ parts.bring_up.engine
  pub geometry : driver.recorder.geometry ≡ parts.writer.geometry
  pub sent : driver.sent ≡ parts.bring_up.sent
  pub graphs : driver.graphs ≡ parts.bring_up.agenda.graphs.items
  pub total_is : driver.recorder.total ≡ total
  pub fresh : tally_of driver.recorder ≡ tally_opened
  pub none : driver.recorder.bytes ≡ []

-- ---- while it records

-- between two calls of a driver that records, once the first line at `Ready` was a call of it. The trail beside the
-- rules stays where it was at `Ready`, all codecs are set up for good, and the runs that were recorded are those of the
-- journal's stretches
pub record CaptureGoesOn (means : Means) (graphs : List RawCodec) (task : Task) (lines left : List DriverLine)
    (driver : RecordingState) (telling : Telling) : Type 0 where
  pub rest : IsAtOnwardRest (record_rules task driver.recorder.total) task lines left (Some (record_state driver))
      telling
  pub finds : HasFound task lines telling
  pub phase_is : (trail_of task lines telling).state.phase ≡ Ready
  pub sent_is : (trail_of task lines telling).state.sent ≡ driver.sent
  pub answered : (trail_of task lines telling).state.rings.outstanding ≡ None
  pub task_is : IsTaskOfRecording driver task
  pub walked : driver.graphs ≡ graphs
  pub enough : length (walks_over graphs) ≤ driver.sent
  pub set_up : StaysSetUp means graphs task lines telling
  pub good : AreSetUpForGood means graphs (world_of telling)
  pub stream : StreamTakes graphs driver.engine driver.recorder (world_of telling)
  pub recorded : tally_of driver.recorder
      ≡ record_tally_of (measures_of driver.recorder) (record_stretches_of telling.journal)

-- all that is known of one that was closed: up to `Ready` the journal is progress, and from the next line on it goes by
-- the rules of a driver that records and leads to its state. All commands were answered, all codecs were walked, and
-- they stayed set up from the last answer on. What was recorded is the first of the given sound's blocks that were
-- taken, each once and in order; where the stream was never started, no block came. The runs are those of the journal's
-- stretches
pub record CaptureHasGone (means : Means) (graphs : List RawCodec) (task : Task) (lines : List DriverLine)
    (ended : RecordingState) (telling : Telling) : Type 0 where
  pub onward : IsOnward (record_rules task ended.recorder.total) task lines telling
  pub later_is : later_of (record_rules task ended.recorder.total) task lines telling ≡ Some (record_state ended)
  pub finds : HasFound task lines telling
  pub phase_is : (trail.state_of task lines telling).phase ≡ Ready
  pub sent_is : (trail.state_of task lines telling).sent ≡ ended.sent
  pub answered : (trail.state_of task lines telling).rings.outstanding ≡ None
  pub walked : ended.graphs ≡ graphs
  pub enough : length (walks_over graphs) ≤ ended.sent
  pub set_up : StaysSetUp means graphs task lines telling
  pub records : RecordsGiven ended.recorder (world_of telling)
  pub whole : All (IsAtBlocks (block_bytes ended.recorder.geometry.format)) ended.recorder.runs
  pub none_came : ended.recorder.course.started ≡ false → (world_of telling).came ≡ []
  pub recorded : tally_of ended.recorder
      ≡ record_tally_of (measures_of ended.recorder) (record_stretches_of telling.journal)

-- ---- how it is led on

pub record KeepsCapturing (means : Means) (verbs : RawCodec → List Command) (graphs : List RawCodec) (task : Task)
    (total nid : ℕ) : Type 0 where
  -- where nothing happened yet
  pub begins : (lines : List DriverLine) (parts : Parts) (telling : Telling) → telling.journal ≡ []
      → bringing.state_of parts.bring_up ≡ state_opened
      → IsBroughtUp means verbs graphs task 0 parts.bring_up (world_of telling) → tally_in parts ≡ writer_opened
      → AreApartFrom (ring_in parts) parts.bring_up.engine.rirb.address
      → Rests parts.writer.geometry.fifo (world_of telling) → (world_of telling).came ≡ []
      → IsComing means verbs graphs task total lines lines parts telling
  -- steps of the device
  pub steps : (lines left : List DriverLine) (parts : Parts) (steps : List Step) (old new : Telling)
      → Went old new (map Stepped steps) → IsComing means verbs graphs task total lines left parts old
      → IsComing means verbs graphs task total lines left parts new
  -- a stretch of a line that does not begin at `Ready`, while WALCLK has not wrapped
  pub calls : (lines left : List DriverLine) (line : DriverLine) (old new : Parts)
      (before begun made after : Telling) → Accessed before begun Begin → is_ready old.bring_up.phase ≡ false
      → Calls means false line.irq line.budget old new (Some begun) (Some made)
      → Accessed made after End → HasNotWrapped (world_of made)
      → IsComing means verbs graphs task total lines (line ∷ left) old before
      → IsComing means verbs graphs task total lines left new after
  -- the closing stretch of a driver that did not record, at `Ready` too
  pub shuts : (lines : List DriverLine) (old : Parts) (ended : BringUp) (tally : Tally) (last : List Event)
      (before begun made after : Telling) → Accessed before begun Begin
      → Closes means false old ended tally (Some begun) (Some made)
      → Accessed made after End → Went before after last → Along HasNotWrapped last (world_of before)
      → IsComing means verbs graphs task total lines [] old before
      → HasNotRecorded means graphs task total lines ended after
  -- the stretch of the first line that begins at `Ready`: a driver that records was made of the parts, whose ring is
  -- that of the task, and the line is its first call
  pub turns : (lines left : List DriverLine) (line : DriverLine) (parts : Parts) (old new : RecordingState)
      (before begun made after : Telling) → parts.bring_up.phase ≡ Ready → IsMadeOf parts total old
      → IsRecordingDriver old → IsRecorder old.recorder → IsTaskOfRecording old task
      → Accessed before begun Begin → Records line.irq old new (Some begun) (Some made)
      → Accessed made after End → HasNotWrapped (world_of made)
      → length (world_of before).memory ≡ REGION_BYTES
      → IsComing means verbs graphs task total lines (line ∷ left) parts before
      → CaptureGoesOn means graphs task lines left new after
  -- steps of the device
  pub records_steps : (lines left : List DriverLine) (driver : RecordingState) (steps : List Step) (old new : Telling)
      → Went old new (map Stepped steps) → CaptureGoesOn means graphs task lines left driver old
      → CaptureGoesOn means graphs task lines left driver new
  -- a stretch of a later line
  pub records_runs : (lines left : List DriverLine) (line : DriverLine) (old new : RecordingState)
      (before begun made after : Telling) → IsRecordingDriver old → IsRecorder old.recorder
      → Accessed before begun Begin → Records line.irq old new (Some begun) (Some made)
      → Accessed made after End → HasNotWrapped (world_of made)
      → CaptureGoesOn means graphs task lines (line ∷ left) old before
      → CaptureGoesOn means graphs task lines left new after
  -- and the closing one
  pub records_ends : (lines : List DriverLine) (old ended : RecordingState) (last : List Event)
      (before begun made after : Telling) → IsRecordingDriver old → IsRecorder old.recorder
      → Accessed before begun Begin → EndsRecord old ended (Some begun) (Some made)
      → Accessed made after End → Went before after last → Along HasNotWrapped last (world_of before)
      → CaptureGoesOn means graphs task lines [] old before
      → CaptureHasGone means graphs task lines ended after
