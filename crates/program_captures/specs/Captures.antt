-- What comes of a capture over a machine by a schedule. This project's own.
use Rattle.std.specs.Prelude.{◌≡◌, ℕ, ◌+◌, ◌*◌, ◌/◌, true, false, Bool, List, [], ◌++◌, length, take, Contains, Option}
use Rattle.std.specs.Prelude.{Some, None}
use Rattle.stream_format.specs.declared.format.Format.{Format}
use Rattle.stream_format.specs.Cadence.{block_bytes}
use Rattle.codec_graph.specs.declared.raw.RawCodec.{RawCodec}
use Rattle.route_planner.specs.declared.routes.Plan.{Plan}
use Rattle.schedule_reader.specs.declared.schedule.Schedule.{Schedule}
use Rattle.wav_reader.specs.declared.wav.Wav.{Wav}
use Rattle.wav_reader.specs.Laws.{CanBeWritten}
use Rattle.wav_reader.specs.Written.{block_file}
use Rattle.hda_files.specs.declared.machine.Machine.{Machine}
use Rattle.hda_files.specs.Machines.{IsSound}
use Rattle.hda_world.specs.declared.world.TheConstants.{REGION_BYTES}
use Rattle.hda_world.specs.Events.{Event, AreHonest, after}
use Rattle.hda_world.specs.JournalEvents.{events_of}
use Rattle.hda_world.specs.Tellings.{Telling, world_of}
use Rattle.hda_world.specs.Streaming.{taken_sound}
use Rattle.hda_capture.specs.declared.course.RecordedRun.{RecordedRun}
use Rattle.hda_capture.specs.Recordings.{record_measures}
use Rattle.hda_capture.specs.Recorders.{bytes_read}
use Rattle.period_writer.specs.declared.geometry.Geometry.{Geometry}
use Rattle.period_writer.specs.Rings.{limit_of}
use Rattle.driver_progress.specs.declared.phase.Phase.{Phase}
use Rattle.driver_progress.specs.declared.phase.Phase.TheVariants.{Playing, Drained, Late, Unanswered}
use Rattle.driver_progress.specs.Phases.{walked_all}
use Rattle.driver_progress.specs.Tasks.{Blocks, Task}
use Rattle.driver_progress.specs.States.{State}
use Rattle.driver_progress.specs.Progress.{state_of, trail_after, trail_opened}
use Rattle.driver_rules.specs.Onward.{IsOnward, later_of}
use Rattle.driver_bring_up.specs.Standing.{answers_of}
use Rattle.laws_bring_up.specs.Stretches.{HasFound}
use Rattle.laws_bring_up.specs.Standing.{AreWalked}
use Rattle.laws_bring_up.specs.SettingUp.{are_answered, IsThere}
use Rattle.sound_report.specs.declared.played.PlayFault.{PlayFault}
use Rattle.sound_report.specs.declared.played.PlayFault.TheVariants as faults
use Rattle.capture_report.specs.declared.captured.Captured.{Captured}
use Rattle.rig.specs.Follows.{Follows}
use Rattle.rig.specs.Replays.{start_given, telling_given}
use Rattle.heard_lists.specs.Listings.{graphs_in}
use Rattle.recording_driver.specs.RecordRules.{RecordState, record_rules}
use Rattle.recording_driver.specs.RecordStretches.{record_tally_of, record_stretches_of}
use Rattle.recording_driver.specs.RecordingDrivers.{phase_recorded}
use Rattle.laws_start.specs.Tasks.{task_meant}
use Rattle.program_runs.specs.Ends.{play_can_end}
use Rattle.program_runs.specs.FirstFits.{AreFirstFits}
use Rattle.program_runs.specs.Lines.{lines_of}
use Rattle.program_captures.specs.Inputs.{capture_means, capture_total}

-- ---- the history

-- what driver and device did, and what it tells from the start of a machine on whose input pins are given a sound
abbrev pub journal_of : Captured → List Event
journal_of captured = events_of captured.journal

abbrev pub telling_of_capture : Machine → (sound : List ℕ) → Captured → Telling
telling_of_capture machine sound captured = telling_given REGION_BYTES machine sound (journal_of captured)

-- what went into the capture is kept with it: the machine, which is sound, with the plans of its codecs, and the format
-- and the frames of the sound
pub record HasGivenInput (machine : Machine) (plans : List Plan) (wav : Wav) (captured : Captured) : Type 0 where
  pub sound : IsSound machine
  pub machine_is : captured.machine ≡ machine
  pub plans_are : captured.plans ≡ plans
  pub format_is : captured.format ≡ wav.format
  pub frames_are : captured.total ≡ wav.frames

-- one history: the journal replays from the machine's start with this sound given, each access with the answer that the
-- device gives, and follows the schedule
pub record IsGivenHistory (machine : Machine) (sound : List ℕ) (schedule : Schedule) (journal : List Event) : Type 0
  where
    pub replays : AreHonest journal (start_given REGION_BYTES machine sound)
    pub follows : Follows schedule journal

-- ---- progress

-- up to `Ready` in each call the driver made the accesses that progress expects, and no others, and from the next line on
-- those of the rules of a driver that records so many bytes. Progress leads to this state, and the rules to that one,
-- where a line came. The graphs that it was told are the first of the machine's, as many as the answers that came told,
-- and all of them from the set-up on
pub record GoesByRules (machine : Machine) (schedule : Schedule) (task : Task) (total : ℕ) (state : State)
    (later : Option RecordState) (telling : Telling) (graphs : List RawCodec) : Type 0 where
  pub onward : IsOnward (record_rules task total) task (lines_of schedule) telling
  pub finds : HasFound task (lines_of schedule) telling
  pub state_is : state_of task (lines_of schedule) telling ≡ state
  pub later_is : later_of (record_rules task total) task (lines_of schedule) telling ≡ later
  pub walked : AreWalked (graphs_in machine.codecs) graphs task.walks state.sent
      (answers_of state.sent state.rings.outstanding)
  pub all_walked : walked_all state.phase ≡ true → graphs ≡ graphs_in machine.codecs

-- ---- the open input

-- from the answer to the last command on, at every moment each codec is there and set up for the input by its plan: the
-- converter of the route of the codec at the address takes the stream and hears the route's pin, and no other converter
-- takes it. A moment stands between the events of the journal before it and the later ones
abbrev pub StaysInputOpen : (address : ℕ) → Format → Machine → Schedule → Task → Telling → Type 0
StaysInputOpen address format machine schedule task telling =
    (before later : List Event) → telling.journal ≡ before ++ later
    → are_answered task (trail_after task before telling.start (trail_opened (lines_of schedule))) ≡ true
    → (graph : RawCodec) → Contains (graphs_in machine.codecs) graph
    → IsThere (capture_means address format) graph (after before telling.start).codecs

-- ---- what was recorded

-- the runs of rules that lead there: none where no line came at `Ready`
abbrev pub runs_in : Option RecordState → List RecordedRun
runs_in None = []
runs_in (Some state) = state.tally.runs

-- the bytes that were recorded: of the sound's blocks that came and were taken, the first that the runs read, each once
-- and in order
abbrev pub recorded_sound : Format → (sound : List ℕ) → (taken : List Bool) → List RecordedRun → List ℕ
recorded_sound format sound taken runs = take (bytes_read runs) (taken_sound (block_bytes format) sound taken)

-- the runs are those of the rules; the marks are those of the blocks that came since RUN rose; and the file is that of
-- the bytes that were recorded
pub record AreCaptured (wav : Wav) (later : Option RecordState) (telling : Telling) (captured : Captured) : Type 0 where
  pub runs : captured.runs ≡ runs_in later
  pub taken : captured.taken ≡ (world_of telling).came
  pub can : CanBeWritten wav.format (recorded_sound wav.format wav.pcm captured.taken captured.runs)
  -- so many bytes the runs read were taken
  pub all_read : length (recorded_sound wav.format wav.pcm captured.taken captured.runs) ≡ bytes_read captured.runs
  pub file : captured.file ≡ block_file wav.format (recorded_sound wav.format wav.pcm captured.taken captured.runs)

-- ---- how it ended

-- the link frames between two runs of a recorder through a ring, at most
abbrev pub limit_in : Geometry → ℕ
limit_in geometry = limit_of geometry.periods geometry.period geometry.fifo geometry.format

-- how far the driver came: by progress until the rules begin, and from then on by them
abbrev pub capture_phase : (limit : ℕ) → State → Option RecordState → Phase
capture_phase limit state None = state.phase
capture_phase limit state (Some later) = phase_recorded limit later.tally

-- why it ended before all was recorded: so many commands were sent of how many, and so many frames were read of how many
abbrev pub capture_fault : Phase → (sent of read total : ℕ) → Option PlayFault
capture_fault Drained sent of read total = None
capture_fault Playing sent of read total = Some (faults.FramesLeft read read total)
capture_fault (Late from to limit) sent of read total = Some (faults.Late from to limit)
capture_fault (Unanswered codec command issued noticed) sent of read total =
    Some (faults.Unanswered codec command issued noticed)
capture_fault phase sent of read total = Some (faults.CommandsLeft sent of)

-- ---- the run

-- the task: the input of the codec at the address is set up by these plans, through a ring in these blocks
abbrev pub captured_task : (address : ℕ) → Machine → List Plan → Geometry → Blocks → Task
captured_task address machine plans geometry blocks =
    task_meant (capture_means address geometry.format) machine plans geometry false [] blocks

-- what is told of a driver that captures, by this task
pub record CapturesTask (address : ℕ) (machine : Machine) (plans : List Plan) (wav : Wav) (schedule : Schedule)
    (task : Task) (telling : Telling) (captured : Captured) : Type 0 where
  pub state : State
  pub later : Option RecordState
  pub history : IsGivenHistory machine wav.pcm schedule telling.journal
  pub progress : GoesByRules machine schedule task (wav.frames * block_bytes wav.format) state later telling
      captured.graphs
  pub opened : StaysInputOpen address wav.format machine schedule task telling
  pub recorded : AreCaptured wav later telling captured
  -- the runs are those of the journal's stretches
  pub stretches : (state : RecordState) → later ≡ Some state
      → state.tally ≡ record_tally_of (record_measures task.geometry (wav.frames * block_bytes wav.format))
      (record_stretches_of telling.journal)
  pub commands : captured.commands ≡ capture_total address wav.format machine.codecs plans
  -- it ended in a phase in which a run can end, and tells why. A complete one read all frames
  pub ends : play_can_end (capture_phase (limit_in task.geometry) state later) ≡ true
  pub complete : capture_phase (limit_in task.geometry) state later ≡ Drained
      → bytes_read captured.runs ≡ wav.frames * block_bytes wav.format
  pub fault : captured.fault ≡ capture_fault (capture_phase (limit_in task.geometry) state later) state.sent
      captured.commands (bytes_read captured.runs / block_bytes wav.format) captured.total

-- the run of a driver that captures the sound that input pins are given, of this WAV file, through a ring
pub record IsCaptured (address : ℕ) (machine : Machine) (plans : List Plan) (wav : Wav) (geometry : Geometry)
    (schedule : Schedule) (captured : Captured) : Type 0 where
  pub input : HasGivenInput machine plans wav captured
  -- the driver's blocks are first fits
  pub blocks : Blocks
  pub first_fits : AreFirstFits geometry blocks
  pub run : CapturesTask address machine plans wav schedule (captured_task address machine plans geometry blocks)
      (telling_of_capture machine wav.pcm captured) captured
