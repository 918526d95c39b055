-- What comes of playing a sound over a machine by a schedule. This project's own.
use Rattle.std.specs.List.{AllZip}
use Rattle.std.specs.Prelude.{◌≡◌, ◌≢◌, ◌<◌, ℕ, ◌+◌, ◌-◌, ◌*◌, true, false, List, length, take, Option, Some}
use Rattle.std.specs.Prelude.{None, string_bytes, if◌then◌else◌}
use Rattle.stream_format.specs.Cadence.{block_bytes}
use Rattle.codec_graph.specs.declared.pin_kind.PinKind.{PinKind}
use Rattle.route_planner.specs.declared.routes.Plan.{Plan}
use Rattle.hda_outside.specs.Shelf.{Files}
use Rattle.wav_reader.specs.declared.opened.WavHead.{WavHead}
use Rattle.wav_reader.specs.declared.wav.Wav.{Wav}
use Rattle.wav_reader.specs.Fills.{IsInFrame}
use Rattle.wav_reader.specs.Supplies.{block_of}
use Rattle.wav_reader.specs.Heads.{frame_length}
use Rattle.stream_format.specs.Layouts.{layout}
use Rattle.wav_reader.specs.Opening.{head_in_file}
use Rattle.wav_reader.specs.Shelves.{HasFile}
use Rattle.wav_reader.specs.Wavs.{ring_bytes}
use Rattle.schedule_reader.specs.declared.schedule.Schedule.{Schedule}
use Rattle.hda_files.specs.declared.machine.Machine.{Machine}
use Rattle.hda_world.specs.Worlds.{CarriedFrame}
use Rattle.hda_world.specs.Tellings.{Telling, world_of}
use Rattle.heard_lists.specs.declared.pin_list.PinHeard.{PinHeard}
use Rattle.laws_stream.specs.Lives.{HasStopped}
use Rattle.period_writer.specs.declared.course.Course.{Course}
use Rattle.period_writer.specs.declared.course.Run.{Run}
use Rattle.period_writer.specs.declared.course.Span.{Span}
use Rattle.period_writer.specs.declared.course.Ran.{Ran}
use Rattle.period_writer.specs.declared.course.Ran.TheVariants as ran
use Rattle.period_writer.specs.declared.geometry.Geometry.{Geometry}
use Rattle.period_writer.specs.Runs.{Tally, measures, tally_of_stretches}
use Rattle.period_writer.specs.Owning.{IsWritten}
use Rattle.period_writer.specs.Rings as rings
use Rattle.driver_progress.specs.declared.phase.Phase.{Phase}
use Rattle.driver_progress.specs.declared.phase.Phase.TheVariants.{Playing, Drained, Unanswered, Late}
use Rattle.driver_progress.specs.Tasks.{Task, Blocks}
use Rattle.driver_progress.specs.States.{State}
use Rattle.driver_bring_up.specs.Jacks.{Counts}
use Rattle.sound_report.specs.declared.played.CutLine.{CutLine}
use Rattle.sound_report.specs.declared.played.CutLine.TheVariants as cuts
use Rattle.sound_report.specs.declared.played.Played.{Played}
use Rattle.sound_report.specs.declared.played.PlayFault.{PlayFault}
use Rattle.sound_report.specs.declared.played.PlayFault.TheVariants as faults
use Rattle.program_runs.specs.FirstFits.{AreFirstFits}
use Rattle.program_runs.specs.Ends.{play_can_end}
use Rattle.program_runs.specs.Lines.{lines_of}
use Rattle.program_runs.specs.Events.{told_in}
use Rattle.program_runs.specs.Outputs.{task_as}
use Rattle.program_runs.specs.Histories.{HasInput, IsHistory, MakesProgress, StaysOpen, command_total, telling_of_run}
use Rattle.driver_progress.specs.Stretches.{stretches_of}
use Rattle.program_runs.specs.FrameCounts.{frames_written, frames_below, last_at, written_by}
use Rattle.program_runs.specs.Hearing.{HasPlayedAll, HearTheirs, WasSilent, lists_heard}

-- ---- how it ended

-- why it ended before all was played, by how far the driver came: so many commands were sent of how many, and with
-- these runs and silences so many of the frames were written and heard
abbrev pub play_fault : Phase → (sent of block total : ℕ) → List Run → List Span → Option PlayFault
play_fault Drained sent of block total runs silences = None
play_fault Playing sent of block total runs silences =
    Some (faults.FramesLeft (frames_written block runs) (frames_below block silences (last_at runs)) total)
play_fault (Late from to limit) sent of block total runs silences = Some (faults.Late from to limit)
play_fault (Unanswered codec command issued noticed) sent of block total runs silences =
    Some (faults.Unanswered codec command issued noticed)
play_fault phase sent of block total runs silences = Some (faults.CommandsLeft sent of)

-- ---- the run

-- the task: the pins of the kind of the machine's codecs are set up by these plans, and the sound is played through a
-- ring in these blocks
abbrev pub played_task : PinKind → Machine → List Plan → Wav → Geometry → Blocks → Task
played_task kind machine plans wav geometry blocks =
    task_as kind wav.format machine plans geometry true wav.pcm blocks

-- how the last run ended, where one was made: by the phase of a driver
abbrev pub end_in_phase : Phase → Option Ran
end_in_phase Playing = Some ran.Playing
end_in_phase Drained = Some ran.Drained
end_in_phase (Late from to limit) = Some (ran.Late from to limit)
end_in_phase phase = None

-- and by the course of its runs
abbrev pub end_of_course : Course → Option Ran
end_of_course course = if course.started then Some course.ran else None

-- without a run the stream was never set going; else it was once, and ran without an error until it was stopped once
abbrev pub Lived : Option Ran → Tally → Telling → Type 0
Lived None tally telling = WasSilent tally telling
Lived (Some end) tally telling = HasStopped telling

-- runs and silences are those of the journal's stretches: no two silences of the line touch, all else of it is the
-- sound, and it is as long as the last run's reach
pub record AreRecorded (schedule : Schedule) (task : Task) (phase : Phase) (tally : Tally) (telling : Telling)
    (played : Played) : Type 0 where
  pub recorded : tally ≡ tally_of_stretches (measures task.geometry) (length task.pcm)
      (stretches_of (lines_of schedule) telling.journal)
  pub runs : played.runs ≡ tally.runs
  pub silences : played.silences ≡ tally.silences
  pub line : IsWritten task.pcm tally
  pub end_is : end_of_course tally.course ≡ end_in_phase phase
  pub stream : Lived (end_in_phase phase) tally telling

-- what was heard is what the link frames carried, as each candidate pin of the kind hears it: the line by its plan.
-- Where the line has drained, that was all sound
pub record IsHeard (kind : PinKind) (machine : Machine) (plans : List Plan) (wav : Wav) (tally : Tally)
    (carried : List CarriedFrame) (lists : List PinHeard) : Type 0 where
  pub lists_are : lists ≡ lists_heard kind carried machine.codecs plans
  pub hear : AllZip (HearTheirs kind wav.format wav.pcm tally carried) machine.codecs plans
  pub whole : tally.course.ran ≡ ran.Drained → HasPlayedAll wav.pcm tally

-- what is told of a driver that plays a sound through pins of the kind, by this task, over a machine whose codecs have
-- these plans
pub record PlaysTask (kind : PinKind) (machine : Machine) (plans : List Plan) (wav : Wav) (schedule : Schedule)
    (task : Task) (telling : Telling) (played : Played) : Type 0 where
  pub state : State
  pub history : IsHistory machine schedule telling.journal
  pub progress : MakesProgress machine schedule task state telling played.graphs
  pub opened : StaysOpen kind wav.format machine schedule task telling
  pub runs : AreRecorded schedule task state.phase state.tally telling played
  pub heard : IsHeard kind machine plans wav state.tally (world_of telling).carried played.heard
  -- jacks count what was read of RIRB that came unasked
  pub jacks : Counts (told_in telling.journal) played.jacks
  pub commands : played.commands ≡ command_total kind wav.format machine plans
  -- it ended in a phase in which a run can end, and tells why
  pub ends : play_can_end state.phase ≡ true
  pub fault : played.fault ≡ play_fault state.phase state.sent played.commands (block_bytes wav.format) played.total
      state.tally.runs state.tally.silences

-- the run of a driver that plays a sound through a ring and pins of the kind
pub record IsPlayed (kind : PinKind) (machine : Machine) (plans : List Plan) (wav : Wav) (geometry : Geometry)
    (schedule : Schedule) (played : Played) : Type 0 where
  pub no_walk : played.walk ≡ false
  pub input : HasInput wav.format wav.frames machine plans played
  -- the driver's blocks are first fits
  pub blocks : Blocks
  pub first_fits : AreFirstFits geometry blocks
  pub run : PlaysTask kind machine plans wav schedule (played_task kind machine plans wav geometry blocks)
      (telling_of_run machine played) played

-- ---- the sound

-- a sound with this head and these bytes, of which a part may have been read
abbrev pub sound_with : WavHead → (pcm : List ℕ) → Wav
sound_with head pcm = record { format = head.format; mono = head.mono; frames = head.frames; pcm = pcm }

-- how many of the frames were read: all where the reading was not cut, and fewer where it was
abbrev pub IsReadUpTo : Option CutLine → (read frames : ℕ) → Type 0
IsReadUpTo None read frames = read ≡ frames
IsReadUpTo (Some cut) read frames = read < frames

-- these are the bytes of the sound that was read, in whole blocks. Where the file is told they are its first ones, and
-- it does not get shorter
pub record IsSoundRead (told : Option Files) (name : List ℕ) (head : WavHead) (played : Played) (pcm : List ℕ) : Type 0
  where
    pub blocks : length pcm ≡ played.read * block_bytes head.format
    pub up_to : IsReadUpTo played.cut played.read head.frames
    pub told_is : (file : List ℕ) → HasFile told name (head_in_file head) file
        → pcm ≡ take (played.read * block_bytes head.format) (ring_bytes file (head_in_file head))
    pub never_short : (file : List ℕ) → HasFile told name (head_in_file head) file → (place : ℕ)
        → played.cut ≢ Some (cuts.Short place)

-- why the reading was cut, after so many frames: the shelf failed under the name, or it answered that there was no byte
-- more, at a place in the frame that came next
abbrev pub IsCutUnder : (name : List ℕ) → WavHead → (read : ℕ) → (failed emptied : Type 0) → Option CutLine → Type 0
IsCutUnder name head read failed emptied None = Unit {0}
IsCutUnder name head read failed emptied (Some (cuts.Failed other)) = (string_bytes other ≡ name) × failed
IsCutUnder name head read failed emptied (Some (cuts.Short place)) =
    IsInFrame (head_in_file head) (read * block_of (head_in_file head)) place × emptied

-- the run of a driver that plays a sound through pins of the kind, which it reads meanwhile: over the sound that was
-- read
pub record IsPlayedFrom (kind : PinKind) (told : Option Files) (name : List ℕ) (head : WavHead) (machine : Machine)
    (plans : List Plan) (geometry : Geometry) (schedule : Schedule) (played : Played) : Type 0 where
  pub pcm : List ℕ
  pub sound : IsSoundRead told name head played pcm
  pub run : IsPlayed kind machine plans (sound_with head pcm) geometry schedule played

-- no more bytes are given than the recorded runs wrote, and twice what the ring has: as many may be held at the end,
-- and as many a late run may have taken
abbrev pub most_read : Geometry → Played → ℕ
most_read geometry played = written_by played.runs + 2 * rings.ring_bytes geometry.periods geometry.period

-- no byte of the file is given twice, and none that is given is dropped, but a part of a frame at a cut: so many bytes
-- at most are given for so many frames
abbrev pub most_of_frames : WavHead → (frames : ℕ) → ℕ
most_of_frames head frames =
    frames * frame_length head.mono (layout head.format) + (frame_length head.mono (layout head.format) - 1)
