-- The promises of `walk`, of `play`, of `spdif`, of `make` and of `capture`: what the run or the capture is that is
-- given, part by part, and the text that was written of it. This project's own.
use Rattle.std.specs.Prelude.{◌≡◌, ◌⊎◌, ℕ, true, List, Option}
use Rattle.codec_graph.specs.declared.pin_kind.PinKind.{PinKind}
use Rattle.route_planner.specs.declared.routes.Plan.{Plan}
use Rattle.hda_files.specs.declared.machine.Machine.{Machine}
use Rattle.hda_outside.specs.Shelf.{Files}
use Rattle.schedule_reader.specs.declared.schedule.Schedule.{Schedule}
use Rattle.sound_report.specs.declared.played.Played.{Played}
use Rattle.capture_report.specs.declared.captured.Captured.{Captured}
use Rattle.hda_program.specs.Asks.{IsCaptureOf, IsWalkOf, IsSoundOf}
use Rattle.hda_program.specs.CaptureAnswers.{HasCapturedFiles}
use Rattle.program_runs.specs.Walks.{walk_format, IsWalked}
use Rattle.hda_program.specs.Files.{IsMachineOf, IsScheduleOf}
use Rattle.hda_program.specs.PlayedFiles.{HasPlayedFiles}
use Rattle.hda_program.specs.Answers.{HasWritten}
use Rattle.sound_report.specs.Texts.{text_of}
use Rattle.hda_program.specs.Made.{HasMadeRun}
use Rattle.hda_program.specs.Meanings.{of_capture, run_meant}
use Rattle.laws_start.specs.Tasks.{HavePlans}
use Rattle.driver_agenda.specs.Planned.{have_route}

-- the run is that for which the words ask: of the machine that their codec file reads as, with its plans, by their
-- schedule
pub record HasWalked (told : Option Files) (words : List (List ℕ)) (played : Played) : Type 0 where
  pub codec_name : List ℕ
  pub schedule_name : List ℕ
  pub machine : Machine
  pub schedule : Schedule
  pub plans : List Plan
  pub asks : IsWalkOf words codec_name schedule_name
  -- the input: what the two files read as, and the plans of the machine's codecs, of which some has a route
  pub codec_file : IsMachineOf told codec_name machine
  pub schedule_file : IsScheduleOf told schedule_name schedule
  pub planned : HavePlans walk_format machine.codecs plans
  pub routed : have_route plans ≡ true
  -- one history, progress, open routes, and how it ended
  pub run : IsWalked machine plans schedule played

-- the run is that for which the words ask: of the files that they name, and the ring of their numbers, through analog
-- pins with `play` and through digital ones with `spdif`
pub record HasPlayed (told : Option Files) (failed emptied : List ℕ → Type 0) (gave : ℕ → Type 0)
    (words : List (List ℕ))
    (played : Played) : Type 0 where
  pub kind : PinKind
  pub codec_name : List ℕ
  pub wav_name : List ℕ
  pub schedule_name : List ℕ
  pub periods : ℕ
  pub period : ℕ
  pub asks : IsSoundOf kind words codec_name wav_name schedule_name periods period
  pub files : HasPlayedFiles kind told failed emptied gave codec_name wav_name schedule_name periods period played

-- a run of this kind, told by its report
abbrev pub IsReported : (IsRun : Played → Type 0) → Played → (text : List ℕ) → Type 0
IsReported IsRun played text = IsRun played × (text ≡ text_of played)

-- the run is the walk for which the words ask, or the sound
abbrev pub HasWalkedOrPlayed : Option Files → (failed emptied : List ℕ → Type 0) → (gave : ℕ → Type 0)
    → List (List ℕ) → Played → Type 0
HasWalkedOrPlayed told failed emptied gave words played = HasWalked told words played
    ⊎ HasPlayed told failed emptied gave words played

-- and it is told by its report; or it is that of made inputs, told by its line
abbrev pub HasRun : Option Files → (failed emptied : List ℕ → Type 0) → (gave : ℕ → Type 0) → List (List ℕ) → Played
    → (text : List ℕ) → Type 0
HasRun told failed emptied gave words played text =
    IsReported (HasWalkedOrPlayed told failed emptied gave words) played text ⊎ HasMadeRun words played text

-- the promise of a run: it is the one that was asked for, told by a text, which was written whole, with the status of
-- its end, or its front at the status of a fault of the sink or of want of memory
pub record KeepsPromise (IsRun : Played → (text : List ℕ) → Type 0) (before after : Option (List ℕ))
    (sink_failed : Type 0) (status : ℕ) (played : Played) : Type 0 where
  pub run_text : List ℕ
  pub run : IsRun played run_text
  pub text : HasWritten before after sink_failed (run_meant played run_text) status

-- the capture is that for which the words ask: of the files that they name, and the ring of their numbers
pub record HasCaptured (told : Option Files) (words : List (List ℕ)) (captured : Captured) : Type 0 where
  pub codec_name : List ℕ
  pub wav_name : List ℕ
  pub schedule_name : List ℕ
  pub periods : ℕ
  pub period : ℕ
  pub asks : IsCaptureOf words codec_name wav_name schedule_name periods period
  pub files : HasCapturedFiles told codec_name wav_name schedule_name periods period captured

-- the promise of a capture: it is the one that was asked for, and its text was written whole, with the status of its
-- end, or its front at the status of a fault of the sink or of want of memory
pub record KeepsCapture (IsRun : Captured → Type 0) (before after : Option (List ℕ)) (sink_failed : Type 0)
    (status : ℕ) (captured : Captured) : Type 0 where
  pub run : IsRun captured
  pub text : HasWritten before after sink_failed (of_capture captured) status
