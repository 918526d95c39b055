-- What `capture` answers, for the files of three names and a ring. This project's own.
use Rattle.std.specs.Prelude.{◌≡◌, ◌≢◌, ℕ, List, Option}
use Rattle.route_planner.specs.declared.routes.Plan.{Plan}
use Rattle.hda_files.specs.declared.machine.Machine.{Machine}
use Rattle.hda_outside.specs.Shelf.{Files}
use Rattle.schedule_reader.specs.declared.schedule.Schedule.{Schedule}
use Rattle.period_writer.specs.declared.geometry.Geometry.{Geometry}
use Rattle.wav_reader.specs.declared.wav.Wav.{Wav}
use Rattle.capture_report.specs.declared.captured.Captured.{Captured}
use Rattle.sound_report.specs.declared.status.Status.TheVariants.{NothingRouted}
use Rattle.program_captures.specs.Captures.{IsCaptured}
use Rattle.program_captures.specs.Inputs.{HasNoInput, IsInputOf}
use Rattle.hda_program.specs.Files.{CodecStops, IsAskedAlone, IsMachineOf, IsScheduleOf, ScheduleStops}
use Rattle.hda_program.specs.Given.{GivenStops, IsGivenOf}
use Rattle.hda_program.specs.Meanings.{Meant, of_capture, telling}
use Rattle.hda_program.specs.Rings.{IsRingIn, RingStopsIn}
use Rattle.hda_program.specs.Text.{nothing_routed_line}

-- the capture is that of the files of three names and a ring of these numbers
pub record HasCapturedFiles (told : Option Files) (codec_name wav_name schedule_name : List ℕ) (periods period : ℕ)
    (captured : Captured) : Type 0 where
  pub machine : Machine
  pub wav : Wav
  pub schedule : Schedule
  pub geometry : Geometry
  pub address : ℕ
  pub plans : List Plan
  -- the input: what the three files read as, the ring, and the first codec of which some candidate pin has a path, with
  -- the plans
  pub codec_file : IsMachineOf told codec_name machine
  pub wav_file : IsGivenOf told wav_name wav
  pub schedule_file : IsScheduleOf told schedule_name schedule
  pub ring : IsRingIn periods period machine wav.format geometry
  pub planned : IsInputOf wav.format machine.codecs address plans
  -- one history, progress, the open input, what was recorded, and how it ended
  pub run : IsCaptured address machine plans wav geometry schedule captured

-- what is answered for the files of three names and a ring of these numbers: the ways in which it can end, in the order
-- of the checks
pub data CaptureAnswers (told : Option Files) (failed unasked : List ℕ → Type 0) (codec wav name : List ℕ)
    (periods period : ℕ) (meant : Meant) : Type 0 where
  -- at the codec file, and it has asked for no other
  AtCodec : CodecStops told failed codec meant → IsAskedAlone unasked codec
      → CaptureAnswers told failed unasked codec wav name periods period meant
  -- at the WAV file, and it has asked for none but these two
  AtWav : (machine : Machine) → IsMachineOf told codec machine → GivenStops told failed wav meant
      → IsAskedAlone (λ other. other ≢ codec → unasked other) wav
      → CaptureAnswers told failed unasked codec wav name periods period meant
  -- at the schedule
  AtSchedule : (machine : Machine) (sound : Wav) → IsMachineOf told codec machine → IsGivenOf told wav sound
      → ScheduleStops told failed name meant
      → CaptureAnswers told failed unasked codec wav name periods period meant
  -- at the ring
  AtRing : (machine : Machine) (sound : Wav) (schedule : Schedule) → IsMachineOf told codec machine
      → IsGivenOf told wav sound → IsScheduleOf told name schedule
      → RingStopsIn periods period machine sound.format meant
      → CaptureAnswers told failed unasked codec wav name periods period meant
  -- at the input, which no codec has
  AtInput : (machine : Machine) (sound : Wav) (schedule : Schedule) (geometry : Geometry)
      → IsMachineOf told codec machine → IsGivenOf told wav sound → IsScheduleOf told name schedule
      → IsRingIn periods period machine sound.format geometry → HasNoInput sound.format machine.codecs
      → meant ≡ telling NothingRouted nothing_routed_line
      → CaptureAnswers told failed unasked codec wav name periods period meant
  -- with a run
  AtRun : (captured : Captured) → HasCapturedFiles told codec wav name periods period captured
      → meant ≡ of_capture captured
      → CaptureAnswers told failed unasked codec wav name periods period meant
