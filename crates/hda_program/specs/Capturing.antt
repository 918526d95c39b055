-- What the private functions of `capture` promise one another: each ends at its check, or goes on. This project's own.
use Rattle.std.specs.Prelude.{◌≡◌, ◌⊎◌, ℕ, List, Option}
use Rattle.route_planner.specs.declared.routes.Plan.{Plan}
use Rattle.hda_files.specs.declared.machine.Machine.{Machine}
use Rattle.hda_outside.specs.Shelf.{Files}
use Rattle.schedule_reader.specs.declared.schedule.Schedule.{Schedule}
use Rattle.period_writer.specs.declared.geometry.Geometry.{Geometry}
use Rattle.wav_reader.specs.declared.wav.Wav.{Wav}
use Rattle.capture_report.specs.declared.captured.Captured.{Captured}
use Rattle.sound_report.specs.declared.status.Status.TheVariants.{NothingRouted}
use Rattle.program_captures.specs.Captures.{IsCaptured}
use Rattle.program_captures.specs.Inputs.{HasNoInput, IsInputOf}
use Rattle.hda_program.specs.Files.{IsAskedAlone, IsScheduleOf, ScheduleStops}
use Rattle.hda_program.specs.Given.{GivenStops, IsGivenOf}
use Rattle.hda_program.specs.Meanings.{Meant, of_capture, telling}
use Rattle.hda_program.specs.Rings.{IsRingIn, RingStopsIn}
use Rattle.hda_program.specs.Text.{nothing_routed_line}

-- a run from the input of the codec at an address, by these plans
pub record HasCapturedAt (machine : Machine) (wav : Wav) (geometry : Geometry) (schedule : Schedule)
    (captured : Captured) : Type 0 where
  pub address : ℕ
  pub plans : List Plan
  pub planned : IsInputOf wav.format machine.codecs address plans
  pub run : IsCaptured address machine plans wav geometry schedule captured

-- nothing is run where no codec has an input, and else the sound is recorded through the ring by the schedule
abbrev pub RingCaptures : Machine → Wav → Geometry → Schedule → Meant → Type 0
RingCaptures machine wav geometry schedule meant =
    (HasNoInput wav.format machine.codecs × (meant ≡ telling NothingRouted nothing_routed_line))
    ⊎ ((captured : Captured) × HasCapturedAt machine wav geometry schedule captured × (meant ≡ of_capture captured))

-- it ends at the ring, or goes on with that of the words
abbrev pub ScheduleCaptures : (periods period : ℕ) → Machine → Wav → Schedule → Meant → Type 0
ScheduleCaptures periods period machine wav schedule meant =
    RingStopsIn periods period machine wav.format meant
    ⊎ ((geometry : Geometry) × IsRingIn periods period machine wav.format geometry
    × RingCaptures machine wav geometry schedule meant)

-- it ends at the schedule, or goes on with what this reads as
abbrev pub SoundCaptures : Option Files → (failed : List ℕ → Type 0) → (periods period : ℕ) → Machine → Wav
    → (schedule : List ℕ) → Meant → Type 0
SoundCaptures told failed periods period machine wav name meant =
    ScheduleStops told failed name meant
    ⊎ ((schedule : Schedule) × IsScheduleOf told name schedule
    × ScheduleCaptures periods period machine wav schedule meant)

-- it ends at the WAV file and has asked for no other, or goes on with what this reads as
abbrev pub MachineCaptures : Option Files → (failed unasked : List ℕ → Type 0) → (periods period : ℕ) → Machine
    → (wav schedule : List ℕ) → Meant → Type 0
MachineCaptures told failed unasked periods period machine wav name meant =
    (GivenStops told failed wav meant × IsAskedAlone unasked wav)
    ⊎ ((sound : Wav) × IsGivenOf told wav sound × SoundCaptures told failed periods period machine sound name meant)
