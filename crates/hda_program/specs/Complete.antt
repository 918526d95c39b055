-- When a command finds nothing to refuse, so that it comes to its routes or its run. This project's own.
use Rattle.std.specs.Prelude.{◌≡◌, ◌⊎◌, ℕ, true, List, Option, Some, None}
use Rattle.stream_format.specs.declared.format.Format.{Format}
use Rattle.codec_graph.specs.declared.pin_kind.PinKind.{PinKind}
use Rattle.route_planner.specs.declared.routes.Plan.{Plan}
use Rattle.hda_outside.specs.Shelf.{Files}
use Rattle.hda_files.specs.declared.machine.Machine.{Machine}
use Rattle.schedule_reader.specs.declared.schedule.Schedule.{Schedule}
use Rattle.period_writer.specs.Rings.{fault_of}
use Rattle.wav_reader.specs.declared.opened.WavHead.{WavHead}
use Rattle.wav_reader.specs.declared.wav.Wav.{Wav}
use Rattle.sound_report.specs.declared.status.Status.TheVariants.{Done, OutOfMemory}
use Rattle.sound_report.specs.Statuses.{number_of}
use Rattle.program_runs.specs.Walks.{walk_format}
use Rattle.laws_start.specs.Tasks.{HavePlans}
use Rattle.program_runs.specs.Outputs.{HavePlansOf}
use Rattle.hda_program.specs.Causes.{HasSomeInput, IsOfPlay, IsOfWalk}
use Rattle.hda_program.specs.Files.{IsHeadIn, IsMachineOf, IsScheduleOf}
use Rattle.hda_program.specs.Given.{IsGivenOf}
use Rattle.hda_program.specs.Pins.{AreFewPins}
use Rattle.driver_agenda.specs.Planned.{have_route}

-- the shelf tells its files and failed under none of the three names. The files read as a machine and a schedule, and
-- say a sound; digital pins are few where it is played through them, the ring of these numbers has no fault, and some
-- pin of the kind has a route for the sound's format
pub record CanPlay (kind : PinKind) (told : Option Files) (failed : List ℕ → Type 0)
    (codec_name wav_name schedule_name : List ℕ) (periods period : ℕ) : Type 0 where
  pub files : Files
  pub machine : Machine
  pub head : WavHead
  pub schedule : Schedule
  pub plans : List Plan
  pub tells : told ≡ Some files
  pub codec_given : failed codec_name → ⊥
  pub wav_given : failed wav_name → ⊥
  pub schedule_given : failed schedule_name → ⊥
  pub codec_file : IsMachineOf (Some files) codec_name machine
  pub pins : AreFewPins kind machine.codecs
  pub wav_file : IsHeadIn files wav_name head
  pub schedule_file : IsScheduleOf (Some files) schedule_name schedule
  pub good_ring : fault_of periods period machine.fifo head.format ≡ None
  pub planned : HavePlansOf kind head.format machine.codecs plans
  pub routed : have_route plans ≡ true

-- the shelf tells its files and failed under none of the three names. The files read as a machine, a sound that input
-- pins can be given, and a schedule; the ring of these numbers has no fault, and some codec has an input for the format
-- of the sound
pub record CanCapture (told : Option Files) (failed : List ℕ → Type 0) (codec_name wav_name schedule_name : List ℕ)
    (periods period : ℕ) : Type 0 where
  pub files : Files
  pub machine : Machine
  pub sound : Wav
  pub schedule : Schedule
  pub tells : told ≡ Some files
  pub codec_given : failed codec_name → ⊥
  pub wav_given : failed wav_name → ⊥
  pub schedule_given : failed schedule_name → ⊥
  pub codec_file : IsMachineOf (Some files) codec_name machine
  pub wav_file : IsGivenOf (Some files) wav_name sound
  pub schedule_file : IsScheduleOf (Some files) schedule_name schedule
  pub good_ring : fault_of periods period machine.fifo sound.format ≡ None
  pub input : HasSomeInput sound.format machine.codecs

-- the shelf tells its files and did not fail under this name, whose file reads as a machine, and some pin has a route
-- for the format
pub record CanRoute (told : Option Files) (failed : List ℕ → Type 0) (codec_name : List ℕ) (format : Format) : Type 0
  where
    pub files : Files
    pub machine : Machine
    pub plans : List Plan
    pub tells : told ≡ Some files
    pub codec_given : failed codec_name → ⊥
    pub codec_file : IsMachineOf (Some files) codec_name machine
    pub planned : HavePlans format machine.codecs plans
    pub routed : have_route plans ≡ true

-- the shelf tells its files and failed under neither name, whose files read as a machine and a schedule, and some pin
-- has a route for the format of walks
pub record CanWalk (told : Option Files) (failed : List ℕ → Type 0) (codec_name schedule_name : List ℕ) : Type 0 where
  pub files : Files
  pub machine : Machine
  pub schedule : Schedule
  pub plans : List Plan
  pub tells : told ≡ Some files
  pub codec_given : failed codec_name → ⊥
  pub schedule_given : failed schedule_name → ⊥
  pub codec_file : IsMachineOf (Some files) codec_name machine
  pub schedule_file : IsScheduleOf (Some files) schedule_name schedule
  pub planned : HavePlans walk_format machine.codecs plans
  pub routed : have_route plans ≡ true

-- the status is that of a sound that was played, or memory was wanting
abbrev pub HasPlayedOn : ℕ → Type 0
HasPlayedOn status = IsOfPlay status ⊎ (status ≡ number_of OutOfMemory)

-- the status is that of a walk that was run, or memory was wanting
abbrev pub HasWalkedOn : ℕ → Type 0
HasWalkedOn status = IsOfWalk status ⊎ (status ≡ number_of OutOfMemory)

-- the status is that of routes, or memory was wanting
abbrev pub HasRoutes : ℕ → Type 0
HasRoutes status = (status ≡ number_of Done) ⊎ (status ≡ number_of OutOfMemory)
