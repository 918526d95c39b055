-- The run of a sound for the files of three names. This project's own.
use Rattle.std.specs.Prelude.{◌≡◌, ◌+◌, ℕ, true, List, length, Option}
use Rattle.codec_graph.specs.declared.pin_kind.PinKind.{PinKind}
use Rattle.route_planner.specs.declared.routes.Plan.{Plan}
use Rattle.hda_files.specs.declared.machine.Machine.{Machine}
use Rattle.hda_outside.specs.Shelf.{Files}
use Rattle.schedule_reader.specs.declared.schedule.Schedule.{Schedule}
use Rattle.period_writer.specs.declared.geometry.Geometry.{Geometry}
use Rattle.wav_reader.specs.declared.opened.WavHead.{WavHead}
use Rattle.sound_report.specs.declared.played.Played.{Played}
use Rattle.program_runs.specs.Plays.{IsCutUnder, IsPlayedFrom, most_of_frames, most_read}
use Rattle.hda_program.specs.Files.{IsMachineOf, IsHeadOf, IsScheduleOf, bytes_before}
use Rattle.hda_program.specs.Pins.{AreFewPins}
use Rattle.hda_program.specs.Rings.{IsRingOf}
use Rattle.program_runs.specs.Outputs.{HavePlansOf}
use Rattle.driver_agenda.specs.Planned.{have_route}

-- the run is that of the sound of the WAV file of the second name, through the pins of the kind of the machine that the
-- codec file of the first reads as and a ring of these numbers, with the plans of those pins for that sound, by the
-- schedule of the third
pub record HasPlayedFiles (kind : PinKind) (told : Option Files) (failed emptied : List ℕ → Type 0) (gave : ℕ → Type 0)
    (codec_name wav_name schedule_name : List ℕ) (periods period : ℕ) (played : Played) : Type 0 where
  pub machine : Machine
  pub head : WavHead
  pub schedule : Schedule
  pub geometry : Geometry
  pub plans : List Plan
  -- the input: what the codec file and the schedule read as, what the WAV file says before its sound, the ring, and the
  -- plans of the machine's codecs, of which some has a route
  pub codec_file : IsMachineOf told codec_name machine
  pub pins : AreFewPins kind machine.codecs
  pub wav_file : IsHeadOf told wav_name head
  pub schedule_file : IsScheduleOf told schedule_name schedule
  pub ring : IsRingOf periods period machine head geometry
  pub planned : HavePlansOf kind head.format machine.codecs plans
  pub routed : have_route plans ≡ true
  -- the sound that was read, one history, progress, open routes, the runs of the ring, what was heard, and how it ended
  pub run : IsPlayedFrom kind told wav_name head machine plans geometry schedule played
  -- why the reading of the sound was cut, where it was
  pub cut : IsCutUnder wav_name head played.read (failed wav_name) (emptied wav_name) played.cut
  -- no more bytes were given than the codec file and the schedule have, than stand before the sound, and than its
  -- playing takes
  pub reads_little : gave (
      length codec_file.bytes + (bytes_before head + (length schedule_file.bytes + most_read geometry played)))
  -- of the sound no more than the frames that were read, and at a cut a part of one more
  pub reads_frames : gave (
      length codec_file.bytes + (bytes_before head + (length schedule_file.bytes + most_of_frames head played.read)))
