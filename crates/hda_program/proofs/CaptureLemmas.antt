-- What is said of a shelf that had been asked before holds of both together, for a capture, and what the private functions
-- of `capture` promise is one of the ways in which it ends.
use Rattle.std.proofs.Common.{◌≢◌, ℕ, List, inl, inr, Option}
use Rattle.hda_outside.specs.Shelf.{Files}
use Rattle.hda_files.specs.declared.machine.Machine.{Machine}
use Rattle.schedule_reader.specs.declared.schedule.Schedule.{Schedule}
use Rattle.period_writer.specs.declared.geometry.Geometry.{Geometry}
use Rattle.wav_reader.specs.declared.wav.Wav.{Wav}
use Rattle.hda_program.specs.CaptureAnswers.{CaptureAnswers, AtWav, AtSchedule, AtRing, AtInput, AtRun}
use Rattle.hda_program.specs.Capturing.{MachineCaptures, RingCaptures, ScheduleCaptures, SoundCaptures}
use Rattle.hda_program.specs.Files.{IsMachineOf, IsScheduleOf}
use Rattle.hda_program.specs.Given.{IsGivenOf}
use Rattle.hda_program.specs.Meanings.{Meant}
use Rattle.hda_program.specs.Rings.{IsRingIn}

module _ (told : Option Files) (failed both_failed : List ℕ → Type 0) (meant : Meant) (rose : (n : List ℕ) → failed n → both_failed n) (periods period : ℕ) (machine : Machine) where
  pub SoundCaptures-both : (sound : Wav) (name : List ℕ) → SoundCaptures told failed periods period machine sound name meant → SoundCaptures told both_failed periods period machine sound name meant
  SoundCaptures-both sound name (inl (inl unread)) = inl (inl (rose name unread.0, unread.1))
  SoundCaptures-both sound name (inl (inr refused)) = inl (inr refused)
  SoundCaptures-both sound name (inr goes) = inr goes

  pub MachineCaptures-both : (unasked both : List ℕ → Type 0) → ((n : List ℕ) → unasked n → both n) → (wav name : List ℕ)
      → MachineCaptures told failed unasked periods period machine wav name meant → MachineCaptures told both_failed both periods period machine wav name meant
  MachineCaptures-both unasked both still wav name (inl (inl unread, alone)) = inl (inl (rose wav unread.0, unread.1), λ other apart. still other (alone other apart))
  MachineCaptures-both unasked both still wav name (inl (inr refused, alone)) = inl (inr refused, λ other apart. still other (alone other apart))
  MachineCaptures-both unasked both still wav name (inr (sound, file, goes)) = inr (sound, file, SoundCaptures-both sound name goes)

module _ (told : Option Files) (failed unasked : List ℕ → Type 0) (codec wav name : List ℕ) (periods period : ℕ) (meant : Meant) (machine : Machine) (file : IsMachineOf told codec machine) where
  abbrev Ends : Type 0
  Ends = CaptureAnswers told failed unasked codec wav name periods period meant

  by_ring : (sound : Wav) (schedule : Schedule) (geometry : Geometry) → IsGivenOf told wav sound → IsScheduleOf told name schedule → IsRingIn periods period machine sound.format geometry
      → RingCaptures machine sound geometry schedule meant → Ends
  by_ring sound schedule geometry wav_file steps ring (inl none) = AtInput machine sound schedule geometry file wav_file steps ring none.0 none.1
  by_ring sound schedule geometry wav_file steps ring (inr (captured, at, same)) =
      AtRun captured (record {
        machine = machine;
        wav = sound;
        schedule = schedule;
        geometry = geometry;
        address = at.address;
        plans = at.plans;
        codec_file = file;
        wav_file = wav_file;
        schedule_file = steps;
        ring = ring;
        planned = at.planned;
        run = at.run;
      }) same

  by_schedule : (sound : Wav) (schedule : Schedule) → IsGivenOf told wav sound → IsScheduleOf told name schedule → ScheduleCaptures periods period machine sound schedule meant → Ends
  by_schedule sound schedule wav_file steps (inl stop) = AtRing machine sound schedule file wav_file steps stop
  by_schedule sound schedule wav_file steps (inr (geometry, ring, goes)) = by_ring sound schedule geometry wav_file steps ring goes

  by_sound : (sound : Wav) → IsGivenOf told wav sound → SoundCaptures told failed periods period machine sound name meant → Ends
  by_sound sound wav_file (inl stop) = AtSchedule machine sound file wav_file stop
  by_sound sound wav_file (inr (schedule, steps, goes)) = by_schedule sound schedule wav_file steps goes

  pub capture_ways : MachineCaptures told failed (λ other. other ≢ codec → unasked other) periods period machine wav name meant → Ends
  capture_ways (inl (stop, alone)) = AtWav machine file stop alone
  capture_ways (inr (sound, wav_file, goes)) = by_sound sound wav_file goes
