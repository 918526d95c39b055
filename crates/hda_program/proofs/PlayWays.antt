-- What the private functions of `play` and `spdif` promise is one of the ways in which these end.
use Rattle.std.proofs.Common.{◌≢◌, ℕ, ◌+◌, List, length, inl, inr, Option}
use Rattle.codec_graph.specs.declared.pin_kind.PinKind.{PinKind}
use Rattle.route_planner.specs.declared.routes.Plan.{Plan}
use Rattle.hda_outside.specs.Shelf.{Files}
use Rattle.hda_files.specs.declared.machine.Machine.{Machine}
use Rattle.schedule_reader.specs.declared.schedule.Schedule.{Schedule}
use Rattle.period_writer.specs.declared.geometry.Geometry.{Geometry}
use Rattle.wav_reader.specs.declared.opened.WavHead.{WavHead}
use Rattle.program_runs.specs.Outputs.{HavePlansOf}
use Rattle.hda_program.specs.Answers.{PlayAnswers, AtPins, AtWav, AtSchedule, AtRing, AtPlans, AtRun}
use Rattle.hda_program.specs.Playing.{MachinePlays, PinsPlay, PlansPlay, SchedulePlays, SoundPlays}
use Rattle.hda_program.specs.Files.{IsHeadOf, IsMachineOf, IsScheduleOf, bytes_before}
use Rattle.hda_program.specs.Meanings.{Meant}
use Rattle.hda_program.specs.Rings.{IsRingOf}
use Rattle.hda_program.specs.Pins.{AreFewPins}

module _ (kind : PinKind) (told : Option Files) (failed emptied unasked : List ℕ → Type 0) (gave : ℕ → Type 0) (codec wav name : List ℕ) (periods period : ℕ) (meant : Meant) (machine : Machine) (file : IsMachineOf told codec machine) where
  abbrev Ends : Type 0
  Ends = PlayAnswers kind told failed emptied unasked gave codec wav name periods period meant

  -- what the files gave at most
  abbrev of_codec : ℕ → Type 0
  of_codec bytes = gave (length file.bytes + bytes)

  abbrev of_head : (head : WavHead) → ℕ → Type 0
  of_head head bytes = of_codec (bytes_before head + bytes)

  abbrev of_steps : (head : WavHead) (schedule : Schedule) → IsScheduleOf told name schedule → ℕ → Type 0
  of_steps head schedule steps bytes = of_head head (length steps.bytes + bytes)

  of_plans : AreFewPins kind machine.codecs → (head : WavHead) (schedule : Schedule) (geometry : Geometry) (plans : List Plan) → IsHeadOf told wav head → (steps : IsScheduleOf told name schedule) → IsRingOf periods period machine head geometry
      → HavePlansOf kind head.format machine.codecs plans → PlansPlay kind told failed emptied (of_steps head schedule steps) wav machine head geometry schedule plans meant → Ends
  of_plans pins head schedule geometry plans wav_file steps ring planned (inl none) = AtPlans machine head schedule geometry plans file pins wav_file steps ring planned none.0 none.1
  of_plans pins head schedule geometry plans wav_file steps ring planned (inr run) =
      AtRun run.0 (record {
        machine = machine;
        head = head;
        geometry = geometry;
        schedule = schedule;
        plans = plans;
        codec_file = file;
        pins = pins;
        wav_file = wav_file;
        schedule_file = steps;
        ring = ring;
        planned = planned;
        routed = run.1;
        run = run.2;
        cut = run.4;
        reads_little = run.5;
        reads_frames = run.6;
      }) run.3

  of_schedule : AreFewPins kind machine.codecs → (head : WavHead) (schedule : Schedule) → IsHeadOf told wav head → (steps : IsScheduleOf told name schedule)
      → SchedulePlays kind told failed emptied (of_steps head schedule steps) periods period wav machine head schedule meant → Ends
  of_schedule pins head schedule wav_file steps (inl stop) = AtRing machine head schedule file pins wav_file steps stop
  of_schedule pins head schedule wav_file steps (inr answers) = of_plans pins head schedule answers.0 answers.2.0 wav_file steps answers.1 answers.2.1 answers.2.2

  of_sound : AreFewPins kind machine.codecs → (head : WavHead) → IsHeadOf told wav head → SoundPlays kind told failed emptied (of_head head) periods period wav machine head name meant → Ends
  of_sound pins head wav_file (inl stop) = AtSchedule machine head file pins wav_file stop
  of_sound pins head wav_file (inr answers) = of_schedule pins head answers.0 wav_file answers.1 answers.2

  of_pins : AreFewPins kind machine.codecs → PinsPlay kind told failed emptied (λ other. other ≢ codec → unasked other) of_codec periods period machine wav name meant → Ends
  of_pins pins (inl (stop, alone)) = AtWav machine file pins stop alone
  of_pins pins (inr answers) = of_sound pins answers.0 answers.1 answers.2

  pub of_machine : MachinePlays kind told failed emptied (λ other. other ≢ codec → unasked other) of_codec periods period machine wav name meant → Ends
  of_machine (inl (stop, alone)) = AtPins machine file stop alone
  of_machine (inr (pins, answers)) = of_pins pins answers
