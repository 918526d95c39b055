-- The run of a made sound, of which all was read.
use Rattle.std.proofs.Common.{◌≡◌, ◌≢◌, ◌*◌, ℕ, Bool, true, false, List, Option, Some, None, Result, Ok, Err, refl, ap, subst, ◌∙◌, arith}
use Rattle.std.specs.Prelude.{take, IfOk}
use Rattle.std.specs.declared.alloc.AllocError.{AllocError}
use Rattle.std.proofs.lemmas.List.{take_all}
use Rattle.hda_outside.specs.Shelf.{Files, file_of}
use Rattle.stream_format.specs.Cadence.{block_bytes}
use Rattle.stream_format.specs.declared.format.Format.{Format}
use Rattle.hda_files.specs.declared.machine.Machine.{Machine}
use Rattle.schedule_reader.specs.declared.schedule.Schedule.{Schedule}
use Rattle.period_writer.specs.declared.geometry.Geometry.{Geometry}
use Rattle.codec_graph.specs.declared.pin_kind.PinKind.TheVariants.{Analog}
use Rattle.route_planner.specs.declared.routes.Plan.{Plan}
use Rattle.sound_report.specs.declared.played.CutLine.{CutLine}
use Rattle.sound_report.specs.declared.played.CutLine.TheVariants as cuts
use Rattle.sound_report.specs.declared.played.Played.{Played}
use Rattle.wav_reader.specs.declared.opened.WavHead.{WavHead}
use Rattle.wav_reader.specs.declared.wav.Wav.{Wav}
use Rattle.wav_reader.specs.Laws.{IsHeardAgain}
use Rattle.wav_reader.specs.Opening.{head_in_file}
use Rattle.wav_reader.specs.Shelves.{HasFile}
use Rattle.wav_reader.specs.Wavs.{Meaning, ring_bytes}
use Rattle.laws_start.specs.Tasks.{HavePlans}
use Rattle.driver_agenda.specs.Planned.{have_route}
use Rattle.program_runs.specs.Shapes.{HasShape}
use Rattle.program_runs.specs.Plays.{IsCutUnder, IsPlayed, IsPlayedFrom, IsReadUpTo, sound_with}
use Rattle.made_inputs.specs.MadeSound.{frames_for, made_format, made_pcm, made_sound, made_wav}
use Rattle.made_inputs.specs.MadeSchedule.{IsMadeSchedule}
use Rattle.made_inputs.specs.MadeMachine.{made_machine}
use Rattle.made_inputs.proofs.Callers.{length_pcm}
use Rattle.program_runs.specs.MadeRuns.{IsMadeRun}
use Rattle.program_runs.specs.Shelves.{IsMadeHead, made_files, sound_name}
use Rattle.program_runs.proofs.Heads.{file_there, reads_as}

-- a sound by its parts
abbrev wav_by : Format → Bool → ℕ → List ℕ → Wav
wav_by format mono frames pcm = record { format = format; mono = mono; frames = frames; pcm = pcm }

sound_is : (number : ℕ) (head : WavHead) (pcm : List ℕ) → IsMadeHead number head → pcm ≡ made_pcm number → sound_with head pcm ≡ made_sound number
sound_is number head pcm made is =
    ap (λ (format : Format). wav_by format head.mono head.frames pcm) made.format_is
    ∙ ap (λ (mono : Bool). wav_by made_format mono head.frames pcm) made.stereo
    ∙ ap (λ (frames : ℕ). wav_by made_format false frames pcm) made.frames_are
    ∙ ap (wav_by made_format false (frames_for number)) is

-- the file on the shelf
there : (number : ℕ) (head : WavHead) (files : Files) → files ≡ made_files number → IsMadeHead number head → HasFile (Some files) sound_name (head_in_file head) (made_wav number)
there number head files is made = record {
  files = files;
  told_is = refl;
  file_is = ap (λ (files : Files). file_of files sound_name) is ∙ file_there number;
  head_is = made.says;
}

-- nothing cuts the reading
not_cut : (name : List ℕ) (head : WavHead) (read : ℕ) (failed emptied : Type 0) (cut : Option CutLine) → IsCutUnder name head read failed emptied cut → (failed → ⊥)
    → ((place : ℕ) → cut ≢ Some (cuts.Short place)) → cut ≡ None
not_cut name head read failed emptied None under good long = refl
not_cut name head read failed emptied (Some (cuts.Failed text)) under good long = absurd (good under.1)
not_cut name head read failed emptied (Some (cuts.Short place)) under good long = absurd (long place refl)

module _ (law : IsHeardAgain) (number : ℕ) (machine : Machine) (plans : List Plan) (head : WavHead) (geometry : Geometry) (schedule : Schedule) (files : Files) (played : Played)
    (machine_is : machine ≡ made_machine) (planned : HavePlans made_format machine.codecs plans) (is_routed : have_route plans ≡ true) (made : IsMadeSchedule number schedule)
    (shape : HasShape 4 8 machine.fifo head.format geometry) (files_are : files ≡ made_files number) (made_head : IsMadeHead number head)
    (from : IsPlayedFrom Analog (Some files) sound_name head machine plans geometry schedule played)
    (failed emptied : Type 0) (cut : IsCutUnder sound_name head played.read failed emptied played.cut) (never : failed → ⊥) where
  uncut : played.cut ≡ None
  uncut =
      not_cut sound_name head played.read failed emptied played.cut cut never
      (from.sound.never_short (made_wav number) (there number head files files_are made_head))

  all_read : played.read ≡ frames_for number
  all_read = subst (λ (cut : Option CutLine). IsReadUpTo cut played.read head.frames) uncut from.sound.up_to ∙ made_head.frames_are

  bytes_are : ring_bytes (made_wav number) (head_in_file head) ≡ made_pcm number
  bytes_are = ap (λ (meaning : Meaning). meaning.pcm) (reads_as law number (head_in_file head) made_head.says)

  block_is : block_bytes head.format ≡ 4
  block_is = ap block_bytes made_head.format_is

  pcm_is : from.pcm ≡ made_pcm number
  pcm_is =
      let long = length_pcm number in
      let bytes : played.read * block_bytes head.format ≡ frames_for number * 4 =
      ap (λ (frames : ℕ). frames * block_bytes head.format) all_read ∙ ap (λ (block : ℕ). frames_for number * block) block_is in
      from.sound.told_is (made_wav number) (there number head files files_are made_head)
      ∙ ap (take (played.read * block_bytes head.format)) bytes_are
      ∙ take_all (played.read * block_bytes head.format) (made_pcm number) (omega (arith, long, bytes))

  pub made_run : IsMadeRun number played
  made_run = record {
    plans = plans;
    planned = subst (λ (machine : Machine). HavePlans made_format machine.codecs plans) machine_is planned;
    routed = is_routed;
    schedule = schedule;
    made = made;
    geometry = geometry;
    ring = subst (λ (machine : Machine). HasShape 4 8 machine.fifo made_format geometry) machine_is
        (subst (λ (format : Format). HasShape 4 8 machine.fifo format geometry) made_head.format_is shape);
    run = subst (λ (machine : Machine). IsPlayed Analog machine plans (made_sound number) geometry schedule played) machine_is
        (subst (λ (wav : Wav). IsPlayed Analog machine plans wav geometry schedule played) (sound_is number head from.pcm made_head pcm_is) from.run);
    uncut = uncut;
    read = all_read;
  }

-- what follows of a result that is given
pub if_both : (P Q R : Played → Type 0) (result : Result Played AllocError) → IfOk result P → IfOk result Q → ((played : Played) → P played → Q played → R played) → IfOk result R
if_both P Q R (Ok played) one other both = both played one other
if_both P Q R (Err failed) one other both = tt
