-- Where nothing is refused, words that ask for a capture come to one.
use Rattle.std.proofs.Common.{◌≡◌, ◌≢◌, ◌∙◌, ℕ, List, inl, inr, Option, Some, None, refl, sym, ap, subst}
use Rattle.std.specs.Prelude.{IsSome}
use Rattle.std.proofs.lemmas.List.Elements.{All-contains}
use Rattle.stream_format.specs.declared.format.Format.{Format}
use Rattle.stream_format.specs.Cadence.{hertz}
use Rattle.hda_outside.specs.Shelf.{Files}
use Rattle.hda_files.specs.declared.machine.Machine.{Machine}
use Rattle.period_writer.specs.declared.geometry.GeometryFault.{GeometryFault}
use Rattle.period_writer.specs.Rings.{fault_of}
use Rattle.program_words.specs.Asked.{bits_of, make, route, walk}
use Rattle.sound_report.specs.declared.played.Played.{Played}
use Rattle.sound_report.specs.declared.status.Status.TheVariants.{OutOfMemory}
use Rattle.sound_report.specs.Statuses.{number_of}
use Rattle.capture_report.specs.declared.captured.Captured.{Captured}
use Rattle.program_captures.specs.Inputs.{HasNoInput, IsWithoutInput}
use Rattle.hda_program.specs.Answers.{HasEnded, HasWritten, IsMeant}
use Rattle.hda_program.specs.Asks.{IsCaptureOf}
use Rattle.hda_program.specs.CaptureAnswers.{CaptureAnswers, AtCodec, AtWav, AtSchedule, AtRing, AtInput, AtRun}
use Rattle.hda_program.specs.Causes.{IsOfPlay}
use Rattle.hda_program.specs.Complete.{CanCapture, HasPlayedOn}
use Rattle.hda_program.specs.Meanings.{Meant, capture_status, of_capture}
use Rattle.hda_program.proofs.CaptureWords.{no_words_captured, not_capture_and_sound, not_captured, same_capture}
use Rattle.hda_program.proofs.Complete.{of_play}
use Rattle.hda_program.proofs.GivenLemmas.{given_unrefused, one_given}
use Rattle.hda_program.proofs.OneReading.{codec_unrefused, one_machine, schedule_unrefused}

-- what is meant is a capture
abbrev IsCaptureMeant : Meant → Type 0
IsCaptureMeant meant = (captured : Captured) × (meant ≡ of_capture captured)

module _ (told : Option Files) (failed : List ℕ → Type 0) (codec wav name : List ℕ) (periods period : ℕ) (can : CanCapture told failed codec wav name periods period) (meant : Meant) where
  abbrev Here : Option Files
  Here = Some can.files

  ring_good : (machine : Machine) (format : Format) (end : GeometryFault) → can.machine ≡ machine → can.sound.format ≡ format → fault_of periods period machine.fifo format ≡ Some end → ⊥
  ring_good machine format end same format_is faulty =
      let P : Format → Type 0 = λ f. fault_of periods period can.machine.fifo f ≡ None in
      let Q : Machine → Type 0 = λ m. fault_of periods period m.fifo format ≡ None in
      let good : fault_of periods period machine.fifo format ≡ None = subst Q same (subst P format_is can.good_ring) in
      let bad : None ≡ Some end = sym good ∙ faulty in cc

  input_good : (machine : Machine) (format : Format) → can.machine ≡ machine → can.sound.format ≡ format → HasNoInput format machine.codecs → ⊥
  input_good machine format same format_is none =
      let P : Format → Type 0 = λ f. HasNoInput f machine.codecs in
      let Q : Machine → Type 0 = λ m. HasNoInput can.sound.format m.codecs in
      let here : HasNoInput can.sound.format can.machine.codecs = subst Q (sym same) (subst P (sym format_is) none) in
      let without : IsWithoutInput can.sound.format can.input.0 = All-contains (IsWithoutInput can.sound.format) can.machine.codecs can.input.0 here can.input.1 in
      let first = can.input.2.1.first in
      without can.input.2.0.pin first.candidate first.has_path

  -- whichever way it ends, it is with a capture
  capture_files : (unasked : List ℕ → Type 0) → CaptureAnswers Here failed unasked codec wav name periods period meant → IsCaptureMeant meant
  capture_files unasked (AtCodec (inl stop) alone) = absurd (can.codec_given stop.0)
  capture_files unasked (AtCodec (inr stop) alone) = absurd (codec_unrefused can.files codec stop.0 can.machine can.codec_file stop.1)
  capture_files unasked (AtWav machine file (inl stop) alone) = absurd (can.wav_given stop.0)
  capture_files unasked (AtWav machine file (inr stop) alone) = absurd (given_unrefused can.files wav stop.0 can.sound can.wav_file stop.1)
  capture_files unasked (AtSchedule machine sound file wav_file (inl stop)) = absurd (can.schedule_given stop.0)
  capture_files unasked (AtSchedule machine sound file wav_file (inr stop)) = absurd (schedule_unrefused can.files name stop.0 can.schedule can.schedule_file stop.1)
  capture_files unasked (AtRing machine sound schedule file wav_file steps stop) =
      absurd (ring_good machine sound.format stop.0 (one_machine can.files codec machine can.machine file can.codec_file) (one_given can.files wav sound can.sound wav_file can.wav_file) stop.1)
  capture_files unasked (AtInput machine sound schedule geometry file wav_file steps ring none same) =
      absurd (input_good machine sound.format (one_machine can.files codec machine can.machine file can.codec_file) (one_given can.files wav sound can.sound wav_file can.wav_file) none)
  capture_files unasked (AtRun captured files same) = (captured, same)

  captured_so : (unasked : List ℕ → Type 0) → CaptureAnswers told failed unasked codec wav name periods period meant → IsCaptureMeant meant
  captured_so unasked answers = let P : Option Files → Type 0 = λ t. CaptureAnswers t failed unasked codec wav name periods period meant in capture_files unasked (subst P can.tells answers)

module _ (told : Option Files) (failed emptied unasked : List ℕ → Type 0) (gave : ℕ → Type 0) (words : List (List ℕ)) (codec wav name : List ℕ) (periods period : ℕ) (captures : IsCaptureOf words codec wav name periods period) where
  -- the words ask for nothing else
  capture_of_words : (meant : Meant) → IsMeant told failed emptied unasked gave words meant → CaptureAnswers told failed unasked codec wav name periods period meant
  capture_of_words meant (inl refused) = no_words_captured words codec wav name periods period captures refused.0
  capture_of_words meant (inr (inl (other, format, asks, answers))) =
      not_captured words codec wav name periods period (route other (hertz format.rate) (bits_of format.bits) format.channels) captures asks refl
  capture_of_words meant (inr (inr (inl (first, second, asks, answers)))) = not_captured words codec wav name periods period (walk first second) captures asks refl
  capture_of_words meant (inr (inr (inr (inl (kind, first, second, third, most, units, asks, answers))))) =
      not_capture_and_sound words codec wav name periods period kind first second third most units captures asks
  capture_of_words meant (inr (inr (inr (inr (inl (number, asks, answers)))))) = not_captured words codec wav name periods period (make number) captures asks refl
  capture_of_words meant (inr (inr (inr (inr (inr (first, second, third, most, units, asks, answers)))))) =
      same_capture (λ c w n p q. CaptureAnswers told failed unasked c w n p q meant) words first second third codec wav name most units periods period asks captures answers

  module _ (can : CanCapture told failed codec wav name periods period) (before after : Option (List ℕ)) (sink_failed : Type 0) (play : Option Played) (kept : Option Captured) (status : ℕ) where
    means : (meant : Meant) → IsMeant told failed emptied unasked gave words meant → IsCaptureMeant meant
    means meant is = captured_so told failed codec wav name periods period can meant unasked (capture_of_words meant is)

    written_so : (sink_failed → ⊥) → (meant : Meant) → IsCaptureMeant meant → HasWritten before after sink_failed meant status → HasPlayedOn status
    written_so sink_good meant (captured, is) (inl whole) =
        let number : number_of (capture_status captured) ≡ status = sym (whole.0 ∙ ap (λ (m : Meant). number_of m.status) is) in inl (subst IsOfPlay number (of_play captured.fault))
    written_so sink_good meant run (inr (inl sink)) = absurd (sink_good sink.1)
    written_so sink_good meant run (inr (inr memory)) = inr memory.0

    pub capture_complete : (sink_failed → ⊥) → HasEnded told failed emptied unasked gave words before after sink_failed play kept status → HasPlayedOn status
    capture_complete sink_good (inl answered) = written_so sink_good answered.meant (means answered.meant answered.is) answered.written
    capture_complete sink_good (inr memory) = inr memory.0

    pub capture_given : (status ≢ number_of OutOfMemory) → HasEnded told failed emptied unasked gave words before after sink_failed play kept status → IsSome kept
    capture_given enough (inl answered) =
        let one = means answered.meant answered.is in
        let some : kept ≡ Some one.0 = answered.given_capture ∙ ap (λ (m : Meant). m.capture) one.1 in subst (λ (o : Option Captured). IsSome o) (sym some) refl
    capture_given enough (inr memory) = absurd (enough memory.0)
