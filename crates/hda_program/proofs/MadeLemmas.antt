-- How the program ends for words that ask for made inputs.
use Rattle.std.proofs.Common.{◌≡◌, ◌∙◌, ℕ, List, Bool, true, false, inl, inr, Option, Some, None, refl, sym, ap, subst}
use Rattle.std.proofs.lemmas.Bool.{false≢true}
use Rattle.std.specs.Prelude.{IsSome}
use Rattle.codec_graph.specs.declared.pin_kind.PinKind.{PinKind}
use Rattle.codec_graph.specs.declared.pin_kind.PinKind.TheVariants.{Analog, Digital}
use Rattle.hda_outside.specs.Shelf.{Files}
use Rattle.stream_format.specs.Cadence.{hertz}
use Rattle.program_words.specs.Asked.{Asked, bits_of, capture, make, play, request_of, route, spdif, walk}
use Rattle.capture_report.specs.declared.captured.Captured.{Captured}
use Rattle.sound_report.specs.declared.played.Played.{Played}
use Rattle.sound_report.specs.declared.played.PlayFault.{PlayFault}
use Rattle.sound_report.specs.declared.played.CutLine.{CutLine}
use Rattle.sound_report.specs.declared.status.Status.TheVariants.{Done, OutOfMemory}
use Rattle.sound_report.specs.Statuses.{number_of}
use Rattle.hda_program.specs.Answers.{HasEnded, HasWritten, IsMeant}
use Rattle.hda_program.specs.Asks.{sound_asked}
use Rattle.hda_program.specs.Made.{IsMakeOf, IsOfMade, MakeAnswers}
use Rattle.hda_program.specs.Meanings.{Meant, end_status}
use Rattle.hda_program.proofs.Endings.{same_asked}

-- what is meant by words that ask for made inputs
abbrev MakeAnswersTo : Meant → Asked → Type 0
MakeAnswersTo meant (route codec rate bits channels) = ⊥
MakeAnswersTo meant (walk codec name) = ⊥
MakeAnswersTo meant (play codec wav name periods period) = ⊥
MakeAnswersTo meant (make number) = MakeAnswers number meant
MakeAnswersTo meant (spdif codec wav name periods period) = ⊥
MakeAnswersTo meant (capture codec wav name periods period) = ⊥

-- words that ask for made inputs ask for nothing else
abbrev is_make : Asked → Bool
is_make (route codec rate bits channels) = false
is_make (walk codec name) = false
is_make (play codec wav name periods period) = false
is_make (make number) = true
is_make (spdif codec wav name periods period) = false
is_make (capture codec wav name periods period) = false

made_no_sound : (kind : PinKind) (codec wav name : List ℕ) (periods period : ℕ) → is_make (sound_asked kind codec wav name periods period) ≡ false
made_no_sound Analog codec wav name periods period = refl
made_no_sound Digital codec wav name periods period = refl

other_words : (words : List (List ℕ)) (asked : Asked) (number : ℕ) → request_of words ≡ Some asked → IsMakeOf words number → is_make asked ≡ true
other_words words asked number asks makes = ap is_make (same_asked words asked (make number) asks makes)

no_words : (words : List (List ℕ)) (number : ℕ) → request_of words ≡ None → IsMakeOf words number → ⊥
no_words words number none makes = let bad : None ≡ Some (make number) = sym none ∙ makes in cc

made_same : (words : List (List ℕ)) (other number : ℕ) (meant : Meant) → IsMakeOf words other → IsMakeOf words number → MakeAnswers other meant → MakeAnswers number meant
made_same words other number meant asks makes answers = subst (MakeAnswersTo meant) (same_asked words (make other) (make number) asks makes) answers

make_of_words : (told : Option Files) (failed emptied unasked : List ℕ → Type 0) (gave : ℕ → Type 0) (words : List (List ℕ)) (number : ℕ) (meant : Meant) → IsMakeOf words number
    → IsMeant told failed emptied unasked gave words meant → MakeAnswers number meant
make_of_words told failed emptied unasked gave words number meant makes (inl refused) = absurd (no_words words number refused.0 makes)
make_of_words told failed emptied unasked gave words number meant makes (inr (inl asked)) =
    absurd (false≢true (other_words words (route asked.0 (hertz asked.1.rate) (bits_of asked.1.bits) asked.1.channels) number asked.2 makes))
make_of_words told failed emptied unasked gave words number meant makes (inr (inr (inl asked))) = absurd (false≢true (other_words words (walk asked.0 asked.1) number asked.2 makes))
make_of_words told failed emptied unasked gave words number meant makes (inr (inr (inr (inl asked)))) =
    absurd (false≢true (sym (made_no_sound asked.0 asked.1 asked.2 asked.3 asked.4 asked.5) ∙ other_words words (sound_asked asked.0 asked.1 asked.2 asked.3 asked.4 asked.5) number asked.6 makes))
make_of_words told failed emptied unasked gave words number meant makes (inr (inr (inr (inr (inl asked))))) = made_same words asked.0 number meant asked.1 makes asked.2
make_of_words told failed emptied unasked gave words number meant makes (inr (inr (inr (inr (inr asked))))) =
    absurd (false≢true (other_words words (capture asked.0 asked.1 asked.2 asked.3 asked.4) number asked.5 makes))

-- its status is that of a run that is done
done_number : (number : ℕ) (meant : Meant) → MakeAnswers number meant → number_of meant.status ≡ number_of Done
done_number number meant made =
    ap (λ (m : Meant). number_of m.status) made.is ∙ ap (λ (cut : Option CutLine). number_of (end_status cut made.played.fault)) made.run.uncut
    ∙ ap (λ (fault : Option PlayFault). number_of (end_status None fault)) made.ends.done

module _ (before after : Option (List ℕ)) (sink_failed : Type 0) (given : Option Played) (kept : Option Captured) (status : ℕ) where
  written_made : (number : ℕ) (meant : Meant) → MakeAnswers number meant → HasWritten before after sink_failed meant status → IsOfMade sink_failed status
  written_made number meant answers (inl whole) = inl (whole.0 ∙ done_number number meant answers)
  written_made number meant answers (inr (inl sink)) = inr (inl (sink.0, sink.1))
  written_made number meant answers (inr (inr memory)) = inr (inr memory.0)

  some_made : (number : ℕ) (meant : Meant) → MakeAnswers number meant → given ≡ meant.play → IsSome given
  some_made number meant made same =
      let some : given ≡ Some made.played = same ∙ ap (λ (m : Meant). m.play) made.is in subst (λ (o : Option Played). IsSome o) (sym some) refl

  module _ (told : Option Files) (failed emptied unasked : List ℕ → Type 0) (gave : ℕ → Type 0) (words : List (List ℕ)) (number : ℕ) (makes : IsMakeOf words number) where
    pub make_complete : HasEnded told failed emptied unasked gave words before after sink_failed given kept status → IsOfMade sink_failed status
    make_complete (inl answered) = written_made number answered.meant (make_of_words told failed emptied unasked gave words number answered.meant makes answered.is) answered.written
    make_complete (inr memory) = inr (inr memory.0)

    pub make_runs : HasEnded told failed emptied unasked gave words before after sink_failed given kept status → (status ≡ number_of OutOfMemory → ⊥) → IsSome given
    make_runs (inl answered) enough = some_made number answered.meant (make_of_words told failed emptied unasked gave words number answered.meant makes answered.is) answered.given
    make_runs (inr memory) enough = absurd (enough memory.0)
