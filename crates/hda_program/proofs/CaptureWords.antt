-- Words that ask for a capture.
use Rattle.std.proofs.Common.{◌≡◌, ◌∙◌, ℕ, Bool, true, false, List, Some, None, refl, sym, ap, subst}
use Rattle.codec_graph.specs.declared.pin_kind.PinKind.{PinKind}
use Rattle.codec_graph.specs.declared.pin_kind.PinKind.TheVariants.{Analog, Digital}
use Rattle.program_words.specs.Asked.{Asked, capture, make, play, request_of, route, spdif, walk}
use Rattle.hda_program.specs.Asks.{IsCaptureOf, IsSoundOf, IsWalkOf, sound_asked}

-- what else is asked is no capture
abbrev pub is_capture : Asked → Bool
is_capture (route codec rate bits channels) = false
is_capture (walk codec name) = false
is_capture (play codec wav name periods period) = false
is_capture (make number) = false
is_capture (spdif codec wav name periods period) = false
is_capture (capture codec wav name periods period) = true

one_asked : (words : List (List ℕ)) (one other : Asked) → request_of words ≡ Some one → request_of words ≡ Some other → one ≡ other
one_asked words one other first second = let same : Some one ≡ Some other = sym first ∙ second in cc

sounds_no_capture : (kind : PinKind) (codec wav name : List ℕ) (periods period : ℕ) → is_capture (sound_asked kind codec wav name periods period) ≡ false
sounds_no_capture Analog codec wav name periods period = refl
sounds_no_capture Digital codec wav name periods period = refl

module _ (words : List (List ℕ)) (codec wav name : List ℕ) (periods period : ℕ) where
  pub no_words_captured : {X : Type 0} → IsCaptureOf words codec wav name periods period → request_of words ≡ None → X
  no_words_captured captures none = let bad : None ≡ Some (capture codec wav name periods period) = sym none ∙ captures in cc

  pub not_captured : {X : Type 0} (asked : Asked) → IsCaptureOf words codec wav name periods period → request_of words ≡ Some asked → is_capture asked ≡ false → X
  not_captured asked captures asks unlike =
      let same : capture codec wav name periods period ≡ asked = one_asked words (capture codec wav name periods period) asked captures asks in
      let bad : true ≡ false = ap is_capture same ∙ unlike in cc

  pub not_capture_and_walk : {X : Type 0} (codec' name' : List ℕ) → IsCaptureOf words codec wav name periods period → IsWalkOf words codec' name' → X
  not_capture_and_walk codec' name' captures walks = not_captured (walk codec' name') captures walks refl

  pub not_capture_and_sound : {X : Type 0} (kind : PinKind) (codec' wav' name' : List ℕ) (periods' period' : ℕ) → IsCaptureOf words codec wav name periods period
      → IsSoundOf kind words codec' wav' name' periods' period' → X
  not_capture_and_sound kind codec' wav' name' periods' period' captures plays =
      not_captured (sound_asked kind codec' wav' name' periods' period') captures plays (sounds_no_capture kind codec' wav' name' periods' period')

-- one capture is asked: what holds of one holds of the other
module _ (P : (codec wav name : List ℕ) → (periods period : ℕ) → Type 0) where
  abbrev OfCapture : Asked → Type 0
  OfCapture (route codec rate bits channels) = Unit {0}
  OfCapture (walk codec name) = Unit {0}
  OfCapture (play codec wav name periods period) = Unit {0}
  OfCapture (make number) = Unit {0}
  OfCapture (spdif codec wav name periods period) = Unit {0}
  OfCapture (capture codec wav name periods period) = P codec wav name periods period

  pub same_capture : (words : List (List ℕ)) (codec wav name codec' wav' name' : List ℕ) (periods period periods' period' : ℕ)
      → IsCaptureOf words codec wav name periods period → IsCaptureOf words codec' wav' name' periods' period' → P codec wav name periods period → P codec' wav' name' periods' period'
  same_capture words codec wav name codec' wav' name' periods period periods' period' one other holds =
      subst OfCapture (one_asked words (capture codec wav name periods period) (capture codec' wav' name' periods' period') one other) holds
