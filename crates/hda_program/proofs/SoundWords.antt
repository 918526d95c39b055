-- Words that ask for a sound through pins of a kind.
use Rattle.std.proofs.Common.{◌≡◌, ◌∙◌, ℕ, Bool, true, false, List, [], ◌∷◌, Some, refl, sym, ap, subst}
use Rattle.codec_graph.specs.declared.pin_kind.PinKind.{PinKind}
use Rattle.codec_graph.specs.declared.pin_kind.PinKind.TheVariants.{Analog, Digital}
use Rattle.program_words.specs.Asked.{Asked, capture, make, play, route, spdif, walk}
use Rattle.hda_program.specs.Asks.{codec_of, files_of, sound_asked}

-- the files that they name
pub sound_files : (kind : PinKind) (codec wav name : List ℕ) (periods period : ℕ) → files_of (sound_asked kind codec wav name periods period) ≡ codec ∷ wav ∷ name ∷ []
sound_files Analog codec wav name periods period = refl
sound_files Digital codec wav name periods period = refl

pub sound_codec : (kind : PinKind) (codec wav name : List ℕ) (periods period : ℕ) → codec_of (sound_asked kind codec wav name periods period) ≡ Some codec
sound_codec Analog codec wav name periods period = refl
sound_codec Digital codec wav name periods period = refl

-- what else is asked is no sound
abbrev pub is_sound : Asked → Bool
is_sound (route codec rate bits channels) = false
is_sound (walk codec name) = false
is_sound (play codec wav name periods period) = true
is_sound (make number) = false
is_sound (spdif codec wav name periods period) = true
is_sound (capture codec wav name periods period) = false

sounds : (kind : PinKind) (codec wav name : List ℕ) (periods period : ℕ) → is_sound (sound_asked kind codec wav name periods period) ≡ true
sounds Analog codec wav name periods period = refl
sounds Digital codec wav name periods period = refl

pub no_sound : {X : Type 0} (kind : PinKind) (codec wav name : List ℕ) (periods period : ℕ) (asked : Asked) → is_sound asked ≡ false → sound_asked kind codec wav name periods period ≡ asked → X
no_sound kind codec wav name periods period asked unlike same =
    let bad : true ≡ false = sym (sounds kind codec wav name periods period) ∙ ap is_sound same ∙ unlike in cc

-- one sound is asked: what holds of one holds of the other
module _ (P : PinKind → (codec wav name : List ℕ) → (periods period : ℕ) → Type 0) where
  abbrev Of : Asked → Type 0
  Of (route codec rate bits channels) = Unit {0}
  Of (walk codec name) = Unit {0}
  Of (play codec wav name periods period) = P Analog codec wav name periods period
  Of (make number) = Unit {0}
  Of (spdif codec wav name periods period) = P Digital codec wav name periods period
  Of (capture codec wav name periods period) = Unit {0}

  into : (kind : PinKind) (codec wav name : List ℕ) (periods period : ℕ) → P kind codec wav name periods period → Of (sound_asked kind codec wav name periods period)
  into Analog codec wav name periods period holds = holds
  into Digital codec wav name periods period holds = holds

  out : (kind : PinKind) (codec wav name : List ℕ) (periods period : ℕ) → Of (sound_asked kind codec wav name periods period) → P kind codec wav name periods period
  out Analog codec wav name periods period holds = holds
  out Digital codec wav name periods period holds = holds

  pub same_sound : (kind other : PinKind) (codec wav name codec' wav' name' : List ℕ) (periods period periods' period' : ℕ)
      → sound_asked kind codec wav name periods period ≡ sound_asked other codec' wav' name' periods' period' → P kind codec wav name periods period → P other codec' wav' name' periods' period'
  same_sound kind other codec wav name codec' wav' name' periods period periods' period' same holds =
      out other codec' wav' name' periods' period' (subst Of same (into kind codec wav name periods period holds))
