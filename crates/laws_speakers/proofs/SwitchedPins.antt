-- What pins hear after words that switch speakers.
use Rattle.std.proofs.Common.{◌≡◌, ◌≢◌, ◌==◌, ◌⊎◌, inl, inr, ℕ, Bool, true, false, List, [], ◌∷◌, Option, None, Some, refl, sym, ap, subst, ◌∙◌, if◌then◌else◌}
use Rattle.std.specs.Prelude.{All, unwrap_or}
use Rattle.std.proofs.lemmas.Bool.{eq-eqb, true≢false}
use Rattle.std.proofs.lemmas.List.Elements.{All-head, All-tail}
use Rattle.verb_codes.specs.declared.verbs.Command.{Command}
use Rattle.verb_codes.specs.declared.verbs.Verb.{Verb}
use Rattle.verb_codes.specs.declared.verbs.Verb.TheVariants.{SetPin}
use Rattle.verb_codes.specs.Verbs.{reading_of}
use Rattle.verb_codes.specs.Words.{has_bit}
use Rattle.codec_graph.specs.declared.raw.RawCodec.{RawCodec}
use Rattle.codec_graph.specs.declared.controls.Control.TheVariants as control
use Rattle.codec_graph.specs.declared.pin_kind.PinKind.{PinKind}
use Rattle.codec_graph.specs.Cycles.{IsWellFormed}
use Rattle.codec_graph.specs.Settings.{Entries, setting_at, setting_of, IsSettingsOf}
use Rattle.codec_sound.specs.declared.signals.Signal.TheVariants.{Silence, Pair}
use Rattle.codec_sound.specs.declared.streams.LinkStream.{LinkStream}
use Rattle.codec_sound.specs.Signals.{signal_as}
use Rattle.heard_frames.specs.Marks.{control_in, control_for}
use Rattle.laws_settings.specs.Histories.{after_reading, settings_by}
use Rattle.laws_settings.specs.PinControls.{control_with, later_of, last_control}
use Rattle.laws_settings.proofs.Callers.{words_set}
use Rattle.laws_speakers.specs.Pins.{AgreeBesidePins, is_enabled, is_on}
use Rattle.laws_speakers.specs.SwitchWords.{SetsSpeaker, IsSwitchWord}
use Rattle.laws_speakers.proofs.Agreeing.{signal_same, off_silent, pair_enabled}
use Rattle.laws_speakers.proofs.PinPuts.{kept_bit, set_agrees, set_other, both_agree, enabled_has, some_control}

same_agrees : (old new : Entries) → new ≡ old → AgreeBesidePins old new
same_agrees old new same = record { same = λ nid c other. ap (λ (s : Entries). setting_of s nid c) same }

-- what a word puts that sets a speaker
abbrev pub Puts : Command → Type 0
Puts command = (value : ℕ) × (command.verb ≡ SetPin value)

pub puts_some : (is_speaker : ℕ → ℕ → Bool) (word : ℕ) (sets : SetsSpeaker is_speaker word) → Puts sets.command
puts_some is_speaker word sets = by sets.either
  where
    by : (sets.command.verb ≡ SetPin 0) ⊎ (sets.command.verb ≡ SetPin 0x40) → Puts sets.command
    by (inl off) = (0, off)
    by (inr on) = (0x40, on)

module _ (is_speaker : ℕ → ℕ → Bool) (graph : RawCodec) where
  -- ---- a word

  word_agrees : (settings : Entries) (word : ℕ) → IsSwitchWord is_speaker word → AgreeBesidePins settings (after_reading graph settings (reading_of word))
  word_agrees settings word (inl asks) = same_agrees settings (after_reading graph settings (reading_of word)) (asks.reading graph settings)
  word_agrees settings word (inr sets) =
      let put = puts_some is_speaker word sets in
      subst (λ (reading : Option Command). AgreeBesidePins settings (after_reading graph settings reading)) (sym sets.reads) (set_agrees graph settings sets.command put.0 put.1)

  none_put : (pin nid value : ℕ) (here : Bool) → (nid == pin) ≡ here → (if here then Some value else None) ≡ None → pin ≢ nid
  none_put pin nid value true is none = cc
  none_put pin nid value false is none = λ same. true≢false (sym (eq-eqb nid pin (sym same)) ∙ is)

  word_beside : (settings : Entries) (word pin : ℕ) → IsSwitchWord is_speaker word → control_for pin (reading_of word) ≡ None
      → setting_at (after_reading graph settings (reading_of word)) pin control.Pin ≡ setting_at settings pin control.Pin
  word_beside settings word pin (inl asks) none = ap (λ (s : Entries). setting_at s pin control.Pin) (asks.reading graph settings)
  word_beside settings word pin (inr sets) none =
      let put = puts_some is_speaker word sets in
      let command = sets.command in
      let beside : (if sets.command.nid == pin then Some put.0 else None) ≡ None =
      ap (λ (v : Verb). if sets.command.nid == pin then control_in v else None) (sym put.1) ∙ ap (control_for pin) (sym sets.reads) ∙ none in
      ap (λ (reading : Option Command). setting_at (after_reading graph settings reading) pin control.Pin) sets.reads
      ∙ set_other graph settings sets.command put.0 put.1 pin (none_put pin sets.command.nid put.0 (sets.command.nid == pin) refl beside)

  -- ---- all words

  pub words_agree : (settings : Entries) (words : List ℕ) → All (IsSwitchWord is_speaker) words → AgreeBesidePins settings (settings_by graph settings words)
  words_agree settings [] all = same_agrees settings settings refl
  words_agree settings (word ∷ words) all =
      both_agree settings (after_reading graph settings (reading_of word)) (settings_by graph (after_reading graph settings (reading_of word)) words)
      (word_agrees settings word (All-head (IsSwitchWord is_speaker) word words all))
      (words_agree (after_reading graph settings (reading_of word)) words (All-tail (IsSwitchWord is_speaker) word words all))

  neither : (first later : Option ℕ) → later_of first later ≡ None → (first ≡ None) × (later ≡ None)
  neither first None none = (none, refl)
  neither first (Some value) none = cc

  words_beside : (settings : Entries) (words : List ℕ) (pin : ℕ) → All (IsSwitchWord is_speaker) words → last_control pin words ≡ None
      → setting_at (settings_by graph settings words) pin control.Pin ≡ setting_at settings pin control.Pin
  words_beside settings [] pin all none = refl
  words_beside settings (word ∷ words) pin all none =
      let both = neither (control_for pin (reading_of word)) (last_control pin words) none in
      words_beside (after_reading graph settings (reading_of word)) words pin (All-tail (IsSwitchWord is_speaker) word words all) both.1
      ∙ word_beside settings word pin (All-head (IsSwitchWord is_speaker) word words all) both.0

  -- ---- what is heard

  module _ (kind : PinKind) (settings : Entries) (stream : LinkStream) (words : List ℕ) (pin : ℕ) (all : All (IsSwitchWord is_speaker) words) where
    pub others_hear : last_control pin words ≡ None → signal_as kind graph (settings_by graph settings words) stream pin ≡ signal_as kind graph settings stream pin
    others_hear none =
        signal_same kind graph settings (settings_by graph settings words) stream (words_agree settings words all) pin
        (ap (λ (o : Option ℕ). has_bit (unwrap_or o 0) 6) (words_beside settings words pin all none))

    module _ (pair : ℕ) (well : IsWellFormed graph) (of : IsSettingsOf graph settings) (heard : signal_as kind graph settings stream pin ≡ Pair pair) where
      enabled : is_enabled settings pin ≡ true
      enabled = pair_enabled kind graph settings stream pin pair heard

      bit_is : (value : ℕ) → last_control pin words ≡ Some value → is_enabled (settings_by graph settings words) pin ≡ has_bit value 6
      bit_is value last =
          let has = enabled_has graph settings pin well of enabled in
          ap (λ (o : Option ℕ). has_bit (unwrap_or o 0) 6)
          (words_set graph pin has settings (setting_of settings pin control.Pin) words (some_control graph settings pin well of has)
          ∙ ap (λ (o : Option ℕ). Some (control_with o (setting_of settings pin control.Pin))) last)
          ∙ kept_bit value

      put_hears : (value : ℕ) (on : Bool) → last_control pin words ≡ Some value → has_bit value 6 ≡ on → signal_as kind graph (settings_by graph settings words) stream pin ≡ (if on then Pair pair else Silence)
      put_hears value true last is =
          signal_same kind graph settings (settings_by graph settings words) stream (words_agree settings words all) pin (bit_is value last ∙ is ∙ sym enabled) ∙ heard
      put_hears value false last is = off_silent kind graph (settings_by graph settings words) stream pin (bit_is value last ∙ is)

      by_last : (last : Option ℕ) → last_control pin words ≡ last → signal_as kind graph (settings_by graph settings words) stream pin ≡ (if is_on last then Pair pair else Silence)
      by_last None none = others_hear none ∙ heard
      by_last (Some value) last = put_hears value (has_bit value 6) last refl

      pub pair_hears : signal_as kind graph (settings_by graph settings words) stream pin ≡ (if is_on (last_control pin words) then Pair pair else Silence)
      pair_hears = by_last (last_control pin words) refl
