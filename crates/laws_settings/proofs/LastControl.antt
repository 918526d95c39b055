-- A pin's control is what the last word put that put any.
use Rattle.std.proofs.Common.{◌≡◌, ◌≢◌, ◌==◌, ◌&&◌, ℕ, Bool, true, false, cond, List, [], ◌∷◌, Option, None, Some, refl, sym, ap, ◌∙◌, if◌then◌else◌, nat_lt}
use Rattle.std.specs.Prelude.{All, bit_and, is_some, unwrap_or}
use Rattle.std.specs.Option.{option_map}
use Rattle.std.specs.BTreeMap.{is_at}
use Rattle.std.proofs.lemmas.Bool.{false_from_ne_true, eqb-true, eq-eqb, true≢false}
use Rattle.std.proofs.lemmas.List.Elements.{All-nil, All-cons, All-append, All-head, All-tail}
use Rattle.codec_graph.specs.declared.raw.RawCodec.{RawCodec}
use Rattle.codec_graph.specs.declared.controls.Control.{Control}
use Rattle.codec_graph.specs.declared.controls.Control.TheVariants as control
use Rattle.codec_graph.specs.declared.controls.ControlKey.{ControlKey}
use Rattle.codec_graph.specs.Cycles.{IsWellFormed}
use Rattle.codec_graph.specs.Settings.{Entries, key, key_cmp, setting_at, setting_of, put, put_all, has_control, IsSettingsOf}
use Rattle.codec_graph.specs.Widget.{node_at}
use Rattle.codec_graph.specs.VerbMeaning.{written, amplifier_writes, node_connections, verb_writes, writes_of, after, pin_bits}
use Rattle.codec_graph.proofs.Callers.{here, same_key, lookup-put, is_some-setting_at}
use Rattle.verb_codes.specs.declared.verbs.Command.{Command}
use Rattle.verb_codes.specs.declared.verbs.Verb.{Verb}
use Rattle.verb_codes.specs.declared.verbs.Verb.TheVariants as verb
use Rattle.verb_codes.specs.declared.amplifiers.AmpSetting.{AmpSetting}
use Rattle.verb_codes.specs.Amplifiers as amplifiers
use Rattle.verb_codes.specs.Verbs.{reading_of}
use Rattle.heard_frames.specs.Marks.{control_in, control_for}
use Rattle.laws_settings.specs.Histories.{after_reading, settings_by}
use Rattle.laws_settings.specs.PinControls.{control_with, later_of, last_control}

-- ---- keys

pub other_key : (nid pin : ℕ) (c d : Control) → key nid c ≢ key pin d → is_at (key_cmp (key nid c)) (key pin d) ≡ false
other_key nid pin c d apart = false_from_ne_true (is_at (key_cmp (key nid c)) (key pin d)) (λ e. apart (same_key (key nid c) (key pin d) e))

-- what a number leaves that is put elsewhere
pub put_elsewhere : (settings : Entries) (at : ControlKey) (value nid : ℕ) (c : Control) → is_at (key_cmp (key nid c)) at ≡ false → setting_at (put settings at value) nid c ≡ setting_at settings nid c
put_elsewhere settings at value nid c other =
    lookup-put (key nid c) at value settings ∙ ap (λ b. cond b (option_map (λ _. value) (setting_at settings nid c)) (setting_at settings nid c)) other

-- and what it makes of its own control
pub put_here : (settings : Entries) (value old nid : ℕ) (c : Control) → setting_at settings nid c ≡ Some old → setting_at (put settings (key nid c) value) nid c ≡ Some value
put_here settings value old nid c there =
    lookup-put (key nid c) (key nid c) value settings
    ∙ ap (λ b. cond b (option_map (λ _. value) (setting_at settings nid c)) (setting_at settings nid c)) (here (key nid c))
    ∙ ap (λ (o : Option ℕ). option_map (λ _. value) o) there

-- ---- writes beside the pin's control

module _ (graph : RawCodec) (pin : ℕ) where
  abbrev IsBeside : ControlKey × ℕ → Type 0
  IsBeside write = is_at (key_cmp (key pin control.Pin)) write.0 ≡ false

  written_beside : (nid : ℕ) (c : Control) (value : ℕ) → control.Pin ≢ c → All IsBeside (written graph nid c value)
  written_beside nid c value other = by (has_control graph nid c)
    where
      by : (has : Bool) → All IsBeside (if has then (key nid c, value) ∷ [] else [])
      by true = All-cons IsBeside (key nid c, value) [] (other_key pin nid control.Pin c (λ e. other (ap (λ (k : ControlKey). k.control) e))) (All-nil IsBeside)
      by false = All-nil IsBeside

  written_if : (named : Bool) (nid : ℕ) (c : Control) (value : ℕ) → control.Pin ≢ c → All IsBeside (if named then written graph nid c value else [])
  written_if true nid c value other = written_beside nid c value other
  written_if false nid c value other = All-nil IsBeside

  sides_beside : (nid : ℕ) (setting : AmpSetting) → All IsBeside (amplifier_writes graph nid setting)
  sides_beside nid setting =
      All-append IsBeside _ _ (written_if (setting.output && setting.left) nid control.OutLeft _ (λ e. cc))
      (All-append IsBeside _ _ (written_if (setting.output && setting.right) nid control.OutRight _ (λ e. cc))
      (All-append IsBeside _ _ (written_if (setting.input && setting.left) nid (control.InLeft setting.place) _ (λ e. cc)) (written_if (setting.input && setting.right) nid (control.InRight setting.place) _ (λ e. cc))))

  -- a verb that does not set the control of a pin
  verb_beside : (settings : Entries) (nid : ℕ) (v : Verb) → control_in v ≡ None → All IsBeside (verb_writes graph settings nid v)
  verb_beside settings nid (verb.GetParam number) none = All-nil IsBeside
  verb_beside settings nid verb.GetSelect none = All-nil IsBeside
  verb_beside settings nid (verb.SetSelect place) none = written_if (nat_lt place (node_connections (node_at graph nid))) nid control.Select place (λ e. cc)
  verb_beside settings nid (verb.GetList place) none = All-nil IsBeside
  verb_beside settings nid verb.GetPower none = All-nil IsBeside
  verb_beside settings nid (verb.SetPower state) none = written_beside nid control.Power _ (λ e. cc)
  verb_beside settings nid verb.GetStream none = All-nil IsBeside
  verb_beside settings nid (verb.SetStream stream) none = written_beside nid control.Stream _ (λ e. cc)
  verb_beside settings nid verb.GetPin none = All-nil IsBeside
  verb_beside settings nid (verb.SetPin value) none = cc
  verb_beside settings nid verb.GetUnsol none = All-nil IsBeside
  verb_beside settings nid (verb.SetUnsol value) none = written_beside nid control.Unsol _ (λ e. cc)
  verb_beside settings nid verb.GetSense none = All-nil IsBeside
  verb_beside settings nid verb.GetEapd none = All-nil IsBeside
  verb_beside settings nid (verb.SetEapd value) none = written_beside nid control.Eapd _ (λ e. cc)
  verb_beside settings nid verb.GetDigital none = All-nil IsBeside
  verb_beside settings nid (verb.SetDigital value) none = written_beside nid control.Digital _ (λ e. cc)
  verb_beside settings nid verb.GetDefault none = All-nil IsBeside
  verb_beside settings nid (verb.SetDefault place byte) none = written_beside nid control.Default _ (λ e. cc)
  verb_beside settings nid verb.GetFormat none = All-nil IsBeside
  verb_beside settings nid (verb.SetFormat format) none = written_beside nid control.Format _ (λ e. cc)
  verb_beside settings nid (verb.GetAmp side) none = All-nil IsBeside
  verb_beside settings nid (verb.SetAmp setting) none = sides_beside nid (amplifiers.setting_of setting)

  beside_all : (writes settings : Entries) → All IsBeside writes → setting_at (put_all settings writes) pin control.Pin ≡ setting_at settings pin control.Pin
  beside_all [] settings all = refl
  beside_all (write ∷ writes) settings all =
      beside_all writes (put settings write.0 write.1) (All-tail IsBeside write writes all) ∙ put_elsewhere settings write.0 write.1 pin control.Pin (All-head IsBeside write writes all)

  -- ---- one command

  module _ (has : has_control graph pin control.Pin ≡ true) where
    -- one that sets the control of a pin, of this one or another
    pin_set : (settings : Entries) (nid value old : ℕ) (is : Bool) → (nid == pin) ≡ is → setting_at settings pin control.Pin ≡ Some old
        → setting_at (put_all settings (written graph nid control.Pin (bit_and value pin_bits))) pin control.Pin ≡ Some (control_with (if is then Some value else None) old)
    pin_set settings nid value old true is there =
        let same : nid ≡ pin = eqb-true nid pin is in
        let owned : has_control graph nid control.Pin ≡ true = ap (λ n. has_control graph n control.Pin) same ∙ has in
        ap (λ (b : Bool). setting_at (put_all settings (if b then (key nid control.Pin, bit_and value pin_bits) ∷ [] else [])) pin control.Pin) owned
        ∙ ap (λ n. setting_at (put settings (key n control.Pin) (bit_and value pin_bits)) pin control.Pin) same
        ∙ put_here settings (bit_and value pin_bits) old pin control.Pin there
    pin_set settings nid value old false is there = beside_all (written graph nid control.Pin (bit_and value pin_bits)) settings (by (has_control graph nid control.Pin)) ∙ there
      where
        other : key pin control.Pin ≢ key nid control.Pin
        other e = let same : pin ≡ nid = ap (λ (k : ControlKey). k.nid) e in true≢false (sym (eq-eqb nid pin (sym same)) ∙ is)

        by : (b : Bool) → All IsBeside (if b then (key nid control.Pin, bit_and value pin_bits) ∷ [] else [])
        by true = All-cons IsBeside (key nid control.Pin, bit_and value pin_bits) [] (other_key pin nid control.Pin control.Pin other) (All-nil IsBeside)
        by false = All-nil IsBeside

    if_none : (is : Bool) → ◌≡◌ {A = Option ℕ} (if is then None else None) None
    if_none true = refl
    if_none false = refl

    beside_set : (settings : Entries) (nid old : ℕ) (v : Verb) → control_in v ≡ None → setting_at settings pin control.Pin ≡ Some old
        → setting_at (put_all settings (verb_writes graph settings nid v)) pin control.Pin ≡ Some (control_with (if nid == pin then control_in v else None) old)
    beside_set settings nid old v none there =
        beside_all (verb_writes graph settings nid v) settings (verb_beside settings nid v none)
        ∙ there
        ∙ sym (ap (λ (o : Option ℕ). Some (control_with (if nid == pin then o else None) old)) none ∙ ap (λ (o : Option ℕ). Some (control_with o old)) (if_none (nid == pin)))

    by_verb : (settings : Entries) (nid old : ℕ) (v : Verb) → setting_at settings pin control.Pin ≡ Some old
        → setting_at (put_all settings (verb_writes graph settings nid v)) pin control.Pin ≡ Some (control_with (if nid == pin then control_in v else None) old)
    by_verb settings nid old (verb.SetPin value) there = pin_set settings nid value old (nid == pin) refl there
    by_verb settings nid old v there = beside_set settings nid old v refl there

    pub reading_sets : (settings : Entries) (old : ℕ) (reading : Option Command) → setting_at settings pin control.Pin ≡ Some old
        → setting_at (after_reading graph settings reading) pin control.Pin ≡ Some (control_with (control_for pin reading) old)
    unfolding after writes_of
    reading_sets settings old None there = there
    reading_sets settings old (Some command) there = by_verb settings command.nid old command.verb there

    -- ---- all words

    later_with : (first later : Option ℕ) (old : ℕ) → control_with later (control_with first old) ≡ control_with (later_of first later) old
    later_with first None old = refl
    later_with first (Some value) old = refl

    pub words_set : (settings : Entries) (old : ℕ) (words : List ℕ) → setting_at settings pin control.Pin ≡ Some old
        → setting_at (settings_by graph settings words) pin control.Pin ≡ Some (control_with (last_control pin words) old)
    words_set settings old [] there = there
    words_set settings old (word ∷ words) there =
        let one = control_for pin (reading_of word) in
        words_set (after_reading graph settings (reading_of word)) (control_with one old) words (reading_sets settings old (reading_of word) there)
        ∙ ap (λ n. Some n) (later_with one (last_control pin words) old)

some_setting : (found : Option ℕ) → is_some found ≡ true → found ≡ Some (unwrap_or found 0)
some_setting None is = absurd (true≢false (sym is))
some_setting (Some n) is = refl

pub last_stands : (graph : RawCodec) (settings : Entries) (pin : ℕ) (words : List ℕ) → IsWellFormed graph → IsSettingsOf graph settings → has_control graph pin control.Pin ≡ true
    → setting_of (settings_by graph settings words) pin control.Pin ≡ control_with (last_control pin words) (setting_of settings pin control.Pin)
last_stands graph settings pin words well of has =
    let there = some_setting (setting_at settings pin control.Pin) (is_some-setting_at graph settings pin control.Pin well of.keys ∙ has) in
    ap (λ (o : Option ℕ). unwrap_or o 0) (words_set graph pin has settings (setting_of settings pin control.Pin) words there)
