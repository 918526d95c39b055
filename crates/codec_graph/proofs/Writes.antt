-- What a command writes into settings.
use Rattle.std.proofs.Common.{◌≡◌, ◌<◌, ◌+◌, ◌%◌, ◌^◌, ◌&&◌, ℕ, Bool, true, false, cond, [], ◌∷◌, ◌++◌, Option, Some, None, IsTrue, refl, sym, ap, ◌∙◌, arith, lit<, zero, suc}
use Rattle.std.specs.Prelude.{is_some, unwrap_or, All, min, nat_lt}
use Rattle.std.specs.BTreeMap.{is_at}
use Rattle.std.specs.Map.{keys_of}
use Rattle.std.proofs.lemmas.Bool.{ltb-true, true≢false}
use Rattle.std.proofs.lemmas.List.Elements.{All-nil, All-cons, All-head, All-tail, All-append}
use Rattle.std.proofs.lemmas.List.Sums.{fold-append}
use Rattle.std.proofs.lemmas.Map.{keys-set_value}
use Rattle.std.proofs.lemmas.Nat.{and_le_l}
use Rattle.codec_graph.specs.declared.raw.RawCodec.{RawCodec}
use Rattle.codec_graph.specs.declared.controls.Control.{Control}
use Rattle.codec_graph.specs.declared.controls.Control.TheVariants.{Select, Power, Stream, Pin, Unsol, Eapd, Digital, Default, Format, OutLeft, OutRight, InLeft, InRight}
use Rattle.codec_graph.specs.declared.controls.ControlKey.{ControlKey}
use Rattle.codec_graph.specs.Cycles.{IsWellFormed}
use Rattle.codec_graph.specs.Widget.{node_at, amplifier_steps, can_mute}
use Rattle.codec_graph.specs.Settings.{Entries, key, key_cmp, setting_at, setting_of, put, put_all, has_control, controls_of, IsSetting, IsSettingsOf}
use Rattle.codec_graph.specs.VerbMeaning.{written, written_side, node_connections, node_output_word, node_input_word, kept_amplifier, amplifier_writes, with_byte, verb_writes, writes_of, after}
use Rattle.codec_graph.proofs.Maps.{set_value-absent}
use Rattle.codec_graph.proofs.Openings.{each-put}
use Rattle.codec_graph.proofs.Controlled.{is_some-setting_at}
use Rattle.verb_codes.specs.declared.verbs.Command.{Command}
use Rattle.verb_codes.specs.declared.verbs.Verb.{Verb}
use Rattle.verb_codes.specs.declared.verbs.Verb.TheVariants.{GetParam, GetSelect, GetList, GetPower, GetStream, GetPin, GetUnsol, GetSense, GetEapd, GetDigital, GetDefault, GetFormat, GetAmp, SetSelect, SetPower, SetStream, SetPin, SetUnsol, SetEapd, SetDigital, SetDefault, SetFormat, SetAmp}
use Rattle.verb_codes.specs.declared.amplifiers.AmpSetting.{AmpSetting}
use Rattle.verb_codes.specs.Amplifiers as amplifiers
use Rattle.verb_codes.specs.Verbs.{is_verb_in_range}
use Rattle.verb_codes.proofs.Callers.{payload-lt, allowed-of}

nothing : {X : Type 0} (o : Option X) → is_some o ≡ false → o ≡ None
nothing None e = refl
nothing (Some x) e = cc

-- what is written where the node has the control is put, since settings have no other control
pub put_all_written : (codec : RawCodec) (settings : Entries) (nid : ℕ) (control : Control) (value : ℕ) → IsWellFormed codec → keys_of settings ≡ controls_of codec → put_all settings (written codec nid control value) ≡ put settings (key nid control) value
put_all_written codec settings nid control value well keys = by (has_control codec nid control) refl
  where
    by : (b : Bool) → has_control codec nid control ≡ b → put_all settings (cond b ((key nid control, value) ∷ []) []) ≡ put settings (key nid control) value
    by true e = refl
    by false e =
        sym (set_value-absent _ settings value (nothing (setting_at settings nid control) (is_some-setting_at codec settings nid control well keys ∙ e)))

-- numbers put in turn
pub put_all-append : (settings some more : Entries) → put_all settings (some ++ more) ≡ put_all (put_all settings some) more
put_all-append settings some more = fold-append (λ (entries : Entries) (write : ControlKey × ℕ). put entries write.0 write.1) settings some more

pub keys-put_all : (settings writes : Entries) → keys_of (put_all settings writes) ≡ keys_of settings
keys-put_all settings [] = refl
keys-put_all settings (write ∷ writes) =
    keys-put_all (put settings write.0 write.1) writes ∙ keys-set_value (is_at (key_cmp write.0)) settings write.1

pub each-put_all : (settings writes : Entries) → All IsSetting settings → All IsSetting writes → All IsSetting (put_all settings writes)
each-put_all settings [] each writes-each = each
each-put_all settings (write ∷ writes) each writes-each =
    each-put_all (put settings write.0 write.1) writes (each-put settings write.0 write.1 each (All-head IsSetting write writes writes-each)) (All-tail IsSetting write writes writes-each)

-- one side of an amplifier
side : (codec : RawCodec) (before now : Entries) (nid : ℕ) (named : Bool) (control : Control) (value : ℕ) → IsWellFormed codec → keys_of before ≡ controls_of codec → now ≡ cond named (put before (key nid control) value) before → (now ≡ put_all before (written_side codec nid named control value)) × (keys_of now ≡ controls_of codec)
side codec before now nid named control value well keys e =
    let same = e ∙ sym (by named) in
    (same, ap (λ (entries : Entries). keys_of entries) same ∙ keys-put_all before (written_side codec nid named control value) ∙ keys)
  where
    by : (b : Bool) → put_all before (written_side codec nid b control value) ≡ cond b (put before (key nid control) value) before
    by true = put_all_written codec before nid control value well keys
    by false = refl

-- what is written to the sides that are named, at these numbers for the output and the input amplifier
abbrev pub sides_with : RawCodec → ℕ → AmpSetting → ℕ → ℕ → Entries
sides_with codec nid setting output input =
    written_side codec nid (setting.output && setting.left) OutLeft output
    ++ (written_side codec nid (setting.output && setting.right) OutRight output
    ++ (written_side codec nid (setting.input && setting.left) (InLeft setting.place) input
    ++ written_side codec nid (setting.input && setting.right) (InRight setting.place) input))

-- the sides of both amplifiers
pub sides-put : (codec : RawCodec) (before one two three four : Entries) (nid : ℕ) (setting : AmpSetting) (output input : ℕ) → IsWellFormed codec → keys_of before ≡ controls_of codec
    → one ≡ cond (setting.output && setting.left) (put before (key nid OutLeft) output) before
    → two ≡ cond (setting.output && setting.right) (put one (key nid OutRight) output) one
    → three ≡ cond (setting.input && setting.left) (put two (key nid (InLeft setting.place)) input) two
    → four ≡ cond (setting.input && setting.right) (put three (key nid (InRight setting.place)) input) three
    → four ≡ put_all before (sides_with codec nid setting output input)
sides-put codec before one two three four nid setting output input well keys e1 e2 e3 e4 =
    let w1 = written_side codec nid (setting.output && setting.left) OutLeft output in
    let w2 = written_side codec nid (setting.output && setting.right) OutRight output in
    let w3 = written_side codec nid (setting.input && setting.left) (InLeft setting.place) input in
    let w4 = written_side codec nid (setting.input && setting.right) (InRight setting.place) input in
    let a = side codec before one nid (setting.output && setting.left) OutLeft output well keys e1 in
    let b = side codec one two nid (setting.output && setting.right) OutRight output well a.1 e2 in
    let c = side codec two three nid (setting.input && setting.left) (InLeft setting.place) input well b.1 e3 in
    let d = side codec three four nid (setting.input && setting.right) (InRight setting.place) input well c.1 e4 in
    d.0 ∙ further two three w3 w4 c.0 ∙ further one two w2 (w3 ++ w4) b.0 ∙ further before one w1 (w2 ++ (w3 ++ w4)) a.0
  where
    further : (from to writes rest : Entries) → to ≡ put_all from writes → put_all to rest ≡ put_all from (writes ++ rest)
    further from to writes rest e = ap (λ (entries : Entries). put_all entries rest) e ∙ sym (put_all-append from writes rest)

each-written : (codec : RawCodec) (nid : ℕ) (control : Control) (value : ℕ) → IsSetting (key nid control, value) → All IsSetting (written codec nid control value)
each-written codec nid control value is = by (has_control codec nid control)
  where
    by : (b : Bool) → All IsSetting (cond b ((key nid control, value) ∷ []) [])
    by true = All-cons IsSetting (key nid control, value) [] is (All-nil IsSetting)
    by false = All-nil IsSetting

each-side : (codec : RawCodec) (nid : ℕ) (named : Bool) (control : Control) (value : ℕ) → IsSetting (key nid control, value) → All IsSetting (written_side codec nid named control value)
each-side codec nid true control value is = each-written codec nid control value is
each-side codec nid false control value is = All-nil IsSetting

-- a control other than the power state is set to any number of 32 bits
is_power : Control → Bool
is_power Power = true
is_power _ = false

plain : (nid : ℕ) (control : Control) (value : ℕ) → is_power control ≡ false → value < 2 ^ 32 → IsSetting (key nid control, value)
unfolding is_power
plain nid control value other fits = record { narrow = fits; state = λ e. absurd (true≢false (sym (ap is_power e) ∙ other)) }

-- a setting has 32 bits
pub narrow_of : (settings : Entries) (nid : ℕ) (control : Control) → All IsSetting settings → setting_of settings nid control < 2 ^ 32
narrow_of [] nid control each = lit< tt
narrow_of (entry ∷ settings) nid control each =
    by (is_at (key_cmp (key nid control)) entry.0) (narrow_of settings nid control (All-tail IsSetting entry settings each))
  where
    by : (b : Bool) → setting_of settings nid control < 2 ^ 32 → unwrap_or (cond b (Some entry.1) (setting_at settings nid control)) 0 < 2 ^ 32
    by true rest = (All-head IsSetting entry settings each).narrow
    by false rest = rest

with_byte-narrow : (word place byte : ℕ) → word < 2 ^ 32 → place < 4 → byte < 2 ^ 8 → with_byte word place byte < 2 ^ 32
with_byte-narrow word zero byte w p b = omega arith
with_byte-narrow word (suc zero) byte w p b = omega arith
with_byte-narrow word (suc (suc zero)) byte w p b = omega arith
with_byte-narrow word (suc (suc (suc zero))) byte w p b = omega arith
with_byte-narrow word (suc (suc (suc (suc n)))) byte w p b = absurd (omega arith)

kept-narrow : (word payload : ℕ) → kept_amplifier word (amplifiers.setting_of payload) < 2 ^ 32
kept-narrow word payload = by ((amplifiers.setting_of payload).mute && can_mute word)
  where
    by : (b : Bool) → min (amplifiers.setting_of payload).gain (amplifier_steps word) + cond b (2 ^ 7) 0 < 2 ^ 32
    by true = omega arith
    by false = omega arith

each-amplifier : (codec : RawCodec) (nid payload : ℕ) → All IsSetting (amplifier_writes codec nid (amplifiers.setting_of payload))
unfolding is_power
each-amplifier codec nid payload =
    let s = amplifiers.setting_of payload in
    let output = kept_amplifier (node_output_word codec (node_at codec nid)) s in
    let input = kept_amplifier (node_input_word codec (node_at codec nid)) s in
    let w1 = written_side codec nid (s.output && s.left) OutLeft output in
    let w2 = written_side codec nid (s.output && s.right) OutRight output in
    let w3 = written_side codec nid (s.input && s.left) (InLeft s.place) input in
    let w4 = written_side codec nid (s.input && s.right) (InRight s.place) input in
    let narrow_output = kept-narrow (node_output_word codec (node_at codec nid)) payload in
    let narrow_input = kept-narrow (node_input_word codec (node_at codec nid)) payload in
    let e1 = each-side codec nid (s.output && s.left) OutLeft output (plain nid OutLeft output refl narrow_output) in
    let e2 = each-side codec nid (s.output && s.right) OutRight output (plain nid OutRight output refl narrow_output) in
    let e3 = each-side codec nid (s.input && s.left) (InLeft s.place) input (plain nid (InLeft s.place) input refl narrow_input) in
    let e4 = each-side codec nid (s.input && s.right) (InRight s.place) input (plain nid (InRight s.place) input refl narrow_input) in
    All-append IsSetting w1 (w2 ++ (w3 ++ w4)) e1 (All-append IsSetting w2 (w3 ++ w4) e2 (All-append IsSetting w3 w4 e3 e4))

-- a verb in its ranges writes settings
pub each-verb_writes : (codec : RawCodec) (settings : Entries) (nid : ℕ) (verb : Verb) → All IsSetting settings → IsTrue (is_verb_in_range verb) → All IsSetting (verb_writes codec settings nid verb)
unfolding is_power
each-verb_writes codec settings nid (SetSelect place) each h = by (nat_lt place (node_connections (node_at codec nid)))
  where
    by : (b : Bool) → All IsSetting (cond b (written codec nid Select place) [])
    by true = let p = payload-lt (SetSelect place) h in each-written codec nid Select place (plain nid Select place refl (omega arith))
    by false = All-nil IsSetting
each-verb_writes codec settings nid (SetPower state) each h =
    each-written codec nid Power (state % 4) (record { narrow = omega arith; state = λ e. omega arith })
each-verb_writes codec settings nid (SetStream stream) each h =
    let p = payload-lt (SetStream stream) h in each-written codec nid Stream stream (plain nid Stream stream refl (omega arith))
each-verb_writes codec settings nid (SetPin control) each h =
    let p = payload-lt (SetPin control) h in each-written codec nid Pin _ (plain nid Pin _ refl (omega (arith, and_le_l control 0xE0)))
each-verb_writes codec settings nid (SetUnsol control) each h =
    let p = payload-lt (SetUnsol control) h in each-written codec nid Unsol _ (plain nid Unsol _ refl (omega (arith, and_le_l control 0xBF)))
each-verb_writes codec settings nid (SetEapd control) each h =
    let p = payload-lt (SetEapd control) h in each-written codec nid Eapd _ (plain nid Eapd _ refl (omega (arith, and_le_l control 0x02)))
each-verb_writes codec settings nid (SetDigital control) each h =
    let p = payload-lt (SetDigital control) h in each-written codec nid Digital control (plain nid Digital control refl (omega arith))
each-verb_writes codec settings nid (SetDefault place byte) each h =
    let p : byte < 2 ^ 8 = payload-lt (SetDefault place byte) h in
    let q : place < 4 = ltb-true place 4 (allowed-of (SetDefault place byte) h) in
    each-written codec nid Default _ (plain nid Default _ refl (with_byte-narrow (setting_of settings nid Default) place byte (narrow_of settings nid Default each) q p))
each-verb_writes codec settings nid (SetFormat format) each h =
    let p = payload-lt (SetFormat format) h in each-written codec nid Format format (plain nid Format format refl (omega arith))
each-verb_writes codec settings nid (SetAmp payload) each h = each-amplifier codec nid payload
each-verb_writes codec settings nid (GetParam number) each h = All-nil IsSetting
each-verb_writes codec settings nid GetSelect each h = All-nil IsSetting
each-verb_writes codec settings nid (GetList place) each h = All-nil IsSetting
each-verb_writes codec settings nid GetPower each h = All-nil IsSetting
each-verb_writes codec settings nid GetStream each h = All-nil IsSetting
each-verb_writes codec settings nid GetPin each h = All-nil IsSetting
each-verb_writes codec settings nid GetUnsol each h = All-nil IsSetting
each-verb_writes codec settings nid GetSense each h = All-nil IsSetting
each-verb_writes codec settings nid GetEapd each h = All-nil IsSetting
each-verb_writes codec settings nid GetDigital each h = All-nil IsSetting
each-verb_writes codec settings nid GetDefault each h = All-nil IsSetting
each-verb_writes codec settings nid GetFormat each h = All-nil IsSetting
each-verb_writes codec settings nid (GetAmp side) each h = All-nil IsSetting

-- the settings after a command are still those of the codec
pub IsSettingsOf-after : (codec : RawCodec) (settings : Entries) (command : Command) → IsSettingsOf codec settings → IsTrue (is_verb_in_range command.verb) → IsSettingsOf codec (after codec settings command)
unfolding after writes_of
IsSettingsOf-after codec settings command of_codec h = record {
  keys = keys-put_all settings (verb_writes codec settings command.nid command.verb) ∙ of_codec.keys;
  each = each-put_all settings (verb_writes codec settings command.nid command.verb) of_codec.each (each-verb_writes codec settings command.nid command.verb of_codec.each h);
}
