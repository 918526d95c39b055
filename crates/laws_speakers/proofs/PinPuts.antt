-- What SetPin leaves of settings, and what it makes of its own pin's control.
use Rattle.std.proofs.Common.{◌≡◌, ◌≢◌, ◌==◌, ℕ, Bool, true, false, [], ◌∷◌, Option, None, Some, refl, sym, ap, ◌∙◌, if◌then◌else◌, arith}
use Rattle.std.specs.Prelude.{bit_and, is_some, unwrap_or}
use Rattle.std.proofs.lemmas.Bool.{eq-eqb, true≢false}
use Rattle.std.proofs.lemmas.Nat.Bits.{bit_at_and}
use Rattle.verb_codes.specs.declared.verbs.Command.{Command}
use Rattle.verb_codes.specs.declared.verbs.Verb.{Verb}
use Rattle.verb_codes.specs.declared.verbs.Verb.TheVariants.{SetPin}
use Rattle.verb_codes.specs.Words.{has_bit}
use Rattle.codec_graph.specs.declared.raw.RawNode.{RawNode}
use Rattle.codec_graph.specs.declared.raw.RawCodec.{RawCodec}
use Rattle.codec_graph.specs.declared.controls.Control.{Control}
use Rattle.codec_graph.specs.declared.controls.Control.TheVariants as control
use Rattle.codec_graph.specs.declared.controls.ControlKey.{ControlKey}
use Rattle.codec_graph.specs.declared.pin_kind.PinKind.{PinKind}
use Rattle.codec_graph.specs.Cycles.{IsWellFormed}
use Rattle.codec_graph.specs.Widget.{node_at, is_pin}
use Rattle.codec_graph.specs.Settings.{Entries, key, setting_at, setting_of, put_all, group_has, node_has, has_control, IsSettingsOf}
use Rattle.codec_graph.specs.VerbMeaning.{written, verb_writes, writes_of, after, pin_bits}
use Rattle.codec_graph.proofs.Callers.{is_some-setting_at, has_default}
use Rattle.codec_sound.specs.declared.signals.Signal.TheVariants.{Silence}
use Rattle.codec_sound.specs.declared.streams.LinkStream.{LinkStream}
use Rattle.codec_sound.specs.declared.sources.Sources.TheVariants.{Converters}
use Rattle.codec_sound.specs.Signals.{hears, out_from, signal_as}
use Rattle.heard_frames.specs.Marks.{control_in}
use Rattle.laws_settings.specs.PinControls.{control_with}
use Rattle.laws_settings.proofs.Callers.{other_key, put_elsewhere, reading_sets}
use Rattle.laws_speakers.specs.Pins.{AgreeBesidePins, is_enabled}
use Rattle.laws_speakers.proofs.Agreeing.{signal_same, off_silent}

-- ---- out enable is among the bits that a pin keeps

pub kept_bit : (value : ℕ) → has_bit (bit_and value pin_bits) 6 ≡ has_bit value 6
kept_bit value = ap (λ (n : ℕ). n == 1) (let both = bit_at_and value 0xE0 6 in omega (arith, both))

-- ---- one command

module _ (graph : RawCodec) (settings : Entries) (command : Command) (value : ℕ) (sets : command.verb ≡ SetPin value) where
  -- what it writes
  writes_are : after graph settings command ≡ put_all settings (written graph command.nid control.Pin (bit_and value pin_bits))
  unfolding after writes_of
  writes_are = ap (λ (v : Verb). put_all settings (verb_writes graph settings command.nid v)) sets

  elsewhere : (nid : ℕ) (c : Control) → key nid c ≢ key command.nid control.Pin → setting_at (after graph settings command) nid c ≡ setting_at settings nid c
  elsewhere nid c apart = ap (λ (s : Entries). setting_at s nid c) writes_are ∙ by (has_control graph command.nid control.Pin)
    where
      by : (has : Bool) → setting_at (put_all settings (if has then (key command.nid control.Pin, bit_and value pin_bits) ∷ [] else [])) nid c ≡ setting_at settings nid c
      by true = put_elsewhere settings (key command.nid control.Pin) (bit_and value pin_bits) nid c (other_key nid command.nid c control.Pin apart)
      by false = refl

  pub set_agrees : AgreeBesidePins settings (after graph settings command)
  set_agrees = record { same = λ nid c other. ap (λ (o : Option ℕ). unwrap_or o 0) (elsewhere nid c (λ e. other (ap (λ (k : ControlKey). k.control) e))) }

  -- of another pin's control
  pub set_other : (pin : ℕ) → pin ≢ command.nid → setting_at (after graph settings command) pin control.Pin ≡ setting_at settings pin control.Pin
  set_other pin other = elsewhere pin control.Pin (λ e. other (ap (λ (k : ControlKey). k.nid) e))

  -- and of its own pin's
  pub set_here : (old : ℕ) → has_control graph command.nid control.Pin ≡ true → setting_at settings command.nid control.Pin ≡ Some old
      → setting_at (after graph settings command) command.nid control.Pin ≡ Some (bit_and value pin_bits)
  set_here old has there =
      reading_sets graph command.nid has settings old (Some command) there
      ∙ ap (λ (here : Bool). Some (control_with (if here then control_in command.verb else None) old)) (eq-eqb command.nid command.nid refl)
      ∙ ap (λ (v : Verb). Some (control_with (control_in v) old)) sets

-- ---- pins

-- a pin of a well-formed graph has a control of its own
has_both : (graph : RawCodec) (nid : ℕ) → has_control graph nid control.Pin ≡ has_control graph nid control.Default
has_both graph nid = by (nid == graph.group) (node_at graph nid)
  where
    by : (group : Bool) (found : Option RawNode) → (if group then group_has control.Pin else node_has found control.Pin) ≡ (if group then group_has control.Default else node_has found control.Default)
    by true found = refl
    by false None = refl
    by false (Some node) = refl

-- a node without it hears nothing
pub no_pin : (kind : PinKind) (graph : RawCodec) (settings : Entries) (stream : LinkStream) (nid : ℕ) → IsWellFormed graph → has_control graph nid control.Pin ≡ false → signal_as kind graph settings stream nid ≡ Silence
no_pin kind graph settings stream nid well none = by (node_at graph nid) refl
  where
    by : (found : Option RawNode) → node_at graph nid ≡ found → hears kind graph settings (out_from (Converters kind stream) graph settings) nid found ≡ Silence
    by None there = refl
    by (Some node) there = at (is_pin node) refl
      where
        at : (pin : Bool) → is_pin node ≡ pin → hears kind graph settings (out_from (Converters kind stream) graph settings) nid (Some node) ≡ Silence
        at true is = let has = has_both graph nid ∙ has_default graph nid node well there is in cc
        at false is = rw is refl

-- the control of a pin that has one is set to some number
pub some_control : (graph : RawCodec) (settings : Entries) (nid : ℕ) → IsWellFormed graph → IsSettingsOf graph settings → has_control graph nid control.Pin ≡ true
    → setting_at settings nid control.Pin ≡ Some (setting_of settings nid control.Pin)
some_control graph settings nid well of has = by (setting_at settings nid control.Pin) (is_some-setting_at graph settings nid control.Pin well of.keys ∙ has)
  where
    by : (found : Option ℕ) → is_some found ≡ true → found ≡ Some (unwrap_or found 0)
    by None is = absurd (true≢false (sym is))
    by (Some n) is = refl

-- one whose output is enabled has it
pub enabled_has : (graph : RawCodec) (settings : Entries) (nid : ℕ) → IsWellFormed graph → IsSettingsOf graph settings → is_enabled settings nid ≡ true → has_control graph nid control.Pin ≡ true
enabled_has graph settings nid well of on = sym (is_some-setting_at graph settings nid control.Pin well of.keys) ∙ by (setting_at settings nid control.Pin) on
  where
    by : (found : Option ℕ) → has_bit (unwrap_or found 0) 6 ≡ true → is_some found ≡ true
    by None is = absurd (true≢false (sym is))
    by (Some n) is = refl

-- ---- the law

pub set_others : (kind : PinKind) (graph : RawCodec) (settings : Entries) (stream : LinkStream) (command : Command) (value pin : ℕ) → command.verb ≡ SetPin value → pin ≢ command.nid
    → signal_as kind graph (after graph settings command) stream pin ≡ signal_as kind graph settings stream pin
set_others kind graph settings stream command value pin sets other =
    signal_same kind graph settings (after graph settings command) stream (set_agrees graph settings command value sets) pin
    (ap (λ (o : Option ℕ). has_bit (unwrap_or o 0) 6) (set_other graph settings command value sets pin other))

-- the bit after a number was put
put_bit : (graph : RawCodec) (settings : Entries) (command : Command) (value : ℕ) → IsWellFormed graph → IsSettingsOf graph settings → command.verb ≡ SetPin value → has_control graph command.nid control.Pin ≡ true
    → is_enabled (after graph settings command) command.nid ≡ has_bit value 6
put_bit graph settings command value well of sets has =
    ap (λ (o : Option ℕ). has_bit (unwrap_or o 0) 6) (set_here graph settings command value sets (setting_of settings command.nid control.Pin) has (some_control graph settings command.nid well of has))
    ∙ kept_bit value

pub set_off : (kind : PinKind) (graph : RawCodec) (settings : Entries) (stream : LinkStream) (command : Command) (value : ℕ) → IsWellFormed graph → IsSettingsOf graph settings → command.verb ≡ SetPin value → has_bit value 6 ≡ false
    → signal_as kind graph (after graph settings command) stream command.nid ≡ Silence
set_off kind graph settings stream command value well of sets off = by (has_control graph command.nid control.Pin) refl
  where
    by : (has : Bool) → has_control graph command.nid control.Pin ≡ has → signal_as kind graph (after graph settings command) stream command.nid ≡ Silence
    by true has = off_silent kind graph (after graph settings command) stream command.nid (put_bit graph settings command value well of sets has ∙ off)
    by false none = no_pin kind graph (after graph settings command) stream command.nid well none

pub both_agree : (old middle new : Entries) → AgreeBesidePins old middle → AgreeBesidePins middle new → AgreeBesidePins old new
both_agree old middle new first second = record { same = λ nid c other. second.same nid c other ∙ first.same nid c other }

pub set_again : (kind : PinKind) (graph : RawCodec) (settings : Entries) (stream : LinkStream) (first second : Command) (low high : ℕ) → IsWellFormed graph → IsSettingsOf graph settings → first.verb ≡ SetPin low → second.verb ≡ SetPin high
    → second.nid ≡ first.nid → is_enabled settings first.nid ≡ true → has_bit high 6 ≡ true
    → signal_as kind graph (after graph (after graph settings first) second) stream first.nid ≡ signal_as kind graph settings stream first.nid
set_again kind graph settings stream first second low high well of off on same enabled high_on =
    signal_same kind graph settings (after graph (after graph settings first) second) stream
    (both_agree settings (after graph settings first) (after graph (after graph settings first) second) (set_agrees graph settings first low off) (set_agrees graph (after graph settings first) second high on)) first.nid
    (is_on_again ∙ sym enabled)
  where
    has : has_control graph first.nid control.Pin ≡ true
    has = enabled_has graph settings first.nid well of enabled

    middle : setting_at (after graph settings first) first.nid control.Pin ≡ Some (bit_and low pin_bits)
    middle = set_here graph settings first low off (setting_of settings first.nid control.Pin) has (some_control graph settings first.nid well of has)

    there : setting_at (after graph settings first) second.nid control.Pin ≡ Some (bit_and low pin_bits)
    there = ap (λ (n : ℕ). setting_at (after graph settings first) n control.Pin) same ∙ middle

    last : setting_at (after graph (after graph settings first) second) second.nid control.Pin ≡ Some (bit_and high pin_bits)
    last = set_here graph (after graph settings first) second high on (bit_and low pin_bits) (ap (λ (n : ℕ). has_control graph n control.Pin) same ∙ has) there

    is_on_again : is_enabled (after graph (after graph settings first) second) first.nid ≡ true
    is_on_again =
        ap (λ (n : ℕ). is_enabled (after graph (after graph settings first) second) n) (sym same)
        ∙ ap (λ (o : Option ℕ). has_bit (unwrap_or o 0) 6) last
        ∙ kept_bit high ∙ high_on
