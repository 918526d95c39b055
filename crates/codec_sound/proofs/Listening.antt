-- What an input converter hears of a pin: both are on, and the pin is an analog one of two channels that takes sound in.
use Rattle.std.proofs.Common.{◌≡◌, ℕ, Bool, true, false, ◌==◌, ◌||◌, not, Option, Some, None, refl, sym, subst}
use Rattle.std.proofs.lemmas.Bool.{or_parts, eqb-true}
use Rattle.codec_graph.specs.declared.raw.RawNode.{RawNode}
use Rattle.codec_graph.specs.declared.raw.RawCodec.{RawCodec}
use Rattle.codec_graph.specs.Widget.{node_at, is_input_converter, is_pin, is_stereo, is_digital}
use Rattle.codec_graph.specs.Settings.{Entries}
use Rattle.codec_sound.specs.declared.signals.Signal.{Signal}
use Rattle.codec_sound.specs.declared.signals.Signal.TheVariants as signal
use Rattle.codec_sound.specs.declared.sources.Sources.TheVariants.{Pins}
use Rattle.codec_sound.specs.declared.in_heard.InHeard.TheVariants.{Pin}
use Rattle.codec_sound.specs.Amplifiers.{changed, after_output, after_input}
use Rattle.codec_sound.specs.Signals.{is_off, is_listening_pin, taken_in, selected, passed_on}
use Rattle.codec_sound.specs.Inward.{in_out, converter_hears, hears_in, hears_in_at, in_heard_of, in_signal_of, IsListening, IsHearing}
use Rattle.codec_sound.proofs.Carrying.{Carries, carries-mapped, carries-changed, carries-chosen, carries-after_output, carries-after_input, carries-passed_on, carries-out}

not_false : (b : Bool) → not b ≡ false → b ≡ true
not_false true e = refl
not_false false e = cc

-- what a pin makes of its own sound, where it is on
taken_in-listening : (codec : RawCodec) (settings : Entries) (nid : ℕ) (node : RawNode) → node_at codec nid ≡ Some node → is_off codec settings nid node ≡ false → is_pin node ≡ true → Carries (IsListening codec settings) (taken_in codec settings nid node)
taken_in-listening codec settings nid node there on pin =
    carries-chosen P (is_listening_pin settings nid node) _ signal.Silence (λ enabled.
    carries-chosen P (not (is_stereo node) || is_digital node) (changed own) own (λ changes. carries-changed P own) (λ same.
    let parts = or_parts (not (is_stereo node)) (is_digital node) same in
    carries-after_input P codec settings nid node 0 (signal.Pair nid) (record {
      node = node;
      there = there;
      pin = pin;
      stereo = not_false (is_stereo node) parts.0;
      analog = parts.1;
      on = on;
      enabled = enabled;
    })))
    (λ silent. tt) where
      P : ℕ → Type 0
      P = IsListening codec settings

      own : Signal
      own = after_input codec settings nid node 0 (signal.Pair nid)

in_out-listening : (codec : RawCodec) (settings : Entries) (nid : ℕ) → Carries (IsListening codec settings) (in_out codec settings nid)
in_out-listening codec settings = carries-out (IsListening codec settings) Pins codec settings (taken_in-listening codec settings)

-- what an input converter hears, where it is on
passed_in : (codec : RawCodec) (settings : Entries) (nid : ℕ) (node : RawNode) → Carries (IsListening codec settings) (after_output codec settings nid node (passed_on codec settings (in_out codec settings) nid node (selected settings nid node)))
passed_in codec settings nid node =
    carries-after_output (IsListening codec settings) codec settings nid node (passed_on codec settings (in_out codec settings) nid node (selected settings nid node))
    (carries-passed_on (IsListening codec settings) codec settings (in_out codec settings) nid node (selected settings nid node) (in_out-listening codec settings))

hears_in-listening : (codec : RawCodec) (settings : Entries) (nid : ℕ) (o : Option RawNode) → node_at codec nid ≡ o → Carries (λ pin. IsListening codec settings pin × IsHearing codec settings nid) (hears_in codec settings (in_out codec settings) nid o)
hears_in-listening codec settings nid None there = tt
hears_in-listening codec settings nid (Some node) there =
    carries-chosen P (is_input_converter node) (converter_hears codec settings (in_out codec settings) nid node) signal.Silence (λ converter.
    carries-chosen P (is_off codec settings nid node) signal.Silence passed (λ off. tt) (λ on.
    carries-mapped (IsListening codec settings) P (λ pin listening. (listening, record { node = node; there = there; converter = converter; on = on })) passed
    (passed_in codec settings nid node)))
    (λ other. tt) where
      P : ℕ → Type 0
      P pin = IsListening codec settings pin × IsHearing codec settings nid

      passed : Signal
      passed = after_output codec settings nid node (passed_on codec settings (in_out codec settings) nid node (selected settings nid node))

-- a signal that is heard of a pin has its number
pin_heard : (s : Signal) (nid : ℕ) → in_heard_of s ≡ Pin nid → s ≡ signal.Pair nid
pin_heard signal.Silence nid e = cc
pin_heard (signal.Pair number) nid e = cc
pin_heard signal.Altered nid e = cc

pub heard_pin : (codec : RawCodec) (settings : Entries) (converter nid : ℕ) → in_signal_of codec settings converter ≡ Pin nid → IsListening codec settings nid × IsHearing codec settings converter
heard_pin codec settings converter nid heard =
    let P : ℕ → Type 0 = λ pin. IsListening codec settings pin × IsHearing codec settings converter in
    subst (Carries P) (pin_heard (hears_in_at codec settings (in_out codec settings) converter) nid heard)
    (hears_in-listening codec settings converter (node_at codec converter) refl)

-- a converter that is no output converter is an input converter
pub input_converter : (type : ℕ) → (type == 0 || type == 1) ≡ true → not (type == 0) ≡ (type == 1)
input_converter type converter = by (type == 0) refl where
  other : (b c : Bool) → b ≡ false → (b || c) ≡ true → not b ≡ c
  other true c e h = cc
  other false c e h = sym h

  by : (b : Bool) → (type == 0) ≡ b → not (type == 0) ≡ (type == 1)
  by true output = let is : type ≡ 0 = eqb-true type 0 output in rw is refl
  by false input = other (type == 0) (type == 1) input converter
