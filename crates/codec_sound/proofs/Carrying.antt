-- What holds of the number of each signal that begins holds of that of each signal that a node gives.
use Rattle.std.proofs.Common.{◌≡◌, ℕ, zero, suc, ◌+◌, Bool, true, false, cond, ◌&&◌, not, List, [], ◌∷◌, Option, Some, None, refl}
use Rattle.std.specs.Prelude.{nat_lt}
use Rattle.codec_graph.specs.declared.raw.RawNode.{RawNode}
use Rattle.codec_graph.specs.declared.raw.RawCodec.{RawCodec}
use Rattle.codec_graph.specs.declared.controls.Control.TheVariants as control
use Rattle.codec_graph.specs.Widget.{node_at, is_mixer, is_selector, is_stereo, has_output_amplifier, has_input_amplifier, most_amplified, amplifier_offset, output_amplifier_word, input_amplifier_word}
use Rattle.codec_graph.specs.Settings.{Entries, setting_of}
use Rattle.codec_graph.specs.declared.pin_kind.PinKind.{PinKind}
use Rattle.codec_graph.specs.declared.pin_kind.PinKind.TheVariants.{Analog, Digital}
use Rattle.codec_sound.specs.declared.signals.Signal.{Signal}
use Rattle.codec_sound.specs.declared.signals.Signal.TheVariants.{Silence, Pair, Altered}
use Rattle.codec_sound.specs.declared.sources.Sources.{Sources}
use Rattle.codec_sound.specs.Amplifiers.{changed, changed_if, is_muted, is_neutral, amplified, after_output, after_input}
use Rattle.codec_sound.specs.Signals.{is_off, sum_of, mixed, mixed_as, selected_place, selected, passed_on, is_source, source_signal, source_kind, made_from, given_from_at, gives_from, within_from, out_from}

-- this holds of the signal's number, if it has one
abbrev pub Carries : (ℕ → Type 0) → Signal → Type 0
Carries P Silence = Unit {0}
Carries P (Pair number) = P number
Carries P Altered = Unit {0}

pub carries-mapped : (P Q : ℕ → Type 0) → ((number : ℕ) → P number → Q number) → (s : Signal) → Carries P s → Carries Q s
carries-mapped P Q f Silence h = tt
carries-mapped P Q f (Pair number) h = f number h
carries-mapped P Q f Altered h = tt

pub carries-changed : (P : ℕ → Type 0) (s : Signal) → Carries P (changed s)
carries-changed P Silence = tt
carries-changed P (Pair number) = tt
carries-changed P Altered = tt

-- of a choice where it holds of what is chosen
pub carries-chosen : (P : ℕ → Type 0) (b : Bool) (s t : Signal) → (b ≡ true → Carries P s) → (b ≡ false → Carries P t) → Carries P (cond b s t)
carries-chosen P true s t one other = one refl
carries-chosen P false s t one other = other refl

pub carries-cond : (P : ℕ → Type 0) (b : Bool) (s t : Signal) → Carries P s → Carries P t → Carries P (cond b s t)
carries-cond P b s t one other = carries-chosen P b s t (λ is. one) (λ is. other)

pub carries-changed_if : (P : ℕ → Type 0) (b : Bool) (s : Signal) → Carries P s → Carries P (changed_if b s)
carries-changed_if P b s h = carries-cond P b (changed s) s (carries-changed P s) h

carries-amplified : (P : ℕ → Type 0) (offset left right : ℕ) (s : Signal) → Carries P s → Carries P (amplified offset left right s)
carries-amplified P offset left right s h =
    carries-cond P (is_muted left && is_muted right) Silence _ tt (carries-changed_if P (not (is_neutral offset left && is_neutral offset right)) s h)

pub carries-after_output : (P : ℕ → Type 0) (codec : RawCodec) (settings : Entries) (nid : ℕ) (node : RawNode) (s : Signal) → Carries P s → Carries P (after_output codec settings nid node s)
carries-after_output P codec settings nid node s h =
    carries-cond P (has_output_amplifier node) _ s
    (carries-amplified P (amplifier_offset (output_amplifier_word codec node)) (setting_of settings nid control.OutLeft) (setting_of settings nid control.OutRight) s h) h

pub carries-after_input : (P : ℕ → Type 0) (codec : RawCodec) (settings : Entries) (nid : ℕ) (node : RawNode) (place : ℕ) (s : Signal) → Carries P s → Carries P (after_input codec settings nid node place s)
carries-after_input P codec settings nid node place s h =
    carries-cond P (has_input_amplifier node) _ s
    (carries-cond P (nat_lt place most_amplified) _ (changed s)
    (carries-amplified P (amplifier_offset (input_amplifier_word codec node)) (setting_of settings nid (control.InLeft place)) (setting_of settings nid (control.InRight place)) s h)
    (carries-changed P s)) h

carries-sum_of : (P : ℕ → Type 0) (s t : Signal) → Carries P s → Carries P t → Carries P (sum_of s t)
carries-sum_of P Silence t one other = other
carries-sum_of P (Pair number) Silence one other = one
carries-sum_of P (Pair number) (Pair number') one other = tt
carries-sum_of P (Pair number) Altered one other = tt
carries-sum_of P Altered t one other = tt

carries-mixed : (P : ℕ → Type 0) (codec : RawCodec) (settings : Entries) (f : ℕ → Signal) (nid : ℕ) (node : RawNode) (list : List ℕ) (place : ℕ) → ((to : ℕ) → Carries P (f to)) → Carries P (mixed codec settings f nid node place list)
carries-mixed P codec settings f nid node [] place all = tt
carries-mixed P codec settings f nid node (from ∷ list) place all =
    carries-sum_of P (after_input codec settings nid node place (f from)) (mixed codec settings f nid node (place + 1) list)
    (carries-after_input P codec settings nid node place (f from) (all from)) (carries-mixed P codec settings f nid node list (place + 1) all)

pub carries-passed_on : (P : ℕ → Type 0) (codec : RawCodec) (settings : Entries) (f : ℕ → Signal) (nid : ℕ) (node : RawNode) (o : Option ℕ) → ((to : ℕ) → Carries P (f to)) → Carries P (passed_on codec settings f nid node o)
carries-passed_on P codec settings f nid node None all = tt
carries-passed_on P codec settings f nid node (Some from) all = carries-after_input P codec settings nid node (selected_place settings nid node) (f from) (all from)

carries-mixed_as : (P : ℕ → Type 0) (kind : PinKind) (codec : RawCodec) (settings : Entries) (f : ℕ → Signal) (nid : ℕ) (node : RawNode) → ((to : ℕ) → Carries P (f to)) → Carries P (mixed_as kind codec settings f nid node)
carries-mixed_as P Analog codec settings f nid node all =
    carries-changed_if P (not (is_stereo node)) (mixed codec settings f nid node 0 node.list) (carries-mixed P codec settings f nid node node.list 0 all)
carries-mixed_as P Digital codec settings f nid node all = tt

module _ (P : ℕ → Type 0) (sources : Sources) (codec : RawCodec) (settings : Entries)
    (begins : (nid : ℕ) (node : RawNode) → node_at codec nid ≡ Some node → is_off codec settings nid node ≡ false → is_source sources node ≡ true → Carries P (source_signal sources codec settings nid node)) where
  carries-made : (f : ℕ → Signal) (nid : ℕ) (node : RawNode) → node_at codec nid ≡ Some node → is_off codec settings nid node ≡ false → ((to : ℕ) → Carries P (f to)) → Carries P (made_from sources codec settings f nid node)
  carries-made f nid node there on all =
      carries-chosen P (is_source sources node) _ _ (begins nid node there on) (λ other.
      carries-cond P (is_mixer node) _ _ (carries-mixed_as P (source_kind sources) codec settings f nid node all)
      (carries-cond P (is_selector node) _ Silence
      (carries-changed_if P (not (is_stereo node)) (passed_on codec settings f nid node (selected settings nid node)) (carries-passed_on P codec settings f nid node (selected settings nid node) all))
      tt))

  carries-given : (f : ℕ → Signal) (nid : ℕ) (o : Option RawNode) → node_at codec nid ≡ o → ((to : ℕ) → Carries P (f to)) → Carries P (given_from_at sources codec settings f nid o)
  carries-given f nid None there all = tt
  carries-given f nid (Some node) there all =
      carries-chosen P (is_off codec settings nid node) Silence _ (λ off. tt) (λ on.
      carries-after_output P codec settings nid node (made_from sources codec settings f nid node) (carries-made f nid node there on all))

  carries-gives : (f : ℕ → Signal) (nid : ℕ) → ((to : ℕ) → Carries P (f to)) → Carries P (gives_from sources codec settings f nid)
  unfolding gives_from
  carries-gives f nid all = carries-given f nid (node_at codec nid) refl all

  carries-within : (connections nid : ℕ) → Carries P (within_from sources codec settings connections nid)
  carries-within zero nid = tt
  carries-within (suc connections) nid = carries-gives (within_from sources codec settings connections) nid (λ to. carries-within connections to)

  pub carries-out : (nid : ℕ) → Carries P (out_from sources codec settings nid)
  unfolding out_from
  carries-out nid = carries-within 256 nid
