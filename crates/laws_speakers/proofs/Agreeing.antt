-- Settings that differ in the controls of pins alone give the same signals, but for the pins that are silent by them.
use Rattle.std.proofs.Common.{◌≡◌, ◌==◌, ◌&&◌, ◌||◌, not, ◌%◌, ◌+◌, ℕ, zero, suc, Bool, true, false, List, [], ◌∷◌, length, Option, None, Some, refl, ap, ap₂, ◌∙◌, if◌then◌else◌, nat_lt}
use Rattle.std.specs.Prelude.{slice_get}
use Rattle.verb_codes.specs.Words.{has_bit, bits_of}
use Rattle.codec_graph.specs.declared.raw.RawNode.{RawNode}
use Rattle.codec_graph.specs.declared.raw.RawCodec.{RawCodec}
use Rattle.codec_graph.specs.declared.controls.Control.TheVariants as control
use Rattle.codec_graph.specs.declared.pin_kind.PinKind.{PinKind}
use Rattle.codec_graph.specs.declared.pin_kind.PinKind.TheVariants.{Analog, Digital}
use Rattle.codec_graph.specs.Widget.{node_at, is_output_converter, is_mixer, is_selector, is_pin, is_stereo, has_power_control, most_amplified, has_input_amplifier, has_output_amplifier, input_amplifier_word, output_amplifier_word, amplifier_offset}
use Rattle.codec_graph.specs.Settings.{Entries, setting_of, has_eapd}
use Rattle.codec_sound.specs.declared.signals.Signal.{Signal}
use Rattle.codec_sound.specs.declared.signals.Signal.TheVariants.{Silence, Pair, Altered}
use Rattle.codec_sound.specs.declared.streams.LinkStream.{LinkStream}
use Rattle.codec_sound.specs.declared.sources.Sources.TheVariants.{Converters}
use Rattle.codec_sound.specs.Amplifiers.{changed, changed_if, amplified, after_output, after_input}
use Rattle.codec_sound.specs.Signals.{is_off, takes, takes_as, is_foreign, converts_otherwise, pair_from, channel_at, converted, sum_of, mixed, selected_place, selected, passed_on, mixed_as, made_from, given_from, given_from_at, gives_from, within_from, out_from, is_silent_pin, comes_from, pin_hears, hears, signal_as}
use Rattle.laws_speakers.specs.Pins.{AgreeBesidePins, is_enabled}

module _ (kind : PinKind) (graph : RawCodec) (old new : Entries) (stream : LinkStream) (agree : AgreeBesidePins old new) where
  off_same : (nid : ℕ) (node : RawNode) → is_off graph new nid node ≡ is_off graph old nid node
  off_same nid node =
      ap₂ (λ (a b : ℕ). not (a == 0) || (has_power_control node && not (b == 0))) (agree.same graph.group control.Power (λ e. cc)) (agree.same nid control.Power (λ e. cc))

  -- ---- converters

  takes_same : (nid : ℕ) → takes new stream nid ≡ takes old stream nid
  takes_same nid = ap (λ (n : ℕ). not (bits_of n 4 4 == 0) && (bits_of n 4 4 == stream.tag)) (agree.same nid control.Stream (λ e. cc))

  takes_as_same : (kind : PinKind) (nid : ℕ) → takes_as kind new stream nid ≡ takes_as kind old stream nid
  takes_as_same Analog nid = takes_same nid
  takes_as_same Digital nid = ap₂ (λ (a b : Bool). a && b) (takes_same nid) (ap (λ (n : ℕ). has_bit n 0) (agree.same nid control.Digital (λ e. cc)))

  converts_same : (nid : ℕ) (node : RawNode) → converts_otherwise kind new stream nid node ≡ converts_otherwise kind old stream nid node
  converts_same nid node =
      ap₂ (λ (f c : ℕ). not (f == stream.word) || is_foreign kind node || not (is_stereo node) || (bits_of c 0 4 % 2 == 1 && nat_lt (bits_of c 0 4) stream.channels))
      (agree.same nid control.Format (λ e. cc)) (agree.same nid control.Stream (λ e. cc))

  converted_same : (nid : ℕ) (node : RawNode) → converted kind new stream nid node ≡ converted kind old stream nid node
  converted_same nid node =
      ap (λ (t : Bool). if t then (if converts_otherwise kind new stream nid node then Altered else pair_from stream (channel_at new nid)) else Silence) (takes_as_same kind nid)
      ∙ ap (λ (b : Bool). if takes_as kind old stream nid then (if b then Altered else pair_from stream (channel_at new nid)) else Silence) (converts_same nid node)
      ∙ ap (λ (n : ℕ). if takes_as kind old stream nid then (if converts_otherwise kind old stream nid node then Altered else pair_from stream (bits_of n 0 4)) else Silence) (agree.same nid control.Stream (λ e. cc))

  -- ---- amplifiers and choices

  output_same : (nid : ℕ) (node : RawNode) (signal : Signal) → after_output graph new nid node signal ≡ after_output graph old nid node signal
  output_same nid node signal =
      ap₂ (λ (l r : ℕ). if has_output_amplifier node then amplified (amplifier_offset (output_amplifier_word graph node)) l r signal else signal)
      (agree.same nid control.OutLeft (λ e. cc)) (agree.same nid control.OutRight (λ e. cc))

  input_same : (nid : ℕ) (node : RawNode) (place : ℕ) (signal : Signal) → after_input graph new nid node place signal ≡ after_input graph old nid node place signal
  input_same nid node place signal =
      ap₂ (λ (l r : ℕ). if has_input_amplifier node then (if nat_lt place most_amplified then amplified (amplifier_offset (input_amplifier_word graph node)) l r signal else changed signal) else signal)
      (agree.same nid (control.InLeft place) (λ e. cc)) (agree.same nid (control.InRight place) (λ e. cc))

  place_same : (nid : ℕ) (node : RawNode) → selected_place new nid node ≡ selected_place old nid node
  place_same nid node = ap (λ (n : ℕ). if length node.list == 1 then 0 else n) (agree.same nid control.Select (λ e. cc))

  selected_same : (nid : ℕ) (node : RawNode) → selected new nid node ≡ selected old nid node
  selected_same nid node = ap (slice_get node.list) (place_same nid node)

  -- ---- widgets

  module _ (out out' : ℕ → Signal) (same_out : (nid : ℕ) → out' nid ≡ out nid) where
    mixed_same : (nid : ℕ) (node : RawNode) (place : ℕ) (list : List ℕ) → mixed graph new out' nid node place list ≡ mixed graph old out nid node place list
    mixed_same nid node place [] = refl
    mixed_same nid node place (from ∷ list) =
        ap₂ sum_of (input_same nid node place (out' from) ∙ ap (after_input graph old nid node place) (same_out from)) (mixed_same nid node (place + 1) list)

    passed_by : (nid : ℕ) (node : RawNode) (found : Option ℕ) → passed_on graph new out' nid node found ≡ passed_on graph old out nid node found
    passed_by nid node None = refl
    passed_by nid node (Some from) =
        input_same nid node (selected_place new nid node) (out' from)
        ∙ ap (λ (place : ℕ). after_input graph old nid node place (out' from)) (place_same nid node)
        ∙ ap (after_input graph old nid node (selected_place old nid node)) (same_out from)

    passed_same : (nid : ℕ) (node : RawNode) → passed_on graph new out' nid node (selected new nid node) ≡ passed_on graph old out nid node (selected old nid node)
    passed_same nid node = ap (passed_on graph new out' nid node) (selected_same nid node) ∙ passed_by nid node (selected old nid node)

    mixed_as_same : (kind : PinKind) (nid : ℕ) (node : RawNode) → mixed_as kind graph new out' nid node ≡ mixed_as kind graph old out nid node
    mixed_as_same Analog nid node = ap (changed_if (not (is_stereo node))) (mixed_same nid node 0 node.list)
    mixed_as_same Digital nid node = refl

    chosen : (a b c : Bool) (x x' y y' z z' : Signal) → x' ≡ x → y' ≡ y → z' ≡ z → (if a then x' else (if b then y' else (if c then z' else Silence))) ≡ (if a then x else (if b then y else (if c then z else Silence)))
    chosen true b c x x' y y' z z' one two three = one
    chosen false true c x x' y y' z z' one two three = two
    chosen false false true x x' y y' z z' one two three = three
    chosen false false false x x' y y' z z' one two three = refl

    made_same : (nid : ℕ) (node : RawNode) → made_from (Converters kind stream) graph new out' nid node ≡ made_from (Converters kind stream) graph old out nid node
    made_same nid node =
        chosen (is_output_converter node) (is_mixer node) (is_selector node) _ _ _ _ _ _ (converted_same nid node) (mixed_as_same kind nid node)
        (ap (changed_if (not (is_stereo node))) (passed_same nid node))

    given_same : (nid : ℕ) (node : RawNode) → given_from (Converters kind stream) graph new out' nid node ≡ given_from (Converters kind stream) graph old out nid node
    given_same nid node =
        ap (λ (off : Bool). if off then Silence else after_output graph new nid node (made_from (Converters kind stream) graph new out' nid node)) (off_same nid node)
        ∙ ap (λ (signal : Signal). if is_off graph old nid node then Silence else signal)
        (output_same nid node (made_from (Converters kind stream) graph new out' nid node) ∙ ap (after_output graph old nid node) (made_same nid node))

    given_at_same : (nid : ℕ) (found : Option RawNode) → given_from_at (Converters kind stream) graph new out' nid found ≡ given_from_at (Converters kind stream) graph old out nid found
    given_at_same nid None = refl
    given_at_same nid (Some node) = given_same nid node

    gives_same : (nid : ℕ) → gives_from (Converters kind stream) graph new out' nid ≡ gives_from (Converters kind stream) graph old out nid
    unfolding gives_from
    gives_same nid = given_at_same nid (node_at graph nid)

  within_same : (connections nid : ℕ) → within_from (Converters kind stream) graph new connections nid ≡ within_from (Converters kind stream) graph old connections nid
  within_same zero nid = refl
  within_same (suc connections) nid =
      gives_same (within_from (Converters kind stream) graph old connections) (within_from (Converters kind stream) graph new connections) (within_same connections) nid

  out_same : (nid : ℕ) → out_from (Converters kind stream) graph new nid ≡ out_from (Converters kind stream) graph old nid
  unfolding out_from
  out_same nid = within_same 256 nid

  -- ---- pins

  silent_same : (nid : ℕ) (node : RawNode) → is_enabled new nid ≡ is_enabled old nid → is_silent_pin graph new nid node ≡ is_silent_pin graph old nid node
  silent_same nid node enabled =
      ap (λ (off : Bool). off || not (is_enabled new nid) || not (has_bit node.pin_caps 4) || (has_eapd node && not (has_bit (setting_of new nid control.Eapd) 1))) (off_same nid node)
      ∙ ap (λ (on : Bool). is_off graph old nid node || not on || not (has_bit node.pin_caps 4) || (has_eapd node && not (has_bit (setting_of new nid control.Eapd) 1))) enabled
      ∙ ap (λ (n : ℕ). is_off graph old nid node || not (is_enabled old nid) || not (has_bit node.pin_caps 4) || (has_eapd node && not (has_bit n 1))) (agree.same nid control.Eapd (λ e. cc))

  comes_same : (found : Option ℕ) → comes_from (out_from (Converters kind stream) graph new) found ≡ comes_from (out_from (Converters kind stream) graph old) found
  comes_same None = refl
  comes_same (Some from) = out_same from

  pin_same : (nid : ℕ) (node : RawNode) → is_enabled new nid ≡ is_enabled old nid
      → pin_hears kind graph new (out_from (Converters kind stream) graph new) nid node ≡ pin_hears kind graph old (out_from (Converters kind stream) graph old) nid node
  pin_same nid node enabled =
      ap (λ (silent : Bool). if silent then Silence
      else changed_if (not (is_stereo node) || is_foreign kind node) (after_output graph new nid node (comes_from (out_from (Converters kind stream) graph new) (selected new nid node)))) (silent_same nid node enabled)
      ∙ ap (λ (signal : Signal). if is_silent_pin graph old nid node then Silence else changed_if (not (is_stereo node) || is_foreign kind node) signal)
      (output_same nid node (comes_from (out_from (Converters kind stream) graph new) (selected new nid node))
      ∙ ap (after_output graph old nid node) (ap (comes_from (out_from (Converters kind stream) graph new)) (selected_same nid node) ∙ comes_same (selected old nid node)))

  hears_same : (nid : ℕ) (found : Option RawNode) → is_enabled new nid ≡ is_enabled old nid
      → hears kind graph new (out_from (Converters kind stream) graph new) nid found ≡ hears kind graph old (out_from (Converters kind stream) graph old) nid found
  hears_same nid None enabled = refl
  hears_same nid (Some node) enabled = ap (λ (signal : Signal). if is_pin node then signal else Silence) (pin_same nid node enabled)

  pub signal_same : (pin : ℕ) → is_enabled new pin ≡ is_enabled old pin → signal_as kind graph new stream pin ≡ signal_as kind graph old stream pin
  signal_same pin enabled = hears_same pin (node_at graph pin) enabled

-- ---- a pin whose output is not enabled

module _ (kind : PinKind) (graph : RawCodec) (settings : Entries) (out : ℕ → Signal) (pin : ℕ) (off : is_enabled settings pin ≡ false) where
  any_off : (a c d : Bool) → (a || true || c || d) ≡ true
  any_off true c d = refl
  any_off false c d = refl

  silent_by : (node : RawNode) → is_silent_pin graph settings pin node ≡ true
  silent_by node =
      ap (λ (on : Bool). is_off graph settings pin node || not on || not (has_bit node.pin_caps 4) || (has_eapd node && not (has_bit (setting_of settings pin control.Eapd) 1))) off
      ∙ any_off (is_off graph settings pin node) (not (has_bit node.pin_caps 4)) (has_eapd node && not (has_bit (setting_of settings pin control.Eapd) 1))

  no_signal : (b : Bool) → ◌≡◌ {A = Signal} (if b then Silence else Silence) Silence
  no_signal true = refl
  no_signal false = refl

  hears_off : (found : Option RawNode) → hears kind graph settings out pin found ≡ Silence
  hears_off None = refl
  hears_off (Some node) =
      ap (λ (silent : Bool). if is_pin node
      then (if silent then Silence else changed_if (not (is_stereo node) || is_foreign kind node) (after_output graph settings pin node (comes_from out (selected settings pin node)))) else Silence) (silent_by node)
      ∙ no_signal (is_pin node)

pub off_silent : (kind : PinKind) (graph : RawCodec) (settings : Entries) (stream : LinkStream) (pin : ℕ) → is_enabled settings pin ≡ false → signal_as kind graph settings stream pin ≡ Silence
off_silent kind graph settings stream pin off = hears_off kind graph settings (out_from (Converters kind stream) graph settings) pin off (node_at graph pin)

-- one that hears a pair is enabled
pub pair_enabled : (kind : PinKind) (graph : RawCodec) (settings : Entries) (stream : LinkStream) (pin pair : ℕ) → signal_as kind graph settings stream pin ≡ Pair pair → is_enabled settings pin ≡ true
pair_enabled kind graph settings stream pin pair heard = by (is_enabled settings pin) refl
  where
    by : (on : Bool) → is_enabled settings pin ≡ on → is_enabled settings pin ≡ true
    by true is = is
    by false is = let silent = off_silent kind graph settings stream pin is in cc
