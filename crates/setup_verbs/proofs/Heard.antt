-- What an opened node gives, and what an opened pin hears.
use Rattle.std.proofs.Common.{◌≡◌, ◌≢◌, ◌<◌, ◌≤◌, ◌+◌, ◌*◌, ◌/◌, ◌%◌, ◌^◌, ◌==◌, ◌&&◌, ◌||◌, not, ℕ, Bool, true, false, cond, length, Option, Some, refl, ap, ◌∙◌, arith}
use Rattle.std.specs.Prelude.{slice_get, nat_lt, bit_and}
use Rattle.std.proofs.lemmas.Bool.{and_from, eqb-true, eq-eqb, lt-ltb}
use Rattle.std.proofs.lemmas.Bool.Decides.{nat_tests}
use Rattle.codec_graph.specs.declared.raw.RawNode.{RawNode}
use Rattle.codec_graph.specs.declared.raw.RawCodec.{RawCodec}
use Rattle.codec_graph.specs.declared.controls.Control.TheVariants as control
use Rattle.codec_graph.specs.Widget.{node_at, is_output_converter, is_mixer, is_selector, is_pin, is_stereo}
use Rattle.codec_graph.specs.Settings.{Entries, setting_of, has_eapd}
use Rattle.codec_graph.specs.VerbMeaning.{pin_bits}
use Rattle.codec_graph.specs.Cycles.{IsWellFormed}
use Rattle.verb_codes.specs.Words.{has_bit, bits_of}
use Rattle.stream_format.specs.declared.format.Format.{Format}
use Rattle.stream_format.specs.Words.{format_word}
use Rattle.codec_sound.specs.declared.signals.Signal.{Signal}
use Rattle.codec_sound.specs.declared.signals.Signal.TheVariants.{Silence, Pair, Altered}
use Rattle.codec_sound.specs.declared.streams.LinkStream.{LinkStream}
use Rattle.codec_sound.specs.Amplifiers.{changed_if, after_output}
use Rattle.codec_sound.specs.Signals.{stream_of, is_off, takes, takes_as, is_enabled, is_foreign, converts_otherwise, pair_from, tag_at, channel_at, converted, selected, passed_on, made, given, is_silent_pin, comes_from, pin_hears}
use Rattle.setup_verbs.specs.VerbList.{drives_headphone}
use Rattle.setup_verbs.specs.SetUp.{AreSidesMuted}
use Rattle.setup_verbs.proofs.Wanted.{pin_control_by}
use Rattle.setup_verbs.proofs.Faultless.{output_offset}
use Rattle.setup_verbs.proofs.Passing.{mixed_is, output_passes, made_cases, selector_case, converter_case, given_on, IsLeft}
use Rattle.setup_verbs.proofs.Through.{IsMixerSet, IsChoiceSet, muted_beside, mixed_through, selected_is, selected_through}
use Rattle.setup_verbs.proofs.Opened.{PassedSet, SourceSet, IsEnabledFor}
use Rattle.codec_graph.specs.declared.pin_kind.PinKind.{PinKind}
use Rattle.codec_graph.specs.declared.pin_kind.PinKind.TheVariants.{Analog, Digital}

module _ (kind : PinKind) (codec : RawCodec) (well : IsWellFormed codec) (s : Entries) (nid : ℕ) (node : RawNode) (there : node_at codec nid ≡ Some node) where
  -- the amplifiers of a mixer of a route, and its choice
  mixer_set : (index : ℕ) → PassedSet kind codec s nid node index → is_mixer node ≡ true → IsMixerSet codec s nid node index
  mixer_set index p is has place low = record { left = p.mix_left (and_from _ _ is has) place low; right = p.mix_right (and_from _ _ is has) place low }

  choice_set : (index : ℕ) → PassedSet kind codec s nid node index → (is_selector node || is_pin node) ≡ true → IsChoiceSet s nid node index
  choice_set index p which long = p.select (and_from _ _ which long)

  -- each other input of a mixer is muted
  pub others_muted : (index place : ℕ) → PassedSet kind codec s nid node index → IsLeft kind codec index node → is_mixer node ≡ true → index < length node.list → place < length node.list → place ≢ index → AreSidesMuted s nid place
  others_muted index place p left is within low other = muted_beside codec well s nid node there index place (mixer_set index p is) (left.mixes is) within low other

  mixer_made : (stream : LinkStream) (out : ℕ → Signal) (index from : ℕ) → PassedSet kind codec s nid node index → IsLeft kind codec index node → is_mixer node ≡ true → is_stereo node ≡ true → slice_get node.list index ≡ Some from → made kind codec s stream out nid node ≡ out from
  mixer_made stream out index from p left is stereo leads =
      ap (λ (M : Signal). cond (is_output_converter node) (converted kind s stream nid node) (cond (is_mixer node) M (cond (is_selector node) (changed_if (not (is_stereo node)) (passed_on codec s out nid node (selected s nid node))) Silence))) (mixed_is kind codec s out nid node left.unmixed is)
      ∙ made_cases (bits_of node.caps 20 4) (is_stereo node) _ _ _ (eqb-true (bits_of node.caps 20 4) 2 is) stereo
      ∙ mixed_through codec well s nid node there out index from (mixer_set index p is) (left.mixes is) is leads

  selector_made : (stream : LinkStream) (out : ℕ → Signal) (index from : ℕ) → PassedSet kind codec s nid node index → IsLeft kind codec index node → is_selector node ≡ true → is_stereo node ≡ true → slice_get node.list index ≡ Some from → made kind codec s stream out nid node ≡ out from
  selector_made stream out index from p left is stereo leads =
      selector_case (bits_of node.caps 20 4) (is_stereo node) _ _ _ (eqb-true (bits_of node.caps 20 4) 3 is) stereo
      ∙ selected_through codec well s nid node there out index from (choice_set index p which) (λ has. left.selects is has)
      (λ has. record { left = p.sel_left (and_from _ _ is has); right = p.sel_right (and_from _ _ is has) }) leads
    where
      which : (is_selector node || is_pin node) ≡ true
      which = rw is refl

  -- a mixer or selector of a route gives what its connection gives
  pub inner_gives : (stream : LinkStream) (out : ℕ → Signal) (index from : ℕ) → PassedSet kind codec s nid node index → IsLeft kind codec index node → (is_mixer node || is_selector node) ≡ true → is_stereo node ≡ true → slice_get node.list index ≡ Some from → given kind codec s stream out nid node ≡ out from
  inner_gives stream out index from p left which stereo leads =
      given_on kind codec s stream out nid node (out from) p.on
      (output_passes codec s nid node (made kind codec s stream out nid node) (output_offset codec nid node well there) p.out_left p.out_right ∙ by (is_mixer node) refl which)
    where
      by : (b : Bool) → is_mixer node ≡ b → (b || is_selector node) ≡ true → made kind codec s stream out nid node ≡ out from
      by true e k = mixer_made stream out index from p left e stereo leads
      by false e k = selector_made stream out index from p left k stereo leads

  -- the converter of a route gives its pair
  pub converter_gives : (format : Format) (tag pair : ℕ) (out : ℕ → Signal) → 1 ≤ tag → tag ≤ 15 → SourceSet kind codec format tag s nid node pair → is_output_converter node ≡ true → is_stereo node ≡ true → is_foreign kind node ≡ false → 2 * pair + 1 < format.channels
      → given kind codec s (stream_of tag format) out nid node ≡ Pair pair
  converter_gives format tag pair out some few p is stereo own fits =
      given_on kind codec s (stream_of tag format) out nid node (Pair pair) p.on
      (output_passes codec s nid node (made kind codec s (stream_of tag format) out nid node) (output_offset codec nid node well there) p.out_left p.out_right
      ∙ converter_case (bits_of node.caps 20 4) _ _ (eqb-true (bits_of node.caps 20 4) 0 is)
      ∙ converts)
    where
      channels : format.channels ≤ 8
      channels = format.few

      tag-is : tag_at s nid ≡ tag
      tag-is = ap (λ v. bits_of v 4 4) p.stream_set ∙ high tag pair few (omega (arith, channels, fits))
        where
          high : (t q : ℕ) → t ≤ 15 → q < 8 → (t * 2 ^ 4 + 2 * q) / 2 ^ 4 % 2 ^ 4 ≡ t
          high t q a b = omega arith

      channel-is : channel_at s nid ≡ 2 * pair
      channel-is = ap (λ v. bits_of v 0 4) p.stream_set ∙ low tag pair (omega (arith, channels, fits))
        where
          low : (t q : ℕ) → q < 8 → (t * 2 ^ 4 + 2 * q) / 2 ^ 0 % 2 ^ 4 ≡ 2 * q
          low t q b = omega arith

      takes-it : takes s (stream_of tag format) nid ≡ true
      takes-it = rw tag-is (both tag some)
        where
          both : (t : ℕ) → 1 ≤ t → (not (t == 0) && (t == t)) ≡ true
          both t h = grind (arith, nat_tests)

      takes-as : takes_as kind s (stream_of tag format) nid ≡ true
      takes-as = by kind p.enabled
        where
          by : (k : PinKind) → IsEnabledFor k s nid → takes_as k s (stream_of tag format) nid ≡ true
          by Analog enabled = takes-it
          by Digital enabled = and_from (takes s (stream_of tag format) nid) (is_enabled s nid) takes-it enabled

      as-it-is : converts_otherwise kind s (stream_of tag format) nid node ≡ false
      as-it-is = rw (channel-is, p.format_set, own, stereo) (even (format_word format) pair format.channels)
        where
          even : (w q n : ℕ) → (not (w == w) || false || not true || (2 * q % 2 == 1 && nat_lt (2 * q) n)) ≡ false
          even w q n = let z : 2 * q % 2 ≡ 0 = omega arith in rw (eq-eqb w w refl, z) refl

      begins : pair_from (stream_of tag format) (channel_at s nid) ≡ Pair pair
      begins = ap (λ c. pair_from (stream_of tag format) c) channel-is ∙ from pair format.channels fits
        where
          from : (q n : ℕ) → 2 * q + 1 < n → cond (nat_lt (2 * q) n) (Pair (2 * q / 2)) Silence ≡ Pair q
          from q n h = let z : 2 * q / 2 ≡ q = omega arith in rw (lt-ltb (2 * q) n (omega arith), z) refl

      converts : converted kind s (stream_of tag format) nid node ≡ Pair pair
      converts = by (takes_as kind s (stream_of tag format) nid) (converts_otherwise kind s (stream_of tag format) nid node) takes-as as-it-is
        where
          by : (b c : Bool) → b ≡ true → c ≡ false → cond b (cond c Altered (pair_from (stream_of tag format) (channel_at s nid))) Silence ≡ Pair pair
          by true false e f = begins
          by true true e f = cc
          by false c e f = cc

  -- a pin of a route hears what its connection gives
  pub pin_hears_it : (out : ℕ → Signal) (index from : ℕ) → PassedSet kind codec s nid node index → is_pin node ≡ true → is_stereo node ≡ true → is_foreign kind node ≡ false → has_bit node.pin_caps 4 ≡ true → slice_get node.list index ≡ Some from → pin_hears kind codec s out nid node ≡ out from
  pin_hears_it out index from p is stereo own drives leads =
      sounds (is_silent_pin codec s nid node) loud
      ∙ rw (stereo, own) (output_passes codec s nid node (comes_from out (selected s nid node)) (output_offset codec nid node well there) p.out_left p.out_right)
      ∙ ap (λ (o : Option ℕ). comes_from out o) (selected_is codec well s nid node there index from (choice_set index p which) leads)
    where
      which : (is_selector node || is_pin node) ≡ true
      which = by (is_selector node)
        where
          by : (b : Bool) → (b || is_pin node) ≡ true
          by true = refl
          by false = is

      sounds : (b : Bool) → b ≡ false → cond b Silence (changed_if (not (is_stereo node) || is_foreign kind node) (after_output codec s nid node (comes_from out (selected s nid node)))) ≡ changed_if (not (is_stereo node) || is_foreign kind node) (after_output codec s nid node (comes_from out (selected s nid node)))
      sounds true e = cc
      sounds false e = refl

      enabled : has_bit (setting_of s nid control.Pin) 6 ≡ true
      enabled = ap (λ v. has_bit v 6) (p.pin is) ∙ by kind (drives_headphone node)
        where
          either : (b : Bool) → has_bit (bit_and (cond b 0xC0 0x40) pin_bits) 6 ≡ true
          either true = refl
          either false = refl

          by : (k : PinKind) (b : Bool) → has_bit (bit_and (pin_control_by k b) pin_bits) 6 ≡ true
          by Analog b = either b
          by Digital b = refl

      amplified-on : (has_eapd node && not (has_bit (setting_of s nid control.Eapd) 1)) ≡ false
      amplified-on = by (has_eapd node) refl
        where
          by : (b : Bool) → has_eapd node ≡ b → (b && not (has_bit (setting_of s nid control.Eapd) 1)) ≡ false
          by true e = ap (λ v. not (has_bit v 1)) (p.eapd e)
          by false e = refl

      loud : is_silent_pin codec s nid node ≡ false
      loud = by (is_off codec s nid node) (has_bit (setting_of s nid control.Pin) 6) (has_bit node.pin_caps 4) _ p.on enabled drives amplified-on
        where
          by : (a b c d : Bool) → a ≡ false → b ≡ true → c ≡ true → d ≡ false → (a || not b || not c || d) ≡ false
          by false true true false e f g h = refl
          by true b c d e f g h = cc
          by false false c d e f g h = cc
          by false true false d e f g h = cc
          by false true true true e f g h = cc
