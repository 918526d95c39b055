-- What an opened node gives on the way in, and what an opened converter hears.
use Rattle.std.proofs.Common.{◌≡◌, ◌<◌, ◌==◌, ◌&&◌, ◌||◌, not, ℕ, Bool, true, false, cond, Some, refl, ap, ◌∙◌, arith, lit<}
use Rattle.std.specs.Prelude.{slice_get, nat_le}
use Rattle.std.proofs.lemmas.Bool.{and_parts, eqb-true, leb-true}
use Rattle.codec_graph.specs.declared.raw.RawNode.{RawNode}
use Rattle.codec_graph.specs.declared.raw.RawCodec.{RawCodec}
use Rattle.codec_graph.specs.declared.controls.Control.TheVariants as control
use Rattle.codec_graph.specs.Widget.{node_at, is_mixer, is_selector, is_pin, is_inner, is_input_converter, is_stereo, is_digital, has_input_amplifier}
use Rattle.codec_graph.specs.Settings.{Entries, setting_of}
use Rattle.codec_graph.specs.Cycles.{IsWellFormed}
use Rattle.verb_codes.specs.Words.{has_bit, bits_of}
use Rattle.stream_format.specs.declared.format.Format.{Format}
use Rattle.codec_graph.specs.declared.pin_kind.PinKind.TheVariants.{Analog}
use Rattle.route_planner.specs.Paths.{can_be_left}
use Rattle.route_planner.specs.Inputs.{can_be_left_in}
use Rattle.codec_sound.specs.declared.signals.Signal.{Signal}
use Rattle.codec_sound.specs.declared.signals.Signal.TheVariants.{Silence, Pair}
use Rattle.codec_sound.specs.declared.sources.Sources.TheVariants.{Pins}
use Rattle.codec_sound.specs.Amplifiers.{changed_if, after_input}
use Rattle.codec_sound.specs.Signals.{is_off, mixed, selected, passed_on, is_listening_pin, taken_in, made_from, given_from}
use Rattle.codec_sound.specs.Inward.{converter_hears}
use Rattle.setup_verbs.proofs.Callers.{input_passes, output_passes, mixed_through, selected_through, CanMuteOthers, left_from, input_offset, output_offset}
use Rattle.input_verbs.specs.InputVerbs.{selects_input}
use Rattle.input_verbs.proofs.InOpened.{InputPassedSet, InputPinSet}

-- ---- what can be left by an index

-- a mixer with a choice can mute, and the amplifier of what is selected can be reached
pub record IsLeftIn (codec : RawCodec) (index : ℕ) (node : RawNode) : Type 0 where
  pub mixes : is_mixer node ≡ true → CanMuteOthers codec node
  pub selects : selects_input node ≡ true → has_input_amplifier node ≡ true → index < 16

pub left_in_from : (codec : RawCodec) (index : ℕ) (node : RawNode) → can_be_left_in codec index node ≡ true → IsLeftIn codec index node
left_in_from codec index node e =
    let parts = and_parts (can_be_left codec index node) _ e in
    let out = left_from Analog codec index node parts.0 in
    record { mixes = out.mixes; selects = λ which has. by (is_selector node) refl which has (out.selects) parts.1 }
  where
    reached : (a b c : Bool) → a ≡ true → b ≡ true → cond (a && b) c true ≡ true → c ≡ true
    reached true true c x y h = h
    reached true false c x y h = cc
    reached false b c x y h = cc

    by : (b : Bool) → is_selector node ≡ b → (b || is_input_converter node) ≡ true → has_input_amplifier node ≡ true → (is_selector node ≡ true → has_input_amplifier node ≡ true → index < 16)
        → cond (is_input_converter node && has_input_amplifier node) (nat_le index 15) true ≡ true → index < 16
    by true is which has out in-range = out is has
    by false is which has out in-range = let z = leb-true index 15 (reached (is_input_converter node) (has_input_amplifier node) (nat_le index 15) which has in-range) in omega arith

-- ---- what is made

mixer_case : (n : ℕ) (stereo : Bool) (P M S : Signal) → n ≡ 2 → stereo ≡ true → cond (n == 4) P (cond (n == 2) (changed_if (not stereo) M) (cond (n == 3) (changed_if (not stereo) S) Silence)) ≡ M
mixer_case n stereo P M S e f = rw (e, f) refl

selector_case : (n : ℕ) (stereo : Bool) (P M S : Signal) → n ≡ 3 → stereo ≡ true → cond (n == 4) P (cond (n == 2) M (cond (n == 3) (changed_if (not stereo) S) Silence)) ≡ S
selector_case n stereo P M S e f = rw (e, f) refl

pin_case : (n : ℕ) (P X : Signal) → n ≡ 4 → cond (n == 4) P X ≡ P
pin_case n P X e = rw e refl

-- what is on gives or hears something
while_on : (b : Bool) (x y : Signal) → b ≡ false → x ≡ y → cond b Silence x ≡ y
while_on true x y e f = cc
while_on false x y e f = f

module _ (codec : RawCodec) (well : IsWellFormed codec) (s : Entries) (nid : ℕ) (node : RawNode) (there : node_at codec nid ≡ Some node) where
  mixer_made : (format : Format) (tag : ℕ) (out : ℕ → Signal) (index from : ℕ) → InputPassedSet codec format tag s nid node index → IsLeftIn codec index node → is_mixer node ≡ true → is_stereo node ≡ true → slice_get node.list index ≡ Some from → made_from Pins codec s out nid node ≡ out from
  mixer_made format tag out index from p left is stereo leads =
      mixer_case (bits_of node.caps 20 4) (is_stereo node) (taken_in codec s nid node) (mixed codec s out nid node 0 node.list) (passed_on codec s out nid node (selected s nid node)) (eqb-true (bits_of node.caps 20 4) 2 is) stereo
      ∙ mixed_through codec well s nid node there out index from (p.mixer is) (left.mixes is) is leads

  -- what a selector or converter of the route passes on
  selected_on : (format : Format) (tag : ℕ) (out : ℕ → Signal) (index from : ℕ) → InputPassedSet codec format tag s nid node index → IsLeftIn codec index node → selects_input node ≡ true → slice_get node.list index ≡ Some from → passed_on codec s out nid node (selected s nid node) ≡ out from
  selected_on format tag out index from p left which leads = selected_through codec well s nid node there out index from (p.choice which) (left.selects which) (p.input which) leads

  selector_made : (format : Format) (tag : ℕ) (out : ℕ → Signal) (index from : ℕ) → InputPassedSet codec format tag s nid node index → IsLeftIn codec index node → is_selector node ≡ true → is_stereo node ≡ true → slice_get node.list index ≡ Some from → made_from Pins codec s out nid node ≡ out from
  selector_made format tag out index from p left is stereo leads =
      selector_case (bits_of node.caps 20 4) (is_stereo node) (taken_in codec s nid node) (changed_if (not (is_stereo node)) (mixed codec s out nid node 0 node.list)) (passed_on codec s out nid node (selected s nid node)) (eqb-true (bits_of node.caps 20 4) 3 is) stereo
      ∙ selected_on format tag out index from p left (rw is refl) leads

  -- a mixer or selector of the route gives what its connection gives
  pub inner_gives_in : (format : Format) (tag : ℕ) (out : ℕ → Signal) (index from : ℕ) → InputPassedSet codec format tag s nid node index → IsLeftIn codec index node → is_inner node ≡ true → is_stereo node ≡ true → slice_get node.list index ≡ Some from → given_from Pins codec s out nid node ≡ out from
  inner_gives_in format tag out index from p left which stereo leads =
      while_on (is_off codec s nid node) _ (out from) p.on
      (output_passes codec s nid node (made_from Pins codec s out nid node) (output_offset codec nid node well there) p.out_left p.out_right ∙ by (is_mixer node) refl which)
    where
      by : (b : Bool) → is_mixer node ≡ b → (b || is_selector node) ≡ true → made_from Pins codec s out nid node ≡ out from
      by true e k = mixer_made format tag out index from p left e stereo leads
      by false e k = selector_made format tag out index from p left k stereo leads

  -- the pin of the route takes its own sound in
  pub pin_gives_in : (out : ℕ → Signal) → InputPinSet codec s nid node → is_pin node ≡ true → is_stereo node ≡ true → is_digital node ≡ false → has_bit node.pin_caps 5 ≡ true → given_from Pins codec s out nid node ≡ Pair nid
  pin_gives_in out p is stereo analog takes =
      while_on (is_off codec s nid node) _ (Pair nid) p.on
      (output_passes codec s nid node (made_from Pins codec s out nid node) (output_offset codec nid node well there) p.out_left p.out_right
      ∙ pin_case (bits_of node.caps 20 4) (taken_in codec s nid node) _ (eqb-true (bits_of node.caps 20 4) 4 is)
      ∙ listens (is_listening_pin s nid node) (not (is_stereo node) || is_digital node) enabled unchanged)
    where
      first : after_input codec s nid node 0 (Pair nid) ≡ Pair nid
      first = input_passes codec s nid node 0 0 (Pair nid) (input_offset codec nid node well there) refl (λ has. lit< tt) (λ has. (p.input has).left) (λ has. (p.input has).right)

      enabled : is_listening_pin s nid node ≡ true
      enabled = both (has_bit (setting_of s nid control.Pin) 5) (has_bit node.pin_caps 5) (ap (λ v. has_bit v 5) p.pin) takes
        where
          both : (a b : Bool) → a ≡ true → b ≡ true → (a && b) ≡ true
          both true true e f = refl
          both true false e f = cc
          both false b e f = cc

      unchanged : (not (is_stereo node) || is_digital node) ≡ false
      unchanged = rw (stereo, analog) refl

      listens : (a b : Bool) → a ≡ true → b ≡ false → cond a (changed_if b (after_input codec s nid node 0 (Pair nid))) Silence ≡ Pair nid
      listens true false e f = first
      listens true true e f = cc
      listens false b e f = cc

  -- the converter of the route hears what its connection gives
  pub converter_hears_it : (format : Format) (tag : ℕ) (out : ℕ → Signal) (index from : ℕ) → InputPassedSet codec format tag s nid node index → IsLeftIn codec index node → is_input_converter node ≡ true → slice_get node.list index ≡ Some from → converter_hears codec s out nid node ≡ out from
  converter_hears_it format tag out index from p left is leads =
      while_on (is_off codec s nid node) _ (out from) p.on
      (output_passes codec s nid node (passed_on codec s out nid node (selected s nid node)) (output_offset codec nid node well there) p.out_left p.out_right
      ∙ selected_on format tag out index from p left (which (is_selector node)) leads)
    where
      which : (b : Bool) → (b || is_input_converter node) ≡ true
      which true = refl
      which false = is
