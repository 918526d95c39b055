-- The verbs of amplifiers and of choices, whatever is wanted of the rest: they set what is wanted of these.
use Rattle.std.proofs.Common.{◌≡◌, ◌<◌, ◌≤◌, ◌==◌, ◌&&◌, ◌^◌, ℕ, Bool, true, false, cond, [], map, length, Some, zero-add, refl, sym, subst, ◌∙◌, arith, lit<}
use Rattle.std.specs.Prelude.{All, Contains, nat_lt, max, min}
use Rattle.std.specs.List.{range_with_len}
use Rattle.std.proofs.lemmas.Bool.{and_parts, and_from, lt-ltb}
use Rattle.std.proofs.lemmas.Nat.{mod_below}
use Rattle.std.proofs.lemmas.List.Elements.{All-nil, All-map}
use Rattle.std.proofs.lemmas.List.FromFn.{get_or-range_with_len, length-range_with_len}
use Rattle.codec_graph.specs.declared.raw.RawNode.{RawNode}
use Rattle.codec_graph.specs.declared.raw.RawCodec.{RawCodec}
use Rattle.codec_graph.specs.declared.controls.Control.TheVariants as control
use Rattle.codec_graph.specs.declared.controls.ControlKey.{ControlKey}
use Rattle.codec_graph.specs.Widget.{node_at, is_mixer, has_input_amplifier, has_output_amplifier, input_amplifier_word, output_amplifier_word, amplifier_offset}
use Rattle.codec_graph.specs.Settings.{key, has_control, amplified_inputs}
use Rattle.codec_graph.specs.VerbMeaning.{kept_amplifier}
use Rattle.verb_codes.specs.declared.verbs.Verb.{Verb}
use Rattle.verb_codes.specs.declared.verbs.Verb.TheVariants.{SetAmp}
use Rattle.verb_codes.specs.Amplifiers as amplifiers
use Rattle.setup_verbs.specs.VerbList.{command_to, input_setting, output_setting, pass_input, mute_input, mixer_input, mixer_verbs, output_verbs}
use Rattle.setup_verbs.proofs.Settling.{IsWanted, Sets}
use Rattle.setup_verbs.proofs.Wanted.{input_wanted, output_wanted, two_wanted, left_sets, right_sets, input_writes, output_writes}
use Rattle.setup_verbs.proofs.Members.{all_if, has_mapped}

-- an input with an amplifier of its own has its controls
pub input_has : (node : RawNode) (place : ℕ) → has_input_amplifier node ≡ true → place < 16 → place < length node.list → (has_input_amplifier node && nat_lt place (amplified_inputs node)) ≡ true
input_has node place has low within = and_from _ _ has (lt-ltb place (amplified_inputs node) (inside place (length node.list) low within))
  where
    inside : (p n : ℕ) → p < 16 → p < n → p < min 16 (max 1 n)
    inside p n a b = omega arith

-- ---- what is wanted

module _ (W : ControlKey → ℕ) (codec : RawCodec) (nid : ℕ) (node : RawNode) (there : node_at codec nid ≡ Some node) where
  abbrev Good : Verb → Type 0
  Good verb = IsWanted W codec (command_to codec nid verb)

  pub outputs_good : W (key nid control.OutLeft) ≡ output_wanted codec node → W (key nid control.OutRight) ≡ output_wanted codec node → All Good (output_verbs codec node)
  outputs_good left right =
      all_if Good (has_output_amplifier node) _ (λ h. two_wanted W codec nid _ control.OutLeft control.OutRight (output_wanted codec node)
      (λ s. output_writes codec nid node (amplifier_offset (output_amplifier_word codec node)) there (mod_below _ (2 ^ 7) (lit< tt)) s) (sym left) (sym right))

  -- of an input
  abbrev pub InputGood : (index place : ℕ) → Type 0
  InputGood index place = (W (key nid (control.InLeft place)) ≡ input_wanted codec node index place) × (W (key nid (control.InRight place)) ≡ input_wanted codec node index place)

  pub pass_good : (index place : ℕ) → InputGood index place → place < 16 → (place == index) ≡ true → Good (pass_input codec node place)
  pass_good index place good low e =
      let passes : kept_amplifier (input_amplifier_word codec node) (input_setting place false (amplifier_offset (input_amplifier_word codec node))) ≡ input_wanted codec node index place = rw e refl in
      two_wanted W codec nid _ (control.InLeft place) (control.InRight place) (kept_amplifier (input_amplifier_word codec node) (input_setting place false (amplifier_offset (input_amplifier_word codec node))))
      (λ s. input_writes codec nid node place (amplifier_offset (input_amplifier_word codec node)) false there low (mod_below _ (2 ^ 7) (lit< tt)) s) (passes ∙ sym good.0) (passes ∙ sym good.1)

  mute_good : (index place : ℕ) → InputGood index place → place < 16 → (place == index) ≡ false → Good (mute_input place)
  mute_good index place good low e =
      let mutes : kept_amplifier (input_amplifier_word codec node) (input_setting place true 0) ≡ input_wanted codec node index place = rw e refl in
      two_wanted W codec nid _ (control.InLeft place) (control.InRight place) (kept_amplifier (input_amplifier_word codec node) (input_setting place true 0))
      (λ s. input_writes codec nid node place 0 true there low (lit< tt) s) (mutes ∙ sym good.0) (mutes ∙ sym good.1)

  input_good : (index place : ℕ) → InputGood index place → place < 16 → Good (mixer_input codec node index place)
  input_good index place good low = by (place == index) refl
    where
      by : (b : Bool) → (place == index) ≡ b → Good (cond b (pass_input codec node place) (mute_input place))
      by true e = pass_good index place good low e
      by false e = mute_good index place good low e

  pub mixers_good : (index : ℕ) → ((place : ℕ) → InputGood index place) → (is_mixer node ≡ true → length node.list ≤ 16) → All Good (mixer_verbs codec node index)
  mixers_good index good few = by (is_mixer node && has_input_amplifier node) refl
    where
      by : (b : Bool) → (is_mixer node && has_input_amplifier node) ≡ b → All Good (cond b (map (mixer_input codec node index) (range_with_len 0 (length node.list))) [])
      by true e =
          All-map Good (mixer_input codec node index) (range_with_len 0 (length node.list))
          (λ k d within. let low : k < length node.list = subst (λ n. k < n) (length-range_with_len 0 (length node.list)) within in
          subst (λ place. Good (mixer_input codec node index place)) (sym (get_or-range_with_len 0 (length node.list) k d low ∙ zero-add k)) (input_good index k (good k) (omega (arith, few (and_parts _ _ e).0))))
      by false e = All-nil Good

-- ---- what is set

module _ (codec : RawCodec) (nid : ℕ) (node : RawNode) (there : node_at codec nid ≡ Some node) where
  -- the verb of the output
  abbrev pub pass_output : Verb
  pass_output = SetAmp (amplifiers.setting_payload (output_setting (amplifier_offset (output_amplifier_word codec node))))

  pub output_left : has_control codec nid control.OutLeft ≡ true → Sets codec (command_to codec nid pass_output) nid control.OutLeft
  output_left h = left_sets codec nid _ control.OutLeft control.OutRight (output_wanted codec node) (λ s. output_writes codec nid node (amplifier_offset (output_amplifier_word codec node)) there (mod_below _ (2 ^ 7) (lit< tt)) s) h

  pub output_right : has_control codec nid control.OutRight ≡ true → Sets codec (command_to codec nid pass_output) nid control.OutRight
  output_right h = right_sets codec nid _ control.OutLeft control.OutRight (output_wanted codec node) (λ s. output_writes codec nid node (amplifier_offset (output_amplifier_word codec node)) there (mod_below _ (2 ^ 7) (lit< tt)) s) h

  pub pass_left : (place : ℕ) → place < 16 → has_control codec nid (control.InLeft place) ≡ true → Sets codec (command_to codec nid (pass_input codec node place)) nid (control.InLeft place)
  pass_left place low h = left_sets codec nid _ (control.InLeft place) (control.InRight place) (kept_amplifier (input_amplifier_word codec node) (input_setting place false (amplifier_offset (input_amplifier_word codec node)))) (λ s. input_writes codec nid node place (amplifier_offset (input_amplifier_word codec node)) false there low (mod_below _ (2 ^ 7) (lit< tt)) s) h

  pub pass_right : (place : ℕ) → place < 16 → has_control codec nid (control.InRight place) ≡ true → Sets codec (command_to codec nid (pass_input codec node place)) nid (control.InRight place)
  pass_right place low h = right_sets codec nid _ (control.InLeft place) (control.InRight place) (kept_amplifier (input_amplifier_word codec node) (input_setting place false (amplifier_offset (input_amplifier_word codec node)))) (λ s. input_writes codec nid node place (amplifier_offset (input_amplifier_word codec node)) false there low (mod_below _ (2 ^ 7) (lit< tt)) s) h

  pub mixer_left : (index place : ℕ) → place < 16 → has_control codec nid (control.InLeft place) ≡ true → Sets codec (command_to codec nid (mixer_input codec node index place)) nid (control.InLeft place)
  mixer_left index place low h = by (place == index)
    where
      by : (b : Bool) → Sets codec (command_to codec nid (cond b (pass_input codec node place) (mute_input place))) nid (control.InLeft place)
      by true = pass_left place low h
      by false = left_sets codec nid _ (control.InLeft place) (control.InRight place) (kept_amplifier (input_amplifier_word codec node) (input_setting place true 0)) (λ s. input_writes codec nid node place 0 true there low (lit< tt) s) h

  pub mixer_right : (index place : ℕ) → place < 16 → has_control codec nid (control.InRight place) ≡ true → Sets codec (command_to codec nid (mixer_input codec node index place)) nid (control.InRight place)
  mixer_right index place low h = by (place == index)
    where
      by : (b : Bool) → Sets codec (command_to codec nid (cond b (pass_input codec node place) (mute_input place))) nid (control.InRight place)
      by true = pass_right place low h
      by false = right_sets codec nid _ (control.InLeft place) (control.InRight place) (kept_amplifier (input_amplifier_word codec node) (input_setting place true 0)) (λ s. input_writes codec nid node place 0 true there low (lit< tt) s) h

-- each input of a mixer has its verb
pub mixer_among : (codec : RawCodec) (node : RawNode) (index place : ℕ) → (is_mixer node && has_input_amplifier node) ≡ true → place < length node.list → Contains (mixer_verbs codec node index) (mixer_input codec node index place)
mixer_among codec node index place has within = by (is_mixer node && has_input_amplifier node) has
  where
    in_range : Contains (range_with_len 0 (length node.list)) place
    in_range = (place, rw (length-range_with_len 0 (length node.list)) within, get_or-range_with_len 0 (length node.list) place place within ∙ zero-add place)

    by : (b : Bool) → b ≡ true → Contains (cond b (map (mixer_input codec node index) (range_with_len 0 (length node.list))) []) (mixer_input codec node index place)
    by true e = has_mapped (mixer_input codec node index) (range_with_len 0 (length node.list)) place in_range
    by false e = cc
