-- The settings after the verbs of an input, node by node.
use Rattle.std.proofs.Common.{◌≡◌, ◌≢◌, ◌<◌, ◌*◌, ◌^◌, ◌==◌, ◌&&◌, ◌||◌, not, ℕ, Bool, true, false, cond, [], ◌∷◌, length, Some, ◌⊎◌, inl, inr, refl, sym, subst, ◌∙◌, arith, lit<}
use Rattle.std.specs.Prelude.{Contains, nat_lt, nat_le, bit_and, max, min}
use Rattle.std.proofs.lemmas.Bool.{true≢false, and_from, or_right, eq-eqb, ne_eqb, lt-ltb, cases_eq}
use Rattle.std.proofs.lemmas.List.Elements.{Contains-append_left, Contains-append_right}
use Rattle.codec_graph.specs.declared.raw.RawNode.{RawNode}
use Rattle.codec_graph.specs.declared.raw.RawCodec.{RawCodec}
use Rattle.codec_graph.specs.declared.controls.Control.{Control}
use Rattle.codec_graph.specs.declared.controls.Control.TheVariants as control
use Rattle.codec_graph.specs.Widget.{node_at, is_mixer, is_pin, is_output_converter, is_input_converter, is_converter, has_power_control, has_input_amplifier, has_output_amplifier, output_amplifier_word, amplifier_offset}
use Rattle.codec_graph.specs.Settings.{Entries, key, setting_at, setting_of, has_control, widget_has, amplified_inputs, IsSettingsOf}
use Rattle.codec_graph.specs.VerbMeaning.{verb_writes, written, pin_bits}
use Rattle.codec_graph.specs.Cycles.{IsWellFormed}
use Rattle.codec_graph.proofs.Callers.{node_below, is_some-setting_at}
use Rattle.verb_codes.specs.declared.verbs.Command.{Command}
use Rattle.verb_codes.specs.declared.verbs.Verb.{Verb}
use Rattle.verb_codes.specs.declared.verbs.Verb.TheVariants.{SetSelect, SetPower, SetStream, SetPin, SetFormat, SetAmp}
use Rattle.verb_codes.specs.Amplifiers as amplifiers
use Rattle.verb_codes.specs.Words.{bits_of}
use Rattle.stream_format.specs.declared.format.Format.{Format}
use Rattle.stream_format.specs.Words.{format_word}
use Rattle.route_planner.specs.declared.routes.Plan.{Plan}
use Rattle.codec_sound.specs.Signals.{is_off}
use Rattle.setup_verbs.specs.declared.roles.Role.{Role}
use Rattle.setup_verbs.specs.declared.roles.Role.TheVariants.{Unused, Passed, Source}
use Rattle.setup_verbs.specs.declared.steps.Step.{Step}
use Rattle.setup_verbs.specs.declared.steps.Step.TheVariants.{Power, Release, Route}
use Rattle.setup_verbs.specs.Roles.{is_used}
use Rattle.setup_verbs.specs.SetUp.{settings_after}
use Rattle.setup_verbs.specs.VerbList.{only_if, command_to, output_setting, pass_input, mixer_input, mixer_verbs, output_verbs}
use Rattle.setup_verbs.proofs.Callers.{some_of, Sets, settle, output_wanted, one_sets, has_if, has_group_by, has_verb_by, input_has, mixer_among, output_left, output_right, pass_left, pass_right, mixer_left, mixer_right, IsInputSet, IsMixerSet, IsChoiceSet, apart_at}
use Rattle.input_verbs.specs.InputVerbs.{input_role_of, selects_input, input_select_verbs, input_stream_verbs, selected_verbs, input_passed_verbs, input_control, input_pin_verbs, input_verbs}
use Rattle.input_verbs.specs.InputSteps.{input_step_verbs, FitsInputVerbs, FitsInput}
use Rattle.input_verbs.proofs.InWanted.{in_widget_wanted, in_wanted, in_wanted-widget, in_wanted-power}
use Rattle.input_verbs.proofs.InSteady.{all_input_wanted}

-- what a converter, mixer or selector that is left by an index is set to, and what the pin is
pub record InputPassedSet (codec : RawCodec) (format : Format) (tag : ℕ) (s : Entries) (nid : ℕ) (node : RawNode) (index : ℕ) : Type 0 where
  pub on : is_off codec s nid node ≡ false
  pub out_left : has_output_amplifier node ≡ true → setting_of s nid control.OutLeft ≡ output_wanted codec node
  pub out_right : has_output_amplifier node ≡ true → setting_of s nid control.OutRight ≡ output_wanted codec node
  pub mixer : is_mixer node ≡ true → IsMixerSet codec s nid node index
  pub choice : selects_input node ≡ true → IsChoiceSet s nid node index
  pub input : selects_input node ≡ true → has_input_amplifier node ≡ true → IsInputSet codec s nid node index index
  pub format_set : is_input_converter node ≡ true → setting_of s nid control.Format ≡ format_word format
  pub stream_set : is_input_converter node ≡ true → setting_of s nid control.Stream ≡ tag * 2 ^ 4

pub record InputPinSet (codec : RawCodec) (s : Entries) (nid : ℕ) (node : RawNode) : Type 0 where
  pub on : is_off codec s nid node ≡ false
  pub out_left : has_output_amplifier node ≡ true → setting_of s nid control.OutLeft ≡ output_wanted codec node
  pub out_right : has_output_amplifier node ≡ true → setting_of s nid control.OutRight ≡ output_wanted codec node
  pub input : has_input_amplifier node ≡ true → IsInputSet codec s nid node 0 0
  pub pin : setting_of s nid control.Pin ≡ bit_and input_control pin_bits

-- a selector or converter with a choice has the control that selects
choice_has : (node : RawNode) → selects_input node ≡ true → nat_le 2 (length node.list) ≡ true → (not (is_mixer node) && nat_le 2 (length node.list)) ≡ true
choice_has node which long = and_from _ _ (apart (bits_of node.caps 20 4) which) long
  where
    apart : (n : ℕ) → (n == 3 || n == 1) ≡ true → not (n == 2) ≡ true
    apart n e = by (cases_eq n 2)
      where
        by : (n ≡ 2) ⊎ (n ≢ 2) → not (n == 2) ≡ true
        by (inl same) = let z : (n == 3 || n == 1) ≡ false = rw same refl in absurd (true≢false (sym e ∙ z))
        by (inr other) = rw (ne_eqb n 2 other) refl

-- the first input of a widget has its amplifier's controls, also where nothing is connected
first_has : (node : RawNode) → has_input_amplifier node ≡ true → (has_input_amplifier node && nat_lt 0 (amplified_inputs node)) ≡ true
first_has node has = and_from _ _ has (lt-ltb 0 (amplified_inputs node) (inside (length node.list)))
  where
    inside : (n : ℕ) → 0 < min 16 (max 1 n)
    inside n = omega arith

-- the verbs of a converter, where the node is one
stream_among : (format : Format) (tag : ℕ) (node : RawNode) (verb : Verb) → is_input_converter node ≡ true → Contains (SetFormat (format_word format) ∷ SetStream (tag * 2 ^ 4) ∷ []) verb → Contains (input_stream_verbs format tag node) verb
stream_among format tag node verb e c = subst (λ b. Contains (cond b (SetFormat (format_word format) ∷ SetStream (tag * 2 ^ 4) ∷ []) []) verb) (sym e) c

-- where the verbs stand among those of a node that is passed
module _ (codec : RawCodec) (format : Format) (tag : ℕ) (node : RawNode) (index : ℕ) where
  at_mixer : {verb : Verb} → Contains (mixer_verbs codec node index) verb → Contains (input_passed_verbs codec format tag node index) verb
  at_mixer c = Contains-append_left (mixer_verbs codec node index) _ _ c

  at_choice : {verb : Verb} → Contains (input_select_verbs node index) verb → Contains (input_passed_verbs codec format tag node index) verb
  at_choice c = Contains-append_right (mixer_verbs codec node index) _ _ (Contains-append_left (input_select_verbs node index) _ _ c)

  at_stream : {verb : Verb} → Contains (input_stream_verbs format tag node) verb → Contains (input_passed_verbs codec format tag node index) verb
  at_stream c = Contains-append_right (mixer_verbs codec node index) _ _ (Contains-append_right (input_select_verbs node index) _ _ (Contains-append_left (input_stream_verbs format tag node) _ _ c))

  at_selected : {verb : Verb} → Contains (selected_verbs codec node index) verb → Contains (input_passed_verbs codec format tag node index) verb
  at_selected c = Contains-append_right (mixer_verbs codec node index) _ _ (Contains-append_right (input_select_verbs node index) _ _ (Contains-append_right (input_stream_verbs format tag node) _ _ (Contains-append_left (selected_verbs codec node index) _ _ c)))

  at_output : {verb : Verb} → Contains (output_verbs codec node) verb → Contains (input_passed_verbs codec format tag node index) verb
  at_output c = Contains-append_right (mixer_verbs codec node index) _ _ (Contains-append_right (input_select_verbs node index) _ _ (Contains-append_right (input_stream_verbs format tag node) _ _ (Contains-append_right (selected_verbs codec node index) _ _ c)))

module _ (codec : RawCodec) (plan : Plan) (format : Format) (tag : ℕ) (well : IsWellFormed codec) (fits : FitsInputVerbs codec (input_role_of plan)) (settings : Entries) (of : IsSettingsOf codec settings) where
  abbrev S : Entries
  S = settings_after codec settings (input_verbs codec plan format tag)

  -- a control that some verb sets
  settled : (nid : ℕ) (c : Control) (command : Command) → has_control codec nid c ≡ true → Contains (input_verbs codec plan format tag) command → Sets codec command nid c → setting_of S nid c ≡ in_wanted codec plan format tag (key nid c)
  settled nid c command has among sets =
      let there = some_of (setting_at settings nid c) (is_some-setting_at codec settings nid c well of.keys ∙ has) in
      settle (in_wanted codec plan format tag) codec (input_verbs codec plan format tag) settings there.0 nid c command (all_input_wanted codec plan format tag fits) among sets there.1

  group_among : Contains (input_verbs codec plan format tag) (command_to codec codec.group (SetPower 0))
  unfolding input_verbs
  group_among = has_group_by codec (input_role_of plan) (input_step_verbs codec format tag)

  verb_among : (s : Step) (nid : ℕ) (node : RawNode) (verb : Verb) → nid < 128 → node_at codec nid ≡ Some node → Contains (input_step_verbs codec format tag s nid node (input_role_of plan nid)) verb → Contains (input_verbs codec plan format tag) (command_to codec nid verb)
  unfolding input_verbs
  verb_among s nid node verb low there has = has_verb_by codec (input_role_of plan) (input_step_verbs codec format tag) s nid node verb low there has

  group_power : setting_of S codec.group control.Power ≡ 0
  group_power =
      settled codec.group control.Power (command_to codec codec.group (SetPower 0)) has group_among
      (one_sets codec codec.group (SetPower 0) control.Power 0 (λ s. refl) has)
      ∙ in_wanted-power codec plan format tag codec.group
    where
      has : has_control codec codec.group control.Power ≡ true
      has = rw (eq-eqb codec.group codec.group refl) refl

  module _ (nid : ℕ) (node : RawNode) (there : node_at codec nid ≡ Some node) (role : Role) (is : input_role_of plan nid ≡ role) where
    -- a control of the widget is one of the codec
    has_widget : (c : Control) → widget_has node c ≡ true → has_control codec nid c ≡ true
    has_widget c h = rw (ne_eqb nid codec.group (apart_at codec nid node well there).other, there) h

    -- a control that a verb of a step sets
    set_by : (s : Step) (c : Control) (verb : Verb) → widget_has node c ≡ true → Contains (input_step_verbs codec format tag s nid node role) verb → (has_control codec nid c ≡ true → Sets codec (command_to codec nid verb) nid c)
        → setting_of S nid c ≡ in_widget_wanted codec format tag node role c
    set_by s c verb has among sets =
        settled nid c (command_to codec nid verb) (has_widget c has)
        (verb_among s nid node verb (node_below codec nid node well there) there (subst (λ r. Contains (input_step_verbs codec format tag s nid node r) verb) (sym is) among)) (sets (has_widget c has))
        ∙ in_wanted-widget codec plan format tag nid node role c there is

    -- a node of the route is on
    used_on : is_used role ≡ true → is_off codec S nid node ≡ false
    used_on used = rw group_power (by (has_power_control node) refl)
      where
        by : (b : Bool) → has_power_control node ≡ b → (not (0 == 0) || (b && not (setting_of S nid control.Power == 0))) ≡ false
        by true e = rw (set_by Power control.Power (SetPower 0) e (has_if (is_used role && has_power_control node) (SetPower 0) (and_from _ _ used e)) (λ h. one_sets codec nid (SetPower 0) control.Power 0 (λ s. refl) h)) refl
        by false e = refl

  -- a converter off the route takes and gives no stream
  pub unused_released : (nid : ℕ) (node : RawNode) → node_at codec nid ≡ Some node → input_role_of plan nid ≡ Unused → is_converter node ≡ true → setting_of S nid control.Stream ≡ 0
  unused_released nid node there is e = set_by nid node there Unused is Release control.Stream (SetStream 0) e (has_if (is_converter node) (SetStream 0) e) (λ h. one_sets codec nid (SetStream 0) control.Stream 0 (λ s. refl) h)

  -- an input converter has the controls of converters
  converts : (node : RawNode) → is_input_converter node ≡ true → is_converter node ≡ true
  converts node e = or_right (is_output_converter node) (is_input_converter node) e

  -- the converter, a mixer or a selector of the route
  pub input_passed_set : (nid : ℕ) (node : RawNode) → node_at codec nid ≡ Some node → (index : ℕ) → input_role_of plan nid ≡ Passed index → index < length node.list → InputPassedSet codec format tag S nid node index
  input_passed_set nid node there index is within = record {
    on = used_on nid node there (Passed index) is refl;
    out_left = λ has. set_by nid node there (Passed index) is Route control.OutLeft _ has (at_output codec format tag node index (has_if (has_output_amplifier node) _ has)) (output_left codec nid node there);
    out_right = λ has. set_by nid node there (Passed index) is Route control.OutRight _ has (at_output codec format tag node index (has_if (has_output_amplifier node) _ has)) (output_right codec nid node there);
    mixer = λ mixes has place low. record {
      left = set_by nid node there (Passed index) is Route (control.InLeft place) (mixer_input codec node index place) (input_has node place has (few mixes place low) low) (at_mixer codec format tag node index (mixer_among codec node index place (and_from _ _ mixes has) low)) (mixer_left codec nid node there index place (few mixes place low));
      right = set_by nid node there (Passed index) is Route (control.InRight place) (mixer_input codec node index place) (input_has node place has (few mixes place low) low) (at_mixer codec format tag node index (mixer_among codec node index place (and_from _ _ mixes has) low)) (mixer_right codec nid node there index place (few mixes place low));
    };
    choice = λ which long. set_by nid node there (Passed index) is Route control.Select (SetSelect index) (choice_has node which long) (at_choice codec format tag node index (has_if (selects_input node && nat_le 2 (length node.list)) (SetSelect index) (and_from _ _ which long)))
        (λ has. one_sets codec nid (SetSelect index) control.Select index (λ s. select_writes s) has);
    input = λ which has. record {
      left = set_by nid node there (Passed index) is Route (control.InLeft index) (pass_input codec node index) (input_has node index has (near which has) within) (at_selected codec format tag node index (has_if (selects_input node && has_input_amplifier node) _ (and_from _ _ which has))) (pass_left codec nid node there index (near which has));
      right = set_by nid node there (Passed index) is Route (control.InRight index) (pass_input codec node index) (input_has node index has (near which has) within) (at_selected codec format tag node index (has_if (selects_input node && has_input_amplifier node) _ (and_from _ _ which has))) (pass_right codec nid node there index (near which has));
    };
    format_set = λ e. set_by nid node there (Passed index) is Route control.Format (SetFormat (format_word format)) (converts node e) (at_stream codec format tag node index (stream_among format tag node (SetFormat (format_word format)) e (0, omega arith, refl))) (λ h. one_sets codec nid (SetFormat (format_word format)) control.Format (format_word format) (λ s. refl) h);
    stream_set = λ e. set_by nid node there (Passed index) is Route control.Stream (SetStream (tag * 2 ^ 4)) (converts node e) (at_stream codec format tag node index (stream_among format tag node (SetStream (tag * 2 ^ 4)) e (1, omega arith, refl))) (λ h. one_sets codec nid (SetStream (tag * 2 ^ 4)) control.Stream (tag * 2 ^ 4) (λ s. refl) h);
  }
    where
      fit : FitsInput node (Passed index)
      fit = subst (λ r. FitsInput node r) is (fits.at nid node there)

      few : is_mixer node ≡ true → (place : ℕ) → place < length node.list → place < 16
      few mixes place low = let z = fit.inputs mixes in omega arith

      near : selects_input node ≡ true → has_input_amplifier node ≡ true → index < 16
      near which has = fit.argument (and_from _ _ which has)

      select_writes : (s : Entries) → verb_writes codec s nid (SetSelect index) ≡ written codec nid control.Select index
      select_writes s = rw (there, lt-ltb index (length node.list) within) refl

  -- the pin of the route
  pub input_pin_set : (nid : ℕ) (node : RawNode) → node_at codec nid ≡ Some node → (pair : ℕ) → input_role_of plan nid ≡ Source pair → is_pin node ≡ true → InputPinSet codec S nid node
  input_pin_set nid node there pair is e = record {
    on = used_on nid node there (Source pair) is refl;
    out_left = λ has. set_by nid node there (Source pair) is Route control.OutLeft _ has (out_among has) (output_left codec nid node there);
    out_right = λ has. set_by nid node there (Source pair) is Route control.OutRight _ has (out_among has) (output_right codec nid node there);
    input = λ has. record {
      left = set_by nid node there (Source pair) is Route (control.InLeft 0) (pass_input codec node 0) (first_has node has) (in_among has) (pass_left codec nid node there 0 (lit< tt));
      right = set_by nid node there (Source pair) is Route (control.InRight 0) (pass_input codec node 0) (first_has node has) (in_among has) (pass_right codec nid node there 0 (lit< tt));
    };
    pin = set_by nid node there (Source pair) is Route control.Pin (SetPin input_control) e
        (Contains-append_right (only_if (has_input_amplifier node) (pass_input codec node 0)) _ _ (Contains-append_left (only_if (is_pin node) (SetPin input_control)) _ _ (has_if (is_pin node) (SetPin input_control) e)))
        (λ has. one_sets codec nid (SetPin input_control) control.Pin (bit_and input_control pin_bits) (λ s. refl) has);
  }
    where
      in_among : has_input_amplifier node ≡ true → Contains (input_pin_verbs codec node) (pass_input codec node 0)
      in_among has = Contains-append_left (only_if (has_input_amplifier node) (pass_input codec node 0)) _ _ (has_if (has_input_amplifier node) _ has)

      out_among : has_output_amplifier node ≡ true → Contains (input_pin_verbs codec node) (SetAmp (amplifiers.setting_payload (output_setting (amplifier_offset (output_amplifier_word codec node)))))
      out_among has = Contains-append_right (only_if (has_input_amplifier node) (pass_input codec node 0)) _ _ (Contains-append_right (only_if (is_pin node) (SetPin input_control)) _ _ (has_if (has_output_amplifier node) _ has))
