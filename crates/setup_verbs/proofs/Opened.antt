-- The settings after the set-up verbs, node by node.
use Rattle.std.proofs.Common.{◌≡◌, ◌≢◌, ◌<◌, ◌+◌, ◌*◌, ◌^◌, ◌==◌, ◌&&◌, ◌||◌, not, ℕ, Bool, true, false, length, Option, Some, None, ◌⊎◌, inl, inr, refl, sym, ap, subst, ◌∙◌, arith}
use Rattle.std.specs.Prelude.{Contains, nat_le, is_some, bit_and}
use Rattle.std.proofs.lemmas.Bool.{true≢false, and_parts, and_from, eq-eqb, ne_eqb, lt-ltb, cases_eq}
use Rattle.std.proofs.lemmas.List.Elements.{Contains-append_left, Contains-append_right}
use Rattle.codec_graph.specs.declared.raw.RawNode.{RawNode}
use Rattle.codec_graph.specs.declared.raw.RawCodec.{RawCodec}
use Rattle.codec_graph.specs.declared.controls.Control.{Control}
use Rattle.codec_graph.specs.declared.controls.Control.TheVariants as control
use Rattle.codec_graph.specs.Widget.{node_at, is_mixer, is_selector, is_pin, is_output_converter, is_converter, is_digital, has_power_control, has_input_amplifier, has_output_amplifier, output_amplifier_word, amplifier_offset}
use Rattle.codec_graph.specs.Settings.{Entries, key, setting_at, setting_of, has_control, widget_has, has_eapd, detects_presence, sends_unsolicited, IsSettingsOf}
use Rattle.codec_graph.specs.VerbMeaning.{verb_writes, written, pin_bits, eapd_bits}
use Rattle.codec_graph.specs.Cycles.{IsWellFormed}
use Rattle.codec_graph.proofs.Callers.{node_below}
use Rattle.codec_graph.proofs.Callers.{is_some-setting_at}
use Rattle.verb_codes.specs.declared.verbs.Command.{Command}
use Rattle.verb_codes.specs.declared.verbs.Verb.{Verb}
use Rattle.verb_codes.specs.declared.verbs.Verb.TheVariants.{SetSelect, SetPower, SetStream, SetPin, SetUnsol, SetEapd, SetFormat, SetDigital, SetAmp}
use Rattle.verb_codes.specs.Amplifiers as amplifiers
use Rattle.verb_codes.specs.Words.{bits_of, has_bit}
use Rattle.stream_format.specs.declared.format.Format.{Format}
use Rattle.stream_format.specs.Words.{format_word}
use Rattle.codec_graph.specs.declared.pin_kind.PinKind.{PinKind}
use Rattle.codec_graph.specs.declared.pin_kind.PinKind.TheVariants.{Analog, Digital}
use Rattle.route_planner.specs.declared.routes.Plan.{Plan}
use Rattle.codec_sound.specs.Signals.{is_off, is_enabled, is_foreign}
use Rattle.setup_verbs.specs.declared.roles.Role.{Role}
use Rattle.setup_verbs.specs.declared.roles.Role.TheVariants.{Unused, Passed, Source}
use Rattle.setup_verbs.specs.declared.steps.Step.{Step}
use Rattle.setup_verbs.specs.declared.steps.Step.TheVariants.{Power, Silence, Route}
use Rattle.setup_verbs.specs.Roles.{role_of, is_used}
use Rattle.setup_verbs.specs.Steps.{step_verbs, FitsVerbs, FitsWidget}
use Rattle.setup_verbs.specs.SetUp.{settings_after}
use Rattle.setup_verbs.specs.VerbList.{only_if, command_to, output_setting, pass_input, mixer_input, mixer_verbs, has_choice, select_verbs, selector_verbs, output_verbs, enable_verbs, source_verbs, source_verbs_as, pin_control, event_tag, pin_verbs, digital_pin_verbs, passed_verbs, passed_verbs_as, setup_verbs_as}
use Rattle.setup_verbs.proofs.Settling.{Sets, settle}
use Rattle.setup_verbs.proofs.Wanted.{pin_control_as, digital_wanted, wanted, wanted-widget, wanted-power, widget_wanted, input_wanted, output_wanted, one_sets}
use Rattle.setup_verbs.proofs.Members.{has_if, has_group, has_verb}
use Rattle.setup_verbs.proofs.Amplified.{input_has, mixer_among, output_left, output_right, pass_left, pass_right, mixer_left, mixer_right}
use Rattle.setup_verbs.proofs.Passing.{IsUnmixed}
use Rattle.setup_verbs.proofs.Steady.{all_wanted}
use Rattle.setup_verbs.proofs.Faultless.{apart_at}

pub some_of : (o : Option ℕ) → is_some o ≡ true → (n : ℕ) × (o ≡ Some n)
some_of None e = absurd (true≢false (sym e))
some_of (Some n) e = (n, refl)

-- what a pin, mixer or selector that is left by an index is set to, and what a converter with a pair is
pub record PassedSet (kind : PinKind) (codec : RawCodec) (s : Entries) (nid : ℕ) (node : RawNode) (index : ℕ) : Type 0 where
  pub on : is_off codec s nid node ≡ false
  pub out_left : has_output_amplifier node ≡ true → setting_of s nid control.OutLeft ≡ output_wanted codec node
  pub out_right : has_output_amplifier node ≡ true → setting_of s nid control.OutRight ≡ output_wanted codec node
  pub select : has_choice node ≡ true → setting_of s nid control.Select ≡ index
  pub mix_left : (is_mixer node && has_input_amplifier node) ≡ true → (place : ℕ) → place < length node.list → setting_of s nid (control.InLeft place) ≡ input_wanted codec node index place
  pub mix_right : (is_mixer node && has_input_amplifier node) ≡ true → (place : ℕ) → place < length node.list → setting_of s nid (control.InRight place) ≡ input_wanted codec node index place
  pub sel_left : (is_selector node && has_input_amplifier node) ≡ true → setting_of s nid (control.InLeft index) ≡ input_wanted codec node index index
  pub sel_right : (is_selector node && has_input_amplifier node) ≡ true → setting_of s nid (control.InRight index) ≡ input_wanted codec node index index
  pub eapd : has_eapd node ≡ true → setting_of s nid control.Eapd ≡ bit_and 0x02 eapd_bits
  pub pin : is_pin node ≡ true → setting_of s nid control.Pin ≡ bit_and (pin_control_as kind node) pin_bits

-- a converter for digital pins has its digital output enabled
abbrev pub IsEnabledFor : PinKind → Entries → ℕ → Type 0
IsEnabledFor Analog s nid = Unit {0}
IsEnabledFor Digital s nid = is_enabled s nid ≡ true

pub record SourceSet (kind : PinKind) (codec : RawCodec) (format : Format) (tag : ℕ) (s : Entries) (nid : ℕ) (node : RawNode) (pair : ℕ) : Type 0 where
  pub on : is_off codec s nid node ≡ false
  pub out_left : has_output_amplifier node ≡ true → setting_of s nid control.OutLeft ≡ output_wanted codec node
  pub out_right : has_output_amplifier node ≡ true → setting_of s nid control.OutRight ≡ output_wanted codec node
  pub format_set : setting_of s nid control.Format ≡ format_word format
  pub stream_set : setting_of s nid control.Stream ≡ tag * 2 ^ 4 + 2 * pair
  pub enabled : IsEnabledFor kind s nid

-- a selector or pin with a choice has the control that selects
choice_has : (node : RawNode) → has_choice node ≡ true → (not (is_mixer node) && nat_le 2 (length node.list)) ≡ true
choice_has node h = let parts = and_parts _ _ h in and_from _ _ (apart (bits_of node.caps 20 4) parts.0) parts.1
  where
    apart : (n : ℕ) → (n == 3 || n == 4) ≡ true → not (n == 2) ≡ true
    apart n e = by (cases_eq n 2)
      where
        by : (n ≡ 2) ⊎ (n ≢ 2) → not (n == 2) ≡ true
        by (inl same) = let z : (n == 3 || n == 4) ≡ false = rw same refl in absurd (true≢false (sym e ∙ z))
        by (inr other) = rw (ne_eqb n 2 other) refl

module _ (kind : PinKind) (codec : RawCodec) (plan : Plan) (format : Format) (tag : ℕ) (well : IsWellFormed codec) (fits : FitsVerbs codec plan) (settings : Entries) (of : IsSettingsOf codec settings) where
  -- a control that some verb sets
  settled : (nid : ℕ) (c : Control) (command : Command) → has_control codec nid c ≡ true → Contains (setup_verbs_as kind codec plan format tag) command → Sets codec command nid c
      → setting_of (settings_after codec settings (setup_verbs_as kind codec plan format tag)) nid c ≡ wanted kind codec plan format tag (key nid c)
  settled nid c command has among sets =
      let there = some_of (setting_at settings nid c) (is_some-setting_at codec settings nid c well of.keys ∙ has) in
      settle (wanted kind codec plan format tag) codec (setup_verbs_as kind codec plan format tag) settings there.0 nid c command (all_wanted kind codec plan format tag fits) among sets there.1

  group_power : setting_of (settings_after codec settings (setup_verbs_as kind codec plan format tag)) codec.group control.Power ≡ 0
  group_power =
      settled codec.group control.Power (command_to codec codec.group (SetPower 0)) has (has_group kind codec plan format tag)
      (one_sets codec codec.group (SetPower 0) control.Power 0 (λ s. refl) has)
      ∙ wanted-power kind codec plan format tag codec.group
    where
      has : has_control codec codec.group control.Power ≡ true
      has = rw (eq-eqb codec.group codec.group refl) refl

  module _ (nid : ℕ) (node : RawNode) (there : node_at codec nid ≡ Some node) (role : Role) (is : role_of plan nid ≡ role) where
    below : nid < 128
    below = node_below codec nid node well there

    -- a control of the widget is one of the codec
    has_widget : (c : Control) → widget_has node c ≡ true → has_control codec nid c ≡ true
    has_widget c h = rw (ne_eqb nid codec.group (apart_at codec nid node well there).other, there) h

    -- a control that a verb of a step sets
    set_by : (s : Step) (c : Control) (verb : Verb) → widget_has node c ≡ true → Contains (step_verbs kind codec plan format tag s nid node role) verb → (has_control codec nid c ≡ true → Sets codec (command_to codec nid verb) nid c)
        → setting_of (settings_after codec settings (setup_verbs_as kind codec plan format tag)) nid c ≡ widget_wanted kind codec plan format tag nid node role c
    set_by s c verb has among sets =
        settled nid c (command_to codec nid verb) (has_widget c has)
        (has_verb kind codec plan format tag s nid node verb below there (subst (λ r. Contains (step_verbs kind codec plan format tag s nid node r) verb) (sym is) among)) (sets (has_widget c has))
        ∙ wanted-widget kind codec plan format tag nid node role c there is

    -- a node of a route is on
    pub used_on : is_used role ≡ true → is_off codec (settings_after codec settings (setup_verbs_as kind codec plan format tag)) nid node ≡ false
    used_on used = rw group_power (by (has_power_control node) refl)
      where
        by : (b : Bool) → has_power_control node ≡ b → (not (0 == 0) || (b && not (setting_of (settings_after codec settings (setup_verbs_as kind codec plan format tag)) nid control.Power == 0))) ≡ false
        by true e = rw (set_by Power control.Power (SetPower 0) e (has_if (is_used role && has_power_control node) (SetPower 0) (and_from _ _ used e)) (λ h. one_sets codec nid (SetPower 0) control.Power 0 (λ s. refl) h)) refl
        by false e = refl

  -- a pin without a route drives nothing
  pub unused_pin_set : (nid : ℕ) (node : RawNode) → node_at codec nid ≡ Some node → role_of plan nid ≡ Unused → is_pin node ≡ true → setting_of (settings_after codec settings (setup_verbs_as kind codec plan format tag)) nid control.Pin ≡ 0
  unused_pin_set nid node there is e = set_by nid node there Unused is Silence control.Pin (SetPin 0) e (has_if (is_pin node) (SetPin 0) e) (λ h. one_sets codec nid (SetPin 0) control.Pin (bit_and 0 pin_bits) (λ s. refl) h)

  -- the output of a node of a route
  out_among : (nid : ℕ) (node : RawNode) (role : Role) → is_used role ≡ true → has_output_amplifier node ≡ true → Contains (step_verbs kind codec plan format tag Route nid node role) (SetAmp (amplifiers.setting_payload (output_setting (amplifier_offset (output_amplifier_word codec node)))))
  out_among nid node Unused used has = cc
  out_among nid node (Passed index) used has = by kind
    where
      by : (k : PinKind) → Contains (passed_verbs_as k codec plan nid node index) (SetAmp (amplifiers.setting_payload (output_setting (amplifier_offset (output_amplifier_word codec node)))))
      by Analog = Contains-append_right (mixer_verbs codec node index) _ _ (Contains-append_right (select_verbs node index) _ _ (Contains-append_right (selector_verbs codec node index) _ _ (Contains-append_left (output_verbs codec node) _ _ (has_if (has_output_amplifier node) _ has))))
      by Digital = Contains-append_right (select_verbs node index) _ _ (Contains-append_left (output_verbs codec node) _ _ (has_if (has_output_amplifier node) _ has))
  out_among nid node (Source pair) used has = Contains-append_right (source_verbs_as kind format tag pair) (output_verbs codec node) _ (has_if (has_output_amplifier node) _ has)

  out_left_set : (nid : ℕ) (node : RawNode) → node_at codec nid ≡ Some node → (role : Role) → role_of plan nid ≡ role → is_used role ≡ true → has_output_amplifier node ≡ true → setting_of (settings_after codec settings (setup_verbs_as kind codec plan format tag)) nid control.OutLeft ≡ output_wanted codec node
  out_left_set nid node there role is used has = set_by nid node there role is Route control.OutLeft _ has (out_among nid node role used has) (output_left codec nid node there)

  out_right_set : (nid : ℕ) (node : RawNode) → node_at codec nid ≡ Some node → (role : Role) → role_of plan nid ≡ role → is_used role ≡ true → has_output_amplifier node ≡ true → setting_of (settings_after codec settings (setup_verbs_as kind codec plan format tag)) nid control.OutRight ≡ output_wanted codec node
  out_right_set nid node there role is used has = set_by nid node there role is Route control.OutRight _ has (out_among nid node role used has) (output_right codec nid node there)

  -- the converter of a route
  pub source_set : (nid : ℕ) (node : RawNode) → node_at codec nid ≡ Some node → (pair : ℕ) → role_of plan nid ≡ Source pair → is_output_converter node ≡ true → is_foreign kind node ≡ false → SourceSet kind codec format tag (settings_after codec settings (setup_verbs_as kind codec plan format tag)) nid node pair
  source_set nid node there pair is converts own = record {
    on = used_on nid node there (Source pair) is refl;
    out_left = out_left_set nid node there (Source pair) is refl;
    out_right = out_right_set nid node there (Source pair) is refl;
    format_set = set_by nid node there (Source pair) is Route control.Format (SetFormat (format_word format)) has (0, omega arith, refl) (λ h. one_sets codec nid (SetFormat (format_word format)) control.Format (format_word format) (λ s. refl) h);
    stream_set = set_by nid node there (Source pair) is Route control.Stream (SetStream (tag * 2 ^ 4 + 2 * pair)) has (1, omega arith, refl) (λ h. one_sets codec nid (SetStream (tag * 2 ^ 4 + 2 * pair)) control.Stream (tag * 2 ^ 4 + 2 * pair) (λ s. refl) h);
    enabled = by kind refl own;
  }
    where
      has : is_converter node ≡ true
      has = rw converts refl

      digital_node : kind ≡ Digital → is_foreign kind node ≡ false → is_digital node ≡ true
      digital_node same foreign = twice (is_digital node) (ap (λ k. is_foreign k node) (sym same) ∙ foreign)
        where
          twice : (b : Bool) → not b ≡ false → b ≡ true
          twice true e = refl
          twice false e = cc

      digital_has : is_digital node ≡ true → (is_converter node && is_digital node) ≡ true
      digital_has e = and_from _ _ has e

      enable_has : kind ≡ Digital → Contains (enable_verbs kind) (SetDigital 0x01)
      enable_has same = subst (λ k. Contains (enable_verbs k) (SetDigital 0x01)) (sym same) (0, omega arith, refl)

      -- the setting of a digital converter's control
      by : (k : PinKind) → kind ≡ k → is_foreign kind node ≡ false → IsEnabledFor k (settings_after codec settings (setup_verbs_as kind codec plan format tag)) nid
      by Analog same foreign = tt
      by Digital same foreign =
          ap (λ v. has_bit v 0)
          (set_by nid node there (Source pair) is Route control.Digital (SetDigital 0x01) (digital_has (digital_node same foreign))
          (Contains-append_left (source_verbs_as kind format tag pair) (output_verbs codec node) _ (Contains-append_right (source_verbs format tag pair) (enable_verbs kind) _ (enable_has same)))
          (λ h. one_sets codec nid (SetDigital 0x01) control.Digital 0x01 (λ s. refl) h)
          ∙ ap digital_wanted same)

  -- ---- pins, mixers and selectors

  mixer_verb : kind ≡ Analog → (nid : ℕ) (node : RawNode) (index place : ℕ) → (is_mixer node && has_input_amplifier node) ≡ true → place < length node.list → Contains (passed_verbs_as kind codec plan nid node index) (mixer_input codec node index place)
  mixer_verb same nid node index place has within =
      subst (λ k. Contains (passed_verbs_as k codec plan nid node index) (mixer_input codec node index place)) (sym same)
      (Contains-append_left (mixer_verbs codec node index) _ _ (mixer_among codec node index place has within))

  -- a selector or pin with a choice gets its verb
  select_among : (nid : ℕ) (node : RawNode) (index : ℕ) → has_choice node ≡ true → (k : PinKind) → Contains (passed_verbs_as k codec plan nid node index) (SetSelect index)
  select_among nid node index h Analog = Contains-append_right (mixer_verbs codec node index) _ _ (Contains-append_left (select_verbs node index) _ _ (has_if (has_choice node) (SetSelect index) h))
  select_among nid node index h Digital = Contains-append_left (select_verbs node index) _ _ (has_if (has_choice node) (SetSelect index) h)

  selector_among : kind ≡ Analog → (nid : ℕ) (node : RawNode) (index : ℕ) → (is_selector node && has_input_amplifier node) ≡ true → Contains (passed_verbs_as kind codec plan nid node index) (pass_input codec node index)
  selector_among same nid node index h =
      subst (λ k. Contains (passed_verbs_as k codec plan nid node index) (pass_input codec node index)) (sym same)
      (Contains-append_right (mixer_verbs codec node index) _ _ (Contains-append_right (select_verbs node index) _ _ (Contains-append_left (selector_verbs codec node index) _ _ (has_if (is_selector node && has_input_amplifier node) _ h))))

  -- the verbs of a pin stand last
  at_pin : (nid : ℕ) (node : RawNode) (index : ℕ) {verb : Verb} → Contains (pin_verbs plan nid node) verb → Contains (passed_verbs codec plan nid node index) verb
  at_pin nid node index c = Contains-append_right (mixer_verbs codec node index) _ _ (Contains-append_right (select_verbs node index) _ _ (Contains-append_right (selector_verbs codec node index) _ _ (Contains-append_right (output_verbs codec node) _ _ c)))

  at_digital_pin : (nid : ℕ) (node : RawNode) (index : ℕ) {verb : Verb} → Contains (digital_pin_verbs node) verb → Contains (passed_verbs_as Digital codec plan nid node index) verb
  at_digital_pin nid node index c = Contains-append_right (select_verbs node index) _ _ (Contains-append_right (output_verbs codec node) _ _ c)

  eapd_among : (nid : ℕ) (node : RawNode) (index : ℕ) → has_eapd node ≡ true → (k : PinKind) → Contains (passed_verbs_as k codec plan nid node index) (SetEapd 0x02)
  eapd_among nid node index h Analog = at_pin nid node index (Contains-append_left (only_if (has_eapd node) (SetEapd 0x02)) _ _ (has_if (has_eapd node) (SetEapd 0x02) h))
  eapd_among nid node index h Digital = at_digital_pin nid node index (Contains-append_left (only_if (has_eapd node) (SetEapd 0x02)) _ _ (has_if (has_eapd node) (SetEapd 0x02) h))

  pin_among : (nid : ℕ) (node : RawNode) (index : ℕ) → is_pin node ≡ true → (k : PinKind) → Contains (passed_verbs_as k codec plan nid node index) (SetPin (pin_control_as k node))
  pin_among nid node index h Analog =
      at_pin nid node index (Contains-append_right (only_if (has_eapd node) (SetEapd 0x02)) _ _ (Contains-append_right (only_if (detects_presence node && sends_unsolicited node) (SetUnsol (0x80 + event_tag plan nid))) _ _ (has_if (is_pin node) (SetPin (pin_control node)) h)))
  pin_among nid node index h Digital =
      at_digital_pin nid node index (Contains-append_right (only_if (has_eapd node) (SetEapd 0x02)) _ _ (has_if (is_pin node) (SetPin 0x40) h))

  -- routes of a kind that pass a mixer, or a selector with an input amplifier, are analog
  mixes_analog : (node : RawNode) (k : PinKind) → IsUnmixed k node → (is_mixer node && has_input_amplifier node) ≡ true → k ≡ Analog
  mixes_analog node Analog unmixed h = refl
  mixes_analog node Digital unmixed h = absurd (true≢false (sym (and_parts _ _ h).0 ∙ unmixed.0))

  selects_analog : (node : RawNode) (k : PinKind) → IsUnmixed k node → (is_selector node && has_input_amplifier node) ≡ true → k ≡ Analog
  selects_analog node Analog unmixed h = refl
  selects_analog node Digital unmixed h = absurd (true≢false (sym h ∙ unmixed.1))

  -- a pin, mixer or selector of a route
  pub passed_set : (nid : ℕ) (node : RawNode) → node_at codec nid ≡ Some node → (index : ℕ) → role_of plan nid ≡ Passed index → index < length node.list → IsUnmixed kind node → PassedSet kind codec (settings_after codec settings (setup_verbs_as kind codec plan format tag)) nid node index
  passed_set nid node there index is within unmixed = record {
    on = used_on nid node there (Passed index) is refl;
    out_left = out_left_set nid node there (Passed index) is refl;
    out_right = out_right_set nid node there (Passed index) is refl;
    select = λ h. set_by nid node there (Passed index) is Route control.Select (SetSelect index) (choice_has node h)
        (select_among nid node index h kind)
        (λ has. one_sets codec nid (SetSelect index) control.Select index (λ s. select_writes s) has);
    mix_left = λ h place low. set_by nid node there (Passed index) is Route (control.InLeft place) (mixer_input codec node index place) (input_has node place (and_parts _ _ h).1 (few h place low) low) (mixer_verb (mixes_analog node kind unmixed h) nid node index place h low) (mixer_left codec nid node there index place (few h place low));
    mix_right = λ h place low. set_by nid node there (Passed index) is Route (control.InRight place) (mixer_input codec node index place) (input_has node place (and_parts _ _ h).1 (few h place low) low) (mixer_verb (mixes_analog node kind unmixed h) nid node index place h low) (mixer_right codec nid node there index place (few h place low));
    sel_left = λ h. set_by nid node there (Passed index) is Route (control.InLeft index) (pass_input codec node index) (input_has node index (and_parts _ _ h).1 (near h) within) (selector_among (selects_analog node kind unmixed h) nid node index h) (pass_left codec nid node there index (near h));
    sel_right = λ h. set_by nid node there (Passed index) is Route (control.InRight index) (pass_input codec node index) (input_has node index (and_parts _ _ h).1 (near h) within) (selector_among (selects_analog node kind unmixed h) nid node index h) (pass_right codec nid node there index (near h));
    eapd = λ h. set_by nid node there (Passed index) is Route control.Eapd (SetEapd 0x02) h (eapd_among nid node index h kind) (λ has. one_sets codec nid (SetEapd 0x02) control.Eapd (bit_and 0x02 eapd_bits) (λ s. refl) has);
    pin = λ h. set_by nid node there (Passed index) is Route control.Pin (SetPin (pin_control_as kind node)) h (pin_among nid node index h kind) (λ has. one_sets codec nid (SetPin (pin_control_as kind node)) control.Pin (bit_and (pin_control_as kind node) pin_bits) (λ s. refl) has);
  }
    where
      fit : FitsWidget plan node (Passed index)
      fit = subst (λ r. FitsWidget plan node r) is (fits.at nid node there)

      few : (is_mixer node && has_input_amplifier node) ≡ true → (place : ℕ) → place < length node.list → place < 16
      few h place low = let z = fit.inputs (and_parts _ _ h).0 in omega arith

      near : (is_selector node && has_input_amplifier node) ≡ true → index < 16
      near h = fit.argument h

      select_writes : (s : Entries) → verb_writes codec s nid (SetSelect index) ≡ written codec nid control.Select index
      select_writes s = rw (there, lt-ltb index (length node.list) within) refl
