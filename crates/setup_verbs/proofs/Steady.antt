-- Each set-up verb sets what is wanted.
use Rattle.std.proofs.Common.{◌≡◌, ◌+◌, ◌*◌, ◌^◌, ◌&&◌, ℕ, [], ◌∷◌, ◌++◌, Some, refl, sym, ap, ◌∙◌}
use Rattle.std.specs.Prelude.{All, nat_lt, bit_and}
use Rattle.std.proofs.lemmas.Bool.{eq-eqb}
use Rattle.std.proofs.lemmas.List.Elements.{All-nil, All-cons, All-append}
use Rattle.codec_graph.specs.declared.raw.RawNode.{RawNode}
use Rattle.codec_graph.specs.declared.raw.RawCodec.{RawCodec}
use Rattle.codec_graph.specs.declared.controls.Control.{Control}
use Rattle.codec_graph.specs.declared.controls.Control.TheVariants as control
use Rattle.codec_graph.specs.Widget.{node_at, is_selector, is_pin, is_output_converter, has_power_control, has_input_amplifier}
use Rattle.codec_graph.specs.Settings.{Entries, has_eapd, detects_presence, sends_unsolicited}
use Rattle.codec_graph.specs.VerbMeaning.{written, verb_writes, node_connections, pin_bits, eapd_bits, unsolicited_bits}
use Rattle.verb_codes.specs.declared.verbs.Verb.{Verb}
use Rattle.verb_codes.specs.declared.verbs.Verb.TheVariants.{SetSelect, SetPower, SetStream, SetPin, SetUnsol, SetEapd, SetFormat, SetDigital}
use Rattle.stream_format.specs.declared.format.Format.{Format}
use Rattle.stream_format.specs.Words.{format_word}
use Rattle.codec_graph.specs.declared.pin_kind.PinKind.{PinKind}
use Rattle.codec_graph.specs.declared.pin_kind.PinKind.TheVariants.{Analog, Digital}
use Rattle.route_planner.specs.declared.routes.Plan.{Plan}
use Rattle.setup_verbs.specs.declared.roles.Role.{Role}
use Rattle.setup_verbs.specs.declared.roles.Role.TheVariants.{Unused, Passed, Source}
use Rattle.setup_verbs.specs.declared.steps.Step.{Step}
use Rattle.setup_verbs.specs.declared.steps.Step.TheVariants.{Power, Silence, Release, Route}
use Rattle.setup_verbs.specs.Roles.{role_of, is_used}
use Rattle.setup_verbs.specs.Steps.{step_verbs, FitsWidget, FitsVerbs}
use Rattle.setup_verbs.specs.VerbList.{only_if, command_to, mixer_verbs, has_choice, select_verbs, selector_verbs, output_verbs, enable_verbs, source_verbs_as, pin_control, event_tag, digital_pin_verbs, passed_verbs, passed_verbs_as, setup_verbs_as}
use Rattle.setup_verbs.proofs.Settling.{IsWanted}
use Rattle.setup_verbs.proofs.Wanted.{pin_control_as, digital_wanted, widget_wanted, wanted, wanted-widget, one_wanted, if_wanted, wanted-power}
use Rattle.setup_verbs.proofs.Members.{all_if, all_verbs}
use Rattle.setup_verbs.proofs.Amplified.{outputs_good, InputGood, pass_good, mixers_good}

module _ (kind : PinKind) (codec : RawCodec) (plan : Plan) (format : Format) (tag nid : ℕ) (node : RawNode) (there : node_at codec nid ≡ Some node) where
  -- the verb puts what is wanted
  abbrev pub Good : Verb → Type 0
  Good verb = IsWanted (wanted kind codec plan format tag) codec (command_to codec nid verb)

  one : (role : Role) → role_of plan nid ≡ role → (verb : Verb) (c : Control) (value : ℕ) → ((settings : Entries) → verb_writes codec settings nid verb ≡ written codec nid c value) → value ≡ widget_wanted kind codec plan format tag nid node role c → Good verb
  one role is verb c value writes e = one_wanted (wanted kind codec plan format tag) codec nid verb c value writes (e ∙ sym (wanted-widget kind codec plan format tag nid node role c there is))

  power_good : (role : Role) → role_of plan nid ≡ role → All Good (step_verbs kind codec plan format tag Power nid node role)
  power_good role is = all_if Good (is_used role && has_power_control node) (SetPower 0) (λ h. one role is (SetPower 0) control.Power 0 (λ s. refl) refl)

  silence_good : (role : Role) → role_of plan nid ≡ role → All Good (step_verbs kind codec plan format tag Silence nid node role)
  silence_good Unused is = all_if Good (is_pin node) (SetPin 0) (λ h. one Unused is (SetPin 0) control.Pin (bit_and 0 pin_bits) (λ s. refl) refl)
  silence_good (Passed index) is = All-nil Good
  silence_good (Source pair) is = All-nil Good

  release_good : (role : Role) → role_of plan nid ≡ role → All Good (step_verbs kind codec plan format tag Release nid node role)
  release_good Unused is = all_if Good (is_output_converter node) (SetStream 0) (λ h. one Unused is (SetStream 0) control.Stream 0 (λ s. refl) refl)
  release_good (Passed index) is = All-nil Good
  release_good (Source pair) is = All-nil Good

  output_good : (role : Role) → role_of plan nid ≡ role → All Good (output_verbs codec node)
  output_good role is =
      outputs_good (wanted kind codec plan format tag) codec nid node there (wanted-widget kind codec plan format tag nid node role control.OutLeft there is) (wanted-widget kind codec plan format tag nid node role control.OutRight there is)

  enable_good : (k : PinKind) → k ≡ kind → (pair : ℕ) → role_of plan nid ≡ Source pair → All Good (enable_verbs k)
  enable_good Analog same pair is = All-nil Good
  enable_good Digital same pair is =
      All-cons Good (SetDigital 0x01) [] (one (Source pair) is (SetDigital 0x01) control.Digital 0x01 (λ s. refl) (ap digital_wanted same)) (All-nil Good)

  source_good : (pair : ℕ) → role_of plan nid ≡ Source pair → All Good (source_verbs_as kind format tag pair ++ output_verbs codec node)
  source_good pair is =
      All-cons Good (SetFormat (format_word format)) (SetStream (tag * 2 ^ 4 + 2 * pair) ∷ (enable_verbs kind ++ output_verbs codec node)) (one (Source pair) is (SetFormat (format_word format)) control.Format (format_word format) (λ s. refl) refl)
      (All-cons Good (SetStream (tag * 2 ^ 4 + 2 * pair)) (enable_verbs kind ++ output_verbs codec node) (one (Source pair) is (SetStream (tag * 2 ^ 4 + 2 * pair)) control.Stream (tag * 2 ^ 4 + 2 * pair) (λ s. refl) refl)
      (All-append Good (enable_verbs kind) (output_verbs codec node) (enable_good kind refl pair is) (output_good (Source pair) is)))

  input_good : (index place : ℕ) → role_of plan nid ≡ Passed index → InputGood (wanted kind codec plan format tag) codec nid node there index place
  input_good index place is = (wanted-widget kind codec plan format tag nid node (Passed index) (control.InLeft place) there is, wanted-widget kind codec plan format tag nid node (Passed index) (control.InRight place) there is)

  select_good : (index : ℕ) → role_of plan nid ≡ Passed index → All Good (select_verbs node index)
  select_good index is =
      all_if Good (has_choice node) (SetSelect index) (λ h. if_wanted (wanted kind codec plan format tag) codec nid (SetSelect index) control.Select index (nat_lt index (node_connections (node_at codec nid))) (λ s. refl)
      (sym (wanted-widget kind codec plan format tag nid node (Passed index) control.Select there is)))

  eapd_good : (index : ℕ) → role_of plan nid ≡ Passed index → All Good (only_if (has_eapd node) (SetEapd 0x02))
  eapd_good index is = all_if Good (has_eapd node) _ (λ h. one (Passed index) is (SetEapd 0x02) control.Eapd (bit_and 0x02 eapd_bits) (λ s. refl) refl)

  analog_good : kind ≡ Analog → (index : ℕ) → role_of plan nid ≡ Passed index → FitsWidget plan node (Passed index) → All Good (passed_verbs codec plan nid node index)
  analog_good same index is fits =
      All-append Good (mixer_verbs codec node index) _ (mixers_good (wanted kind codec plan format tag) codec nid node there index (λ place. input_good index place is) fits.inputs)
      (All-append Good (select_verbs node index) _ (select_good index is)
      (All-append Good (selector_verbs codec node index) _ (all_if Good (is_selector node && has_input_amplifier node) _ (λ h. pass_good (wanted kind codec plan format tag) codec nid node there index index (input_good index index is) (fits.argument h) (eq-eqb index index refl)))
      (All-append Good (output_verbs codec node) _ (output_good (Passed index) is)
      (All-append Good (only_if (has_eapd node) (SetEapd 0x02)) _ (eapd_good index is)
      (All-append Good (only_if (detects_presence node && sends_unsolicited node) (SetUnsol (0x80 + event_tag plan nid))) _ (all_if Good (detects_presence node && sends_unsolicited node) _ (λ h. one (Passed index) is (SetUnsol (0x80 + event_tag plan nid)) control.Unsol (bit_and (0x80 + event_tag plan nid) unsolicited_bits) (λ s. refl) refl))
      (all_if Good (is_pin node) _ (λ h. one (Passed index) is (SetPin (pin_control node)) control.Pin (bit_and (pin_control node) pin_bits) (λ s. refl) (ap (λ k. bit_and (pin_control_as k node) pin_bits) (sym same)))))))))

  digital_good : kind ≡ Digital → (index : ℕ) → role_of plan nid ≡ Passed index → All Good (select_verbs node index ++ (output_verbs codec node ++ digital_pin_verbs node))
  digital_good same index is =
      All-append Good (select_verbs node index) _ (select_good index is)
      (All-append Good (output_verbs codec node) _ (output_good (Passed index) is)
      (All-append Good (only_if (has_eapd node) (SetEapd 0x02)) _ (eapd_good index is)
      (all_if Good (is_pin node) _ (λ h. one (Passed index) is (SetPin 0x40) control.Pin (bit_and 0x40 pin_bits) (λ s. refl) (ap (λ k. bit_and (pin_control_as k node) pin_bits) (sym same))))))

  passed_good : (k : PinKind) → kind ≡ k → (index : ℕ) → role_of plan nid ≡ Passed index → FitsWidget plan node (Passed index) → All Good (passed_verbs_as k codec plan nid node index)
  passed_good Analog same index is fits = analog_good same index is fits
  passed_good Digital same index is fits = digital_good same index is

  route_good : (role : Role) → role_of plan nid ≡ role → FitsWidget plan node role → All Good (step_verbs kind codec plan format tag Route nid node role)
  route_good Unused is fits = All-nil Good
  route_good (Passed index) is fits = passed_good kind refl index is fits
  route_good (Source pair) is fits = source_good pair is

  step_good : (s : Step) → FitsWidget plan node (role_of plan nid) → All Good (step_verbs kind codec plan format tag s nid node (role_of plan nid))
  step_good Power fits = power_good (role_of plan nid) refl
  step_good Silence fits = silence_good (role_of plan nid) refl
  step_good Release fits = release_good (role_of plan nid) refl
  step_good Route fits = route_good (role_of plan nid) refl fits

pub all_wanted : (kind : PinKind) (codec : RawCodec) (plan : Plan) (format : Format) (tag : ℕ) → FitsVerbs codec plan → All (IsWanted (wanted kind codec plan format tag) codec) (setup_verbs_as kind codec plan format tag)
all_wanted kind codec plan format tag fits =
    all_verbs (IsWanted (wanted kind codec plan format tag) codec) kind codec plan format tag
    (one_wanted (wanted kind codec plan format tag) codec codec.group (SetPower 0) control.Power 0 (λ s. refl) (sym (wanted-power kind codec plan format tag codec.group)))
    (λ s nid node there. step_good kind codec plan format tag nid node there s (fits.at nid node there))
