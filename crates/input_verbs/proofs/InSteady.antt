-- Each verb of an input sets what is wanted.
use Rattle.std.proofs.Common.{◌≡◌, ◌*◌, ◌^◌, ◌&&◌, ℕ, Bool, true, false, cond, [], ◌∷◌, length, Some, refl, sym, ◌∙◌, lit<}
use Rattle.std.specs.Prelude.{All, nat_lt, nat_le, bit_and}
use Rattle.std.proofs.lemmas.Bool.{eq-eqb}
use Rattle.std.proofs.lemmas.List.Elements.{All-nil, All-cons, All-append}
use Rattle.codec_graph.specs.declared.raw.RawNode.{RawNode}
use Rattle.codec_graph.specs.declared.raw.RawCodec.{RawCodec}
use Rattle.codec_graph.specs.declared.controls.Control.{Control}
use Rattle.codec_graph.specs.declared.controls.Control.TheVariants as control
use Rattle.codec_graph.specs.Widget.{node_at, is_pin, is_converter, is_input_converter, has_power_control, has_input_amplifier}
use Rattle.codec_graph.specs.Settings.{Entries}
use Rattle.codec_graph.specs.VerbMeaning.{written, verb_writes, node_connections, pin_bits}
use Rattle.verb_codes.specs.declared.verbs.Verb.{Verb}
use Rattle.verb_codes.specs.declared.verbs.Verb.TheVariants.{SetSelect, SetPower, SetStream, SetPin, SetFormat}
use Rattle.stream_format.specs.declared.format.Format.{Format}
use Rattle.stream_format.specs.Words.{format_word}
use Rattle.route_planner.specs.declared.routes.Plan.{Plan}
use Rattle.setup_verbs.specs.declared.roles.Role.{Role}
use Rattle.setup_verbs.specs.declared.roles.Role.TheVariants.{Unused, Passed, Source}
use Rattle.setup_verbs.specs.declared.steps.Step.{Step}
use Rattle.setup_verbs.specs.declared.steps.Step.TheVariants.{Power, Silence, Release, Route}
use Rattle.setup_verbs.specs.Roles.{is_used}
use Rattle.setup_verbs.specs.VerbList.{only_if, command_to, pass_input, mixer_verbs, output_verbs, power_verbs, silence_verbs}
use Rattle.setup_verbs.proofs.Callers.{IsWanted, one_wanted, if_wanted, all_if, all_verbs_by, InputGood, outputs_good, pass_good, mixers_good}
use Rattle.input_verbs.specs.InputVerbs.{input_role_of, input_release_verbs, selects_input, input_select_verbs, input_stream_verbs, selected_verbs, input_passed_verbs, input_control, input_pin_verbs, input_route_verbs, input_verbs}
use Rattle.input_verbs.specs.InputSteps.{input_step_verbs, FitsInput, FitsInputVerbs}
use Rattle.input_verbs.proofs.InWanted.{in_widget_wanted, in_wanted, in_wanted-widget, in_wanted-power}

module _ (codec : RawCodec) (plan : Plan) (format : Format) (tag nid : ℕ) (node : RawNode) (there : node_at codec nid ≡ Some node) where
  -- the verb puts what is wanted
  abbrev Good : Verb → Type 0
  Good verb = IsWanted (in_wanted codec plan format tag) codec (command_to codec nid verb)

  one : (role : Role) → input_role_of plan nid ≡ role → (verb : Verb) (c : Control) (value : ℕ) → ((settings : Entries) → verb_writes codec settings nid verb ≡ written codec nid c value) → value ≡ in_widget_wanted codec format tag node role c → Good verb
  one role is verb c value writes e = one_wanted (in_wanted codec plan format tag) codec nid verb c value writes (e ∙ sym (in_wanted-widget codec plan format tag nid node role c there is))

  power_good : (role : Role) → input_role_of plan nid ≡ role → All Good (power_verbs node role)
  power_good role is = all_if Good (is_used role && has_power_control node) (SetPower 0) (λ h. one role is (SetPower 0) control.Power 0 (λ s. refl) refl)

  silence_good : (role : Role) → input_role_of plan nid ≡ role → All Good (silence_verbs node role)
  silence_good Unused is = all_if Good (is_pin node) (SetPin 0) (λ h. one Unused is (SetPin 0) control.Pin (bit_and 0 pin_bits) (λ s. refl) refl)
  silence_good (Passed index) is = All-nil Good
  silence_good (Source pair) is = All-nil Good

  release_good : (role : Role) → input_role_of plan nid ≡ role → All Good (input_release_verbs node role)
  release_good Unused is = all_if Good (is_converter node) (SetStream 0) (λ h. one Unused is (SetStream 0) control.Stream 0 (λ s. refl) refl)
  release_good (Passed index) is = All-nil Good
  release_good (Source pair) is = All-nil Good

  output_good : (role : Role) → input_role_of plan nid ≡ role → All Good (output_verbs codec node)
  output_good role is =
      outputs_good (in_wanted codec plan format tag) codec nid node there (in_wanted-widget codec plan format tag nid node role control.OutLeft there is) (in_wanted-widget codec plan format tag nid node role control.OutRight there is)

  passed_input : (index place : ℕ) → input_role_of plan nid ≡ Passed index → InputGood (in_wanted codec plan format tag) codec nid node there index place
  passed_input index place is = (in_wanted-widget codec plan format tag nid node (Passed index) (control.InLeft place) there is, in_wanted-widget codec plan format tag nid node (Passed index) (control.InRight place) there is)

  pin_input : (pair : ℕ) → input_role_of plan nid ≡ Source pair → InputGood (in_wanted codec plan format tag) codec nid node there 0 0
  pin_input pair is = (in_wanted-widget codec plan format tag nid node (Source pair) (control.InLeft 0) there is, in_wanted-widget codec plan format tag nid node (Source pair) (control.InRight 0) there is)

  select_good : (index : ℕ) → input_role_of plan nid ≡ Passed index → All Good (input_select_verbs node index)
  select_good index is =
      all_if Good (selects_input node && nat_le 2 (length node.list)) (SetSelect index) (λ h. if_wanted (in_wanted codec plan format tag) codec nid (SetSelect index) control.Select index (nat_lt index (node_connections (node_at codec nid))) (λ s. refl)
      (sym (in_wanted-widget codec plan format tag nid node (Passed index) control.Select there is)))

  stream_good : (index : ℕ) → input_role_of plan nid ≡ Passed index → All Good (input_stream_verbs format tag node)
  stream_good index is = by (is_input_converter node)
    where
      by : (b : Bool) → All Good (cond b (SetFormat (format_word format) ∷ SetStream (tag * 2 ^ 4) ∷ []) [])
      by true =
          All-cons Good (SetFormat (format_word format)) (SetStream (tag * 2 ^ 4) ∷ []) (one (Passed index) is (SetFormat (format_word format)) control.Format (format_word format) (λ s. refl) refl)
          (All-cons Good (SetStream (tag * 2 ^ 4)) [] (one (Passed index) is (SetStream (tag * 2 ^ 4)) control.Stream (tag * 2 ^ 4) (λ s. refl) refl) (All-nil Good))
      by false = All-nil Good

  passed_good : (index : ℕ) → input_role_of plan nid ≡ Passed index → FitsInput node (Passed index) → All Good (input_passed_verbs codec format tag node index)
  passed_good index is fits =
      All-append Good (mixer_verbs codec node index) _ (mixers_good (in_wanted codec plan format tag) codec nid node there index (λ place. passed_input index place is) fits.inputs)
      (All-append Good (input_select_verbs node index) _ (select_good index is)
      (All-append Good (input_stream_verbs format tag node) _ (stream_good index is)
      (All-append Good (selected_verbs codec node index) _ (all_if Good (selects_input node && has_input_amplifier node) _ (λ h. pass_good (in_wanted codec plan format tag) codec nid node there index index (passed_input index index is) (fits.argument h) (eq-eqb index index refl)))
      (output_good (Passed index) is))))

  pin_good : (pair : ℕ) → input_role_of plan nid ≡ Source pair → All Good (input_pin_verbs codec node)
  pin_good pair is =
      All-append Good (only_if (has_input_amplifier node) (pass_input codec node 0)) _ (all_if Good (has_input_amplifier node) _ (λ h. pass_good (in_wanted codec plan format tag) codec nid node there 0 0 (pin_input pair is) (lit< tt) refl))
      (All-append Good (only_if (is_pin node) (SetPin input_control)) _ (all_if Good (is_pin node) _ (λ h. one (Source pair) is (SetPin input_control) control.Pin (bit_and input_control pin_bits) (λ s. refl) refl))
      (output_good (Source pair) is))

  route_good : (role : Role) → input_role_of plan nid ≡ role → FitsInput node role → All Good (input_route_verbs codec format tag node role)
  route_good Unused is fits = All-nil Good
  route_good (Passed index) is fits = passed_good index is fits
  route_good (Source pair) is fits = pin_good pair is

  step_good : (s : Step) → FitsInput node (input_role_of plan nid) → All Good (input_step_verbs codec format tag s nid node (input_role_of plan nid))
  step_good Power fits = power_good (input_role_of plan nid) refl
  step_good Silence fits = silence_good (input_role_of plan nid) refl
  step_good Release fits = release_good (input_role_of plan nid) refl
  step_good Route fits = route_good (input_role_of plan nid) refl fits

pub all_input_wanted : (codec : RawCodec) (plan : Plan) (format : Format) (tag : ℕ) → FitsInputVerbs codec (input_role_of plan) → All (IsWanted (in_wanted codec plan format tag) codec) (input_verbs codec plan format tag)
unfolding input_verbs
all_input_wanted codec plan format tag fits =
    all_verbs_by (IsWanted (in_wanted codec plan format tag) codec) codec (input_role_of plan) (input_step_verbs codec format tag)
    (one_wanted (in_wanted codec plan format tag) codec codec.group (SetPower 0) control.Power 0 (λ s. refl) (sym (in_wanted-power codec plan format tag codec.group)))
    (λ s nid node there. step_good codec plan format tag nid node there s (fits.at nid node there))
