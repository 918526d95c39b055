-- Each verb of an input goes to the codec, and can be encoded where that is one of 0 to 14.
use Rattle.std.proofs.Common.{◌<◌, ◌≤◌, ◌*◌, ◌^◌, ◌&&◌, not, ℕ, Bool, true, false, cond, [], ◌∷◌, length, get_or, refl, arith, lit<}
use Rattle.std.specs.Prelude.{All, nat_le}
use Rattle.std.proofs.lemmas.List.Elements.{All-nil, All-cons, All-append}
use Rattle.codec_graph.specs.declared.raw.RawNode.{RawNode}
use Rattle.codec_graph.specs.declared.raw.RawCodec.{RawCodec}
use Rattle.codec_graph.specs.Widget.{is_pin, is_converter, is_input_converter, has_power_control, has_input_amplifier}
use Rattle.codec_graph.specs.Cycles.{IsWellFormed}
use Rattle.codec_graph.proofs.Callers.{node_below, counted}
use Rattle.verb_codes.specs.declared.verbs.Verb.TheVariants.{SetPower, SetStream, SetPin, SetFormat}
use Rattle.stream_format.specs.declared.format.Format.{Format}
use Rattle.stream_format.specs.Words.{format_word}
use Rattle.stream_format.proofs.Callers.{word_small}
use Rattle.route_planner.specs.declared.routes.Plan.{Plan}
use Rattle.route_planner.proofs.Callers.{IsBounded-from_sound}
use Rattle.setup_verbs.specs.declared.roles.Role.{Role}
use Rattle.setup_verbs.specs.declared.roles.Role.TheVariants.{Unused, Passed, Source}
use Rattle.setup_verbs.specs.declared.steps.Step.{Step}
use Rattle.setup_verbs.specs.declared.steps.Step.TheVariants.{Power, Silence, Release, Route}
use Rattle.setup_verbs.specs.Roles.{is_used}
use Rattle.setup_verbs.specs.SetUp.{IsCommandOf}
use Rattle.setup_verbs.specs.VerbList.{only_if, pass_input, mixer_verbs}
use Rattle.setup_verbs.proofs.Callers.{all_if, all_verbs_by, IsNarrow, Fits, short_fits, pass_fits, mixer_fits, output_fits, command_of}
use Rattle.input_verbs.specs.InputVerbs.{input_role_of, selects_input, input_select_verbs, input_stream_verbs, selected_verbs, input_passed_verbs, input_control, input_route_verbs, input_verbs}
use Rattle.input_verbs.specs.InputSteps.{input_step_verbs, FitsInput}
use Rattle.input_verbs.specs.OpenInputs.{IsInputPlanOrNone}
use Rattle.input_verbs.proofs.Routed.{IsInputUsedWell, input_role_well}
use Rattle.input_verbs.proofs.OpenedIn.{fits_input_verbs}

module _ (codec : RawCodec) (format : Format) (tag : ℕ) (node : RawNode) (few : tag ≤ 15) where
  stream_fits : All Fits (input_stream_verbs format tag node)
  stream_fits = by (is_input_converter node)
    where
      by : (b : Bool) → All Fits (cond b (SetFormat (format_word format) ∷ SetStream (tag * 2 ^ 4) ∷ []) [])
      by true =
          All-cons Fits (SetFormat (format_word format)) (SetStream (tag * 2 ^ 4) ∷ []) (short_fits (format_word format) 16 (word_small format))
          (All-cons Fits (SetStream (tag * 2 ^ 4)) [] (short_fits (tag * 2 ^ 4) 8 (omega arith)) (All-nil Fits))
      by false = All-nil Fits

  passed_fits : (index : ℕ) → FitsInput node (Passed index) → index < 2 ^ 8 → All Fits (input_passed_verbs codec format tag node index)
  passed_fits index fits narrow =
      All-append Fits (mixer_verbs codec node index) _ (mixer_fits codec node index fits.inputs)
      (All-append Fits (input_select_verbs node index) _ (all_if Fits (selects_input node && nat_le 2 (length node.list)) _ (λ h. short_fits index 8 narrow))
      (All-append Fits (input_stream_verbs format tag node) _ stream_fits
      (All-append Fits (selected_verbs codec node index) _ (all_if Fits (selects_input node && has_input_amplifier node) _ (λ h. pass_fits codec node index (fits.argument h)))
      (output_fits codec node))))

  route_fits : (role : Role) → FitsInput node role → IsNarrow role → All Fits (input_route_verbs codec format tag node role)
  route_fits Unused fits narrow = All-nil Fits
  route_fits (Passed index) fits narrow = passed_fits index fits narrow
  route_fits (Source pair) fits narrow =
      All-append Fits (only_if (has_input_amplifier node) (pass_input codec node 0)) _ (all_if Fits (has_input_amplifier node) _ (λ h. pass_fits codec node 0 (lit< tt)))
      (All-append Fits (only_if (is_pin node) (SetPin input_control)) _ (all_if Fits (is_pin node) _ (λ h. refl)) (output_fits codec node))

  step_fits : (s : Step) (nid : ℕ) (role : Role) → FitsInput node role → IsNarrow role → All Fits (input_step_verbs codec format tag s nid node role)
  step_fits Power nid role fits narrow = all_if Fits (is_used role && has_power_control node) (SetPower 0) (λ h. refl)
  step_fits Silence nid role fits narrow = all_if Fits (not (is_used role) && is_pin node) (SetPin 0) (λ h. refl)
  step_fits Release nid role fits narrow = all_if Fits (not (is_used role) && is_converter node) (SetStream 0) (λ h. refl)
  step_fits Route nid role fits narrow = route_fits role fits narrow

narrow_role : (codec : RawCodec) (nid : ℕ) (role : Role) → IsWellFormed codec → IsInputUsedWell codec nid role → IsNarrow role
narrow_role codec nid Unused well w = tt
narrow_role codec nid (Passed index) well w = let short = (IsBounded-from_sound codec well.tables).short nid in let listed = w.listed in omega arith
narrow_role codec nid (Source pair) well w = tt

pub all_input_commands : (codec : RawCodec) (plan : Plan) (format : Format) (tag : ℕ) → IsWellFormed codec → IsInputPlanOrNone codec format plan → tag ≤ 15 → All (IsCommandOf codec) (input_verbs codec plan format tag)
unfolding input_verbs
all_input_commands codec plan format tag well is few =
    all_verbs_by (IsCommandOf codec) codec (input_role_of plan) (input_step_verbs codec format tag) (command_of codec codec.group (SetPower 0) (counted codec well).group_below refl)
    (λ s nid node there k d within. command_of codec nid (get_or (input_step_verbs codec format tag s nid node (input_role_of plan nid)) k d) (node_below codec nid node well there)
    (step_fits codec format tag node few s nid (input_role_of plan nid) ((fits_input_verbs codec format plan well is).at nid node there) (narrow_role codec nid (input_role_of plan nid) well (input_role_well codec format plan nid is)) k d within))
