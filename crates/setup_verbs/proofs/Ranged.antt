-- Each set-up verb goes to the codec, and can be encoded where that is one of 0 to 14.
use Rattle.std.proofs.Common.{◌≡◌, ◌<◌, ◌≤◌, ◌+◌, ◌*◌, ◌^◌, ◌/◌, ◌==◌, ◌&&◌, ◌++◌, not, ℕ, Bool, true, false, cond, List, [], ◌∷◌, map, length, get_or, zero-add, refl, sym, subst, ◌∙◌, arith, lit<}
use Rattle.std.specs.Prelude.{All, nat_lt}
use Rattle.std.specs.List.{range_with_len}
use Rattle.std.proofs.lemmas.Bool.{and_parts, lt-ltb}
use Rattle.std.proofs.lemmas.Nat.{mod_below}
use Rattle.std.proofs.lemmas.List.Elements.{All-nil, All-cons, All-append, All-map}
use Rattle.std.proofs.lemmas.List.FromFn.{get_or-range_with_len, length-range_with_len}
use Rattle.codec_graph.specs.declared.raw.RawNode.{RawNode}
use Rattle.codec_graph.specs.declared.raw.RawCodec.{RawCodec}
use Rattle.codec_graph.specs.Widget.{is_mixer, is_selector, is_pin, is_output_converter, has_power_control, has_input_amplifier, has_output_amplifier, input_amplifier_word, output_amplifier_word, amplifier_offset}
use Rattle.codec_graph.specs.Settings.{has_eapd, detects_presence, sends_unsolicited}
use Rattle.codec_graph.specs.Cycles.{IsWellFormed}
use Rattle.codec_graph.proofs.Callers.{node_below, counted}
use Rattle.verb_codes.specs.declared.verbs.Verb.{Verb}
use Rattle.verb_codes.specs.declared.verbs.Verb.TheVariants.{SetPower, SetStream, SetPin, SetUnsol, SetEapd, SetFormat, SetDigital}
use Rattle.verb_codes.specs.Verbs.{is_verb_in_range}
use Rattle.verb_codes.specs.Amplifiers as amplifiers
use Rattle.stream_format.specs.declared.format.Format.{Format}
use Rattle.stream_format.specs.Words.{format_word}
use Rattle.stream_format.proofs.Callers.{word_small}
use Rattle.codec_graph.specs.declared.pin_kind.PinKind.{PinKind}
use Rattle.codec_graph.specs.declared.pin_kind.PinKind.TheVariants.{Analog, Digital}
use Rattle.route_planner.specs.declared.routes.Plan.{Plan}
use Rattle.route_planner.specs.declared.routes.PinPlan.{PinPlan}
use Rattle.route_planner.specs.Plans.{IsPlanAs}
use Rattle.setup_verbs.specs.declared.roles.Role.{Role}
use Rattle.setup_verbs.specs.declared.roles.Role.TheVariants.{Unused, Passed, Source}
use Rattle.setup_verbs.specs.declared.steps.Step.{Step}
use Rattle.setup_verbs.specs.declared.steps.Step.TheVariants.{Power, Silence, Release, Route}
use Rattle.setup_verbs.specs.Roles.{role_of, is_used, place_among}
use Rattle.setup_verbs.specs.Steps.{step_verbs, FitsWidget}
use Rattle.setup_verbs.specs.SetUp.{IsCommandOf}
use Rattle.setup_verbs.specs.VerbList.{only_if, command_to, input_setting, output_setting, pass_input, mute_input, mixer_input, mixer_verbs, has_choice, select_verbs, selector_verbs, output_verbs, enable_verbs, passed_verbs_as, drives_headphone, pin_control, event_tag, setup_verbs_as}
use Rattle.setup_verbs.proofs.Members.{all_if, all_verbs}
use Rattle.route_planner.proofs.Callers.{IsBounded-from_sound}
use Rattle.setup_verbs.proofs.RoleFacts.{IsUsedWell, role_well}
use Rattle.setup_verbs.proofs.Fitting.{fits_verbs}

-- a verb whose argument fits
abbrev pub Fits : Verb → Type 0
Fits verb = is_verb_in_range verb ≡ true

pub short_fits : (n width : ℕ) → n < 2 ^ width → (nat_lt n (2 ^ width) && true) ≡ true
short_fits n width h = rw (lt-ltb n (2 ^ width) h) refl

input_small : (place gain : ℕ) (mute : Bool) → place < 16 → gain < 128 → amplifiers.setting_payload (input_setting place mute gain) < 2 ^ 16
input_small place gain true p g = omega arith
input_small place gain false p g = omega arith

output_small : (gain : ℕ) → gain < 128 → amplifiers.setting_payload (output_setting gain) < 2 ^ 16
output_small gain g = omega arith

offset_small : (word : ℕ) → amplifier_offset word < 128
offset_small word = mod_below (word / 2 ^ 0) (2 ^ 7) (lit< tt)

place_small : (entries : List PinPlan) (pin : ℕ) → place_among entries pin ≤ length entries
place_small [] pin = omega arith
place_small (entry ∷ entries) pin = by (entry.pin == pin) (place_small entries pin)
  where
    by : (b : Bool) → place_among entries pin ≤ length entries → cond b 0 (place_among entries pin + 1) ≤ length (entry ∷ entries)
    by true h = omega arith
    by false h = omega arith

-- an index fits a byte
abbrev pub IsNarrow : Role → Type 0
IsNarrow Unused = Unit {0}
IsNarrow (Passed index) = index < 2 ^ 8
IsNarrow (Source pair) = Unit {0}

module _ (codec : RawCodec) (node : RawNode) where
  pub pass_fits : (place : ℕ) → place < 16 → Fits (pass_input codec node place)
  pass_fits place low = short_fits _ 16 (input_small place (amplifier_offset (input_amplifier_word codec node)) false low (offset_small (input_amplifier_word codec node)))

  input_fits : (index place : ℕ) → place < 16 → Fits (mixer_input codec node index place)
  input_fits index place low = by (place == index)
    where
      by : (b : Bool) → Fits (cond b (pass_input codec node place) (mute_input place))
      by true = pass_fits place low
      by false = short_fits _ 16 (input_small place 0 true low (lit< tt))

  pub mixer_fits : (index : ℕ) → (is_mixer node ≡ true → length node.list ≤ 16) → All Fits (mixer_verbs codec node index)
  mixer_fits index short = by (is_mixer node && has_input_amplifier node) refl
    where
      by : (b : Bool) → (is_mixer node && has_input_amplifier node) ≡ b → All Fits (cond b (map (mixer_input codec node index) (range_with_len 0 (length node.list))) [])
      by true e =
          All-map Fits (mixer_input codec node index) (range_with_len 0 (length node.list))
          (λ k d within. let low : k < length node.list = subst (λ n. k < n) (length-range_with_len 0 (length node.list)) within in
          subst (λ place. Fits (mixer_input codec node index place)) (sym (get_or-range_with_len 0 (length node.list) k d low ∙ zero-add k)) (input_fits index k (omega (arith, short (and_parts _ _ e).0))))
      by false e = All-nil Fits

  pub output_fits : All Fits (output_verbs codec node)
  output_fits = all_if Fits (has_output_amplifier node) _ (λ h. short_fits _ 16 (output_small (amplifier_offset (output_amplifier_word codec node)) (offset_small (output_amplifier_word codec node))))

module _ (kind : PinKind) (codec : RawCodec) (plan : Plan) (format : Format) (tag nid : ℕ) (node : RawNode) (few : tag ≤ 15) where
  pin_control_fits : pin_control node < 2 ^ 8
  pin_control_fits = by (drives_headphone node)
    where
      by : (b : Bool) → cond b 0xC0 0x40 < 2 ^ 8
      by true = lit< tt
      by false = lit< tt

  eapd_fits : All Fits (only_if (has_eapd node) (SetEapd 0x02))
  eapd_fits = all_if Fits (has_eapd node) _ (λ h. refl)

  enable_fits : (k : PinKind) → All Fits (enable_verbs k)
  enable_fits Analog = All-nil Fits
  enable_fits Digital = All-cons Fits (SetDigital 0x01) [] refl (All-nil Fits)

  passed_fits : (k : PinKind) (index : ℕ) → FitsWidget plan node (Passed index) → index < 2 ^ 8 → All Fits (passed_verbs_as k codec plan nid node index)
  passed_fits Analog index fits narrow =
      All-append Fits (mixer_verbs codec node index) _ (mixer_fits codec node index fits.inputs)
      (All-append Fits (select_verbs node index) _ (all_if Fits (has_choice node) _ (λ h. short_fits index 8 narrow))
      (All-append Fits (selector_verbs codec node index) _ (all_if Fits (is_selector node && has_input_amplifier node) _ (λ h. pass_fits codec node index (fits.argument h)))
      (All-append Fits (output_verbs codec node) _ (output_fits codec node)
      (All-append Fits (only_if (has_eapd node) (SetEapd 0x02)) _ eapd_fits
      (All-append Fits (only_if (detects_presence node && sends_unsolicited node) (SetUnsol (0x80 + event_tag plan nid))) _ (all_if Fits (detects_presence node && sends_unsolicited node) _ (λ h. short_fits _ 8 (let z = place_small plan.pins nid in let y = fits.pins in omega arith)))
      (all_if Fits (is_pin node) _ (λ h. short_fits _ 8 pin_control_fits)))))))
  passed_fits Digital index fits narrow =
      All-append Fits (select_verbs node index) _ (all_if Fits (has_choice node) _ (λ h. short_fits index 8 narrow))
      (All-append Fits (output_verbs codec node) _ (output_fits codec node)
      (All-append Fits (only_if (has_eapd node) (SetEapd 0x02)) _ eapd_fits
      (all_if Fits (is_pin node) _ (λ h. refl))))

  route_fits : (role : Role) → FitsWidget plan node role → IsNarrow role → All Fits (step_verbs kind codec plan format tag Route nid node role)
  route_fits Unused fits narrow = All-nil Fits
  route_fits (Passed index) fits narrow = passed_fits kind index fits narrow
  route_fits (Source pair) fits narrow =
      All-cons Fits (SetFormat (format_word format)) (SetStream (tag * 2 ^ 4 + 2 * pair) ∷ (enable_verbs kind ++ output_verbs codec node)) (short_fits (format_word format) 16 (word_small format))
      (All-cons Fits (SetStream (tag * 2 ^ 4 + 2 * pair)) (enable_verbs kind ++ output_verbs codec node) (short_fits _ 8 (let z = fits.argument in omega arith))
      (All-append Fits (enable_verbs kind) (output_verbs codec node) (enable_fits kind) (output_fits codec node)))

  step_fits : (s : Step) (role : Role) → FitsWidget plan node role → IsNarrow role → All Fits (step_verbs kind codec plan format tag s nid node role)
  step_fits Power role fits narrow = all_if Fits (is_used role && has_power_control node) (SetPower 0) (λ h. refl)
  step_fits Silence role fits narrow = all_if Fits (not (is_used role) && is_pin node) (SetPin 0) (λ h. refl)
  step_fits Release role fits narrow = all_if Fits (not (is_used role) && is_output_converter node) (SetStream 0) (λ h. refl)
  step_fits Route role fits narrow = route_fits role fits narrow

narrow_role : (kind : PinKind) (codec : RawCodec) (channels nid : ℕ) (role : Role) → IsWellFormed codec → IsUsedWell kind codec channels nid role → IsNarrow role
narrow_role kind codec channels nid Unused well w = tt
narrow_role kind codec channels nid (Passed index) well w = let short = (IsBounded-from_sound codec well.tables).short nid in let listed = w.listed in omega arith
narrow_role kind codec channels nid (Source pair) well w = tt

pub command_of : (codec : RawCodec) (nid : ℕ) (verb : Verb) → nid < 128 → Fits verb → IsCommandOf codec (command_to codec nid verb)
command_of codec nid verb below fits = record {
  address = refl;
  in_range = λ address. record { codec = address; nid = omega arith; verb = fits };
}

-- each set-up verb goes to the codec, and can be encoded where that is one of 0 to 14
pub all_commands_of : (kind : PinKind) (codec : RawCodec) (plan : Plan) (format : Format) (tag : ℕ) → IsWellFormed codec → IsPlanAs kind codec format plan → tag ≤ 15 → All (IsCommandOf codec) (setup_verbs_as kind codec plan format tag)
all_commands_of kind codec plan format tag well is few =
    all_verbs (IsCommandOf codec) kind codec plan format tag (command_of codec codec.group (SetPower 0) (counted codec well).group_below refl)
    (λ s nid node there k d within. command_of codec nid (get_or (step_verbs kind codec plan format tag s nid node (role_of plan nid)) k d) (node_below codec nid node well there)
    (step_fits kind codec plan format tag nid node few s (role_of plan nid) ((fits_verbs kind codec format plan well is).at nid node there) (narrow_role kind codec format.channels nid (role_of plan nid) well (role_well kind codec format plan nid is)) k d within))
