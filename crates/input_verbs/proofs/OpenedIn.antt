-- After the verbs of an input it is open.
use Rattle.std.proofs.Common.{◌≡◌, ◌≢◌, ◌≤◌, ◌*◌, ◌/◌, ◌%◌, ◌^◌, ◌⊎◌, not, ℕ, true, cond, List, [], ◌∷◌, drop, Option, Some, inl, inr, refl, sym, ap, subst, ◌∙◌, arith}
use Rattle.std.specs.Prelude.{All, slice_get}
use Rattle.std.proofs.lemmas.Bool.{and_parts, or_right}
use Rattle.std.proofs.lemmas.List.Elements.{All-head, All-tail, All-nil, All-cons}
use Rattle.codec_graph.specs.declared.raw.RawNode.{RawNode}
use Rattle.codec_graph.specs.declared.raw.RawCodec.{RawCodec}
use Rattle.codec_graph.specs.declared.controls.Control.TheVariants as control
use Rattle.codec_graph.specs.Widget.{node_at, is_inner, is_pin, is_output_converter, is_input_converter, is_stereo, is_digital, has_input_amplifier}
use Rattle.codec_graph.specs.Settings.{Entries, setting_of, IsSettingsOf}
use Rattle.codec_graph.specs.Cycles.{IsWellFormed}
use Rattle.verb_codes.specs.Words.{bits_of, has_bit}
use Rattle.stream_format.specs.declared.format.Format.{Format}
use Rattle.stream_format.specs.Words.{format_word}
use Rattle.route_planner.specs.declared.routes.Hop.{Hop}
use Rattle.route_planner.specs.declared.routes.Outcome.{Outcome}
use Rattle.route_planner.specs.declared.routes.PinPlan.{PinPlan}
use Rattle.route_planner.specs.declared.routes.Plan.{Plan}
use Rattle.route_planner.specs.Paths.{passes, list_of, connection, LeadsTo, is_analog_stereo}
use Rattle.route_planner.specs.Inputs.{is_input_candidate, is_input_candidate_node, can_be_left_in}
use Rattle.route_planner.proofs.Callers.{match_some}
use Rattle.codec_sound.specs.declared.signals.Signal.TheVariants.{Silence, Pair}
use Rattle.codec_sound.specs.declared.sources.Sources.TheVariants.{Pins}
use Rattle.codec_sound.specs.declared.in_heard.InHeard.TheVariants as heard
use Rattle.codec_sound.specs.Signals.{tag_at, given_from_at, gives_from}
use Rattle.codec_sound.specs.Inward.{in_out, converter_hears, hears_in, in_heard_of, in_signal_of}
use Rattle.codec_sound.proofs.Callers.{out-gives-from}
use Rattle.setup_verbs.specs.declared.roles.Role.TheVariants.{Passed, Source}
use Rattle.setup_verbs.specs.SetUp.{settings_after}
use Rattle.setup_verbs.proofs.Callers.{within_list, AreInner, faultless_at, passing, passed_at, not_true, fourth}
use Rattle.input_verbs.specs.InputVerbs.{selects_input, input_role_of, input_verbs}
use Rattle.input_verbs.specs.InputSteps.{FitsInputRole, FitsInputVerbs}
use Rattle.input_verbs.specs.OpenInputs.{IsInputPlanOrNone, IsInputOpen, IsInputOutcomeOpen, BeginsNoRoute, IsOpenIn, LeadToOpenIn}
use Rattle.input_verbs.proofs.Routed.{HasInput, none_or_one, IsInputUsedWell, IsInputPassedWell, IsInputSourceWell, input_role_well, input_hop_role, input_pin_role, other_unused}
use Rattle.input_verbs.proofs.InOpened.{InputPassedSet, unused_released, input_passed_set, input_pin_set}
use Rattle.input_verbs.proofs.InHeard.{IsLeftIn, left_in_from, inner_gives_in, pin_gives_in, converter_hears_it}
use Rattle.setup_verbs.specs.declared.roles.Role.{Role}
use Rattle.setup_verbs.specs.declared.roles.Role.TheVariants.{Unused}

-- a candidate can take sound in
takes_sound : (o : Option RawNode) (node : RawNode) → o ≡ Some node → passes is_input_candidate_node o ≡ true → has_bit node.pin_caps 5 ≡ true
takes_sound o node there e = fourth (is_pin node) (is_stereo node) (not (is_digital node)) (has_bit node.pin_caps 5) _ _ _ (passed_at is_input_candidate_node o node there e)

-- ---- the arguments of the verbs fit

fits_role : (codec : RawCodec) (nid : ℕ) (node : RawNode) (role : Role) → node_at codec nid ≡ Some node → IsInputUsedWell codec nid role → FitsInputRole node role
fits_role codec nid node Unused there well = tt
fits_role codec nid node (Passed index) there well = λ is.
    let parts = and_parts (selects_input node) (has_input_amplifier node) is in
    (left_in_from codec index node (passed_at (can_be_left_in codec index) (node_at codec nid) node there well.left_well)).selects parts.0 parts.1
fits_role codec nid node (Source pair) there well = tt

pub fits_input_verbs : (codec : RawCodec) (format : Format) (plan : Plan) → IsWellFormed codec → IsInputPlanOrNone codec format plan → FitsInputVerbs codec (input_role_of plan)
fits_input_verbs codec format plan well is = record {
  at = λ nid node there. record {
    inputs = (faultless_at codec nid node well there).inputs;
    argument = fits_role codec nid node (input_role_of plan nid) there (input_role_well codec format plan nid is);
  };
}

module _ (codec : RawCodec) (plan : Plan) (format : Format) (tag : ℕ) (well : IsWellFormed codec) (is : IsInputPlanOrNone codec format plan) (some : 1 ≤ tag) (few : tag ≤ 15) (settings : Entries) (of : IsSettingsOf codec settings) where
  abbrev S : Entries
  S = settings_after codec settings (input_verbs codec plan format tag)

  -- a hop whose node has its role
  record IsHopIn (nid index next : ℕ) : Type 0 where
    pub node : RawNode
    pub there : node_at codec nid ≡ Some node
    pub stereo : is_stereo node ≡ true
    pub left : IsLeftIn codec index node
    pub leads : slice_get node.list index ≡ Some next
    pub set : InputPassedSet codec format tag (settings_after codec settings (input_verbs codec plan format tag)) nid node index

  is_hop_in : (nid index next : ℕ) → input_role_of plan nid ≡ Passed index → connection codec nid index ≡ Some next → IsHopIn nid index next
  is_hop_in nid index next role leads =
      let w : IsInputPassedWell codec nid index = subst (λ r. IsInputUsedWell codec nid r) role (input_role_well codec format plan nid is) in
      let p = passing is_analog_stereo (node_at codec nid) w.carried in
      let parts = and_parts (is_stereo p.node) (not (is_digital p.node)) p.passed in
      let by-list : slice_get p.node.list index ≡ Some next = ap (λ (o : Option RawNode). slice_get (list_of o) index) (sym p.there) ∙ leads in
      record {
        node = p.node;
        there = p.there;
        stereo = parts.0;
        left = left_in_from codec index p.node (passed_at (can_be_left_in codec index) (node_at codec nid) p.node p.there w.left_well);
        leads = by-list;
        set = input_passed_set codec plan format tag well (fits_input_verbs codec format plan well is) settings of nid p.node p.there index role (within_list p.node.list index next by-list);
      }

  -- a mixer or selector of the route gives what its connection gives
  inner_step : (nid index next : ℕ) → input_role_of plan nid ≡ Passed index → connection codec nid index ≡ Some next → passes is_inner (node_at codec nid) ≡ true → in_out codec S nid ≡ in_out codec S next
  unfolding gives_from
  inner_step nid index next role leads inner =
      let h = is_hop_in nid index next role leads in
      out-gives-from Pins codec S well nid
      ∙ ap (λ (o : Option RawNode). given_from_at Pins codec S (in_out codec S) nid o) h.there
      ∙ inner_gives_in codec well S nid h.node h.there format tag (in_out codec S) index next h.set h.left (passed_at is_inner (node_at codec nid) h.node h.there inner) h.stereo h.leads

  -- so does each node of a way
  way_gives : (hops : List Hop) (from to : ℕ) → LeadsTo codec from hops to → AreInner codec hops → All (λ (hop : Hop). input_role_of plan hop.nid ≡ Passed hop.index) hops → in_out codec S from ≡ in_out codec S to
  way_gives [] from to leads inner roles = ap (λ n. in_out codec S n) leads
  way_gives (hop ∷ hops) from to leads inner roles =
      let next = match_some (connection codec from hop.index) (λ n. LeadsTo codec n hops to) leads.1 in
      inner_step from hop.index next.0
      (ap (λ n. input_role_of plan n) (sym leads.0) ∙ All-head (λ (h : Hop). input_role_of plan h.nid ≡ Passed h.index) hop hops roles) next.1
      (ap (λ n. passes is_inner (node_at codec n)) (sym leads.0) ∙ All-head (λ (h : Hop). passes is_inner (node_at codec h.nid) ≡ true) hop hops inner)
      ∙ way_gives hops next.0 to next.2 (All-tail (λ (h : Hop). passes is_inner (node_at codec h.nid) ≡ true) hop hops inner) (All-tail (λ (h : Hop). input_role_of plan h.nid ≡ Passed h.index) hop hops roles)

  -- the pin gives its own sound
  pin_gives : (pin pair : ℕ) → input_role_of plan pin ≡ Source pair → is_input_candidate codec pin ≡ true → in_out codec S pin ≡ Pair pin
  unfolding gives_from
  pin_gives pin pair role candidate =
      let w : IsInputSourceWell codec pin = subst (λ r. IsInputUsedWell codec pin r) role (input_role_well codec format plan pin is) in
      let p = passing is_analog_stereo (node_at codec pin) w.carried in
      let parts = and_parts (is_stereo p.node) (not (is_digital p.node)) p.passed in
      let pin-is = passed_at is_pin (node_at codec pin) p.node p.there w.pin in
      out-gives-from Pins codec S well pin
      ∙ ap (λ (o : Option RawNode). given_from_at Pins codec S (in_out codec S) pin o) p.there
      ∙ pin_gives_in codec well S pin p.node p.there (in_out codec S)
      (input_pin_set codec plan format tag well (fits_input_verbs codec format plan well is) settings of pin p.node p.there pair role pin-is) pin-is parts.0 (not_true (is_digital p.node) parts.1) (takes_sound (node_at codec pin) p.node p.there candidate)

  -- ---- the converter

  -- what the first hop of the route says of the converter
  record IsRecording (converter pin : ℕ) : Type 0 where
    pub tag_is : tag_at (settings_after codec settings (input_verbs codec plan format tag)) converter ≡ tag
    pub format_is : setting_of (settings_after codec settings (input_verbs codec plan format tag)) converter control.Format ≡ format_word format
    pub hears : in_signal_of codec (settings_after codec settings (input_verbs codec plan format tag)) converter ≡ heard.Pin pin

  is_recording : (hops : List Hop) (converter pin pair : ℕ) → hops ≢ [] → LeadsTo codec converter hops pin → AreInner codec (drop 1 hops) → All (λ (hop : Hop). input_role_of plan hop.nid ≡ Passed hop.index) hops → passes is_input_converter (node_at codec converter) ≡ true
      → input_role_of plan pin ≡ Source pair → is_input_candidate codec pin ≡ true → IsRecording converter pin
  is_recording [] converter pin pair some-hop leads inner roles begins end candidate = absurd (some-hop refl)
  is_recording (hop ∷ hops) converter pin pair some-hop leads inner roles begins end candidate =
      let next = match_some (connection codec converter hop.index) (λ n. LeadsTo codec n hops pin) leads.1 in
      let h = is_hop_in converter hop.index next.0 (ap (λ n. input_role_of plan n) (sym leads.0) ∙ All-head (λ (x : Hop). input_role_of plan x.nid ≡ Passed x.index) hop hops roles) next.1 in
      let converts : is_input_converter h.node ≡ true = passed_at is_input_converter (node_at codec converter) h.node h.there begins in
      record {
        tag_is = ap (λ v. bits_of v 4 4) (h.set.stream_set converts) ∙ high tag few;
        format_is = h.set.format_set converts;
        hears = ap in_heard_of
            (ap (λ (o : Option RawNode). hears_in codec S (in_out codec S) converter o) h.there
            ∙ ap (λ b. cond b (converter_hears codec S (in_out codec S) converter h.node) Silence) converts
            ∙ converter_hears_it codec well S converter h.node h.there format tag (in_out codec S) hop.index next.0 h.set h.left converts h.leads
            ∙ way_gives hops next.0 pin next.2 inner (All-tail (λ (x : Hop). input_role_of plan x.nid ≡ Passed x.index) hop hops roles)
            ∙ pin_gives pin pair end candidate);
      }
    where
      high : (t : ℕ) → t ≤ 15 → t * 2 ^ 4 / 2 ^ 4 % 2 ^ 4 ≡ t
      high t a = omega arith

  route_open : (one : HasInput codec format plan) → IsInputOpen codec S format tag one.entry.pin one.route
  route_open one =
      let gives = is_recording one.route.hops one.route.converter one.entry.pin one.entry.pair one.admissible.path.leaves_converter one.admissible.path.leads one.admissible.path.passes_inner
      (λ k d within. input_hop_role codec format plan well one k d within) one.admissible.path.begins (input_pin_role codec format plan well one) one.candidate in
      record { tag_is = gives.tag_is; format_is = gives.format_is; hears = gives.hears }

  routes_open : (plan.pins ≡ []) ⊎ HasInput codec format plan → All (λ (entry : PinPlan). IsInputOutcomeOpen codec S format tag entry.pin entry.outcome) plan.pins
  routes_open (inl empty) = subst (λ (pins : List PinPlan). All (λ (entry : PinPlan). IsInputOutcomeOpen codec S format tag entry.pin entry.outcome) pins) (sym empty) (All-nil (λ (entry : PinPlan). IsInputOutcomeOpen codec S format tag entry.pin entry.outcome))
  routes_open (inr one) =
      subst (λ (pins : List PinPlan). All (λ (entry : PinPlan). IsInputOutcomeOpen codec S format tag entry.pin entry.outcome) pins) (sym one.pins_are)
      (All-cons (λ (entry : PinPlan). IsInputOutcomeOpen codec S format tag entry.pin entry.outcome) one.entry [] (subst (λ (o : Outcome). IsInputOutcomeOpen codec S format tag one.entry.pin o) (sym one.outcome_is) (route_open one)) (All-nil (λ (entry : PinPlan). IsInputOutcomeOpen codec S format tag entry.pin entry.outcome)))

  -- each other input converter has the tag 0
  other_released : (nid : ℕ) → passes is_input_converter (node_at codec nid) ≡ true → BeginsNoRoute plan nid → tag_at S nid ≡ 0
  other_released nid converts none =
      let p = passing is_input_converter (node_at codec nid) converts in
      ap (λ v. bits_of v 4 4)
      (unused_released codec plan format tag well (fits_input_verbs codec format plan well is) settings of nid p.node p.there (other_unused codec format plan nid is converts none) (or_right (is_output_converter p.node) (is_input_converter p.node) p.passed))

  pub is_open_in : IsOpenIn codec S plan format tag
  is_open_in = record {
    routes = routes_open (none_or_one codec format plan is);
    others = λ nid converts none same. let z : tag ≡ 0 = sym same ∙ other_released nid converts none in absurd (omega (arith, z, some));
  }

-- the verbs of an input lead from any settings to ones with which it is open
pub lead_to_open_in : (codec : RawCodec) (plan : Plan) (format : Format) (tag : ℕ) → IsWellFormed codec → IsInputPlanOrNone codec format plan → 1 ≤ tag → tag ≤ 15 → LeadToOpenIn codec plan format tag (input_verbs codec plan format tag)
lead_to_open_in codec plan format tag well is some few settings of = is_open_in codec plan format tag well is some few settings of
