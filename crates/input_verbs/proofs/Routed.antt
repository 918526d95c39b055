-- What the plan of an input makes of each node, and what holds of the nodes of its route.
use Rattle.std.proofs.Common.{◌≡◌, ◌<◌, ◌⊎◌, ◌==◌, ◌||◌, ℕ, true, false, List, [], ◌∷◌, map, length, get_or, Option, Some, None, append-nil, refl, sym, ap, subst, ◌∙◌, inl, inr, arith}
use Rattle.std.specs.Prelude.{All, Contains}
use Rattle.std.proofs.lemmas.Bool.{true≢false, eqb-true}
use Rattle.std.proofs.lemmas.List.{get_or_default}
use Rattle.std.proofs.lemmas.List.Elements.{All-nil, All-cons, All-append, All-map, All-contains, Contains-push, Contains-append_left, Contains-get_or}
use Rattle.codec_graph.specs.declared.raw.RawNode.{RawNode}
use Rattle.codec_graph.specs.declared.raw.RawCodec.{RawCodec}
use Rattle.codec_graph.specs.Widget.{node_at, is_inner, is_input_converter, is_pin}
use Rattle.codec_graph.specs.Cycles.{IsWellFormed}
use Rattle.verb_codes.specs.Words.{bits_of}
use Rattle.stream_format.specs.declared.format.Format.{Format}
use Rattle.route_planner.specs.declared.routes.Hop.{Hop}
use Rattle.route_planner.specs.declared.routes.Route as declared_route
use Rattle.route_planner.specs.declared.routes.Outcome.{Outcome}
use Rattle.route_planner.specs.declared.routes.Outcome.TheVariants as outcome
use Rattle.route_planner.specs.declared.routes.PinPlan.{PinPlan}
use Rattle.route_planner.specs.declared.routes.Plan.{Plan}
use Rattle.route_planner.specs.Paths.{passes, list_of, is_analog_stereo}
use Rattle.route_planner.specs.Inputs.{IsInputPath, IsInputAdmissible, is_input_candidate, input_nodes, can_be_left_in, AreInputEntries}
use Rattle.setup_verbs.specs.declared.roles.Role.{Role}
use Rattle.setup_verbs.specs.declared.roles.Role.TheVariants.{Unused, Passed, Source}
use Rattle.setup_verbs.specs.Roles.{Uses, hop_uses, route_uses, role_among}
use Rattle.setup_verbs.proofs.Callers.{has_mapped, role_all, within_list, leads_by, IsSolid, role_found, inner_no_pin, hops_alike, hop_kind}
use Rattle.input_verbs.specs.InputVerbs.{input_outcome_uses, input_uses_of, input_role_of}
use Rattle.input_verbs.specs.OpenInputs.{IsInputPlanOrNone, BeginsElsewhere, BeginsNoRoute}

-- ---- the plan has no entry or one

pub record HasInput (codec : RawCodec) (format : Format) (plan : Plan) : Type 0 where
  pub entry : PinPlan
  pub route : declared_route.Route
  pub pins_are : plan.pins ≡ entry ∷ []
  pub outcome_is : entry.outcome ≡ outcome.Route route
  pub candidate : is_input_candidate codec entry.pin ≡ true
  pub admissible : IsInputAdmissible codec format entry.pin route

pub none_or_one : (codec : RawCodec) (format : Format) (plan : Plan) → IsInputPlanOrNone codec format plan → (plan.pins ≡ []) ⊎ HasInput codec format plan
none_or_one codec format plan (inr none) = inl none
none_or_one codec format plan (inl is) = by plan.pins refl is
  where
    by : (pins : List PinPlan) → plan.pins ≡ pins → AreInputEntries codec format pins → (plan.pins ≡ []) ⊎ HasInput codec format plan
    by [] e are = inl e
    by (entry ∷ []) e are = inr (record { entry = entry; route = are.route; pins_are = e; outcome_is = are.outcome_is; candidate = are.first.candidate; admissible = are.least.admissible })
    by (entry ∷ other ∷ rest) e are = absurd are

pub uses_none : (plan : Plan) → plan.pins ≡ [] → input_uses_of plan.pins ≡ []
uses_none plan none = ap input_uses_of none

pub uses_one : (codec : RawCodec) (format : Format) (plan : Plan) (one : HasInput codec format plan) → input_uses_of plan.pins ≡ route_uses one.route.hops one.entry.pin one.entry.pair
uses_one codec format plan one =
    ap input_uses_of one.pins_are ∙ append-nil (input_outcome_uses one.entry.pin one.entry.pair one.entry.outcome)
    ∙ ap (input_outcome_uses one.entry.pin one.entry.pair) one.outcome_is

-- ---- kinds of nodes

pub inner_no_input : (o : Option RawNode) → passes is_inner o ≡ true → passes is_input_converter o ≡ true → ⊥
inner_no_input None e f = absurd (true≢false (sym e))
inner_no_input (Some node) e f = apart (bits_of node.caps 20 4) e (eqb-true (bits_of node.caps 20 4) 1 f)
  where
    apart : (n : ℕ) → (n == 2 || n == 3) ≡ true → n ≡ 1 → ⊥
    apart n e f = let z : (n == 2 || n == 3) ≡ false = rw f refl in absurd (true≢false (sym e ∙ z))

pub pin_no_input : (o : Option RawNode) → passes is_pin o ≡ true → passes is_input_converter o ≡ true → ⊥
pin_no_input None e f = absurd (true≢false (sym e))
pin_no_input (Some node) e f = apart (bits_of node.caps 20 4) (eqb-true (bits_of node.caps 20 4) 4 e) (eqb-true (bits_of node.caps 20 4) 1 f)
  where
    apart : (n : ℕ) → n ≡ 4 → n ≡ 1 → ⊥
    apart n e f = absurd (omega arith)

-- ---- what holds of a node by its role

pub record IsInputPassedWell (codec : RawCodec) (nid index : ℕ) : Type 0 where
  pub carried : passes is_analog_stereo (node_at codec nid) ≡ true
  pub left_well : passes (can_be_left_in codec index) (node_at codec nid) ≡ true
  pub listed : index < length (list_of (node_at codec nid))

pub record IsInputSourceWell (codec : RawCodec) (nid : ℕ) : Type 0 where
  pub carried : passes is_analog_stereo (node_at codec nid) ≡ true
  pub pin : passes is_pin (node_at codec nid) ≡ true

abbrev pub IsInputUsedWell : RawCodec → (nid : ℕ) → Role → Type 0
IsInputUsedWell codec nid Unused = Unit {0}
IsInputUsedWell codec nid (Passed index) = IsInputPassedWell codec nid index
IsInputUsedWell codec nid (Source pair) = IsInputSourceWell codec nid

hop_carried : (codec : RawCodec) (hops : List Hop) (pin : ℕ) → All (λ nid. passes is_analog_stereo (node_at codec nid) ≡ true) (input_nodes hops pin) → (hop : Hop) → Contains hops hop → passes is_analog_stereo (node_at codec hop.nid) ≡ true
hop_carried codec hops pin all hop has =
    All-contains (λ nid. passes is_analog_stereo (node_at codec nid) ≡ true) (input_nodes hops pin) hop.nid all
    (Contains-append_left (map (λ (h : Hop). h.nid) hops) (pin ∷ []) hop.nid (has_mapped (λ (h : Hop). h.nid) hops hop has))

route_well : (codec : RawCodec) (format : Format) (pin pair : ℕ) (route : declared_route.Route) → IsInputAdmissible codec format pin route → All (λ (used : ℕ × Role). IsInputUsedWell codec used.0 used.1) (route_uses route.hops pin pair)
route_well codec format pin pair route a =
    All-append (λ (used : ℕ × Role). IsInputUsedWell codec used.0 used.1) (hop_uses route.hops) ((pin, Source pair) ∷ [])
    (All-map (λ (used : ℕ × Role). IsInputUsedWell codec used.0 used.1) (λ (hop : Hop). (hop.nid, Passed hop.index)) route.hops
    (λ k d within. record {
      carried = hop_carried codec route.hops pin a.carried (get_or route.hops k d) (Contains-get_or route.hops k d within);
      left_well = a.left_well k d within;
      listed = let next = leads_by codec route.hops route.converter pin a.path.leads k d within in within_list (list_of (node_at codec (get_or route.hops k d).nid)) (get_or route.hops k d).index next.0 next.1;
    }))
    (All-cons (λ (used : ℕ × Role). IsInputUsedWell codec used.0 used.1) (pin, Source pair) [] (record {
      carried = All-contains (λ nid. passes is_analog_stereo (node_at codec nid) ≡ true) (input_nodes route.hops pin) pin a.carried (Contains-push (map (λ (hop : Hop). hop.nid) route.hops) pin);
      pin = a.path.ends;
    }) (All-nil (λ (used : ℕ × Role). IsInputUsedWell codec used.0 used.1)))

-- a fact of each use of the route is one of each node's role
pub input_role_all : (P : ℕ → Role → Type 0) → ((nid : ℕ) → P nid Unused) → (codec : RawCodec) (format : Format) (plan : Plan) (nid : ℕ) → IsInputPlanOrNone codec format plan
    → ((one : HasInput codec format plan) → All (λ (used : ℕ × Role). P used.0 used.1) (route_uses one.route.hops one.entry.pin one.entry.pair)) → P nid (input_role_of plan nid)
unfolding input_role_of
input_role_all P none codec format plan nid is of = by (none_or_one codec format plan is)
  where
    by : (plan.pins ≡ []) ⊎ HasInput codec format plan → P nid (role_among (input_uses_of plan.pins) nid)
    by (inl empty) = subst (λ (uses : Uses). P nid (role_among uses nid)) (sym (uses_none plan empty)) (none nid)
    by (inr one) =
        subst (λ (uses : Uses). P nid (role_among uses nid)) (sym (uses_one codec format plan one))
        (role_all P none (route_uses one.route.hops one.entry.pin one.entry.pair) nid (of one))

pub input_role_well : (codec : RawCodec) (format : Format) (plan : Plan) (nid : ℕ) → IsInputPlanOrNone codec format plan → IsInputUsedWell codec nid (input_role_of plan nid)
input_role_well codec format plan nid is =
    input_role_all (λ n r. IsInputUsedWell codec n r) (λ n. tt) codec format plan nid is
    (λ one. route_well codec format one.entry.pin one.entry.pair one.route one.admissible)

-- ---- the roles of the route's nodes

module _ (codec : RawCodec) (format : Format) (plan : Plan) (well : IsWellFormed codec) (one : HasInput codec format plan) where
  abbrev IsLike : ℕ × Role → ℕ × Role → Type 0
  IsLike u t = t.0 ≡ u.0 → t.1 ≡ u.1

  path : IsInputPath codec one.entry.pin one.route
  path = one.admissible.path

  -- no mixer or selector is the converter
  outer : passes is_inner (node_at codec one.route.converter) ≡ true → ⊥
  outer e = inner_no_input (node_at codec one.route.converter) e path.begins

  -- no hop leaves the pin
  leaves_no_pin : (k : ℕ) (d : Hop) → k < length one.route.hops → (get_or one.route.hops k d).nid ≡ one.entry.pin → ⊥
  leaves_no_pin k d within same = by (hop_kind codec one.route.hops one.route.converter one.entry.pin path.leads path.passes_inner k d within)
    where
      by : ((get_or one.route.hops k d).nid ≡ one.route.converter) ⊎ (passes is_inner (node_at codec (get_or one.route.hops k d).nid) ≡ true) → ⊥
      by (inl e) = pin_no_input (node_at codec one.route.converter) (ap (λ n. passes is_pin (node_at codec n)) (sym e ∙ same) ∙ path.ends) path.begins
      by (inr e) = inner_no_pin (node_at codec one.entry.pin) (ap (λ n. passes is_inner (node_at codec n)) (sym same) ∙ e) path.ends

  input_role_is : (nid : ℕ) (role : Role) → IsSolid role → Contains (route_uses one.route.hops one.entry.pin one.entry.pair) (nid, role) → All (IsLike (nid, role)) (route_uses one.route.hops one.entry.pin one.entry.pair) → input_role_of plan nid ≡ role
  unfolding input_role_of
  input_role_is nid role solid c all =
      ap (λ (uses : Uses). role_among uses nid) (uses_one codec format plan one)
      ∙ role_found (route_uses one.route.hops one.entry.pin one.entry.pair) c.0 nid role solid c.1 c.2 all

  pub input_hop_role : (k : ℕ) (d : Hop) → k < length one.route.hops → input_role_of plan (get_or one.route.hops k d).nid ≡ Passed (get_or one.route.hops k d).index
  input_hop_role k d within =
      input_role_is (get_or one.route.hops k d).nid (Passed (get_or one.route.hops k d).index) (λ other. refl)
      (Contains-append_left (hop_uses one.route.hops) ((one.entry.pin, Source one.entry.pair) ∷ []) ((get_or one.route.hops k d).nid, Passed (get_or one.route.hops k d).index) (has_mapped (λ (h : Hop). (h.nid, Passed h.index)) one.route.hops (get_or one.route.hops k d) (Contains-get_or one.route.hops k d within)))
      (All-append (IsLike ((get_or one.route.hops k d).nid, Passed (get_or one.route.hops k d).index)) (hop_uses one.route.hops) ((one.entry.pin, Source one.entry.pair) ∷ [])
      (All-map (IsLike ((get_or one.route.hops k d).nid, Passed (get_or one.route.hops k d).index)) (λ (h : Hop). (h.nid, Passed h.index)) one.route.hops
      (λ j e low same. ap (λ i. Passed i) (alike j e low same)))
      (All-cons (IsLike ((get_or one.route.hops k d).nid, Passed (get_or one.route.hops k d).index)) (one.entry.pin, Source one.entry.pair) [] (λ same. absurd (leaves_no_pin k d within (sym same))) (All-nil (IsLike ((get_or one.route.hops k d).nid, Passed (get_or one.route.hops k d).index)))))
    where
      alike : (j : ℕ) (e : Hop) → j < length one.route.hops → (get_or one.route.hops j e).nid ≡ (get_or one.route.hops k d).nid → (get_or one.route.hops j e).index ≡ (get_or one.route.hops k d).index
      alike j e low same =
          ap (λ (h : Hop). h.index) (get_or_default one.route.hops j e d low)
          ∙ hops_alike codec one.route.hops one.route.converter one.entry.pin j k d well outer path.leads path.passes_inner low within
          (ap (λ (h : Hop). h.nid) (sym (get_or_default one.route.hops j e d low)) ∙ same)

  pub input_pin_role : input_role_of plan one.entry.pin ≡ Source one.entry.pair
  input_pin_role =
      input_role_is one.entry.pin (Source one.entry.pair) (λ other. refl) (Contains-push (hop_uses one.route.hops) (one.entry.pin, Source one.entry.pair))
      (All-append (IsLike (one.entry.pin, Source one.entry.pair)) (hop_uses one.route.hops) ((one.entry.pin, Source one.entry.pair) ∷ [])
      (All-map (IsLike (one.entry.pin, Source one.entry.pair)) (λ (h : Hop). (h.nid, Passed h.index)) one.route.hops (λ k d within same. absurd (leaves_no_pin k d within same)))
      (All-cons (IsLike (one.entry.pin, Source one.entry.pair)) (one.entry.pin, Source one.entry.pair) [] (λ same. refl) (All-nil (IsLike (one.entry.pin, Source one.entry.pair)))))

-- ---- input converters at which no route begins

abbrev IsNoOther : RawCodec → Plan → ℕ → Role → Type 0
IsNoOther codec plan nid Unused = Unit {0}
IsNoOther codec plan nid (Passed index) = passes is_input_converter (node_at codec nid) ≡ true → BeginsNoRoute plan nid → ⊥
IsNoOther codec plan nid (Source pair) = passes is_input_converter (node_at codec nid) ≡ true → BeginsNoRoute plan nid → ⊥

begins_here : (codec : RawCodec) (format : Format) (plan : Plan) (one : HasInput codec format plan) (nid : ℕ) → nid ≡ one.route.converter → BeginsNoRoute plan nid → ⊥
begins_here codec format plan one nid same none =
    let first : All (λ (entry : PinPlan). BeginsElsewhere nid entry.outcome) (one.entry ∷ []) = subst (λ (pins : List PinPlan). All (λ (entry : PinPlan). BeginsElsewhere nid entry.outcome) pins) one.pins_are none in
    let apart : BeginsElsewhere nid (outcome.Route one.route) = subst (λ (o : Outcome). BeginsElsewhere nid o) one.outcome_is (first 0 one.entry (omega arith)) in
    apart (sym same)

uses_of_others : (codec : RawCodec) (format : Format) (plan : Plan) (one : HasInput codec format plan) → All (λ (used : ℕ × Role). IsNoOther codec plan used.0 used.1) (route_uses one.route.hops one.entry.pin one.entry.pair)
uses_of_others codec format plan one =
    All-append (λ (used : ℕ × Role). IsNoOther codec plan used.0 used.1) (hop_uses one.route.hops) ((one.entry.pin, Source one.entry.pair) ∷ [])
    (All-map (λ (used : ℕ × Role). IsNoOther codec plan used.0 used.1) (λ (h : Hop). (h.nid, Passed h.index)) one.route.hops
    (λ k d within converts none. by k d converts none (hop_kind codec one.route.hops one.route.converter one.entry.pin one.admissible.path.leads one.admissible.path.passes_inner k d within)))
    (All-cons (λ (used : ℕ × Role). IsNoOther codec plan used.0 used.1) (one.entry.pin, Source one.entry.pair) [] (λ converts none. pin_no_input (node_at codec one.entry.pin) one.admissible.path.ends converts) (All-nil (λ (used : ℕ × Role). IsNoOther codec plan used.0 used.1)))
  where
    by : (k : ℕ) (d : Hop) → passes is_input_converter (node_at codec (get_or one.route.hops k d).nid) ≡ true → BeginsNoRoute plan (get_or one.route.hops k d).nid
        → ((get_or one.route.hops k d).nid ≡ one.route.converter) ⊎ (passes is_inner (node_at codec (get_or one.route.hops k d).nid) ≡ true) → ⊥
    by k d converts none (inl e) = begins_here codec format plan one (get_or one.route.hops k d).nid e none
    by k d converts none (inr e) = inner_no_input (node_at codec (get_or one.route.hops k d).nid) e converts

-- such a converter is unused
pub other_unused : (codec : RawCodec) (format : Format) (plan : Plan) (nid : ℕ) → IsInputPlanOrNone codec format plan → passes is_input_converter (node_at codec nid) ≡ true → BeginsNoRoute plan nid → input_role_of plan nid ≡ Unused
other_unused codec format plan nid is converts none =
    by (input_role_of plan nid) (input_role_all (λ n r. IsNoOther codec plan n r) (λ n. tt) codec format plan nid is (λ one. uses_of_others codec format plan one))
  where
    by : (role : Role) → IsNoOther codec plan nid role → role ≡ Unused
    by Unused h = refl
    by (Passed index) h = absurd (h converts none)
    by (Source pair) h = absurd (h converts none)
