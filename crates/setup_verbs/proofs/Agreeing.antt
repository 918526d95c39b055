-- All routes of a plan agree, so each of their nodes has its role.
use Rattle.std.proofs.Common.{◌≡◌, ◌≢◌, ◌<◌, ◌≤◌, ◌⊎◌, ◌&&◌, ℕ, zero, suc, Bool, true, false, List, [], ◌∷◌, map, length, get_or, take, Option, Some, None, refl, sym, ap, subst, ◌∙◌, inl, inr, arith}
use Rattle.std.specs.Prelude.{All, Contains, min}
use Rattle.std.proofs.lemmas.Bool.{true≢false, cases_lt}
use Rattle.std.proofs.Math.ListN.{get_or-map}
use Rattle.std.proofs.lemmas.List.{length-map, length-take, get_or-take}
use Rattle.std.proofs.lemmas.List.Elements.{All-nil, All-cons, All-append, All-map, All-contains, Contains-get_or, Contains-append_left, Contains-append_right, Contains-push}
use Rattle.codec_graph.specs.declared.raw.RawNode.{RawNode}
use Rattle.codec_graph.specs.declared.raw.RawCodec.{RawCodec}
use Rattle.codec_graph.specs.Widget.{node_at, is_inner, is_pin, is_output_converter}
use Rattle.codec_graph.specs.Candidates.{is_candidate_at}
use Rattle.codec_graph.specs.Kinds.{is_candidate_at_as}
use Rattle.codec_graph.specs.Cycles.{IsWellFormed}
use Rattle.stream_format.specs.declared.format.Format.{Format}
use Rattle.codec_graph.specs.declared.pin_kind.PinKind.{PinKind}
use Rattle.codec_graph.specs.declared.pin_kind.PinKind.TheVariants.{Analog, Digital}
use Rattle.route_planner.specs.declared.routes.Hop.{Hop}
use Rattle.route_planner.specs.declared.routes.Route as declared_route
use Rattle.route_planner.specs.declared.routes.Outcome.{Outcome}
use Rattle.route_planner.specs.declared.routes.Outcome.TheVariants as outcome
use Rattle.route_planner.specs.declared.routes.PinPlan.{PinPlan}
use Rattle.route_planner.specs.declared.routes.Plan.{Plan}
use Rattle.route_planner.specs.Paths.{passes, IsPath, IsAdmissibleAs, IsCompatible}
use Rattle.route_planner.specs.Plans.{LeavesOpen, IsOutcomeAs, IsPlanAs, IsAdmissibleOutcomeAs}
use Rattle.route_planner.proofs.Callers.{outcome_at, admissible_entries}
use Rattle.setup_verbs.specs.declared.roles.Role.{Role}
use Rattle.setup_verbs.specs.declared.roles.Role.TheVariants.{Unused, Passed, Source}
use Rattle.setup_verbs.specs.Roles.{hop_uses, outcome_uses, entry_uses, uses_of, role_among, role_of}
use Rattle.setup_verbs.specs.SetUp.{IsNoRoute, HasNoRoute}
use Rattle.setup_verbs.proofs.Members.{has_mapped}
use Rattle.setup_verbs.proofs.RoleFacts.{role_all, all_uses}
use Rattle.setup_verbs.proofs.Fitting.{pins_apart}
use Rattle.setup_verbs.proofs.Sharing.{IsSolid, role_found, inner_no_pin, inner_no_converter, pin_no_converter, path_alike, hop_kind}

-- two routes agree on the nodes that they share
pub record Agree (route : declared_route.Route) (pair : ℕ) (other : declared_route.Route) (other_pair : ℕ) : Type 0 where
  pub hops : (hop twin : Hop) → Contains route.hops hop → Contains other.hops twin → hop.nid ≡ twin.nid → hop.index ≡ twin.index
  pub ends : route.converter ≡ other.converter → pair ≡ other_pair

abbrev AgreeWith : declared_route.Route → ℕ → Outcome → ℕ → Type 0
AgreeWith route pair (outcome.Route other) other_pair = Agree route pair other other_pair
AgreeWith route pair outcome.Blocked other_pair = Unit {0}
AgreeWith route pair outcome.NoPath other_pair = Unit {0}

abbrev AgreeOutcomes : Outcome → ℕ → Outcome → ℕ → Type 0
AgreeOutcomes (outcome.Route route) pair other other_pair = AgreeWith route pair other other_pair
AgreeOutcomes outcome.Blocked pair other other_pair = Unit {0}
AgreeOutcomes outcome.NoPath pair other other_pair = Unit {0}

agree_sym : (o : Outcome) (pair : ℕ) (o' : Outcome) (pair' : ℕ) → AgreeOutcomes o pair o' pair' → AgreeOutcomes o' pair' o pair
agree_sym (outcome.Route route) pair (outcome.Route other) pair' h = record { hops = λ hop twin a b e. sym (h.hops twin hop b a (sym e)); ends = λ e. sym (h.ends (sym e)) }
agree_sym (outcome.Route route) pair outcome.Blocked pair' h = tt
agree_sym (outcome.Route route) pair outcome.NoPath pair' h = tt
agree_sym outcome.Blocked pair (outcome.Route other) pair' h = tt
agree_sym outcome.Blocked pair outcome.Blocked pair' h = tt
agree_sym outcome.Blocked pair outcome.NoPath pair' h = tt
agree_sym outcome.NoPath pair (outcome.Route other) pair' h = tt
agree_sym outcome.NoPath pair outcome.Blocked pair' h = tt
agree_sym outcome.NoPath pair outcome.NoPath pair' h = tt

-- a hop leaves the pin or a mixer or selector
pub kind_of : (codec : RawCodec) (pin : ℕ) (route : declared_route.Route) → IsPath codec pin route → (hop : Hop) → Contains route.hops hop → (hop.nid ≡ pin) ⊎ (passes is_inner (node_at codec hop.nid) ≡ true)
kind_of codec pin route path hop c =
    subst (λ (h : Hop). (h.nid ≡ pin) ⊎ (passes is_inner (node_at codec h.nid) ≡ true)) c.2 (hop_kind codec route.hops pin route.converter path.leads path.passes_inner c.0 hop c.1)

hop_no_converter : (codec : RawCodec) (pin : ℕ) (route : declared_route.Route) (nid : ℕ) → IsPath codec pin route → passes is_pin (node_at codec pin) ≡ true → passes is_output_converter (node_at codec nid) ≡ true → (hop : Hop) → Contains route.hops hop → hop.nid ≡ nid → ⊥
hop_no_converter codec pin route nid path is converts hop c same = by (kind_of codec pin route path hop c)
  where
    here : passes is_output_converter (node_at codec hop.nid) ≡ true
    here = ap (λ n. passes is_output_converter (node_at codec n)) same ∙ converts

    by : (hop.nid ≡ pin) ⊎ (passes is_inner (node_at codec hop.nid) ≡ true) → ⊥
    by (inl e) = pin_no_converter (node_at codec hop.nid) (ap (λ n. passes is_pin (node_at codec n)) e ∙ is) here
    by (inr e) = inner_no_converter (node_at codec hop.nid) e here

-- routes of two pins that are compatible agree
agree_cross : (codec : RawCodec) (pin : ℕ) (route : declared_route.Route) (pair pin' : ℕ) (other : declared_route.Route) (pair' : ℕ) → IsPath codec pin route → IsPath codec pin' other → passes is_pin (node_at codec pin) ≡ true → passes is_pin (node_at codec pin') ≡ true → pin ≢ pin'
    → IsCompatible codec route pair other pair' → Agree route pair other pair'
agree_cross codec pin route pair pin' other pair' path path' is is' apart compatible = record {
  hops = λ hop twin a b same. by hop twin a b same (kind_of codec pin route path hop a) (kind_of codec pin' other path' twin b);
  ends = compatible.same_pair;
}
  where
    by : (hop twin : Hop) → Contains route.hops hop → Contains other.hops twin → hop.nid ≡ twin.nid → (hop.nid ≡ pin) ⊎ (passes is_inner (node_at codec hop.nid) ≡ true) → (twin.nid ≡ pin') ⊎ (passes is_inner (node_at codec twin.nid) ≡ true) → hop.index ≡ twin.index
    by hop twin a b same (inl e) (inl f) = absurd (apart (sym e ∙ same ∙ f))
    by hop twin a b same (inl e) (inr f) = absurd (inner_no_pin (node_at codec twin.nid) f (ap (λ n. passes is_pin (node_at codec n)) (sym same ∙ e) ∙ is))
    by hop twin a b same (inr e) k = compatible.leave_alike hop twin a b same e

-- a route agrees with itself
agree_self : (codec : RawCodec) (pin : ℕ) (route : declared_route.Route) (pair : ℕ) → IsWellFormed codec → IsPath codec pin route → passes is_pin (node_at codec pin) ≡ true → Agree route pair route pair
agree_self codec pin route pair well path is = record {
  hops = λ hop twin a b same. by hop twin a b same;
  ends = λ e. refl;
}
  where
    by : (hop twin : Hop) → Contains route.hops hop → Contains route.hops twin → hop.nid ≡ twin.nid → hop.index ≡ twin.index
    by hop twin a b same =
        let x = within_same route.hops b.0 twin hop b.1 ∙ b.2 in
        ap (λ (h : Hop). h.index) (sym a.2)
        ∙ path_alike codec route.hops pin route.converter a.0 b.0 hop well is path.leads path.passes_inner a.1 b.1 (ap (λ (h : Hop). h.nid) a.2 ∙ same ∙ ap (λ (h : Hop). h.nid) (sym x))
        ∙ ap (λ (h : Hop). h.index) x
      where
        within_same : (hs : List Hop) (k : ℕ) (d d' : Hop) → k < length hs → get_or hs k d' ≡ get_or hs k d
        within_same [] k d d' lt = absurd (omega arith)
        within_same (h ∷ hs) zero d d' lt = refl
        within_same (h ∷ hs) (suc k) d d' lt = within_same hs k d d' (omega arith)

-- ---- their uses

-- a use makes of its node what another does
abbrev pub IsLike : (ℕ × Role) → (ℕ × Role) → Type 0
IsLike u t = t.0 ≡ u.0 → t.1 ≡ u.1

uses_alike : (codec : RawCodec) (pin : ℕ) (route : declared_route.Route) (pair pin' : ℕ) (other : declared_route.Route) (pair' : ℕ) → IsPath codec pin route → IsPath codec pin' other → passes is_pin (node_at codec pin) ≡ true → passes is_pin (node_at codec pin') ≡ true
    → Agree route pair other pair' → All (λ (u : ℕ × Role). All (IsLike u) (outcome_uses pair' (outcome.Route other))) (outcome_uses pair (outcome.Route route))
uses_alike codec pin route pair pin' other pair' path path' is is' agree =
    All-append (λ (u : ℕ × Role). All (IsLike u) (outcome_uses pair' (outcome.Route other))) (hop_uses route.hops) ((route.converter, Source pair) ∷ [])
    (All-map (λ (u : ℕ × Role). All (IsLike u) (outcome_uses pair' (outcome.Route other))) (λ (hop : Hop). (hop.nid, Passed hop.index)) route.hops (λ k d within. of_hop (get_or route.hops k d) (Contains-get_or route.hops k d within)))
    (All-cons (λ (u : ℕ × Role). All (IsLike u) (outcome_uses pair' (outcome.Route other))) (route.converter, Source pair) [] of_end (All-nil (λ (u : ℕ × Role). All (IsLike u) (outcome_uses pair' (outcome.Route other)))))
  where
    of_hop : (hop : Hop) → Contains route.hops hop → All (IsLike (hop.nid, Passed hop.index)) (outcome_uses pair' (outcome.Route other))
    of_hop hop has =
        All-append (IsLike (hop.nid, Passed hop.index)) (hop_uses other.hops) ((other.converter, Source pair') ∷ [])
        (All-map (IsLike (hop.nid, Passed hop.index)) (λ (h : Hop). (h.nid, Passed h.index)) other.hops (λ k d within e. ap (λ i. Passed i) (sym (agree.hops hop (get_or other.hops k d) has (Contains-get_or other.hops k d within) (sym e)))))
        (All-cons (IsLike (hop.nid, Passed hop.index)) (other.converter, Source pair') [] (λ e. absurd (hop_no_converter codec pin route other.converter path is path'.ends hop has (sym e))) (All-nil (IsLike (hop.nid, Passed hop.index))))

    of_end : All (IsLike (route.converter, Source pair)) (outcome_uses pair' (outcome.Route other))
    of_end =
        All-append (IsLike (route.converter, Source pair)) (hop_uses other.hops) ((other.converter, Source pair') ∷ [])
        (All-map (IsLike (route.converter, Source pair)) (λ (h : Hop). (h.nid, Passed h.index)) other.hops (λ k d within e. absurd (hop_no_converter codec pin' other route.converter path' is' path.ends (get_or other.hops k d) (Contains-get_or other.hops k d within) e)))
        (All-cons (IsLike (route.converter, Source pair)) (other.converter, Source pair') [] (λ e. ap (λ p. Source p) (sym (agree.ends (sym e)))) (All-nil (IsLike (route.converter, Source pair))))

outcomes_alike : (kind : PinKind) (codec : RawCodec) (format : Format) (pin pair : ℕ) (o : Outcome) (pin' pair' : ℕ) (o' : Outcome) → IsAdmissibleOutcomeAs kind codec format pin o → IsAdmissibleOutcomeAs kind codec format pin' o' → passes is_pin (node_at codec pin) ≡ true → passes is_pin (node_at codec pin') ≡ true
    → AgreeOutcomes o pair o' pair' → All (λ (u : ℕ × Role). All (IsLike u) (outcome_uses pair' o')) (outcome_uses pair o)
outcomes_alike kind codec format pin pair (outcome.Route route) pin' pair' (outcome.Route other) a a' is is' agree = uses_alike codec pin route pair pin' other pair' a.path a'.path is is' agree
outcomes_alike kind codec format pin pair (outcome.Route route) pin' pair' outcome.Blocked a a' is is' agree = λ k d within. All-nil (IsLike (get_or (outcome_uses pair (outcome.Route route)) k d))
outcomes_alike kind codec format pin pair (outcome.Route route) pin' pair' outcome.NoPath a a' is is' agree = λ k d within. All-nil (IsLike (get_or (outcome_uses pair (outcome.Route route)) k d))
outcomes_alike kind codec format pin pair outcome.Blocked pin' pair' o' a a' is is' agree = All-nil (λ (u : ℕ × Role). All (IsLike u) (outcome_uses pair' o'))
outcomes_alike kind codec format pin pair outcome.NoPath pin' pair' o' a a' is is' agree = All-nil (λ (u : ℕ × Role). All (IsLike u) (outcome_uses pair' o'))

-- ---- the entries of a plan

first : (b c d f g h i : Bool) → (b && c && d && f && g && h && i) ≡ true → b ≡ true
first true c d f g h i e = refl
first false c d f g h i e = cc

pub candidate_is_pin : (o : Option RawNode) → is_candidate_at o ≡ true → passes is_pin o ≡ true
candidate_is_pin None e = absurd (true≢false (sym e))
candidate_is_pin (Some node) e = first (is_pin node) _ _ _ _ _ _ e

-- so is one of each kind
pub candidate_is_pin_as : (kind : PinKind) (o : Option RawNode) → is_candidate_at_as kind o ≡ true → passes is_pin o ≡ true
candidate_is_pin_as Analog o e = candidate_is_pin o e
candidate_is_pin_as Digital None e = absurd (true≢false (sym e))
candidate_is_pin_as Digital (Some node) e = first (is_pin node) _ _ _ _ _ _ e

pub entry_is_pin : (kind : PinKind) (codec : RawCodec) (format : Format) (plan : Plan) → IsPlanAs kind codec format plan → (k : ℕ) (d : PinPlan) → k < length plan.pins → passes is_pin (node_at codec (get_or plan.pins k d).pin) ≡ true
entry_is_pin kind codec format plan is k d within =
    candidate_is_pin_as kind (node_at codec (get_or plan.pins k d).pin)
    ((is.pins.in_order.exactly (get_or plan.pins k d).pin).0 (k, rw length-map within, get_or-map (λ (entry : PinPlan). entry.pin) plan.pins k (get_or plan.pins k d) ∙ ap (λ (e : PinPlan). e.pin) (same plan.pins k (get_or plan.pins k d) d within)))
  where
    same : (xs : List PinPlan) (k : ℕ) (d d' : PinPlan) → k < length xs → get_or xs k d ≡ get_or xs k d'
    same [] k d d' lt = absurd (omega arith)
    same (x ∷ xs) zero d d' lt = refl
    same (x ∷ xs) (suc k) d d' lt = same xs k d d' (omega arith)

entries_apart : (kind : PinKind) (codec : RawCodec) (format : Format) (plan : Plan) → IsPlanAs kind codec format plan → (i j : ℕ) (d : PinPlan) → i < j → j < length plan.pins → (get_or plan.pins i d).pin ≢ (get_or plan.pins j d).pin
entries_apart kind codec format plan is i j d lt within = λ e.
    pins_apart kind codec (map (λ (entry : PinPlan). entry.pin) plan.pins) is.pins.in_order i j d.pin lt (rw length-map within)
    (get_or-map (λ (entry : PinPlan). entry.pin) plan.pins i d ∙ e ∙ sym (get_or-map (λ (entry : PinPlan). entry.pin) plan.pins j d))

same_entry : (xs : List PinPlan) (k : ℕ) (d d' : PinPlan) → k < length xs → get_or xs k d ≡ get_or xs k d'
same_entry [] k d d' lt = absurd (omega arith)
same_entry (x ∷ xs) zero d d' lt = refl
same_entry (x ∷ xs) (suc k) d d' lt = same_entry xs k d d' (omega arith)

pub all_from : (P : PinPlan → Type 0) (xs : List PinPlan) (d : PinPlan) → ((k : ℕ) → k < length xs → P (get_or xs k d)) → All P xs
all_from P xs d h k d' within = subst P (same_entry xs k d d' within) (h k within)

-- a later entry agrees with an earlier one
left_open : (kind : PinKind) (codec : RawCodec) (pin : ℕ) (route : declared_route.Route) (pair pin' pair' : ℕ) (o' : Outcome) (format : Format) → IsAdmissibleAs kind codec format pin route → IsAdmissibleOutcomeAs kind codec format pin' o' → passes is_pin (node_at codec pin) ≡ true → passes is_pin (node_at codec pin') ≡ true → pin ≢ pin'
    → LeavesOpen codec route pair pair' o' → AgreeWith route pair o' pair'
left_open kind codec pin route pair pin' pair' (outcome.Route other) format a a' is is' apart leaves = agree_cross codec pin route pair pin' other pair' a.path a'.path is is' apart leaves
left_open kind codec pin route pair pin' pair' outcome.Blocked format a a' is is' apart leaves = tt
left_open kind codec pin route pair pin' pair' outcome.NoPath format a a' is is' apart leaves = tt

later_outcome : (kind : PinKind) (codec : RawCodec) (format : Format) (earlier : List PinPlan) (j : ℕ) (d entry : PinPlan) (pair pin : ℕ) (o : Outcome) → IsOutcomeAs kind codec format earlier pair pin o → j < length earlier → get_or earlier j d ≡ entry
    → IsAdmissibleOutcomeAs kind codec format entry.pin entry.outcome → passes is_pin (node_at codec pin) ≡ true → passes is_pin (node_at codec entry.pin) ≡ true → pin ≢ entry.pin
    → AgreeOutcomes o pair entry.outcome entry.pair
later_outcome kind codec format earlier j d entry pair pin (outcome.Route route) is within same a' is-pin is-pin' apart =
    left_open kind codec pin route pair entry.pin entry.pair entry.outcome format is.0.0 a' is-pin is-pin' apart
    (subst (λ (e : PinPlan). LeavesOpen codec route pair e.pair e.outcome) same (is.0.1 j d within))
later_outcome kind codec format earlier j d entry pair pin outcome.Blocked is within same a' is-pin is-pin' apart = tt
later_outcome kind codec format earlier j d entry pair pin outcome.NoPath is within same a' is-pin is-pin' apart = tt

later_agrees : (kind : PinKind) (codec : RawCodec) (format : Format) (plan : Plan) → IsPlanAs kind codec format plan → (i j : ℕ) (d : PinPlan) → j < i → i < length plan.pins
    → AgreeOutcomes (get_or plan.pins i d).outcome (get_or plan.pins i d).pair (get_or plan.pins j d).outcome (get_or plan.pins j d).pair
later_agrees kind codec format plan is i j d lt within =
    let l : length (take i plan.pins) ≡ min i (length plan.pins) = length-take i plan.pins in
    let below : j < length (take i plan.pins) = omega (arith, l) in
    later_outcome kind codec format (take i plan.pins) j d (get_or plan.pins j d) (get_or plan.pins i d).pair (get_or plan.pins i d).pin (get_or plan.pins i d).outcome
    (outcome_at kind codec format plan i d is within) below (get_or-take i plan.pins j d lt) (admissible_entries kind codec format [] plan.pins is.outcomes j d (omega arith))
    (entry_is_pin kind codec format plan is i d within) (entry_is_pin kind codec format plan is j d (omega arith)) (λ e. entries_apart kind codec format plan is j i d lt within (sym e))

self_agrees : (kind : PinKind) (codec : RawCodec) (format : Format) (pin pair : ℕ) (o : Outcome) → IsWellFormed codec → IsAdmissibleOutcomeAs kind codec format pin o → passes is_pin (node_at codec pin) ≡ true → AgreeOutcomes o pair o pair
self_agrees kind codec format pin pair (outcome.Route route) well a is = agree_self codec pin route pair well a.path is
self_agrees kind codec format pin pair outcome.Blocked well a is = tt
self_agrees kind codec format pin pair outcome.NoPath well a is = tt

-- any two entries agree
entries_agree : (kind : PinKind) (codec : RawCodec) (format : Format) (plan : Plan) → IsWellFormed codec → IsPlanAs kind codec format plan → (i j : ℕ) (d : PinPlan) → i < length plan.pins → j < length plan.pins
    → AgreeOutcomes (get_or plan.pins i d).outcome (get_or plan.pins i d).pair (get_or plan.pins j d).outcome (get_or plan.pins j d).pair
entries_agree kind codec format plan well is i j d in-i in-j = by (cases_lt i j) (cases_lt j i)
  where
    by : (i < j) ⊎ (j ≤ i) → (j < i) ⊎ (i ≤ j) → AgreeOutcomes (get_or plan.pins i d).outcome (get_or plan.pins i d).pair (get_or plan.pins j d).outcome (get_or plan.pins j d).pair
    by (inl lt) other = agree_sym _ _ (get_or plan.pins i d).outcome (get_or plan.pins i d).pair (later_agrees kind codec format plan is j i d lt in-j)
    by (inr ge) (inl lt) = later_agrees kind codec format plan is i j d lt in-i
    by (inr ge) (inr le) =
        let same : i ≡ j = omega arith in
        subst (λ k. AgreeOutcomes (get_or plan.pins i d).outcome (get_or plan.pins i d).pair (get_or plan.pins k d).outcome (get_or plan.pins k d).pair) same
        (self_agrees kind codec format (get_or plan.pins i d).pin (get_or plan.pins i d).pair (get_or plan.pins i d).outcome well (admissible_entries kind codec format [] plan.pins is.outcomes i d in-i) (entry_is_pin kind codec format plan is i d in-i))

-- so all uses are alike
all_alike : (kind : PinKind) (codec : RawCodec) (format : Format) (plan : Plan) → IsWellFormed codec → IsPlanAs kind codec format plan → All (λ (u : ℕ × Role). All (IsLike u) (uses_of plan.pins)) (uses_of plan.pins)
all_alike kind codec format plan well is =
    all_uses (λ (u : ℕ × Role). All (IsLike u) (uses_of plan.pins)) plan.pins
    (λ i d in-i k u within. all_uses (IsLike (get_or (entry_uses (get_or plan.pins i d)) k u)) plan.pins
    (all_from (λ (e : PinPlan). All (IsLike (get_or (entry_uses (get_or plan.pins i d)) k u)) (entry_uses e)) plan.pins d
    (λ j in-j. outcomes_alike kind codec format (get_or plan.pins i d).pin (get_or plan.pins i d).pair (get_or plan.pins i d).outcome (get_or plan.pins j d).pin (get_or plan.pins j d).pair (get_or plan.pins j d).outcome
    (admissible_entries kind codec format [] plan.pins is.outcomes i d in-i) (admissible_entries kind codec format [] plan.pins is.outcomes j d in-j)
    (entry_is_pin kind codec format plan is i d in-i) (entry_is_pin kind codec format plan is j d in-j)
    (entries_agree kind codec format plan well is i j d in-i in-j) k u within)))

role_is : (kind : PinKind) (codec : RawCodec) (format : Format) (plan : Plan) (nid : ℕ) (role : Role) → IsWellFormed codec → IsPlanAs kind codec format plan → IsSolid role → Contains (uses_of plan.pins) (nid, role) → role_of plan nid ≡ role
unfolding role_of
role_is kind codec format plan nid role well is solid c =
    role_found (uses_of plan.pins) c.0 nid role solid c.1 c.2
    (All-contains (λ (u : ℕ × Role). All (IsLike u) (uses_of plan.pins)) (uses_of plan.pins) (nid, role) (all_alike kind codec format plan well is) c)

use_of_entry : (entries : List PinPlan) (k : ℕ) (d : PinPlan) (u : ℕ × Role) → k < length entries → Contains (entry_uses (get_or entries k d)) u → Contains (uses_of entries) u
use_of_entry [] k d u within c = absurd (omega arith)
use_of_entry (e ∷ entries) zero d u within c = Contains-append_left (entry_uses e) (uses_of entries) u c
use_of_entry (e ∷ entries) (suc k) d u within c = Contains-append_right (entry_uses e) (uses_of entries) u (use_of_entry entries k d u (omega arith) c)

-- the roles of a route's hops and of its converter
pub hop_role : (kind : PinKind) (codec : RawCodec) (format : Format) (plan : Plan) (k : ℕ) (d : PinPlan) (route : declared_route.Route) (hop : Hop) → IsWellFormed codec → IsPlanAs kind codec format plan → k < length plan.pins → (get_or plan.pins k d).outcome ≡ outcome.Route route → Contains route.hops hop
    → role_of plan hop.nid ≡ Passed hop.index
hop_role kind codec format plan k d route hop well is within it has =
    role_is kind codec format plan hop.nid (Passed hop.index) well is (λ other. refl)
    (use_of_entry plan.pins k d (hop.nid, Passed hop.index) within
    (subst (λ (o : Outcome). Contains (outcome_uses (get_or plan.pins k d).pair o) (hop.nid, Passed hop.index)) (sym it)
    (Contains-append_left (hop_uses route.hops) ((route.converter, Source (get_or plan.pins k d).pair) ∷ []) (hop.nid, Passed hop.index) (has_mapped (λ (h : Hop). (h.nid, Passed h.index)) route.hops hop has))))

pub end_role : (kind : PinKind) (codec : RawCodec) (format : Format) (plan : Plan) (k : ℕ) (d : PinPlan) (route : declared_route.Route) → IsWellFormed codec → IsPlanAs kind codec format plan → k < length plan.pins → (get_or plan.pins k d).outcome ≡ outcome.Route route
    → role_of plan route.converter ≡ Source (get_or plan.pins k d).pair
end_role kind codec format plan k d route well is within it =
    role_is kind codec format plan route.converter (Source (get_or plan.pins k d).pair) well is (λ other. refl)
    (use_of_entry plan.pins k d (route.converter, Source (get_or plan.pins k d).pair) within
    (subst (λ (o : Outcome). Contains (outcome_uses (get_or plan.pins k d).pair o) (route.converter, Source (get_or plan.pins k d).pair)) (sym it)
    (Contains-push (hop_uses route.hops) (route.converter, Source (get_or plan.pins k d).pair))))

-- ---- pins without a route

abbrev IsOnRoute : RawCodec → Plan → ℕ → Role → Type 0
IsOnRoute codec plan nid Unused = Unit {0}
IsOnRoute codec plan nid (Passed index) = passes is_pin (node_at codec nid) ≡ true → HasNoRoute plan nid → ⊥
IsOnRoute codec plan nid (Source pair) = passes is_pin (node_at codec nid) ≡ true → HasNoRoute plan nid → ⊥

outcome_on : (kind : PinKind) (codec : RawCodec) (format : Format) (plan : Plan) (k : ℕ) (d : PinPlan) (o : Outcome) → k < length plan.pins → (get_or plan.pins k d).outcome ≡ o → IsAdmissibleOutcomeAs kind codec format (get_or plan.pins k d).pin o
    → All (λ (u : ℕ × Role). IsOnRoute codec plan u.0 u.1) (outcome_uses (get_or plan.pins k d).pair o)
outcome_on kind codec format plan k d (outcome.Route route) within it a =
    All-append (λ (u : ℕ × Role). IsOnRoute codec plan u.0 u.1) (hop_uses route.hops) ((route.converter, Source (get_or plan.pins k d).pair) ∷ [])
    (All-map (λ (u : ℕ × Role). IsOnRoute codec plan u.0 u.1) (λ (h : Hop). (h.nid, Passed h.index)) route.hops
    (λ i h below is none. by (get_or route.hops i h).nid (kind_of codec (get_or plan.pins k d).pin route a.path (get_or route.hops i h) (Contains-get_or route.hops i h below)) is none))
    (All-cons (λ (u : ℕ × Role). IsOnRoute codec plan u.0 u.1) (route.converter, Source (get_or plan.pins k d).pair) [] (λ is none. pin_no_converter (node_at codec route.converter) is a.path.ends) (All-nil (λ (u : ℕ × Role). IsOnRoute codec plan u.0 u.1)))
  where
    by : (nid : ℕ) → (nid ≡ (get_or plan.pins k d).pin) ⊎ (passes is_inner (node_at codec nid) ≡ true) → passes is_pin (node_at codec nid) ≡ true → HasNoRoute plan nid → ⊥
    by nid (inl e) is none = let z : IsNoRoute (get_or plan.pins k d).outcome = none k d within (sym e) in subst IsNoRoute it z
    by nid (inr e) is none = inner_no_pin (node_at codec nid) e is
outcome_on kind codec format plan k d outcome.Blocked within it a = All-nil (λ (u : ℕ × Role). IsOnRoute codec plan u.0 u.1)
outcome_on kind codec format plan k d outcome.NoPath within it a = All-nil (λ (u : ℕ × Role). IsOnRoute codec plan u.0 u.1)

-- a pin without a route is unused
pub unused_pin : (kind : PinKind) (codec : RawCodec) (format : Format) (plan : Plan) (pin : ℕ) → IsPlanAs kind codec format plan → passes is_pin (node_at codec pin) ≡ true → HasNoRoute plan pin → role_of plan pin ≡ Unused
unfolding role_of
unused_pin kind codec format plan pin is is-pin none = by (role_among (uses_of plan.pins) pin)
    (role_all (λ nid role. IsOnRoute codec plan nid role) (λ nid. tt) (uses_of plan.pins) pin
    (all_uses (λ (u : ℕ × Role). IsOnRoute codec plan u.0 u.1) plan.pins (λ k d within. outcome_on kind codec format plan k d (get_or plan.pins k d).outcome within refl (admissible_entries kind codec format [] plan.pins is.outcomes k d within))))
  where
    by : (role : Role) → IsOnRoute codec plan pin role → role ≡ Unused
    by Unused h = refl
    by (Passed index) h = absurd (h is-pin none)
    by (Source pair) h = absurd (h is-pin none)
