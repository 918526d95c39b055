-- Each entry of a plan with one pair of channels leaves the routes alike, and is not blocked.
use Rattle.std.proofs.Common.{◌≡◌, ◌<◌, ◌⊎◌, ◌%◌, ◌/◌, ℕ, Bool, true, false, List, [], ◌∷◌, ◌++◌, map, take, drop, length, get_or, Some, None, refl, sym, ap, subst, ◌∙◌, inl, inr, append-nil, append_assoc, arith}
use Rattle.std.specs.Prelude.{All, Contains, if◌then◌else◌}
use Rattle.std.specs.List.{list_all}
use Rattle.std.proofs.Math.Nat.{mod-one}
use Rattle.std.proofs.lemmas.Bool.{cases_order}
use Rattle.std.proofs.lemmas.Bool.Decides.{nat_tests}
use Rattle.std.proofs.lemmas.List.{get_or_default, get_or-map, length-map}
use Rattle.std.proofs.lemmas.List.Elements.{All-contains, All-head, All-tail, All-cons, All-nil, All-push, Contains-append_left, Contains-append_right, Contains-append_cases}
use Rattle.std.proofs.lemmas.List.Sums.{AllPass-from_list_all, list_all-from_AllPass}
use Rattle.codec_graph.specs.declared.raw.RawNode.{RawNode}
use Rattle.codec_graph.specs.declared.raw.RawCodec.{RawCodec}
use Rattle.codec_graph.specs.Widget.{node_at, is_inner, is_pin}
use Rattle.codec_graph.specs.Kinds.{is_candidate_as, is_candidate_at_as}
use Rattle.route_planner.specs.declared.direction.Direction.TheVariants.{Out}
use Rattle.codec_graph.specs.declared.pin_kind.PinKind.{PinKind}
use Rattle.codec_graph.specs.declared.pin_kind.PinKind.TheVariants.{Analog, Digital}
use Rattle.route_planner.specs.declared.routes.Hop.{Hop}
use Rattle.route_planner.specs.declared.routes.Route.{Route}
use Rattle.route_planner.specs.declared.routes.Outcome.{Outcome}
use Rattle.route_planner.specs.declared.routes.Outcome.TheVariants as outcome
use Rattle.route_planner.specs.declared.routes.PinPlan.{PinPlan}
use Rattle.route_planner.specs.declared.routes.Plan.{Plan}
use Rattle.stream_format.specs.declared.format.Format.{Format}
use Rattle.route_planner.specs.Pairs.{is_headphone, rank_of}
use Rattle.route_planner.specs.Paths.{passes, IsAdmissibleAs}
use Rattle.route_planner.specs.Plans.{IsOutcomeAs, HaveOutcomesAs, IsPlanAs}
use Rattle.route_planner.specs.Laws.{IsNotBlocked, HasNoBlocked, HaveOnePair}
use Rattle.route_planner.specs.Search.{is_alike, leaves_alike, target, is_inner_at, is_end, IsBounded}
use Rattle.route_planner.proofs.Bridge.{inner_as}
use Rattle.codec_graph.proofs.Callers.{candidate_pin}
use Rattle.route_planner.proofs.Compatible.{alike_used, open_alike, open_path_from_way, way_from_open_path}
use Rattle.route_planner.proofs.Tables.{hops_of, all_hops, all_alike, table_of, AreLefts-table}
use Rattle.route_planner.proofs.Cuts.{cut_way_out}
use Rattle.route_planner.proofs.Unblocked.{AreOneWay, AreOneWay-none, open_path_exists}

-- the least open path does not meet a node twice
meets_once : (kind : PinKind) (codec : RawCodec) (format : Format) (earlier : List PinPlan) (pair pin : ℕ) (route : Route) → IsBounded codec → IsOutcomeAs kind codec format earlier pair pin (outcome.Route route) → (j k : ℕ) (d : Hop) → j < k → k < length route.hops → (get_or route.hops j d).nid ≡ (get_or route.hops k d).nid → is_inner_at codec (get_or route.hops k d).nid ≡ true → ⊥
meets_once kind codec format earlier pair pin route bounded is j k d less within same inner =
    let way = way_from_open_path kind codec format (table_of earlier) earlier pair pin bounded (AreLefts-table earlier) route is.0 in
    let cut = cut_way_out (is_inner_at codec) (target (Out kind) codec (table_of earlier)) (is_end kind codec format earlier pair) route.hops j k d pin route.converter less within same inner way in
    let short : Route = record { hops = take j route.hops ++ drop k route.hops; converter = route.converter } in
    let path = open_path_from_way kind codec format (table_of earlier) earlier pair pin bounded (AreLefts-table earlier) short cut.0 in
    elim (is.1 short path) [ inl less ↦ omega (arith, cut.1) | inr same ↦ omega (arith, cut.1, same.0) ]

-- so it leaves each node by one index
alike_itself : (kind : PinKind) (codec : RawCodec) (format : Format) (earlier : List PinPlan) (pair pin : ℕ) (route : Route) → IsBounded codec → IsOutcomeAs kind codec format earlier pair pin (outcome.Route route) → (hop twin : Hop) → Contains route.hops hop → Contains route.hops twin → hop.nid ≡ twin.nid → is_inner_at codec hop.nid ≡ true → hop.index ≡ twin.index
alike_itself kind codec format earlier pair pin route bounded is hop twin has others same inner =
    let at_twin : get_or route.hops others.0 hop ≡ twin = get_or_default route.hops others.0 hop twin others.1 ∙ others.2 in
    let nid_hop : (get_or route.hops has.0 hop).nid ≡ hop.nid = ap (λ (h : Hop). h.nid) has.2 in
    let nid_twin : (get_or route.hops others.0 hop).nid ≡ twin.nid = ap (λ (h : Hop). h.nid) at_twin in
    elim (cases_order has.0 others.0) [
      | inl one ↦ ap (λ (h : Hop). h.index) (sym has.2 ∙ (ap (λ (k : ℕ). get_or route.hops k hop) one ∙ at_twin))
      | inr apart ↦ elim apart [
        | inl less ↦ absurd (meets_once kind codec format earlier pair pin route bounded is has.0 others.0 hop less others.1 (nid_hop ∙ (same ∙ sym nid_twin)) (ap (is_inner_at codec) (nid_twin ∙ sym same) ∙ inner))
        | inr more ↦ absurd (meets_once kind codec format earlier pair pin route bounded is others.0 has.0 hop more has.1 (nid_twin ∙ (sym same ∙ sym nid_hop)) (ap (is_inner_at codec) nid_hop ∙ inner))
      ]
    ]

all_hops-push : (entries : List PinPlan) (entry : PinPlan) → all_hops (entries ++ entry ∷ []) ≡ all_hops entries ++ hops_of entry.outcome
all_hops-push [] entry = append-nil (hops_of entry.outcome)
all_hops-push (first ∷ entries) entry = rw (all_hops-push entries entry) (sym (append_assoc (hops_of first.outcome) (all_hops entries) (hops_of entry.outcome)))

-- what one more entry has to keep
record Fits (kind : PinKind) (codec : RawCodec) (format : Format) (entries : List PinPlan) (hops : List Hop) : Type 0 where
  with_old : (hop twin : Hop) → Contains hops hop → Contains (all_hops entries) twin → hop.nid ≡ twin.nid → is_inner_at codec hop.nid ≡ true → hop.index ≡ twin.index
  itself : (hop twin : Hop) → Contains hops hop → Contains hops twin → hop.nid ≡ twin.nid → is_inner_at codec hop.nid ≡ true → hop.index ≡ twin.index
  owned : (hop : Hop) → Contains hops hop → (route : Route) × (pin : ℕ) × IsAdmissibleAs kind codec format pin route × Contains route.hops hop × ((twin : Hop) → Contains route.hops twin → Contains hops twin)

nothing_there : {X : Type 0} (x : X) → Contains [] x → ⊥
nothing_there x has = omega (arith, has.1)

Fits-none : (kind : PinKind) (codec : RawCodec) (format : Format) (entries : List PinPlan) → Fits kind codec format entries []
Fits-none kind codec format entries = record {
  with_old = λ hop twin has. absurd (nothing_there hop has);
  itself = λ hop twin has. absurd (nothing_there hop has);
  owned = λ hop has. absurd (nothing_there hop has);
}

Fits-route : (kind : PinKind) (codec : RawCodec) (format : Format) (entries : List PinPlan) (pair pin : ℕ) (route : Route) → IsBounded codec → IsOutcomeAs kind codec format entries pair pin (outcome.Route route) → Fits kind codec format entries route.hops
Fits-route kind codec format entries pair pin route bounded is = record {
  with_old = λ hop twin has old same inner.
      let each : list_all (leaves_alike hop.nid hop.index) entries ≡ true = list_all-from_AllPass (leaves_alike hop.nid hop.index) entries (λ k d within. open_alike codec route pair (get_or entries k d).pair (get_or entries k d).outcome (is.0.1 k d within) hop has (inner_as codec hop.nid inner)) in
      let all = sym (all_alike hop.nid hop.index entries) ∙ each in
      alike_used hop.nid hop.index twin (All-contains (λ twin. is_alike hop.nid hop.index twin ≡ true) (all_hops entries) twin (AllPass-from_list_all (is_alike hop.nid hop.index) (all_hops entries) all) old) same;
  itself = alike_itself kind codec format entries pair pin route bounded is;
  owned = λ hop has. (route, pin, is.0.0, has, λ twin there. there);
}

AreOneWay-more : (kind : PinKind) (codec : RawCodec) (format : Format) (pair : ℕ) (entries : List PinPlan) (entry : PinPlan) → AreOneWay kind codec format pair entries → entry.pair ≡ pair → Fits kind codec format entries (hops_of entry.outcome) → AreOneWay kind codec format pair (entries ++ entry ∷ [])
AreOneWay-more kind codec format pair entries entry are of_pair fits =
    let new = hops_of entry.outcome in
    let split : (hop : Hop) → Contains (all_hops (entries ++ entry ∷ [])) hop → Contains (all_hops entries) hop ⊎ Contains new hop = λ hop has.
    Contains-append_cases (all_hops entries) new hop (subst (λ (hops : List Hop). Contains hops hop) (all_hops-push entries entry) has)
    in
    let join : (hop : Hop) → Contains (all_hops entries ++ new) hop → Contains (all_hops (entries ++ entry ∷ [])) hop = λ hop has. subst (λ (hops : List Hop). Contains hops hop) (sym (all_hops-push entries entry)) has in
    record {
      alike = λ hop twin has others same inner. elim (split hop has) [
        | inl old ↦ elim (split twin others) [
          | inl older ↦ are.alike hop twin old older same inner
          | inr newer ↦ sym (fits.with_old twin hop newer old (sym same) (ap (is_inner_at codec) (sym same) ∙ inner))
        ]
        | inr fresh ↦ elim (split twin others) [
          | inl older ↦ fits.with_old hop twin fresh older same inner
          | inr newer ↦ fits.itself hop twin fresh newer same inner
        ]
      ];
      owned = λ hop has. elim (split hop has) [
        | inl old ↦ let own = are.owned hop old in (own.0, own.1, own.2, own.3, λ twin there. join twin (Contains-append_left (all_hops entries) new twin (own.4 twin there)))
        | inr fresh ↦ let own = fits.owned hop fresh in (own.0, own.1, own.2, own.3, λ twin there. join twin (Contains-append_right (all_hops entries) new twin (own.4 twin there)))
      ];
      pairs = All-push (λ (entry : PinPlan). entry.pair ≡ pair) entries entry are.pairs of_pair;
    }

-- an entry is not blocked, and fits
fits_unblocked : (kind : PinKind) (codec : RawCodec) (format : Format) (pair : ℕ) (entries : List PinPlan) (pin : ℕ) (o : Outcome) → IsBounded codec → AreOneWay kind codec format pair entries → (is_inner_at codec pin ≡ true → ⊥) → IsOutcomeAs kind codec format entries pair pin o → IsNotBlocked o × Fits kind codec format entries (hops_of o)
fits_unblocked kind codec format pair entries pin (outcome.Route route) bounded are outer is = (tt, Fits-route kind codec format entries pair pin route bounded is)
fits_unblocked kind codec format pair entries pin outcome.Blocked bounded are outer is =
    let path = open_path_exists kind codec format pair entries pin bounded are outer is.0.0 is.0.1 in
    absurd (is.1 path.0 path.1)
fits_unblocked kind codec format pair entries pin outcome.NoPath bounded are outer is = (tt, Fits-none kind codec format entries)

none_blocked : (kind : PinKind) (codec : RawCodec) (format : Format) (pair : ℕ) (earlier entries : List PinPlan) → IsBounded codec → AreOneWay kind codec format pair earlier → All (λ (entry : PinPlan). entry.pair ≡ pair) entries → All (λ (entry : PinPlan). is_inner_at codec entry.pin ≡ true → ⊥) entries → HaveOutcomesAs kind codec format earlier entries → All (λ (entry : PinPlan). IsNotBlocked entry.outcome) entries
none_blocked kind codec format pair earlier [] bounded are pairs outer have = All-nil (λ (entry : PinPlan). IsNotBlocked entry.outcome)
none_blocked kind codec format pair earlier (entry ∷ entries) bounded are pairs outer have =
    let of_pair = All-head (λ (entry : PinPlan). entry.pair ≡ pair) entry entries pairs in
    let is = subst (λ (p : ℕ). IsOutcomeAs kind codec format earlier p entry.pin entry.outcome) of_pair have.0 in
    let step = fits_unblocked kind codec format pair earlier entry.pin entry.outcome bounded are (All-head (λ (entry : PinPlan). is_inner_at codec entry.pin ≡ true → ⊥) entry entries outer) is in
    let rest = none_blocked kind codec format pair (earlier ++ entry ∷ []) entries bounded (AreOneWay-more kind codec format pair earlier entry are of_pair step.1) (All-tail (λ (entry : PinPlan). entry.pair ≡ pair) entry entries pairs) (All-tail (λ (entry : PinPlan). is_inner_at codec entry.pin ≡ true → ⊥) entry entries outer) have.1 in
    All-cons (λ (entry : PinPlan). IsNotBlocked entry.outcome) entry entries step.0 rest

-- a candidate pin is no mixer or selector
pin_outer : (node : RawNode) → is_pin node ≡ true → is_inner node ≡ true → ⊥
pin_outer node pin inner = grind (arith, nat_tests)

candidate_outer : (kind : PinKind) (codec : RawCodec) (nid : ℕ) → is_candidate_as kind codec nid ≡ true → is_inner_at codec nid ≡ true → ⊥
candidate_outer kind codec nid is inner =
    elim (node_at codec nid) as (λ o. is_candidate_at_as kind o ≡ true → passes is_inner o ≡ true → ⊥) [
      | Some node ↦ λ can mixes. pin_outer node (candidate_pin kind node can) mixes
      | None ↦ λ can mixes. cc
    ] is (inner_as codec nid inner)

round_one : (rank channels : ℕ) → channels ≡ 2 → rank % (channels / 2) ≡ 0
round_one rank channels two = rw two (mod-one rank)

either : (b : Bool) {rank : ℕ} → rank ≡ 0 → (if b then 0 else rank) ≡ 0
either true is = refl
either false is = is

-- a stream of two channels has one pair, and a digital pin has the first
pub one_pair : (codec : RawCodec) (channels : ℕ) → channels ≡ 2 → HaveOnePair Analog codec channels
one_pair codec channels two pin = either (is_headphone codec pin) (round_one (rank_of codec pin) channels two)

pub one_digital_pair : (codec : RawCodec) (channels : ℕ) → HaveOnePair Digital codec channels
one_digital_pair codec channels pin = refl

pin_there : (entries : List PinPlan) (k : ℕ) (d : PinPlan) → k < length entries → Contains (map (λ (entry : PinPlan). entry.pin) entries) (get_or entries k d).pin
pin_there entries k d within =
    (k, omega (arith, length-map entries (λ (entry : PinPlan). entry.pin)), get_or-map (λ (entry : PinPlan). entry.pin) entries k d (get_or entries k d).pin within)

pub no_blocked : (kind : PinKind) (codec : RawCodec) (format : Format) (plan : Plan) → IsBounded codec → HaveOnePair kind codec format.channels → IsPlanAs kind codec format plan → HasNoBlocked plan
no_blocked kind codec format plan bounded one is =
    none_blocked kind codec format 0 [] plan.pins bounded (AreOneWay-none kind codec format 0) (λ k d within. is.pins.pairs k d within ∙ one (get_or plan.pins k d).pin) (λ k d within. candidate_outer kind codec (get_or plan.pins k d).pin ((is.pins.in_order.exactly (get_or plan.pins k d).pin).0 (pin_there plan.pins k d within))) is.outcomes
