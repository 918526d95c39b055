-- With one pair of channels no pin is blocked: a path that meets an earlier route goes on along it.
use Rattle.std.proofs.Common.{◌≡◌, ◌≢◌, ◌⊎◌, ℕ, true, List, [], ◌∷◌, drop, get_or, Some, refl, sym, ap, subst, ◌∙◌, inl, inr, arith}
use Rattle.std.specs.Prelude.{All, Contains}
use Rattle.std.specs.List.{list_all}
use Rattle.std.proofs.lemmas.Bool.{cases_eq}
use Rattle.std.proofs.lemmas.List.Elements.{All-nil, Contains-get_or, Contains-append_right, Contains-append_cases}
use Rattle.std.proofs.lemmas.List.Sums.{list_all-from_AllPass}
use Rattle.codec_graph.specs.declared.raw.RawCodec.{RawCodec}
use Rattle.codec_graph.specs.Widget.{node_at, is_inner}
use Rattle.route_planner.specs.declared.direction.Direction.TheVariants.{Out}
use Rattle.codec_graph.specs.declared.pin_kind.PinKind.{PinKind}
use Rattle.route_planner.specs.declared.routes.Hop.{Hop}
use Rattle.route_planner.specs.declared.routes.Route.{Route}
use Rattle.route_planner.specs.declared.routes.Outcome.{Outcome}
use Rattle.route_planner.specs.declared.routes.Outcome.TheVariants as outcome
use Rattle.route_planner.specs.declared.routes.PinPlan.{PinPlan}
use Rattle.stream_format.specs.declared.format.Format.{Format}
use Rattle.route_planner.specs.Paths.{passes, IsAdmissibleAs}
use Rattle.route_planner.specs.Plans.{IsOpenPathAs}
use Rattle.route_planner.specs.Search.{left_at, allows, is_alike, outcome_carries, carries_alike, target, is_inner_at, is_end, IsBounded}
use Rattle.route_planner.specs.Ways.{IsWay}
use Rattle.route_planner.proofs.Bridge.{target-parts, target-made, can_leave-parts, can_leave-made, is_end-parts, is_end-made, as_inner}
use Rattle.route_planner.proofs.Compatible.{AreLefts, alike_made, pair_made, inner_below, open_path_from_way, way_from_open_path}
use Rattle.route_planner.proofs.Tables.{all_hops, all_alike, table_of, AreLefts-table}
use Rattle.route_planner.proofs.Cuts.{drop_way_out, change_way_out, other_way_out}

-- the routes of the entries are paths that leave each shared node alike, and carry one pair
pub record AreOneWay (kind : PinKind) (codec : RawCodec) (format : Format) (pair : ℕ) (entries : List PinPlan) : Type 0 where
  pub alike : (hop twin : Hop) → Contains (all_hops entries) hop → Contains (all_hops entries) twin → hop.nid ≡ twin.nid → is_inner_at codec hop.nid ≡ true → hop.index ≡ twin.index
  pub owned : (hop : Hop) → Contains (all_hops entries) hop → (route : Route) × (pin : ℕ) × IsAdmissibleAs kind codec format pin route × Contains route.hops hop × ((twin : Hop) → Contains route.hops twin → Contains (all_hops entries) twin)
  pub pairs : All (λ (entry : PinPlan). entry.pair ≡ pair) entries

nothing_there : {X : Type 0} (x : X) → Contains [] x → ⊥
nothing_there x has = omega (arith, has.1)

pub AreOneWay-none : (kind : PinKind) (codec : RawCodec) (format : Format) (pair : ℕ) → AreOneWay kind codec format pair []
AreOneWay-none kind codec format pair = record {
  alike = λ hop twin has. absurd (nothing_there hop has);
  owned = λ hop has. absurd (nothing_there hop has);
  pairs = All-nil (λ (entry : PinPlan). entry.pair ≡ pair);
}

only : (one other : Hop) → Contains (one ∷ []) other → one ≡ other
only one other has = let first : has.0 ≡ 0 = omega (arith, has.1) in subst (λ (k : ℕ). get_or (one ∷ []) k other ≡ other) first has.2

carries_by : (pair nid other_pair : ℕ) (o : Outcome) → pair ≡ other_pair → outcome_carries pair nid other_pair o ≡ true
carries_by pair nid other_pair (outcome.Route route) same = pair_made pair other_pair route.converter nid (λ e. same)
carries_by pair nid other_pair outcome.Blocked same = refl
carries_by pair nid other_pair outcome.NoPath same = refl

carries : (pair nid : ℕ) (entry : PinPlan) → entry.pair ≡ pair → carries_alike pair nid entry ≡ true
carries pair nid entry same = carries_by pair nid entry.pair entry.outcome (sym same)

-- some hop of a list leaves the node, or none does
find_hop : (nid : ℕ) (hops : List Hop) → ((hop : Hop) × Contains hops hop × (hop.nid ≡ nid)) ⊎ ((hop : Hop) → Contains hops hop → hop.nid ≢ nid)
find_hop nid [] = inr (λ hop has. absurd (nothing_there hop has))
find_hop nid (first ∷ hops) =
    elim (cases_eq first.nid nid) [
      | inl same ↦ inl (first, (0, omega arith, refl), same)
      | inr ne ↦ elim (find_hop nid hops) [
        | inl found ↦ inl (found.0, Contains-append_right (first ∷ []) hops found.0 found.1, found.2)
        | inr none ↦ inr (λ hop has. elim (Contains-append_cases (first ∷ []) hops hop has) [
          | inl here ↦ λ e. ne (ap (λ (h : Hop). h.nid) (only first hop here) ∙ e)
          | inr later ↦ none hop later
        ])
      ]
    ]

-- a connection that is allowed on its own is allowed beside hops that leave the node alike
allowed_beside : (kind : PinKind) (codec : RawCodec) (entries : List PinPlan) (nid index n : ℕ) → IsBounded codec → (is_inner_at codec nid ≡ true → list_all (is_alike nid index) (all_hops entries) ≡ true) → target (Out kind) codec (table_of []) nid index ≡ Some n → target (Out kind) codec (table_of entries) nid index ≡ Some n
allowed_beside kind codec entries nid index n bounded alike leads =
    let parts = target-parts (Out kind) codec (table_of []) nid index n leads in
    let can = can_leave-parts (Out kind) codec (left_at (table_of []) nid) index (node_at codec nid) parts.0 in
    let are : AreLefts (table_of entries) entries = AreLefts-table entries in
    let allows_it : passes is_inner (node_at codec nid) ≡ true → allows (left_at (table_of entries) nid) index ≡ true = λ inner.
    are.right nid index (inner_below codec nid bounded inner) ∙ (all_alike nid index entries ∙ alike (as_inner codec nid inner))
    in
    target-made (Out kind) codec (table_of entries) nid index n (can_leave-made (Out kind) codec (left_at (table_of entries) nid) index (node_at codec nid) (can.0, can.1, allows_it)) parts.1

-- the ends stay ends where all carry one pair
ends_beside : (kind : PinKind) (codec : RawCodec) (format : Format) (pair : ℕ) (entries : List PinPlan) → All (λ (entry : PinPlan). entry.pair ≡ pair) entries → (nid : ℕ) → is_end kind codec format [] pair nid ≡ true → is_end kind codec format entries pair nid ≡ true
ends_beside kind codec format pair entries pairs nid e =
    let parts = is_end-parts kind codec format [] pair nid e in
    is_end-made kind codec format entries pair nid parts.0 (list_all-from_AllPass (carries_alike pair nid) entries (λ k d within. carries pair nid (get_or entries k d) (pairs k d within)))

alike_in : (kind : PinKind) (codec : RawCodec) (format : Format) (pair : ℕ) (entries : List PinPlan) → AreOneWay kind codec format pair entries → (hop : Hop) → Contains (all_hops entries) hop → is_inner_at codec hop.nid ≡ true → list_all (is_alike hop.nid hop.index) (all_hops entries) ≡ true
alike_in kind codec format pair entries are hop has inner =
    list_all-from_AllPass (is_alike hop.nid hop.index) (all_hops entries) (λ k d within. alike_made hop.nid hop.index (get_or (all_hops entries) k d) (λ same. are.alike hop (get_or (all_hops entries) k d) has (Contains-get_or (all_hops entries) k d within) same inner))

open_alone : (kind : PinKind) (codec : RawCodec) (format : Format) (pair pin : ℕ) (route : Route) → IsAdmissibleAs kind codec format pin route → IsOpenPathAs kind codec format [] pair pin route
open_alone kind codec format pair pin route right = (right, λ k d within. absurd (omega arith))

-- the way of an earlier route goes on from each node that it leaves
goes_on : (kind : PinKind) (codec : RawCodec) (format : Format) (pair : ℕ) (entries : List PinPlan) → IsBounded codec → AreOneWay kind codec format pair entries → (hop : Hop) → Contains (all_hops entries) hop → is_inner_at codec hop.nid ≡ true → (hops : List Hop) × (to : ℕ) × IsWay (is_inner_at codec) (target (Out kind) codec (table_of entries)) (is_end kind codec format entries pair) hop.nid hops to
goes_on kind codec format pair entries bounded are hop has inner =
    let own = are.owned hop has in
    let route = own.0 in
    let alone = way_from_open_path kind codec format (table_of []) [] pair own.1 bounded (AreLefts-table []) route (open_alone kind codec format pair own.1 route own.2) in
    let beside = other_way_out (is_inner_at codec) (target (Out kind) codec (table_of [])) (target (Out kind) codec (table_of entries)) (is_end kind codec format [] pair) (is_end kind codec format entries pair) (ends_beside kind codec format pair entries are.pairs) route.hops own.1 route.converter (λ twin there n leads. allowed_beside kind codec entries twin.nid twin.index n bounded (λ inn. alike_in kind codec format pair entries are twin (own.4 twin there) inn) leads) alone in
    let at : get_or route.hops own.3.0 hop ≡ hop = own.3.2 in
    let nid : (get_or route.hops own.3.0 hop).nid ≡ hop.nid = ap (λ (h : Hop). h.nid) at in
    let rest = drop_way_out (is_inner_at codec) (target (Out kind) codec (table_of entries)) (is_end kind codec format entries pair) route.hops own.3.0 hop own.1 route.converter own.3.1 (ap (is_inner_at codec) nid ∙ inner) beside in
    (drop own.3.0 route.hops, route.converter, subst (λ (n : ℕ). IsWay (is_inner_at codec) (target (Out kind) codec (table_of entries)) (is_end kind codec format entries pair) n (drop own.3.0 route.hops) route.converter) nid rest)

-- a pin that has an admissible path has an open one
pub open_path_exists : (kind : PinKind) (codec : RawCodec) (format : Format) (pair : ℕ) (entries : List PinPlan) (pin : ℕ) → IsBounded codec → AreOneWay kind codec format pair entries → (is_inner_at codec pin ≡ true → ⊥) → (some : Route) → IsAdmissibleAs kind codec format pin some → (route : Route) × IsOpenPathAs kind codec format entries pair pin route
open_path_exists kind codec format pair entries pin bounded are outer some right =
    let inner = is_inner_at codec in
    let end = is_end kind codec format entries pair in
    let alone = way_from_open_path kind codec format (table_of []) [] pair pin bounded (AreLefts-table []) some (open_alone kind codec format pair pin some right) in
    let each : (nid : ℕ) → inner nid ≡ true → ((index n : ℕ) → target (Out kind) codec (table_of []) nid index ≡ Some n → target (Out kind) codec (table_of entries) nid index ≡ Some n) ⊎ ((hops : List Hop) × (to : ℕ) × IsWay inner (target (Out kind) codec (table_of entries)) end nid hops to) = λ nid is.
    elim (find_hop nid (all_hops entries)) [
      | inl found ↦
          let on = goes_on kind codec format pair entries bounded are found.0 found.1 (ap inner found.2 ∙ is) in
          inr (on.0, on.1, subst (λ (n : ℕ). IsWay inner (target (Out kind) codec (table_of entries)) end n on.0 on.1) found.2 on.2)
      | inr none ↦ inl (λ index n leads. allowed_beside kind codec entries nid index n bounded (λ inn. list_all-from_AllPass (is_alike nid index) (all_hops entries) (λ k d within. alike_made nid index (get_or (all_hops entries) k d) (λ same. absurd (none (get_or (all_hops entries) k d) (Contains-get_or (all_hops entries) k d within) (sym same))))) leads)
    ]
    in
    let way = change_way_out inner (target (Out kind) codec (table_of [])) (target (Out kind) codec (table_of entries)) (is_end kind codec format [] pair) end (ends_beside kind codec format pair entries are.pairs) each some.hops pin some.converter (λ index n leads. allowed_beside kind codec entries pin index n bounded (λ inn. absurd (outer inn)) leads) alone in
    let route : Route = record { hops = way.0; converter = way.1 } in
    (route, open_path_from_way kind codec format (table_of entries) entries pair pin bounded (AreLefts-table entries) route way.2)
