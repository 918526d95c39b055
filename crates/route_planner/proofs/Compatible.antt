-- The tables of the search say which routes are compatible with the earlier ones.
use Rattle.std.proofs.Common.{◌≡◌, ◌<◌, ◌==◌, ◌||◌, ℕ, true, false, not, List, get_or, Some, None, refl, sym, ◌∙◌, inl, inr, arith}
use Rattle.std.specs.Prelude.{Contains, is_some}
use Rattle.std.specs.List.{list_all}
use Rattle.std.proofs.lemmas.Bool.{cases_eq, eqb-true, eq-eqb, ne_eqb}
use Rattle.std.proofs.lemmas.List.Elements.{All-contains, Contains-get_or}
use Rattle.std.proofs.lemmas.List.Sums.{AllPass-from_list_all, list_all-from_AllPass}
use Rattle.codec_graph.specs.declared.raw.RawCodec.{RawCodec}
use Rattle.codec_graph.specs.Widget.{node_at, is_inner}
use Rattle.route_planner.specs.declared.direction.Direction.TheVariants.{Out}
use Rattle.codec_graph.specs.declared.pin_kind.PinKind.{PinKind}
use Rattle.route_planner.specs.declared.left.Left.{Left}
use Rattle.route_planner.specs.declared.routes.Hop.{Hop}
use Rattle.route_planner.specs.declared.routes.Route.{Route}
use Rattle.route_planner.specs.declared.routes.Outcome.{Outcome}
use Rattle.route_planner.specs.declared.routes.Outcome.TheVariants as outcome
use Rattle.route_planner.specs.declared.routes.PinPlan.{PinPlan}
use Rattle.stream_format.specs.declared.format.Format.{Format}
use Rattle.route_planner.specs.Paths.{passes, can_carry}
use Rattle.route_planner.specs.Plans.{LeavesOpen, IsOpenPathAs}
use Rattle.route_planner.specs.Search.{left_at, allows, is_alike, outcome_alike, leaves_alike, outcome_carries, carries_alike, target, is_inner_at, is_end, IsBounded}
use Rattle.route_planner.specs.Ways.{IsWayOut}
use Rattle.route_planner.proofs.Bridge.{allowed_from_way_out, way_out_from_allowed, is_end-parts, is_end-made, nodes_from_hops, hops_from_nodes, last_from_nodes}

pub alike_used : (nid index : ℕ) (twin : Hop) → is_alike nid index twin ≡ true → nid ≡ twin.nid → index ≡ twin.index
alike_used nid index twin e same =
    let there : (twin.nid == nid) ≡ true = eq-eqb twin.nid nid (sym same) in
    eqb-true index twin.index (elim (twin.nid == nid) as (λ b. (not b || index == twin.index) ≡ true → b ≡ true → (index == twin.index) ≡ true) [ true ↦ λ w q. w | false ↦ λ w q. cc ] e there)

pub alike_made : (nid index : ℕ) (twin : Hop) → (nid ≡ twin.nid → index ≡ twin.index) → is_alike nid index twin ≡ true
alike_made nid index twin h =
    elim (cases_eq nid twin.nid) [
      | inl same ↦ rw (eq-eqb twin.nid nid (sym same)) (eq-eqb index twin.index (h same))
      | inr ne ↦ rw (ne_eqb twin.nid nid (λ q. ne (sym q))) refl
    ]

pair_used : (pair other_pair converter nid : ℕ) → (not (converter == nid) || pair == other_pair) ≡ true → nid ≡ converter → pair ≡ other_pair
pair_used pair other_pair converter nid e same =
    let there : (converter == nid) ≡ true = eq-eqb converter nid (sym same) in
    eqb-true pair other_pair (elim (converter == nid) as (λ b. (not b || pair == other_pair) ≡ true → b ≡ true → (pair == other_pair) ≡ true) [ true ↦ λ w q. w | false ↦ λ w q. cc ] e there)

pub pair_made : (pair other_pair converter nid : ℕ) → (nid ≡ converter → pair ≡ other_pair) → (not (converter == nid) || pair == other_pair) ≡ true
pair_made pair other_pair converter nid h =
    elim (cases_eq nid converter) [
      | inl same ↦ rw (eq-eqb converter nid (sym same)) (eq-eqb pair other_pair (h same))
      | inr ne ↦ rw (ne_eqb converter nid (λ q. ne (sym q))) refl
    ]

-- an earlier entry leaves the route open where its own hops and its converter allow it
leaves_open : (codec : RawCodec) (route : Route) (pair other_pair : ℕ) (earlier : Outcome) → ((hop : Hop) → Contains route.hops hop → passes is_inner (node_at codec hop.nid) ≡ true → outcome_alike hop.nid hop.index earlier ≡ true) → outcome_carries pair route.converter other_pair earlier ≡ true → LeavesOpen codec route pair other_pair earlier
leaves_open codec route pair other_pair (outcome.Route other) alike carries = record {
  leave_alike = λ hop twin has others same inner.
      alike_used hop.nid hop.index twin (All-contains (λ twin. is_alike hop.nid hop.index twin ≡ true) other.hops twin (AllPass-from_list_all (is_alike hop.nid hop.index) other.hops (alike hop has inner)) others) same;
  same_pair = pair_used pair other_pair other.converter route.converter carries;
}
leaves_open codec route pair other_pair outcome.Blocked alike carries = tt
leaves_open codec route pair other_pair outcome.NoPath alike carries = tt

pub open_alike : (codec : RawCodec) (route : Route) (pair other_pair : ℕ) (earlier : Outcome) → LeavesOpen codec route pair other_pair earlier → (hop : Hop) → Contains route.hops hop → passes is_inner (node_at codec hop.nid) ≡ true → outcome_alike hop.nid hop.index earlier ≡ true
open_alike codec route pair other_pair (outcome.Route other) leaves hop has inner =
    list_all-from_AllPass (is_alike hop.nid hop.index) other.hops (λ k d within. alike_made hop.nid hop.index (get_or other.hops k d) (λ same. leaves.leave_alike hop (get_or other.hops k d) has (Contains-get_or other.hops k d within) same inner))
open_alike codec route pair other_pair outcome.Blocked leaves hop has inner = refl
open_alike codec route pair other_pair outcome.NoPath leaves hop has inner = refl

open_carries : (codec : RawCodec) (route : Route) (pair other_pair : ℕ) (earlier : Outcome) → LeavesOpen codec route pair other_pair earlier → outcome_carries pair route.converter other_pair earlier ≡ true
open_carries codec route pair other_pair (outcome.Route other) leaves = pair_made pair other_pair other.converter route.converter leaves.same_pair
open_carries codec route pair other_pair outcome.Blocked leaves = refl
open_carries codec route pair other_pair outcome.NoPath leaves = refl

-- the table of indexes says what the earlier routes keep
pub record AreLefts (lefts : List Left) (earlier : List PinPlan) : Type 0 where
  pub right : (nid index : ℕ) → nid < 256 → allows (left_at lefts nid) index ≡ list_all (leaves_alike nid index) earlier

pub inner_below : (codec : RawCodec) (nid : ℕ) → IsBounded codec → passes is_inner (node_at codec nid) ≡ true → nid < 256
inner_below codec nid bounded e =
    let there : is_some (node_at codec nid) ≡ true = elim (node_at codec nid) as (λ o. passes is_inner o ≡ true → is_some o ≡ true) [ Some node ↦ λ w. refl | None ↦ λ w. cc ] e in
    omega (arith, bounded.within nid there)

-- a way out of a pin is an open path
pub open_path_from_way : (kind : PinKind) (codec : RawCodec) (format : Format) (lefts : List Left) (earlier : List PinPlan) (pair pin : ℕ) → IsBounded codec → AreLefts lefts earlier → (route : Route) → IsWayOut (is_inner_at codec) (target (Out kind) codec lefts) (is_end kind codec format earlier pair) pin route.hops route.converter → IsOpenPathAs kind codec format earlier pair pin route
open_path_from_way kind codec format lefts earlier pair pin bounded are route way =
    let facts = allowed_from_way_out (Out kind) codec lefts (is_end kind codec format earlier pair) route.hops pin route.converter way in
    let ends = is_end-parts kind codec format earlier pair route.converter facts.3 in
    let alike : (hop : Hop) → Contains route.hops hop → passes is_inner (node_at codec hop.nid) ≡ true → list_all (leaves_alike hop.nid hop.index) earlier ≡ true = λ hop has inner.
    sym (are.right hop.nid hop.index (inner_below codec hop.nid bounded inner)) ∙ All-contains (λ (hop : Hop). passes is_inner (node_at codec hop.nid) ≡ true → allows (left_at lefts hop.nid) hop.index ≡ true) route.hops hop facts.0.kept has inner
    in (
      record {
        path = record { leaves_pin = facts.2; leads = facts.0.leads; passes_inner = facts.1; ends = ends.0.0 };
        carried = nodes_from_hops (λ nid. passes (can_carry kind) (node_at codec nid) ≡ true) route.hops route.converter facts.0.carried ends.0.1;
        left_well = facts.0.well;
        supported = ends.0.2;
      },
      λ k d within.
          let entry = get_or earlier k d in
          leaves_open codec route pair entry.pair entry.outcome (λ hop has inner. AllPass-from_list_all (leaves_alike hop.nid hop.index) earlier (alike hop has inner) k d within) (AllPass-from_list_all (carries_alike pair route.converter) earlier ends.1 k d within),
    )

-- and an open path is a way out
pub way_from_open_path : (kind : PinKind) (codec : RawCodec) (format : Format) (lefts : List Left) (earlier : List PinPlan) (pair pin : ℕ) → IsBounded codec → AreLefts lefts earlier → (route : Route) → IsOpenPathAs kind codec format earlier pair pin route → IsWayOut (is_inner_at codec) (target (Out kind) codec lefts) (is_end kind codec format earlier pair) pin route.hops route.converter
way_from_open_path kind codec format lefts earlier pair pin bounded are route path =
    let right = path.0 in
    let P : ℕ → Type 0 = λ nid. passes (can_carry kind) (node_at codec nid) ≡ true in
    let carries = list_all-from_AllPass (carries_alike pair route.converter) earlier (λ j e there. open_carries codec route pair (get_or earlier j e).pair (get_or earlier j e).outcome (path.1 j e there)) in
    way_out_from_allowed (Out kind) codec lefts (is_end kind codec format earlier pair) route.hops pin route.converter record {
      leads = right.path.leads;
      carried = hops_from_nodes P route.hops route.converter right.carried;
      well = right.left_well;
      kept = λ k d within inner.
          let hop = get_or route.hops k d in
          are.right hop.nid hop.index (inner_below codec hop.nid bounded inner) ∙ list_all-from_AllPass (leaves_alike hop.nid hop.index) earlier (λ j e there. open_alike codec route pair (get_or earlier j e).pair (get_or earlier j e).outcome (path.1 j e there) hop (Contains-get_or route.hops k d within) inner);
    } right.path.passes_inner right.path.leaves_pin (is_end-made kind codec format earlier pair route.converter (right.path.ends, last_from_nodes P route.hops route.converter right.carried, right.supported) carries)
