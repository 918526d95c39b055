-- The least open path of a pin is one.
use Rattle.std.proofs.Common.{◌≡◌, ℕ, List, [], ◌∷◌, map, length, Option, Some, None, refl, sym, ap, subst, ◌∙◌, inl, inr, arith}
use Rattle.std.specs.Prelude.{MatchOption}
use Rattle.std.proofs.lemmas.Option.{same_Some}
use Rattle.std.proofs.lemmas.List.{length-map}
use Rattle.codec_graph.specs.declared.raw.RawCodec.{RawCodec}
use Rattle.stream_format.specs.declared.format.Format.{Format}
use Rattle.codec_graph.specs.declared.pin_kind.PinKind.{PinKind}
use Rattle.route_planner.specs.declared.routes.Hop.{Hop}
use Rattle.route_planner.specs.declared.routes.Route.{Route}
use Rattle.route_planner.specs.declared.routes.Outcome.TheVariants as outcome
use Rattle.route_planner.specs.declared.routes.PinPlan.{PinPlan}
use Rattle.route_planner.specs.Paths.{connection, LeadsTo, IsNoLater, IsNoLarger}
use Rattle.route_planner.specs.Plans.{IsOutcomeAs}

same_indexes : (xs ys : List ℕ) → length xs ≡ length ys → IsNoLater xs ys → IsNoLater ys xs → xs ≡ ys
same_indexes [] [] long one other = refl
same_indexes [] (y ∷ ys) long one other = absurd (omega arith)
same_indexes (x ∷ xs) [] long one other = absurd (omega arith)
same_indexes (x ∷ xs) (y ∷ ys) long one other =
    elim one [
      | inl less ↦ elim other [ inl more ↦ absurd (omega arith) | inr same ↦ absurd (omega arith) ]
      | inr same ↦ elim other [
        | inl more ↦ absurd (omega arith)
        | inr twin ↦ let rest = same_indexes xs ys (omega arith) same.1 twin.1 in cc
      ]
    ]

match_some : (o : Option ℕ) (Q : ℕ → Type 0) → MatchOption o ⊥ Q → (n : ℕ) × (o ≡ Some n) × Q n
match_some None Q h = absurd h
match_some (Some n) Q h = (n, refl, h)

abbrev places : List Hop → List ℕ
places hops = map (λ (hop : Hop). hop.index) hops

abbrev record_of : ℕ → ℕ → Hop
record_of nid index = record { nid = nid; index = index }

abbrev route_of : List Hop → ℕ → Route
route_of hops converter = record { hops = hops; converter = converter }

same_hop : (one other : Hop) → one.nid ≡ other.nid → one.index ≡ other.index → one ≡ other
same_hop one other nid index = let whole : record_of one.nid one.index ≡ record_of other.nid other.index = cc in whole

same_lists : (one other : Hop) (hops others : List Hop) → one.nid ≡ other.nid → one.index ≡ other.index → hops ≡ others → one ∷ hops ≡ other ∷ others
same_lists one other hops others nid index rest = let first = same_hop one other nid index in cc

same_parts : (one other : Route) → one.hops ≡ other.hops → one.converter ≡ other.converter → one ≡ other
same_parts one other hops converter = let whole : route_of one.hops one.converter ≡ route_of other.hops other.converter = cc in whole

-- hops from one node are determined by their indexes
same_hops : (codec : RawCodec) (hops others : List Hop) (from to end : ℕ) → places hops ≡ places others → LeadsTo codec from hops to → LeadsTo codec from others end → (hops ≡ others) × (to ≡ end)
same_hops codec [] [] from to end e one other = (refl, sym one ∙ other)
same_hops codec [] (twin ∷ others) from to end e one other = cc
same_hops codec (hop ∷ hops) [] from to end e one other = cc
same_hops codec (hop ∷ hops) (twin ∷ others) from to end e one other =
    let index : hop.index ≡ twin.index = cc in
    let rest : places hops ≡ places others = cc in
    let a = match_some (connection codec from hop.index) (λ next. LeadsTo codec next hops to) one.1 in
    let b = match_some (connection codec from twin.index) (λ next. LeadsTo codec next others end) other.1 in
    let there : b.0 ≡ a.0 = same_Some b.0 a.0 (sym b.1 ∙ (ap (connection codec from) (sym index) ∙ a.1)) in
    let same = same_hops codec hops others a.0 to end rest a.2 (subst (λ (n : ℕ). LeadsTo codec n others end) there b.2) in
    let nid : hop.nid ≡ twin.nid = one.0 ∙ sym other.0 in
    (same_lists hop twin hops others nid index same.0, same.1)

same_places : (one other : Route) → IsNoLarger one other → IsNoLarger other one → places one.hops ≡ places other.hops
same_places one other small large =
    elim small [
      | inl less ↦ elim large [ inl more ↦ absurd (omega arith) | inr same ↦ absurd (omega arith) ]
      | inr same ↦ elim large [
        | inl more ↦ absurd (omega arith)
        | inr twin ↦ same_indexes (places one.hops) (places other.hops) (omega (arith, length-map one.hops (λ (hop : Hop). hop.index), length-map other.hops (λ (hop : Hop). hop.index))) same.1 twin.1
      ]
    ]

-- two paths from one node of which neither is larger are one
pub same_paths : (codec : RawCodec) (from to : ℕ) (one other : Route) → one.converter ≡ other.converter → LeadsTo codec from one.hops to → LeadsTo codec from other.hops to → IsNoLarger one other → IsNoLarger other one → one ≡ other
same_paths codec from to one other converter leads_one leads_other small large =
    let same = same_hops codec one.hops other.hops from to to (same_places one other small large) leads_one leads_other in
    same_parts one other same.0 converter

-- two paths of a pin of which neither is larger are one
pub same_routes : (codec : RawCodec) (pin : ℕ) (one other : Route) → LeadsTo codec pin one.hops one.converter → LeadsTo codec pin other.hops other.converter → IsNoLarger one other → IsNoLarger other one → one ≡ other
same_routes codec pin one other leads_one leads_other small large =
    let same = same_hops codec one.hops other.hops pin one.converter other.converter (same_places one other small large) leads_one leads_other in
    same_parts one other same.0 same.1

pub least_is_one : (kind : PinKind) (codec : RawCodec) (format : Format) (earlier : List PinPlan) (pair pin : ℕ) (one other : Route) → IsOutcomeAs kind codec format earlier pair pin (outcome.Route one) → IsOutcomeAs kind codec format earlier pair pin (outcome.Route other) → one ≡ other
least_is_one kind codec format earlier pair pin one other is twin =
    same_routes codec pin one other is.0.0.path.leads twin.0.0.path.leads (is.1 other twin.0) (twin.1 one is.0)
