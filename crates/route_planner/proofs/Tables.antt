-- A table of what some hops leave to each node.
use Rattle.std.proofs.Common.{◌≡◌, ◌≢◌, ◌==◌, ◌&&◌, ℕ, Bool, true, false, cond, List, [], ◌∷◌, ◌++◌, map, refl, sym, ap, ◌∙◌, inl, inr, arith}
use Rattle.std.specs.List.{list_all, range_with_len}
use Rattle.std.proofs.lemmas.Bool.{ne_eqb}
use Rattle.std.proofs.lemmas.Bool.Decides.{eqb_tells}
use Rattle.std.proofs.lemmas.List.FromFn.{get_or-map-range_with_len}
use Rattle.std.proofs.lemmas.List.Folds.{list_all-append}
use Rattle.route_planner.specs.declared.left.Left.{Left}
use Rattle.route_planner.specs.declared.left.Left.TheVariants.{Free, By, Never}
use Rattle.route_planner.specs.declared.routes.Hop.{Hop}
use Rattle.route_planner.specs.declared.routes.Outcome.{Outcome}
use Rattle.route_planner.specs.declared.routes.Outcome.TheVariants as outcome
use Rattle.route_planner.specs.declared.routes.PinPlan.{PinPlan}
use Rattle.route_planner.specs.Search.{allows, is_alike, outcome_alike, leaves_alike}
use Rattle.route_planner.proofs.Compatible.{AreLefts}

-- the hops of some entries
abbrev pub hops_of : Outcome → List Hop
hops_of (outcome.Route route) = route.hops
hops_of outcome.Blocked = []
hops_of outcome.NoPath = []

abbrev pub all_hops : List PinPlan → List Hop
all_hops [] = []
all_hops (entry ∷ entries) = hops_of entry.outcome ++ all_hops entries

outcome_alike-hops : (nid index : ℕ) (o : Outcome) → outcome_alike nid index o ≡ list_all (is_alike nid index) (hops_of o)
outcome_alike-hops nid index (outcome.Route route) = refl
outcome_alike-hops nid index outcome.Blocked = refl
outcome_alike-hops nid index outcome.NoPath = refl

pub all_alike : (nid index : ℕ) (entries : List PinPlan) → list_all (leaves_alike nid index) entries ≡ list_all (is_alike nid index) (all_hops entries)
all_alike nid index [] = refl
all_alike nid index (entry ∷ entries) =
    let first = outcome_alike-hops nid index entry.outcome in
    let rest = all_alike nid index entries in
    let whole = list_all-append (is_alike nid index) (hops_of entry.outcome) (all_hops entries) in
    rw (first, rest) (sym whole)

and_true : (b : Bool) → b ≡ (b && true)
and_true true = refl
and_true false = refl

and_assoc : (a b c : Bool) → ((a && b) && c) ≡ (a && (b && c))
and_assoc true b c = refl
and_assoc false b c = refl

twice : (b : Bool) → b ≡ (b && b)
twice true = refl
twice false = refl

never : (other kept index : ℕ) → kept ≢ index → false ≡ ((other == kept) && (other == index))
never other kept index ne =
    elim (eqb_tells other kept) [
      | inl same ↦ rw (same.0, ne_eqb other index (λ q. ne (sym same.1 ∙ q))) refl
      | inr off ↦ rw off.0 refl
    ]

abbrev left_with : Left → ℕ → Left
left_with Free index = By index
left_with (By kept) index = cond (kept == index) (By kept) Never
left_with Never index = Never

allows-left_with : (left : Left) (index other : ℕ) → allows (left_with left index) other ≡ (allows left other && (other == index))
allows-left_with Free index other = refl
allows-left_with (By kept) index other =
    elim (eqb_tells kept index) [
      | inl same ↦ rw (same.0, same.1) (twice (other == index))
      | inr ne ↦ rw ne.0 (never other kept index ne.1)
    ]
allows-left_with Never index other = refl

abbrev left_after : ℕ → Left → List Hop → Left
left_after nid left [] = left
left_after nid left (hop ∷ hops) = left_after nid (cond (hop.nid == nid) (left_with left hop.index) left) hops

allows-left_after : (nid index : ℕ) (left : Left) (hops : List Hop) → allows (left_after nid left hops) index ≡ (allows left index && list_all (is_alike nid index) hops)
allows-left_after nid index left [] = and_true (allows left index)
allows-left_after nid index left (hop ∷ hops) =
    elim (eqb_tells hop.nid nid) [
      | inl same ↦ rw same.0 (allows-left_after nid index (left_with left hop.index) hops ∙ (ap (λ (b : Bool). b && list_all (is_alike nid index) hops) (allows-left_with left hop.index index) ∙ and_assoc (allows left index) (index == hop.index) (list_all (is_alike nid index) hops)))
      | inr ne ↦ rw ne.0 (allows-left_after nid index left hops)
    ]

-- the table of some entries
abbrev pub table_of : List PinPlan → List Left
table_of entries = map (λ nid. left_after nid Free (all_hops entries)) (range_with_len 0 256)

pub AreLefts-table : (entries : List PinPlan) → AreLefts (table_of entries) entries
AreLefts-table entries = record {
  right = λ nid index within.
      ap (λ (left : Left). allows left index) (get_or-map-range_with_len (λ nid. left_after nid Free (all_hops entries)) 0 256 nid nid Free within (omega arith)) ∙ (allows-left_after nid index Free (all_hops entries) ∙ sym (all_alike nid index entries));
}
