-- What a table of indexes allows after one more hop.
use Rattle.std.proofs.Common.{◌≡◌, ◌≢◌, ◌<◌, ◌+◌, ℕ, Bool, true, false, ◌&&◌, ◌||◌, ◌==◌, not, List, length, get_or, set, take, replicate, refl, sym, ◌∙◌, inl, inr}
use Rattle.std.specs.List.{list_all}
use Rattle.std.proofs.lemmas.List.{get_or-set_same, get_or-set_other, get_or-replicate}
use Rattle.std.proofs.lemmas.List.Folds.{list_all_more}
use Rattle.std.proofs.lemmas.Bool.Decides.{eqb_tells}
use Rattle.route_planner.specs.declared.left.Left.{Left}
use Rattle.route_planner.specs.declared.left.Left.TheVariants.{Free}
use Rattle.route_planner.specs.declared.routes.Hop.{Hop}
use Rattle.route_planner.specs.Search.{left_at, allows, is_alike}

and_true : (b : Bool) → b ≡ (b && true)
and_true true = refl
and_true false = refl

and_assoc : (a b c : Bool) → ((a && b) && c) ≡ (a && (b && c))
and_assoc true b c = refl
and_assoc false b c = refl

pub all_free : (n nid index : ℕ) → nid < n → allows (left_at (replicate n Free) nid) index ≡ true
all_free n nid index h = rw (get_or-replicate n nid Free Free) refl

-- the table after one hop
pub kept_one : (lefts : List Left) (at : ℕ) (left : Left) (kept : ℕ) → at < length lefts → ((other : ℕ) → allows left other ≡ (allows (left_at lefts at) other && (other == kept))) → (nid index : ℕ) → allows (left_at (set lefts at left) nid) index ≡ (allows (left_at lefts nid) index && (not (at == nid) || index == kept))
kept_one lefts at left kept within e nid index =
    elim (eqb_tells at nid) [
      | inl h ↦ rw (h.0, ← h.1, get_or-set_same lefts at left Free within) (e index)
      | inr h ↦ let other : nid ≢ at = λ q. h.1 (sym q) in rw (h.0, get_or-set_other lefts at nid left Free other) (and_true _)
    ]

-- and after one more hop of a list
pub kept_more : (start lefts : List Left) (hops : List Hop) (i : ℕ) (d : Hop) (at : ℕ) (left : Left) → i < length hops → at ≡ (get_or hops i d).nid → at < length lefts → ((other : ℕ) → allows left other ≡ (allows (left_at lefts at) other && (other == (get_or hops i d).index))) → ((nid index : ℕ) → nid < 256 → allows (left_at lefts nid) index ≡ (allows (left_at start nid) index && list_all (is_alike nid index) (take i hops))) → (nid index : ℕ) → nid < 256 → allows (left_at (set lefts at left) nid) index ≡ (allows (left_at start nid) index && list_all (is_alike nid index) (take (i + 1) hops))
kept_more start lefts hops i d at left in_hops is within e before nid index h =
    kept_one lefts at left (get_or hops i d).index within e nid index ∙ rw (before nid index h, list_all_more (is_alike nid index) hops i d in_hops, is) (and_assoc (allows (left_at start nid) index) (list_all (is_alike nid index) (take i hops)) (is_alike nid index (get_or hops i d)))
