-- Levels while the nodes of the next one get theirs, one after another.
use Rattle.std.proofs.Common.{◌≡◌, ◌≢◌, ◌<◌, ◌+◌, ◌==◌, ℕ, Bool, true, false, cond, List, length, set, Option, Some, refl, sym, ap, subst, ◌∙◌, inl, inr, arith}
use Rattle.std.proofs.lemmas.List.{get_or-set_same, get_or-set_other, length-set}
use Rattle.std.proofs.lemmas.Bool.{cases_eq, false≢true, eq-eqb, ne_eqb}
use Rattle.std.proofs.lemmas.List.Sums.{sum_by-set}
use Rattle.route_planner.specs.Search.{level_of, count_far}
use Rattle.route_planner.specs.Levels.{IsNext, IsNextLevel}

-- the levels after the nodes below one were looked at
pub record AreMarkedBelow (inner : ℕ → Bool) (next : ℕ → ℕ → Option ℕ) (old levels : List ℕ) (level nid : ℕ) (some : Bool) : Type 0 where
  pub whole : length levels ≡ 256
  pub kept : (other : ℕ) → level_of old other ≢ 65535 → level_of levels other ≡ level_of old other
  pub marked : (other : ℕ) → level_of old other ≡ 65535 → level_of levels other ≢ 65535
      → (level_of levels other ≡ level + 1) × (inner other ≡ true) × ((index : ℕ) × (to : ℕ) × (next other index ≡ Some to) × (level_of old to ≡ level))
  pub all : (other : ℕ) → other < nid → (index to : ℕ) → inner other ≡ true → next other index ≡ Some to → level_of old to ≡ level → level_of levels other ≢ 65535
  pub fewer : some ≡ true → count_far levels < count_far old
  pub same : some ≡ false → levels ≡ old

count_far-set : (levels : List ℕ) (nid level : ℕ) → nid < length levels → level_of levels nid ≡ 65535 → level ≢ 65535 → count_far (set levels nid level) < count_far levels
count_far-set levels nid level within far near =
    let same = sum_by-set (λ x. cond (x == 65535) 1 0) levels nid level 65535 within in
    let n1 : ℕ = 1 in let n0 : ℕ = 0 in
    let one : cond (level_of levels nid == 65535) n1 n0 ≡ n1 = ap (λ (b : Bool). cond b n1 n0) (eq-eqb (level_of levels nid) 65535 far) in
    let none : cond (level == 65535) n1 n0 ≡ n0 = ap (λ (b : Bool). cond b n1 n0) (ne_eqb level 65535 near) in
    omega (arith, same, one, none)

-- a node that has the level now had it before
was_at : (inner : ℕ → Bool) (next : ℕ → ℕ → Option ℕ) (old levels : List ℕ) (level nid : ℕ) (some : Bool) → AreMarkedBelow inner next old levels level nid some → level < 65534 → (to : ℕ) → level_of levels to ≡ level → level_of old to ≡ level
was_at inner next old levels level nid some before near to at =
    elim (cases_eq (level_of old to) 65535) [
      | inl far ↦ absurd (omega (arith, (before.marked to far (omega arith)).0))
      | inr set ↦ sym (before.kept to set) ∙ at
    ]

-- a node that has no level now had none before
was_far_at : (inner : ℕ → Bool) (next : ℕ → ℕ → Option ℕ) (old levels : List ℕ) (level nid : ℕ) (some : Bool) → AreMarkedBelow inner next old levels level nid some → level_of levels nid ≡ 65535 → level_of old nid ≡ 65535
was_far_at inner next old levels level nid some before far =
    elim (cases_eq (level_of old nid) 65535) [
      | inl h ↦ h
      | inr set ↦ sym (before.kept nid set) ∙ far
    ]

pub AreMarkedBelow-none : (inner : ℕ → Bool) (next : ℕ → ℕ → Option ℕ) (levels : List ℕ) (level : ℕ) → length levels ≡ 256 → AreMarkedBelow inner next levels levels level 0 false
AreMarkedBelow-none inner next levels level whole = record {
  whole = whole;
  kept = λ other h. refl;
  marked = λ other far near. absurd (near far);
  all = λ other h. absurd (omega arith);
  fewer = λ e. absurd (false≢true e);
  same = λ e. refl;
}

pub AreMarkedBelow-yes : (inner : ℕ → Bool) (next : ℕ → ℕ → Option ℕ) (old levels : List ℕ) (level nid : ℕ) (some : Bool) → AreMarkedBelow inner next old levels level nid some → level < 65534 → nid < 256 → IsNext inner next levels level nid → AreMarkedBelow inner next old (set levels nid (level + 1)) level (nid + 1) true
AreMarkedBelow-yes inner next old levels level nid some before near within is =
    let in_levels : nid < length levels = omega (arith, before.whole) in
    let here : level_of (set levels nid (level + 1)) nid ≡ level + 1 = get_or-set_same levels nid (level + 1) 65535 in_levels in
    let there : (other : ℕ) → other ≢ nid → level_of (set levels nid (level + 1)) other ≡ level_of levels other = λ other ne. get_or-set_other levels nid other (level + 1) 65535 ne in
    let less = count_far-set levels nid (level + 1) in_levels is.far (omega arith) in
    record {
      whole = length-set levels nid (level + 1) ∙ before.whole;
      kept = λ other h. elim (cases_eq other nid) [
        | inl same ↦ absurd (h (subst (λ (n : ℕ). level_of old n ≡ 65535) (sym same) (was_far_at inner next old levels level nid some before is.far)))
        | inr ne ↦ there other ne ∙ before.kept other h
      ];
      marked = λ other far h. elim (cases_eq other nid) [
        | inl same ↦ (rw same here, rw same is.is_inner, rw same (is.leads.0, is.leads.1, is.leads.2, was_at inner next old levels level nid some before near is.leads.1 is.leads.3))
        | inr ne ↦ let was = before.marked other far (λ q. h (there other ne ∙ q)) in (there other ne ∙ was.0, was.1, was.2)
      ];
      all = λ other h index to inn leads at far. elim (cases_eq other nid) [
        | inl same ↦ absurd (omega (arith, here, subst (λ (n : ℕ). level_of (set levels nid (level + 1)) n ≡ 65535) same far))
        | inr ne ↦ before.all other (omega arith) index to inn leads at (sym (there other ne) ∙ far)
      ];
      fewer = λ e. elim some as (λ b. (b ≡ true → count_far levels < count_far old) → (b ≡ false → levels ≡ old) → count_far (set levels nid (level + 1)) < count_far old) [
        | true ↦ λ f s. omega (arith, f refl)
        | false ↦ λ f s. omega (arith, ap count_far (s refl))
      ] before.fewer before.same;
      same = λ e. absurd (false≢true (sym e));
    }

pub AreMarkedBelow-no : (inner : ℕ → Bool) (next : ℕ → ℕ → Option ℕ) (old levels : List ℕ) (level nid : ℕ) (some : Bool) → AreMarkedBelow inner next old levels level nid some → level < 65534 → (IsNext inner next levels level nid → ⊥) → AreMarkedBelow inner next old levels level (nid + 1) some
AreMarkedBelow-no inner next old levels level nid some before near not = record {
  whole = before.whole;
  kept = before.kept;
  marked = before.marked;
  all = λ other h index to inn leads at far. elim (cases_eq other nid) [
    | inl same ↦ not record {
      far = subst (λ (n : ℕ). level_of levels n ≡ 65535) same far;
      is_inner = subst (λ (n : ℕ). inner n ≡ true) same inn;
      leads = (index, to, subst (λ (n : ℕ). next n index ≡ Some to) same leads, before.kept to (omega arith) ∙ at);
    }
    | inr ne ↦ before.all other (omega arith) index to inn leads at far
  ];
  fewer = before.fewer;
  same = before.same;
}

pub IsNextLevel-all : (inner : ℕ → Bool) (next : ℕ → ℕ → Option ℕ) (old levels : List ℕ) (level nid : ℕ) (some : Bool) → AreMarkedBelow inner next old levels level nid some → ((other : ℕ) → inner other ≡ true → other < nid) → IsNextLevel inner next old levels level
IsNextLevel-all inner next old levels level nid some before below = record {
  kept = before.kept;
  marked = before.marked;
  all = λ other index to inn. before.all other (below other inn) index to inn;
}
