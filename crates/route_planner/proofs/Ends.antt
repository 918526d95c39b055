-- Levels while the ends get theirs, one node after another, and where there is one end.
use Rattle.std.proofs.Common.{◌≡◌, ◌≢◌, ◌<◌, ◌==◌, ◌+◌, ℕ, Bool, true, false, List, length, set, replicate, refl, sym, subst, ◌∙◌, inl, inr, arith}
use Rattle.std.proofs.lemmas.List.{get_or-set_same, get_or-set_other, get_or-replicate, get_or_past, length-replicate, length-set}
use Rattle.std.proofs.lemmas.Bool.{cases_eq, cases_lt, eqb-true, eq-eqb, false≢true}
use Rattle.route_planner.specs.Search.{level_of}
use Rattle.route_planner.specs.Levels.{AreEndLevels}

-- the ends below a node have level 0, and no other node has a level
pub record AreEndsBelow (end : ℕ → Bool) (levels : List ℕ) (nid : ℕ) : Type 0 where
  pub whole : length levels ≡ 256
  pub at_ends : (other : ℕ) → other < nid → end other ≡ true → level_of levels other ≡ 0
  pub elsewhere : (other : ℕ) → level_of levels other ≢ 65535 → (level_of levels other ≡ 0) × (end other ≡ true)

pub all_far : (n nid : ℕ) → level_of (replicate n 65535) nid ≡ 65535
all_far n nid =
    elim (cases_lt nid n) [
      | inl h ↦ get_or-replicate n nid 65535 65535 h
      | inr h ↦ get_or_past (replicate n 65535) nid 65535 (omega (arith, length-replicate {A = ℕ} n 65535))
    ]

pub AreEndsBelow-none : (end : ℕ → Bool) → AreEndsBelow end (replicate 256 65535) 0
AreEndsBelow-none end = record {
  whole = length-replicate {A = ℕ} 256 65535;
  at_ends = λ other h e. absurd (omega arith);
  elsewhere = λ other h. absurd (h (all_far 256 other));
}

pub AreEndsBelow-yes : (end : ℕ → Bool) (levels : List ℕ) (nid : ℕ) → AreEndsBelow end levels nid → nid < 256 → end nid ≡ true → AreEndsBelow end (set levels nid 0) (nid + 1)
AreEndsBelow-yes end levels nid before within is = record {
  whole = length-set levels nid 0 ∙ before.whole;
  at_ends = λ other h e. elim (cases_eq other nid) [
    | inl same ↦ rw (same, get_or-set_same levels nid 0 65535 (omega (arith, before.whole))) refl
    | inr ne ↦ rw (get_or-set_other levels nid other 0 65535 ne) (before.at_ends other (omega arith) e)
  ];
  elsewhere = λ other h. elim (cases_eq other nid) [
    | inl same ↦ (rw (same, get_or-set_same levels nid 0 65535 (omega (arith, before.whole))) refl, rw same is)
    | inr ne ↦ let kept = get_or-set_other levels nid other 0 65535 ne in
        let was = before.elsewhere other (λ q. h (kept ∙ q)) in
        (kept ∙ was.0, was.1)
  ];
}

pub AreEndsBelow-no : (end : ℕ → Bool) (levels : List ℕ) (nid : ℕ) → AreEndsBelow end levels nid → end nid ≡ false → AreEndsBelow end levels (nid + 1)
AreEndsBelow-no end levels nid before is = record {
  whole = before.whole;
  at_ends = λ other h e. elim (cases_eq other nid) [
    | inl same ↦ absurd (false≢true (sym is ∙ subst (λ (n : ℕ). end n ≡ true) same e))
    | inr ne ↦ before.at_ends other (omega arith) e
  ];
  elsewhere = before.elsewhere;
}

pub AreEndLevels-all : (end : ℕ → Bool) (levels : List ℕ) (nid : ℕ) → AreEndsBelow end levels nid → ((other : ℕ) → end other ≡ true → other < nid) → AreEndLevels end levels
AreEndLevels-all end levels nid before below = record {
  at_ends = λ other e. before.at_ends other (below other e) e;
  elsewhere = before.elsewhere;
}

-- one node alone has a level
pub AreEndLevels-one : (n pin : ℕ) → pin < n → AreEndLevels (λ nid. nid == pin) (set (replicate n 65535) pin 0)
AreEndLevels-one n pin within =
    let here : level_of (set (replicate n 65535) pin 0) pin ≡ 0 = get_or-set_same (replicate n 65535) pin 0 65535 (omega (arith, length-replicate {A = ℕ} n 65535)) in
    record {
      at_ends = λ nid e. rw (eqb-true nid pin e) here;
      elsewhere = λ nid h. elim (cases_eq nid pin) [
        | inl same ↦ (rw same here, eq-eqb nid pin same)
        | inr ne ↦ absurd (h (get_or-set_other (replicate n 65535) pin nid 0 65535 ne ∙ all_far n nid))
      ];
    }
