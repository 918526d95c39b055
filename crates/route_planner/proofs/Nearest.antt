-- Levels that are right up to one, from the ends on.
use Rattle.std.proofs.Common.{◌≡◌, ◌<◌, ◌≤◌, ◌+◌, ◌==◌, ℕ, Bool, true, false, List, [], ◌∷◌, length, Option, Some, None, sym, subst, ◌∙◌, inl, inr, arith}
use Rattle.std.specs.Prelude.{is_some, MatchOption}
use Rattle.std.proofs.lemmas.Bool.{cases_eq, cases_lt}
use Rattle.std.proofs.lemmas.List.Sums.{count_by-le-length}
use Rattle.route_planner.specs.declared.routes.Hop.{Hop}
use Rattle.route_planner.specs.Search.{level_of, count_far}
use Rattle.route_planner.specs.Levels.{AreEndLevels, IsNextLevel, LeadsNowhere}
use Rattle.route_planner.specs.Ways.{IsWay, LeadsToNoEnd, AreLevels}

pub count_far-le : (levels : List ℕ) → length levels ≡ 256 → count_far levels ≤ 256
count_far-le levels whole = omega (arith, count_by-le-length (λ level. level == 65535) levels)

-- the levels are right up to one, and no connection of the node leads nearer
pub record IsAway (inner : ℕ → Bool) (next : ℕ → ℕ → Option ℕ) (end : ℕ → Bool) (levels : List ℕ) (from level : ℕ) : Type 0 where
  pub right : AreLevels inner next end levels level
  pub least : (index to : ℕ) → next from index ≡ Some to → level ≤ level_of levels to

pub IsAway-ends : (inner : ℕ → Bool) (next : ℕ → ℕ → Option ℕ) (end : ℕ → Bool) (levels : List ℕ) (from : ℕ) → length levels ≡ 256 → AreEndLevels end levels → IsAway inner next end levels from 0
IsAway-ends inner next end levels from whole ends = record {
  right = record {
    whole = whole;
    at_ends = ends.at_ends;
    are_ends = λ nid at. (ends.elsewhere nid (omega arith)).1;
    below = λ nid at. omega (arith, (ends.elsewhere nid at).0);
    behind = λ nid before small at. absurd (omega (arith, (ends.elsewhere nid (omega arith)).0));
    near = λ nid index to inn leads small. absurd (omega arith);
  };
  least = λ index to leads. omega arith;
}

pub AreLevels-next : (inner : ℕ → Bool) (next : ℕ → ℕ → Option ℕ) (end : ℕ → Bool) (old new : List ℕ) (level : ℕ) → level < 65534 → length new ≡ 256 → AreLevels inner next end old level → IsNextLevel inner next old new level → AreLevels inner next end new (level + 1)
AreLevels-next inner next end old new level small whole right step = record {
  whole = whole;
  at_ends = λ nid e. let was = right.at_ends nid e in step.kept nid (omega arith) ∙ was;
  are_ends = λ nid at. elim (cases_eq (level_of old nid) 65535) [
    | inl far ↦ absurd (omega (arith, (step.marked nid far (omega arith)).0))
    | inr set ↦ right.are_ends nid (sym (step.kept nid set) ∙ at)
  ];
  below = λ nid at. elim (cases_eq (level_of old nid) 65535) [
    | inl far ↦ omega (arith, (step.marked nid far at).0)
    | inr set ↦ omega (arith, step.kept nid set, right.below nid set)
  ];
  behind = λ nid before less at. elim (cases_eq (level_of old nid) 65535) [
    | inl far ↦
        let here = step.marked nid far (omega arith) in
        let same : level ≡ before = omega (arith, here.0) in
        (here.1, (here.2.0, here.2.1, here.2.2, step.kept here.2.1 (omega (arith, here.2.3)) ∙ (here.2.3 ∙ same)))
    | inr set ↦
        let was = right.behind nid before less (sym (step.kept nid set) ∙ at) in
        (was.0, (was.1.0, was.1.1, was.1.2, step.kept was.1.1 (omega (arith, was.1.3)) ∙ was.1.3))
  ];
  near = λ nid index to inn leads less. elim (cases_eq (level_of old to) 65535) [
    | inl far ↦ absurd (omega (arith, (step.marked to far (omega arith)).0))
    | inr set ↦
        let same = step.kept to set in
        elim (cases_lt (level_of old to) level) [
          | inl lower ↦
              let was = right.near nid index to inn leads lower in
              omega (arith, was, same, step.kept nid (omega arith))
          | inr upper ↦
              let at : level_of old to ≡ level = omega arith in
              let there = step.all nid index to inn leads at in
              elim (cases_eq (level_of old nid) 65535) [
                | inl far ↦ omega (arith, (step.marked nid far there).0)
                | inr near ↦ omega (arith, step.kept nid near, right.below nid near)
              ]
        ]
  ];
}

pub IsAway-next : (inner : ℕ → Bool) (next : ℕ → ℕ → Option ℕ) (end : ℕ → Bool) (old new : List ℕ) (from level : ℕ) → level < 65534 → length new ≡ 256 → IsAway inner next end old from level → LeadsNowhere (next from) old level → IsNextLevel inner next old new level → IsAway inner next end new from (level + 1)
IsAway-next inner next end old new from level small whole away nowhere step = record {
  right = AreLevels-next inner next end old new level small whole away.right step;
  least = λ index to leads.
      let above = away.least index to leads in
      let other = nowhere index to leads in
      elim (cases_eq (level_of old to) 65535) [
        | inl far ↦ elim (cases_eq (level_of new to) 65535) [ inl still ↦ omega arith | inr set ↦ omega (arith, (step.marked to far set).0) ]
        | inr set ↦ omega (arith, step.kept to set)
      ];
}

-- where no node gets the next level, each way begins at a node that has one
way_is_near : (inner : ℕ → Bool) (next : ℕ → ℕ → Option ℕ) (end : ℕ → Bool) (levels : List ℕ) (level : ℕ) → level < 65534 → AreLevels inner next end levels level → IsNextLevel inner next levels levels level → (hops : List Hop) (from to : ℕ) → IsWay inner next end from hops to → level_of levels from ≤ level
way_is_near inner next end levels level small right step [] from to way =
    omega (arith, right.at_ends from (subst (λ (n : ℕ). end n ≡ true) (sym way.0) way.1))
way_is_near inner next end levels level small right step (hop ∷ hops) from to way =
    let rest = way_is_near inner next end levels level small right step hops way.1.1.0 to way.1.1.2 in
    elim (cases_lt (level_of levels way.1.1.0) level) [
      | inl lower ↦ omega (arith, right.near from hop.index way.1.1.0 way.0 way.1.1.1 lower)
      | inr upper ↦ right.below from (step.all from hop.index way.1.1.0 way.0 way.1.1.1 (omega arith))
    ]

pub leads_to_no_end : (inner : ℕ → Bool) (next : ℕ → ℕ → Option ℕ) (end : ℕ → Bool) (levels : List ℕ) (from level : ℕ) → level < 65534 → IsAway inner next end levels from level → LeadsNowhere (next from) levels level → IsNextLevel inner next levels levels level → LeadsToNoEnd inner next end from
leads_to_no_end inner next end levels from level small away nowhere step [] to way = way
leads_to_no_end inner next end levels from level small away nowhere step (hop ∷ hops) to way =
    let near = way_is_near inner next end levels level small away.right step hops way.1.0 to way.1.2 in
    let above = away.least hop.index way.1.0 way.1.1 in
    nowhere hop.index way.1.0 way.1.1 (omega arith)

pub none_from_test : {X : Type 0} (o : Option X) (P : Type 0) (Q : X → Type 0) → is_some o ≡ false → MatchOption o P Q → P
none_from_test None P Q e h = h
none_from_test (Some x) P Q e h = cc

pub some_from_test : {X : Type 0} (o : Option X) (P : Type 0) (Q : X → Type 0) → is_some o ≡ true → MatchOption o P Q → (x : X) × Q x
some_from_test None P Q e h = cc
some_from_test (Some x) P Q e h = (x, h)
