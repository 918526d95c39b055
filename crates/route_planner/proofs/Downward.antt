-- The way down the levels, and why it is the least.
use Rattle.std.proofs.Common.{◌≡◌, ◌≢◌, ◌<◌, ◌≤◌, ◌+◌, ◌-◌, ℕ, Bool, true, List, [], ◌∷◌, ◌++◌, map, length, Option, Some, refl, sym, ap, subst, ◌∙◌, inl, inr, append_assoc, arith}
use Rattle.std.proofs.lemmas.Bool.{cases_lt, cases_order}
use Rattle.std.proofs.lemmas.Option.{same_Some}
use Rattle.route_planner.specs.declared.routes.Hop.{Hop}
use Rattle.route_planner.specs.declared.levels.Step.{Step}
use Rattle.route_planner.specs.Search.{level_of}
use Rattle.route_planner.specs.Levels.{IsFirstStep}
use Rattle.route_planner.specs.Paths.{IsNoLater}
use Rattle.route_planner.specs.Ways.{IsWay, IsWayOut, AreNoLarger, AreLevels, IsNearest, IsLeastWay}

abbrev places : List Hop → List ℕ
places hops = map (λ (hop : Hop). hop.index) hops

-- a short way from a node shows how near it is
way_level : (inner : ℕ → Bool) (next : ℕ → ℕ → Option ℕ) (end : ℕ → Bool) (levels : List ℕ) (top : ℕ) → AreLevels inner next end levels top → (hops : List Hop) (from to : ℕ) → length hops ≤ top → IsWay inner next end from hops to → level_of levels from ≤ length hops
way_level inner next end levels top right [] from to short way =
    omega (arith, right.at_ends from (subst (λ (n : ℕ). end n ≡ true) (sym way.0) way.1))
way_level inner next end levels top right (hop ∷ hops) from to short way =
    let rest = way_level inner next end levels top right hops way.1.1.0 to (omega arith) way.1.1.2 in
    omega (arith, rest, right.near from hop.index way.1.1.0 way.0 way.1.1.1 (omega arith))

-- the state of the walk: the hops so far lead from the pin to a node, and are the least that do
pub record IsOnTheWay (inner : ℕ → Bool) (next : ℕ → ℕ → Option ℕ) (end : ℕ → Bool) (levels : List ℕ) (top pin : ℕ) (hops : List Hop) (from level : ℕ) : Type 0 where
  pub low : level ≤ top
  pub leads : (index : ℕ) × (to : ℕ) × (next from index ≡ Some to) × (level_of levels to ≡ level)
  pub nearest : (index to : ℕ) → next from index ≡ Some to → level ≤ level_of levels to
  pub joins : (rest : List Hop) (to : ℕ) → IsWayOut inner next end from rest to → IsWayOut inner next end pin (hops ++ rest) to
  pub keeps : (rest : List Hop) → length rest ≡ level + 1
      → ((others : List Hop) (to : ℕ) → IsWayOut inner next end from others to → length others ≡ level + 1 → IsNoLater (places rest) (places others))
      → (others : List Hop) (to : ℕ) → IsWayOut inner next end pin others to → AreNoLarger (hops ++ rest) others

-- each way from a node is at least as long as its nearest connection says
way_out_length : (inner : ℕ → Bool) (next : ℕ → ℕ → Option ℕ) (end : ℕ → Bool) (levels : List ℕ) (from level : ℕ) → IsNearest inner next end levels from level → (others : List Hop) (to : ℕ) → IsWayOut inner next end from others to → level + 1 ≤ length others
way_out_length inner next end levels from level nearest [] to way = absurd way
way_out_length inner next end levels from level nearest (hop ∷ hops) to way =
    let above = nearest.least hop.index way.1.0 way.1.1 in
    elim (cases_lt level (length hops)) [
      | inl longer ↦ omega arith
      | inr short ↦ omega (arith, above, way_level inner next end levels level nearest.right hops way.1.0 to short way.1.2)
    ]

pub IsOnTheWay-start : (inner : ℕ → Bool) (next : ℕ → ℕ → Option ℕ) (end : ℕ → Bool) (levels : List ℕ) (pin level : ℕ) → IsNearest inner next end levels pin level → IsOnTheWay inner next end levels level pin [] pin level
IsOnTheWay-start inner next end levels pin level nearest = record {
  low = omega arith;
  leads = nearest.leads;
  nearest = nearest.least;
  joins = λ rest to way. way;
  keeps = λ rest long least others to way.
      let most = way_out_length inner next end levels pin level nearest others to way in
      elim (cases_lt (level + 1) (length others)) [
        | inl longer ↦ inl (omega arith)
        | inr short ↦ let same : length others ≡ level + 1 = omega arith in inr (omega arith, least others to way same)
      ];
}

-- the first step and the least rest are the least
least_step : (inner : ℕ → Bool) (next : ℕ → ℕ → Option ℕ) (end : ℕ → Bool) (levels : List ℕ) (top from level : ℕ) (step : Step) → AreLevels inner next end levels top → level ≤ top → IsFirstStep (next from) levels level step → ((index to : ℕ) → next from index ≡ Some to → level ≤ level_of levels to) → (rest : List Hop) → ((others : List Hop) (to : ℕ) → IsWay inner next end step.to others to → length others ≡ level → IsNoLater (places rest) (places others)) → (others : List Hop) (to : ℕ) → IsWayOut inner next end from others to → length others ≡ level + 1 → IsNoLater (step.index ∷ places rest) (places others)
least_step inner next end levels top from level step right low first nearest rest least [] to way long = absurd way
least_step inner next end levels top from level step right low first nearest rest least (hop ∷ others) to way long =
    let above = nearest hop.index way.1.0 way.1.1 in
    let below = way_level inner next end levels top right others way.1.0 to (omega arith) way.1.2 in
    let at : level_of levels way.1.0 ≡ level = omega arith in
    elim (cases_order step.index hop.index) [
      | inl same ↦
          let there : way.1.0 ≡ step.to = same_Some _ _ (sym way.1.1 ∙ (ap (next from) (sym same) ∙ first.leads)) in
          inr (same, least others to (subst (λ (n : ℕ). IsWay inner next end n others to) there way.1.2) (omega arith))
      | inr other ↦ elim other [
        | inl less ↦ inl less
        | inr more ↦ absurd (first.first hop.index more way.1.0 way.1.1 at)
      ]
    ]

-- a way out of a mixer or selector is a way, and a way of some hops is a way out
way_in : (inner : ℕ → Bool) (next : ℕ → ℕ → Option ℕ) (end : ℕ → Bool) (from : ℕ) (hops : List Hop) (to : ℕ) → inner from ≡ true → IsWayOut inner next end from hops to → IsWay inner next end from hops to
way_in inner next end from [] to is way = absurd way
way_in inner next end from (hop ∷ hops) to is way = (is, way)

way_out : (inner : ℕ → Bool) (next : ℕ → ℕ → Option ℕ) (end : ℕ → Bool) (from : ℕ) (hops : List Hop) (to : ℕ) → IsWay inner next end from hops to → 0 < length hops → IsWayOut inner next end from hops to
way_out inner next end from [] to way some = absurd (omega arith)
way_out inner next end from (hop ∷ hops) to way some = way.1

pub IsOnTheWay-step : (inner : ℕ → Bool) (next : ℕ → ℕ → Option ℕ) (end : ℕ → Bool) (levels : List ℕ) (top pin : ℕ) (hops : List Hop) (from level : ℕ) (step : Step) → top < 65534 → AreLevels inner next end levels top → IsOnTheWay inner next end levels top pin hops from level → IsFirstStep (next from) levels level step → level ≢ 0 → IsOnTheWay inner next end levels top pin (hops ++ record { nid = from; index = step.index } ∷ []) step.to (level - 1)
IsOnTheWay-step inner next end levels top pin hops from level step small right on first some =
    let hop : Hop = record { nid = from; index = step.index } in
    let lower : level - 1 + 1 ≡ level = omega arith in
    let behind = right.behind step.to (level - 1) (omega (arith, on.low)) (first.arrives ∙ sym lower) in
    let long : (rest : List Hop) → hops ++ (hop ∷ rest) ≡ (hops ++ hop ∷ []) ++ rest = λ rest. sym (append_assoc hops (hop ∷ []) rest) in
    record {
      low = omega (arith, on.low);
      leads = behind.1;
      nearest = λ index to leads. elim (cases_lt (level_of levels to) level) [
        | inl less ↦ omega (arith, right.near step.to index to behind.0 leads (omega (arith, on.low)), first.arrives)
        | inr more ↦ omega arith
      ];
      joins = λ rest to way.
          let P : List Hop → Type 0 = λ all. IsWayOut inner next end pin all to in
          subst P (long rest) (on.joins (hop ∷ rest) to (refl, (step.to, first.leads, way_in inner next end step.to rest to behind.0 way)));
      keeps = λ rest many least others to way.
          let P : List Hop → Type 0 = λ all. AreNoLarger all others in
          subst P (long rest) (on.keeps (hop ∷ rest) (omega arith) (least_step inner next end levels top from level step right on.low first on.nearest rest (λ some end' w e. least some end' (way_out inner next end step.to some end' w (omega arith)) (omega arith))) others to way);
    }

-- at level 0 the walk ends
pub IsLeastWay-end : (inner : ℕ → Bool) (next : ℕ → ℕ → Option ℕ) (end : ℕ → Bool) (levels : List ℕ) (top pin : ℕ) (hops : List Hop) (from level : ℕ) (step : Step) → AreLevels inner next end levels top → IsOnTheWay inner next end levels top pin hops from level → IsFirstStep (next from) levels level step → level ≡ 0 → IsLeastWay inner next end pin record { hops = hops ++ record { nid = from; index = step.index } ∷ []; end = step.to }
IsLeastWay-end inner next end levels top pin hops from level step right on first none =
    let hop : Hop = record { nid = from; index = step.index } in
    record {
      leads = on.joins (hop ∷ []) step.to (refl, (step.to, first.leads, (refl, right.are_ends step.to (first.arrives ∙ none))));
      least = on.keeps (hop ∷ []) (omega arith) (least_step inner next end levels top from level step right on.low first on.nearest [] (λ some end' w e. tt));
    }
