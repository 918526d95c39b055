-- Ways along any connections to an end, and which of them is the least. This project's own.
use Rattle.std.specs.Prelude.{◌≡◌, ◌<◌, ◌≤◌, ◌+◌, ◌⊎◌, ◌≢◌, ◌==◌, ℕ, Bool, true, List, [], ◌∷◌, map, length, Option}
use Rattle.std.specs.Prelude.{Some}
use Rattle.route_planner.specs.declared.routes.Hop.{Hop}
use Rattle.route_planner.specs.declared.walk.Way.{Way}
use Rattle.route_planner.specs.Search.{level_of}
use Rattle.route_planner.specs.Paths.{IsNoLater}

-- the hop leaves the node for one from which the rest goes on
abbrev pub Leaves : (ℕ → ℕ → Option ℕ) → ℕ → Hop → (ℕ → Type 0) → Type 0
Leaves next from hop Rest = (hop.nid ≡ from) × ((to : ℕ) × (next from hop.index ≡ Some to) × Rest to)

-- the hops lead from the node, each along a connection of a mixer or selector, to an end
abbrev pub IsWay : (ℕ → Bool) → (ℕ → ℕ → Option ℕ) → (ℕ → Bool) → ℕ → List Hop → ℕ → Type 0
IsWay inner next end from [] to = (from ≡ to) × (end to ≡ true)
IsWay inner next end from (hop ∷ hops) to = (inner from ≡ true)
    × Leaves next from hop (λ n. IsWay inner next end n hops to)

-- the same from any node, and by one hop at least
abbrev pub IsWayOut : (ℕ → Bool) → (ℕ → ℕ → Option ℕ) → (ℕ → Bool) → ℕ → List Hop → ℕ → Type 0
IsWayOut inner next end from [] to = ⊥
IsWayOut inner next end from (hop ∷ hops) to = Leaves next from hop (λ n. IsWay inner next end n hops to)

-- no way leads from the node to an end
abbrev pub LeadsToNoEnd : (ℕ → Bool) → (ℕ → ℕ → Option ℕ) → (ℕ → Bool) → ℕ → Type 0
LeadsToNoEnd inner next end from = (hops : List Hop) (to : ℕ) → IsWayOut inner next end from hops to → ⊥

-- hops are no larger than others: by their number, and then by the indexes compared in order
abbrev pub AreNoLarger : List Hop → List Hop → Type 0
AreNoLarger hops others =
    (length hops < length others) ⊎ ((length hops ≡ length others)
    × IsNoLater (map (λ (hop : Hop). hop.index) hops) (map (λ (hop : Hop). hop.index) others))

-- the levels are right up to one: each node at most as far from an end as it says has its distance
pub record AreLevels (inner : ℕ → Bool) (next : ℕ → ℕ → Option ℕ) (end : ℕ → Bool) (levels : List ℕ) (level : ℕ)
    : Type 0 where
  pub whole : length levels ≡ 256
  pub at_ends : (nid : ℕ) → end nid ≡ true → level_of levels nid ≡ 0
  pub are_ends : (nid : ℕ) → level_of levels nid ≡ 0 → end nid ≡ true
  pub below : (nid : ℕ) → level_of levels nid ≢ 65535 → level_of levels nid ≤ level
  pub behind : (nid before : ℕ) → before < 65534 → level_of levels nid ≡ before + 1
      → (inner nid ≡ true) × ((index : ℕ) × (to : ℕ) × (next nid index ≡ Some to) × (level_of levels to ≡ before))
  pub near : (nid index to : ℕ) → inner nid ≡ true → next nid index ≡ Some to → level_of levels to < level
      → level_of levels nid ≤ level_of levels to + 1

-- the levels are right up to one, and that is the least to which a connection of the node leads
pub record IsNearest (inner : ℕ → Bool) (next : ℕ → ℕ → Option ℕ) (end : ℕ → Bool) (levels : List ℕ) (from level : ℕ)
    : Type 0 where
  pub right : AreLevels inner next end levels level
  pub below : level < 65534
  pub leads : (index : ℕ) × (to : ℕ) × (next from index ≡ Some to) × (level_of levels to ≡ level)
  pub least : (index to : ℕ) → next from index ≡ Some to → level ≤ level_of levels to

-- the nodes of level 0
abbrev pub has_level_0 : List ℕ → ℕ → Bool
has_level_0 levels nid = level_of levels nid == 0

-- the least way from a node to an end
pub record IsLeastWay (inner : ℕ → Bool) (next : ℕ → ℕ → Option ℕ) (end : ℕ → Bool) (from : ℕ) (way : Way) : Type 0
  where
    pub leads : IsWayOut inner next end from way.hops way.end
    pub least : (others : List Hop) (to : ℕ) → IsWayOut inner next end from others to → AreNoLarger way.hops others
