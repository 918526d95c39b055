-- Levels of nodes: how many hops lead from each to an end, over any connections. This project's own.
use Rattle.std.specs.Prelude.{◌≡◌, ◌≢◌, ◌<◌, ◌+◌, ℕ, Bool, true, List, Option, Some}
use Rattle.route_planner.specs.declared.levels.Step.{Step}
use Rattle.route_planner.specs.Search.{level_of}

-- the ends have level 0, and no other node has a level
pub record AreEndLevels (end : ℕ → Bool) (levels : List ℕ) : Type 0 where
  pub at_ends : (nid : ℕ) → end nid ≡ true → level_of levels nid ≡ 0
  pub elsewhere : (nid : ℕ) → level_of levels nid ≢ 65535 → (level_of levels nid ≡ 0) × (end nid ≡ true)

-- no connection leads to a node of the level
abbrev pub LeadsNowhere : (ℕ → Option ℕ) → List ℕ → ℕ → Type 0
LeadsNowhere next levels level = (index to : ℕ) → next index ≡ Some to → level_of levels to ≢ level

-- a step to a node of the level, and by the least index
pub record IsFirstStep (next : ℕ → Option ℕ) (levels : List ℕ) (level : ℕ) (step : Step) : Type 0 where
  pub leads : next step.index ≡ Some step.to
  pub arrives : level_of levels step.to ≡ level
  pub first : (index : ℕ) → index < step.index → (to : ℕ) → next index ≡ Some to → level_of levels to ≢ level

-- a mixer or selector that has no level and leads to a node of this one
pub record IsNext (inner : ℕ → Bool) (next : ℕ → ℕ → Option ℕ) (levels : List ℕ) (level nid : ℕ) : Type 0 where
  pub far : level_of levels nid ≡ 65535
  pub is_inner : inner nid ≡ true
  pub leads : (index to : ℕ) × (next nid index ≡ Some to) × (level_of levels to ≡ level)

-- the levels after each mixer or selector that has none and leads to the level got the next one
pub record IsNextLevel (inner : ℕ → Bool) (next : ℕ → ℕ → Option ℕ) (old new : List ℕ) (level : ℕ) : Type 0 where
  pub kept : (nid : ℕ) → level_of old nid ≢ 65535 → level_of new nid ≡ level_of old nid
  pub marked : (nid : ℕ) → level_of old nid ≡ 65535 → level_of new nid ≢ 65535
      → (level_of new nid ≡ level + 1) × (inner nid ≡ true)
      × ((index to : ℕ) × (next nid index ≡ Some to) × (level_of old to ≡ level))
  pub all : (nid index to : ℕ) → inner nid ≡ true → next nid index ≡ Some to → level_of old to ≡ level
      → level_of new nid ≢ 65535
