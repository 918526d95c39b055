-- What a sink has taken.
use Rattle.std.specs.Prelude.{◌≡◌, ℕ, ◌≤◌, List, ◌++◌, take, length, Option, Some, None}

-- what a sink has taken once it takes these bytes too, where it tells
abbrev pub taken_with : Option (List ℕ) → List ℕ → Option (List ℕ)
taken_with None bytes = None
taken_with (Some before) bytes = Some (before ++ bytes)

-- of these bytes a sink took the first ones, maybe none or all of them
pub record TookFront (before now : Option (List ℕ)) (bytes : List ℕ) : Type 0 where
  pub count : ℕ
  pub within : count ≤ length bytes
  pub front : now ≡ taken_with before (take count bytes)
