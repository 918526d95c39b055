-- Shapes of one thing after another. This project's own.
use Rattle.std.specs.Prelude.{ℕ, zero, suc, ◌+◌, List, [], ◌∷◌, ◌++◌}

-- what each number below an end gives
abbrev pub each : {X : Type 0} → (ℕ → List X) → (end : ℕ) → List X
each of zero = []
each of (suc end) = each of end ++ of end

-- what each item gives with its number, from this one on
abbrev pub numbered : {A X : Type 0} → (ℕ → A → List X) → (number : ℕ) → List A → List X
numbered of number [] = []
numbered of number (item ∷ items) = of number item ++ numbered of (number + 1) items
