-- What is told of a piece of memory by lies. Numbers stand in memory lowest byte first (High Definition Audio 1.0a,
-- 4.4); the lies are this project's own.
use Rattle.std.specs.Prelude.{ℕ, ◌+◌, ◌-◌, ◌^◌, ◌==◌, min, List, ◌++◌, length, take, drop, Option, Some, None}
use Rattle.std.specs.Int.{w32, to_le_bytes}
use Rattle.std.specs.List.{find}

-- a piece with these bytes in the place of its first ones, as many as it has
abbrev pub overwritten : (bytes piece : List ℕ) → List ℕ
overwritten bytes piece = take (length piece) bytes ++ drop (length bytes) piece

-- a piece as it is told by a lie, whose second part is the number that is told
abbrev pub told_by_lie : Option (ℕ × ℕ) → (piece : List ℕ) → List ℕ
told_by_lie None piece = piece
told_by_lie (Some lie) piece = overwritten (to_le_bytes w32 lie.1) piece

-- the piece with this number, as it is told by the first of the lies whose first part is this number
abbrev pub told_of_piece : List (ℕ × ℕ) → (number : ℕ) → (piece : List ℕ) → List ℕ
told_of_piece lies number piece = told_by_lie (find (λ lie. lie.0 == number) lies) piece

-- how many pieces were read after one more; what can be counted ends at 2^64 - 1
abbrev pub one_piece_more : ℕ → ℕ
one_piece_more reads = min (reads + 1) (2 ^ 64 - 1)
