-- Counts of bytes and of faults, which are at most 2 ^ 64 - 1.
use Rattle.std.specs.Prelude.{ℕ, ◌+◌, ◌-◌, ◌^◌, ◌≤◌, ◌==◌, ◌&&◌, not, min, if◌then◌else◌}

-- a count, once n more are counted
abbrev pub count_with : ℕ → ℕ → ℕ
count_with count n = min (count + n) (2 ^ 64 - 1)

-- a count, once one more is counted
abbrev pub counted : ℕ → ℕ
counted count = count_with count 1

-- a count of empty answers after an answer of n bytes to a buffer of so many
abbrev pub empty_with : ℕ → ℕ → ℕ → ℕ
empty_with count asked n = if n == 0 && not (asked == 0) then counted count else count

-- a count rose: it is greater than before, or it stands at the greatest count
abbrev pub Rose : ℕ → ℕ → Type 0
Rose before now = counted before ≤ now
