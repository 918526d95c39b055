-- Overruns: the maximal stretches of blocks that came and were dropped. This project's own.
use Rattle.std.specs.Prelude.{◌≡◌, ℕ, ◌+◌, ◌<◌, ◌≤◌, ◌==◌, Bool, true, false, not, List, [], ◌∷◌, ◌++◌, get_or}
use Rattle.std.specs.Prelude.{codes, decimal, if◌then◌else◌}
use Rattle.std.specs.List.{flat_map}
use Rattle.sound_report.specs.PlanLines.{newline}
use Rattle.capture_report.specs.declared.overruns.Overrun.{Overrun}

-- ---- what an overrun is

-- the block with this number came and was dropped. Of each block that came, oldest first and counted from 0, a mark
-- says whether it was taken
abbrev pub is_dropped : (taken : List Bool) → ℕ → Bool
is_dropped taken number = not (get_or taken number true)

-- its blocks were dropped, and neither the one before it nor the one behind it was
pub record IsOverrun (taken : List Bool) (overrun : Overrun) : Type 0 where
  pub some : 0 < overrun.count
  pub dropped : (number : ℕ) → overrun.first ≤ number → number < overrun.first + overrun.count
      → is_dropped taken number ≡ true
  pub before : (number : ℕ) → number + 1 ≡ overrun.first → is_dropped taken number ≡ false
  pub behind : is_dropped taken (overrun.first + overrun.count) ≡ false

-- one lies before another, with a block between them
abbrev pub LiesBefore : Overrun → Overrun → Type 0
LiesBefore one other = one.first + one.count < other.first

-- ---- all of them

-- a dropped block before overruns: it makes the first of them longer where that begins behind it, and else is one of
-- its own
abbrev pub joined : Overrun → List Overrun → List Overrun
joined overrun [] = overrun ∷ []
joined overrun (next ∷ more) =
    if next.first == overrun.first + overrun.count
    then record { first = overrun.first; count = overrun.count + next.count } ∷ more
    else overrun ∷ next ∷ more

-- the overruns of marks, the first of which is of the block with this number
unfoldable pub overruns_from : (number : ℕ) → (taken : List Bool) → List Overrun
overruns_from number [] = []
overruns_from number (true ∷ taken) = overruns_from (number + 1) taken
overruns_from number (false ∷ taken) = joined (record { first = number; count = 1 }) (overruns_from (number + 1) taken)

abbrev pub overruns_of : (taken : List Bool) → List Overrun
overruns_of taken = overruns_from 0 taken

-- ---- their lines

-- the number of the first block, and how many blocks there are
abbrev pub overrun_line : Overrun → List ℕ
overrun_line overrun = codes "overrun " ++ decimal overrun.first ++ codes " " ++ decimal overrun.count ++ newline

abbrev pub overrun_lines : (taken : List Bool) → List ℕ
overrun_lines taken = flat_map overrun_line (overruns_of taken)
