-- An overrun of which more blocks may come. What private functions promise one another; this project's own.
use Rattle.std.specs.Prelude.{◌≡◌, ℕ, ◌+◌, List, [], ◌∷◌, Option, Some, None, IfSome}
use Rattle.capture_report.specs.declared.overruns.Overrun.{Overrun}

-- its blocks are the last ones before this number
abbrev pub IsUpTo : (number : ℕ) → Option Overrun → Type 0
IsUpTo number begun = IfSome begun (λ overrun. overrun.first + overrun.count ≡ number)

-- with the block of this number behind it
abbrev pub longer : Option Overrun → (number : ℕ) → Overrun
longer (Some overrun) number = record { first = overrun.first; count = overrun.count + 1 }
longer None number = record { first = number; count = 1 }

-- it alone, where there is one
abbrev pub begun_one : Option Overrun → List Overrun
begun_one (Some overrun) = overrun ∷ []
begun_one None = []
