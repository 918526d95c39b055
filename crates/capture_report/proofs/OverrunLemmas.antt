-- The lines of overruns, block by block.
use Rattle.std.proofs.Common.{◌≡◌, ℕ, suc, ◌+◌, ◌<◌, ◌≤◌, ◌==◌, Bool, true, false, if◌then◌else◌, List, [], ◌∷◌, ◌++◌, length, drop, get_or, Option, Some, None, refl, sym, ap, ◌∙◌, append-nil, arith, drop-cons}
use Rattle.std.specs.Prelude.{⊤}
use Rattle.std.specs.List.{flat_map}
use Rattle.std.proofs.lemmas.List.{drop_all}
use Rattle.std.proofs.lemmas.Bool.Decides.{nat_tests}
use Rattle.capture_report.specs.declared.overruns.Overrun.{Overrun}
use Rattle.capture_report.specs.Overruns.{joined, overruns_from, overrun_line}
use Rattle.capture_report.specs.BegunOverruns.{IsUpTo, longer, begun_one}

-- ---- where overruns begin

-- the first of these begins at this number or later
abbrev pub BeginFrom : ℕ → List Overrun → Type 0
BeginFrom number [] = ⊤
BeginFrom number (overrun ∷ more) = number ≤ overrun.first

begin_if : (here : Bool) (number : ℕ) (one other : List Overrun) → BeginFrom number one → BeginFrom number other
    → BeginFrom number (if here then one else other)
begin_if true number one other a b = a
begin_if false number one other a b = b

begin_joined : (number : ℕ) (overruns : List Overrun) → BeginFrom number (joined (record { first = number; count = 1 }) overruns)
begin_joined number [] = omega arith
begin_joined number (next ∷ more) =
    begin_if (next.first == number + 1) number (record { first = number; count = 1 + next.count } ∷ more) (record { first = number; count = 1 } ∷ next ∷ more) (omega arith) (omega arith)

begin_earlier : (number : ℕ) (overruns : List Overrun) → BeginFrom (number + 1) overruns → BeginFrom number overruns
begin_earlier number [] begin = tt
begin_earlier number (overrun ∷ more) begin = omega (arith, begin)

pub begin_from : (number : ℕ) (taken : List Bool) → BeginFrom number (overruns_from number taken)
unfolding overruns_from
begin_from number [] = tt
begin_from number (true ∷ taken) = begin_earlier number (overruns_from (number + 1) taken) (begin_from (number + 1) taken)
begin_from number (false ∷ taken) = begin_joined number (overruns_from (number + 1) taken)

-- ---- an overrun before others

-- one of which more blocks may come, before others
abbrev pub with_begun : Option Overrun → List Overrun → List Overrun
with_begun (Some overrun) overruns = joined overrun overruns
with_begun None overruns = overruns

other_number : (a b : ℕ) → a < b → (b == a) ≡ false
other_number a b less = grind (arith, nat_tests, less)

-- none that begins later is joined to it
apart : (number : ℕ) (overrun : Overrun) (overruns : List Overrun) → overrun.first + overrun.count ≡ number → BeginFrom (number + 1) overruns
    → joined overrun overruns ≡ overrun ∷ overruns
apart number overrun [] up begin = refl
apart number overrun (next ∷ more) up begin =
    ap (λ (here : Bool). if here then record { first = overrun.first; count = overrun.count + next.count } ∷ more else overrun ∷ next ∷ more)
    (other_number (overrun.first + overrun.count) next.first (omega (arith, up, begin)))

-- a block behind it makes it longer
module _ (overrun : Overrun) (number : ℕ) (up : overrun.first + overrun.count ≡ number) where
  abbrev one : Overrun
  one = record { first = number; count = 1 }

  abbrev long : Overrun
  long = record { first = overrun.first; count = overrun.count + 1 }

  join_here : (count : ℕ) (more : List Overrun)
      → joined overrun (record { first = number; count = count } ∷ more) ≡ record { first = overrun.first; count = overrun.count + count } ∷ more
  join_here count more =
      let same : (number == overrun.first + overrun.count) ≡ true = grind (arith, nat_tests, up) in
      ap (λ (here : Bool). if here then record { first = overrun.first; count = overrun.count + count } ∷ more else overrun ∷ record { first = number; count = count } ∷ more) same

  join_if : (here : Bool) (next : Overrun) (more : List Overrun)
      → joined overrun (if here then record { first = number; count = 1 + next.count } ∷ more else one ∷ next ∷ more)
      ≡ (if here then record { first = overrun.first; count = overrun.count + 1 + next.count } ∷ more else long ∷ next ∷ more)
  join_if true next more =
      let sum : overrun.count + (1 + next.count) ≡ overrun.count + 1 + next.count = omega arith in
      join_here (1 + next.count) more ∙ ap (λ (count : ℕ). record { first = overrun.first; count = count } ∷ more) sum
  join_if false next more = join_here 1 (next ∷ more)

  join_longer : (overruns : List Overrun) → joined overrun (joined one overruns) ≡ joined long overruns
  join_longer [] = join_here 1 []
  join_longer (next ∷ more) =
      let place : number + 1 ≡ overrun.first + (overrun.count + 1) = omega (arith, up) in
      join_if (next.first == number + 1) next more
      ∙ ap (λ (behind : ℕ). if next.first == behind then record { first = overrun.first; count = overrun.count + 1 + next.count } ∷ more else long ∷ next ∷ more) place

-- ---- block by block

-- the lines that are left from a number on
abbrev pub lines_from : (taken : List Bool) → (number : ℕ) → Option Overrun → List ℕ
lines_from taken number begun = flat_map overrun_line (with_begun begun (overruns_from number (drop number taken)))

taken_here : (begun : Option Overrun) (number : ℕ) (taken : List Bool) → IsUpTo number begun
    → flat_map overrun_line (with_begun begun (overruns_from number (true ∷ taken)))
    ≡ flat_map overrun_line (begun_one begun) ++ flat_map overrun_line (overruns_from (number + 1) taken)
unfolding overruns_from
taken_here None number taken up = refl
taken_here (Some overrun) number taken up =
    ap (flat_map overrun_line) (apart number overrun (overruns_from (number + 1) taken) up (begin_from (number + 1) taken))
    ∙ ap (λ (line : List ℕ). line ++ flat_map overrun_line (overruns_from (number + 1) taken)) (sym (append-nil (overrun_line overrun)))

dropped_here : (begun : Option Overrun) (number : ℕ) (taken : List Bool) → IsUpTo number begun
    → with_begun begun (overruns_from number (false ∷ taken)) ≡ with_begun (Some (longer begun number)) (overruns_from (number + 1) taken)
unfolding overruns_from
dropped_here None number taken up = refl
dropped_here (Some overrun) number taken up = join_longer overrun number up (overruns_from (number + 1) taken)

-- the marks from a number on
marks_on : (taken : List Bool) (number : ℕ) (d mark : Bool) → number < length taken → get_or taken number d ≡ mark → drop number taken ≡ mark ∷ drop (number + 1) taken
marks_on taken number d mark within is =
    drop-cons taken number d within
    ∙ ap (λ (k : ℕ). get_or taken number d ∷ drop k taken) (let e : suc number ≡ number + 1 = omega arith in e)
    ∙ ap (λ (m : Bool). m ∷ drop (number + 1) taken) is

-- a block that was taken: the line of what was begun, and the lines that are left
pub after_taken : (taken : List Bool) (number : ℕ) (d : Bool) (begun : Option Overrun) → number < length taken → get_or taken number d ≡ true → IsUpTo number begun
    → lines_from taken number begun ≡ flat_map overrun_line (begun_one begun) ++ lines_from taken (number + 1) None
after_taken taken number d begun within is up =
    ap (λ (marks : List Bool). flat_map overrun_line (with_begun begun (overruns_from number marks))) (marks_on taken number d true within is)
    ∙ taken_here begun number (drop (number + 1) taken) up

-- a block that was dropped makes what is begun longer
pub after_dropped : (taken : List Bool) (number : ℕ) (d : Bool) (begun : Option Overrun) → number < length taken → get_or taken number d ≡ false → IsUpTo number begun
    → lines_from taken number begun ≡ lines_from taken (number + 1) (Some (longer begun number))
after_dropped taken number d begun within is up =
    ap (λ (marks : List Bool). flat_map overrun_line (with_begun begun (overruns_from number marks))) (marks_on taken number d false within is)
    ∙ ap (flat_map overrun_line) (dropped_here begun number (drop (number + 1) taken) up)

pub up_to_longer : (number : ℕ) (begun : Option Overrun) → IsUpTo number begun → IsUpTo (number + 1) (Some (longer begun number))
up_to_longer number None up = refl
up_to_longer number (Some overrun) up = omega (arith, up)

none_behind : (number : ℕ) (begun : Option Overrun) → with_begun begun (overruns_from number []) ≡ begun_one begun
unfolding overruns_from
none_behind number None = refl
none_behind number (Some overrun) = refl

-- behind the last block what is begun is left
pub after_all : (taken : List Bool) (number : ℕ) (begun : Option Overrun) → length taken ≤ number → lines_from taken number begun ≡ flat_map overrun_line (begun_one begun)
after_all taken number begun past =
    ap (λ (marks : List Bool). flat_map overrun_line (with_begun begun (overruns_from number marks))) (drop_all number taken past)
    ∙ ap (flat_map overrun_line) (none_behind number begun)

pub up_to_none : (number : ℕ) → IsUpTo number None
up_to_none number = tt
