-- A pool from which blocks were taken, and to which they were given back, is as it was.
use Rattle.std.proofs.Common.{◌≡◌, ◌≤◌, ◌+◌, ◌/◌, ◌||◌, not, cond, ℕ, suc, Bool, true, false, List, [], ◌∷◌, ◌++◌, length, refl, sym, ap, subst, ◌∙◌, inl, inr, arith, length-append}
use Rattle.std.specs.Prelude.{Contains, All, filter, map}
use Rattle.std.proofs.lemmas.List.Elements.{filter-append}
use Rattle.std.proofs.lemmas.Bool.{or_right, or_left}
use Rattle.dma_pool.specs.declared.runs.Run.{Run}
use Rattle.dma_pool.specs.Pools.{PoolState, AddsRun, IsApart, granules_for}
use Rattle.dma_pool.specs.Blocks.{run_at}
use Rattle.dma_pool.specs.Several.{TakesAll}
use Rattle.command_engine.specs.Blocks.{corb_bytes, rirb_bytes}
use Rattle.period_writer.specs.declared.geometry.Geometry.{Geometry}
use Rattle.period_writer.specs.Blocks.{AddsAll}
use Rattle.period_writer.specs.Rings.{period_bytes, list_bytes}
use Rattle.audio_driver.specs.Opening.{OpensDriver}
use Rattle.audio_driver.specs.Closing.{GivesBack}
use Rattle.audio_driver.proofs.Taken.{are_same, is_taken, same_run, run_same}
use Rattle.dma_pool.proofs.Callers.{AddsRun-keeps}

-- ---- the runs beside some

-- whether a run is none of them
abbrev is_other : List Run → Run → Bool
is_other runs run = not (is_taken runs run)

-- a list without some runs is the same before and after one of them is added
adds_beside : (runs old : List Run) (run : Run) (new : List Run) → is_taken runs run ≡ true → AddsRun old run new → filter (is_other runs) new ≡ filter (is_other runs) old
adds_beside runs old run new one adds =
    ap (filter (is_other runs)) adds.becomes ∙ filter-append (is_other runs) adds.front (run ∷ adds.back) ∙ ap (λ (rest : List Run). filter (is_other runs) adds.front ++ rest) (ap (λ (is : Bool). cond (not is) (run ∷ filter (is_other runs) adds.back) (filter (is_other runs) adds.back)) one)
    ∙ sym (filter-append (is_other runs) adds.front adds.back) ∙ sym (ap (filter (is_other runs)) adds.was)

adds_length : (old : List Run) (run : Run) (new : List Run) → AddsRun old run new → length new ≡ suc (length old)
adds_length old run new adds =
    let was = ap length adds.was ∙ length-append adds.front adds.back in
    let becomes = ap length adds.becomes ∙ length-append adds.front (run ∷ adds.back) in
    omega (arith, was, becomes)

-- what is no shorter without some runs has none of them
filter_short : (test : Run → Bool) (runs : List Run) → length (filter test runs) ≤ length runs
filter_short test [] = omega arith
filter_short test (run ∷ runs) = by (test run) (filter_short test runs) where
  by : (is : Bool) → length (filter test runs) ≤ length runs → length (cond is (run ∷ filter test runs) (filter test runs)) ≤ suc (length runs)
  by true rest = omega (arith, rest)
  by false rest = omega (arith, rest)

filter_whole : (test : Run → Bool) (runs : List Run) → length (filter test runs) ≡ length runs → filter test runs ≡ runs
filter_whole test [] same = refl
filter_whole test (run ∷ runs) same = by (test run) (filter_whole test runs) same where
  by : (is : Bool) → (length (filter test runs) ≡ length runs → filter test runs ≡ runs) → length (cond is (run ∷ filter test runs) (filter test runs)) ≡ suc (length runs) → cond is (run ∷ filter test runs) (filter test runs) ≡ run ∷ runs
  by true rest long = ap (λ (others : List Run). run ∷ others) (rest (omega (arith, long)))
  by false rest long = (let short = filter_short test runs in absurd (omega (arith, long, short)))

-- a list that has none of some runs is the same without them
filter_none : (runs taken : List Run) → ((run : Run) → Contains taken run → is_taken runs run ≡ false) → filter (is_other runs) taken ≡ taken
filter_none runs [] none = refl
filter_none runs (run ∷ taken) none =
    ap (λ (is : Bool). cond (not is) (run ∷ filter (is_other runs) taken) (filter (is_other runs) taken)) (none run (0, omega arith, refl))
    ∙ ap (λ (rest : List Run). run ∷ rest) (filter_none runs taken (λ other has. none other (suc has.0, (let less = has.1 in omega (arith, less)), has.2)))

-- ---- several at once

-- some runs have those of blocks of so many bytes at these addresses
abbrev AreIn : (runs : List Run) (bytes : ℕ) → List ℕ → Type 0
AreIn runs bytes [] = Unit
AreIn runs bytes (address ∷ addresses) = (is_taken runs (run_at address bytes) ≡ true) × AreIn runs bytes addresses

or_none : (one other : Bool) → one ≡ false → other ≡ false → (one || other) ≡ false
or_none false other fails none = none
or_none true other fails none = cc

in_more : (run : Run) (runs : List Run) (bytes : ℕ) (addresses : List ℕ) → AreIn runs bytes addresses → AreIn (run ∷ runs) bytes addresses
in_more run runs bytes [] are = tt
in_more run runs bytes (address ∷ addresses) are =
    (or_right (are_same run (run_at address bytes)) (is_taken runs (run_at address bytes)) are.0, in_more run runs bytes addresses are.1)

abbrev runs_at : (bytes : ℕ) → List ℕ → List Run
runs_at bytes addresses = map (λ (address : ℕ). run_at address bytes) addresses

in_own : (bytes : ℕ) (addresses : List ℕ) → AreIn (runs_at bytes addresses) bytes addresses
in_own bytes [] = tt
in_own bytes (address ∷ addresses) = (
  or_left (are_same (run_at address bytes) (run_at address bytes)) (is_taken (runs_at bytes addresses) (run_at address bytes)) (run_same (run_at address bytes) (run_at address bytes) refl),
  in_more (run_at address bytes) (runs_at bytes addresses) bytes addresses (in_own bytes addresses),
)

all_beside : (runs : List Run) (bytes : ℕ) (taken : List Run) (addresses : List ℕ) (taken' : List Run) → AreIn runs bytes addresses → AddsAll bytes taken addresses taken' → filter (is_other runs) taken' ≡ filter (is_other runs) taken
all_beside runs bytes taken [] taken' are none = ap (filter (is_other runs)) none
all_beside runs bytes taken (address ∷ addresses) taken' are (middle, once, more) =
    all_beside runs bytes middle addresses taken' are.1 more ∙ adds_beside runs taken (run_at address bytes) middle are.0 once

all_length : (bytes : ℕ) (taken : List Run) (addresses : List ℕ) (taken' : List Run) → AddsAll bytes taken addresses taken' → length taken' ≡ length taken + length addresses
all_length bytes taken [] taken' none = (let same = ap length none in omega (arith, same))
all_length bytes taken (address ∷ addresses) taken' (middle, once, more) =
    let first = adds_length taken (run_at address bytes) middle once in
    let rest = all_length bytes middle addresses taken' more in
    omega (arith, first, rest)

takes_add : (granules bytes : ℕ) (taken : List Run) (addresses : List ℕ) (taken' : List Run) → TakesAll granules bytes taken addresses taken' → AddsAll bytes taken addresses taken'
takes_add granules bytes taken [] taken' none = none
takes_add granules bytes taken (address ∷ addresses) taken' (middle, first, rest) = (middle, first.adds, takes_add granules bytes middle addresses taken' rest)

-- ---- runs that are taken anew

-- no run that was taken before is the one that is taken
fresh_one : (taken : List Run) (address bytes : ℕ) (run : Run) → All (IsApart (address / 128) (granules_for bytes)) taken → 1 ≤ granules_for bytes → Contains taken run → are_same (run_at address bytes) run ≡ false
fresh_one taken address bytes run apart some has =
    let beside : IsApart (address / 128) (granules_for bytes) run = subst (IsApart (address / 128) (granules_for bytes)) has.2 (apart has.0 run has.1) in
    by (are_same (run_at address bytes) run) refl beside where
      clash : (first count : ℕ) → 1 ≤ count → run.first ≡ first → run.count ≡ count → IsApart first count run → ⊥
      clash first count some' here long (inl below) = omega (arith, some', here, long, below)
      clash first count some' here long (inr above) = omega (arith, some', here, long, above)

      by : (is : Bool) → are_same (run_at address bytes) run ≡ is → IsApart (address / 128) (granules_for bytes) run → is ≡ false
      by false same beside' = refl
      by true same beside' =
          let one : run ≡ run_at address bytes = sym (same_run (run_at address bytes) run same) in
          absurd (clash (address / 128) (granules_for bytes) some (ap (λ (r : Run). r.first) one) (ap (λ (r : Run). r.count) one) beside')

takes_fresh : (granules bytes : ℕ) (taken : List Run) (addresses : List ℕ) (taken' : List Run) (run : Run) → TakesAll granules bytes taken addresses taken' → 1 ≤ granules_for bytes → Contains taken run
    → is_taken (runs_at bytes addresses) run ≡ false
takes_fresh granules bytes taken [] taken' run none some has = refl
takes_fresh granules bytes taken (address ∷ addresses) taken' run (middle, first, rest) some has =
    or_none (are_same (run_at address bytes) run) (is_taken (runs_at bytes addresses) run) (fresh_one taken address bytes run first.fits.free.apart some has)
    (takes_fresh granules bytes middle addresses taken' run rest some (AddsRun-keeps taken (run_at address bytes) middle first.adds run has))

-- ---- all blocks of a driver

abbrev runs_of : Geometry → (corb rirb list : ℕ) → List ℕ → List Run
runs_of geometry corb rirb list periods =
    run_at corb corb_bytes ∷ run_at rirb rirb_bytes ∷ run_at list (list_bytes geometry.periods) ∷ runs_at (period_bytes geometry.period) periods

-- none was taken before
opens_fresh : (geometry : Geometry) (pool : PoolState) (corb rirb list : ℕ) (periods : List ℕ) (pool' : PoolState) (run : Run) → OpensDriver geometry pool corb rirb list periods pool' → Contains pool.taken run
    → is_taken (runs_of geometry corb rirb list periods) run ≡ false
opens_fresh geometry pool corb rirb list periods pool' run opens has =
    let first = AddsRun-keeps pool.taken (run_at corb corb_bytes) opens.engine.middle opens.engine.corb_taken.adds run has in
    let second = AddsRun-keeps opens.engine.middle (run_at rirb rirb_bytes) opens.middle.taken opens.engine.rirb_taken.adds run first in
    let third = AddsRun-keeps opens.middle.taken (run_at list (list_bytes geometry.periods)) opens.writer.middle opens.writer.list_taken.adds run second in
    let some_list : 1 ≤ granules_for (list_bytes geometry.periods) = (let two = geometry.some_periods in omega (arith, two)) in
    let some : 1 ≤ granules_for (period_bytes geometry.period) = (let one = geometry.some in omega (arith, one)) in
    or_none (are_same (run_at corb corb_bytes) run) _ (fresh_one pool.taken corb corb_bytes run opens.engine.corb_taken.fits.free.apart (omega arith) has)
    (or_none (are_same (run_at rirb rirb_bytes) run) _ (fresh_one opens.engine.middle rirb rirb_bytes run opens.engine.rirb_taken.fits.free.apart (omega arith) first)
    (or_none (are_same (run_at list (list_bytes geometry.periods)) run) _ (fresh_one opens.middle.taken list (list_bytes geometry.periods) run opens.writer.list_taken.fits.free.apart some_list second)
    (takes_fresh opens.middle.granules (period_bytes geometry.period) opens.writer.middle periods pool'.taken run opens.writer.periods_taken some third)))

record AreOwn (runs : List Run) (geometry : Geometry) (corb rirb list : ℕ) (periods : List ℕ) : Type 0 where
  corb_is : is_taken runs (run_at corb corb_bytes) ≡ true
  rirb_is : is_taken runs (run_at rirb rirb_bytes) ≡ true
  list_is : is_taken runs (run_at list (list_bytes geometry.periods)) ≡ true
  periods_are : AreIn runs (period_bytes geometry.period) periods

own : (geometry : Geometry) (corb rirb list : ℕ) (periods : List ℕ) → AreOwn (runs_of geometry corb rirb list periods) geometry corb rirb list periods
own geometry corb rirb list periods =
    let first = run_at corb corb_bytes in
    let second = run_at rirb rirb_bytes in
    let third = run_at list (list_bytes geometry.periods) in
    let rest = runs_at (period_bytes geometry.period) periods in
    record {
      corb_is = or_left (are_same first first) (is_taken (second ∷ third ∷ rest) first) (run_same first first refl);
      rirb_is = or_right (are_same first second) (is_taken (second ∷ third ∷ rest) second) (or_left (are_same second second) (is_taken (third ∷ rest) second) (run_same second second refl));
      list_is = or_right (are_same first third) (is_taken (second ∷ third ∷ rest) third)
          (or_right (are_same second third) (is_taken (third ∷ rest) third) (or_left (are_same third third) (is_taken rest third) (run_same third third refl)));
      periods_are = in_more first (second ∷ third ∷ rest) (period_bytes geometry.period) periods
          (in_more second (third ∷ rest) (period_bytes geometry.period) periods (in_more third rest (period_bytes geometry.period) periods (in_own (period_bytes geometry.period) periods)));
    }

opens_beside : (runs : List Run) (geometry : Geometry) (pool : PoolState) (corb rirb list : ℕ) (periods : List ℕ) (pool' : PoolState) → AreOwn runs geometry corb rirb list periods → OpensDriver geometry pool corb rirb list periods pool'
    → filter (is_other runs) pool'.taken ≡ filter (is_other runs) pool.taken
opens_beside runs geometry pool corb rirb list periods pool' are opens =
    all_beside runs (period_bytes geometry.period) opens.writer.middle periods pool'.taken are.periods_are (takes_add opens.middle.granules (period_bytes geometry.period) opens.writer.middle periods pool'.taken opens.writer.periods_taken)
    ∙ adds_beside runs opens.middle.taken (run_at list (list_bytes geometry.periods)) opens.writer.middle are.list_is opens.writer.list_taken.adds
    ∙ adds_beside runs opens.engine.middle (run_at rirb rirb_bytes) opens.middle.taken are.rirb_is opens.engine.rirb_taken.adds
    ∙ adds_beside runs pool.taken (run_at corb corb_bytes) opens.engine.middle are.corb_is opens.engine.corb_taken.adds

opens_length : (geometry : Geometry) (pool : PoolState) (corb rirb list : ℕ) (periods : List ℕ) (pool' : PoolState) → OpensDriver geometry pool corb rirb list periods pool' → length pool'.taken ≡ length pool.taken + 3 + length periods
opens_length geometry pool corb rirb list periods pool' opens =
    let first = adds_length pool.taken (run_at corb corb_bytes) opens.engine.middle opens.engine.corb_taken.adds in
    let second = adds_length opens.engine.middle (run_at rirb rirb_bytes) opens.middle.taken opens.engine.rirb_taken.adds in
    let third = adds_length opens.middle.taken (run_at list (list_bytes geometry.periods)) opens.writer.middle opens.writer.list_taken.adds in
    let rest = all_length (period_bytes geometry.period) opens.writer.middle periods pool'.taken (takes_add opens.middle.granules (period_bytes geometry.period) opens.writer.middle periods pool'.taken opens.writer.periods_taken) in
    omega (arith, first, second, third, rest)

gives_beside : (runs : List Run) (geometry : Geometry) (pool : PoolState) (corb rirb list : ℕ) (periods : List ℕ) (pool' : PoolState) → AreOwn runs geometry corb rirb list periods → GivesBack geometry pool corb rirb list periods pool'
    → filter (is_other runs) pool.taken ≡ filter (is_other runs) pool'.taken
gives_beside runs geometry pool corb rirb list periods pool' are gives =
    adds_beside runs gives.engine.middle (run_at corb corb_bytes) pool.taken are.corb_is gives.engine.corb_given
    ∙ adds_beside runs gives.middle.taken (run_at rirb rirb_bytes) gives.engine.middle are.rirb_is gives.engine.rirb_given
    ∙ all_beside runs (period_bytes geometry.period) gives.writer.middle periods gives.middle.taken are.periods_are gives.writer.periods_given
    ∙ adds_beside runs pool'.taken (run_at list (list_bytes geometry.periods)) gives.writer.middle are.list_is gives.writer.list_given

gives_length : (geometry : Geometry) (pool : PoolState) (corb rirb list : ℕ) (periods : List ℕ) (pool' : PoolState) → GivesBack geometry pool corb rirb list periods pool' → length pool.taken ≡ length pool'.taken + 3 + length periods
gives_length geometry pool corb rirb list periods pool' gives =
    let first = adds_length gives.engine.middle (run_at corb corb_bytes) pool.taken gives.engine.corb_given in
    let second = adds_length gives.middle.taken (run_at rirb rirb_bytes) gives.engine.middle gives.engine.rirb_given in
    let rest = all_length (period_bytes geometry.period) gives.writer.middle periods gives.middle.taken gives.writer.periods_given in
    let third = adds_length pool'.taken (run_at list (list_bytes geometry.periods)) gives.writer.middle gives.writer.list_given in
    omega (arith, first, second, third, rest)

-- the pool is as it was before they were taken
pub as_before : (geometry : Geometry) (before pool after : PoolState) (corb rirb list : ℕ) (periods : List ℕ) → OpensDriver geometry before corb rirb list periods pool → GivesBack geometry pool corb rirb list periods after → after ≡ before
as_before geometry before pool after corb rirb list periods opens gives =
    let runs = runs_of geometry corb rirb list periods in
    let are = own geometry corb rirb list periods in
    let was : filter (is_other runs) before.taken ≡ before.taken = filter_none runs before.taken (λ run has. opens_fresh geometry before corb rirb list periods pool run opens has) in
    let same : filter (is_other runs) after.taken ≡ before.taken =
    sym (gives_beside runs geometry pool corb rirb list periods after are gives) ∙ opens_beside runs geometry before corb rirb list periods pool are opens ∙ was in
    let long : length (filter (is_other runs) after.taken) ≡ length after.taken =
    (let one = ap length same in let two = opens_length geometry before corb rirb list periods pool opens in let three = gives_length geometry pool corb rirb list periods after gives in omega (arith, one, two, three)) in
    let taken : after.taken ≡ before.taken = sym (filter_whole (is_other runs) after.taken long) ∙ same in
    let granules : after.granules ≡ before.granules = gives.writer.granules ∙ gives.engine.granules ∙ opens.writer.granules ∙ opens.engine.granules in
    subst (λ (n : ℕ). after ≡ record { granules = n; taken = before.taken }) granules
    (subst (λ (runs' : List Run). after ≡ record { granules = after.granules; taken = runs' }) taken refl)

-- the same blocks, by other names
pub gives_at : (geometry geometry' : Geometry) (pool : PoolState) (corb corb' rirb rirb' list list' : ℕ) (periods periods' : List ℕ) (after : PoolState) → geometry' ≡ geometry → corb' ≡ corb → rirb' ≡ rirb → list' ≡ list → periods' ≡ periods
    → GivesBack geometry' pool corb' rirb' list' periods' after → GivesBack geometry pool corb rirb list periods after
gives_at geometry geometry' pool corb corb' rirb rirb' list list' periods periods' after same_geometry same_corb same_rirb same_list same_periods gives =
    subst (λ (geometry : Geometry). GivesBack geometry pool corb rirb list periods after) same_geometry
    (subst (λ (corb : ℕ). GivesBack geometry' pool corb rirb list periods after) same_corb
    (subst (λ (rirb : ℕ). GivesBack geometry' pool corb' rirb list periods after) same_rirb
    (subst (λ (list : ℕ). GivesBack geometry' pool corb' rirb' list periods after) same_list
    (subst (λ (periods : List ℕ). GivesBack geometry' pool corb' rirb' list' periods after) same_periods gives))))
