-- A pool that fills the region has room for the blocks of a driver.
use Rattle.std.proofs.Common.{◌≡◌, ◌≤◌, ◌+◌, ◌*◌, ◌/◌, inl, inr, ℕ, List, [], ◌∷◌, ◌++◌, length, All, sym, subst, arith}
use Rattle.std.proofs.lemmas.List.Elements.{All-nil, All-cons, All-head, All-tail, All-weaker}
use Rattle.dma_pool.specs.declared.runs.Run.{Run}
use Rattle.dma_pool.specs.Pools.{PoolState, end_of, IsApart, IsFree, IsFirstFit, HasNoRun, AddsRun, granules_for}
use Rattle.dma_pool.specs.Blocks.{run_at}
use Rattle.dma_pool.specs.Several.{TakesAll}
use Rattle.command_engine.specs.Blocks.{corb_bytes, rirb_bytes}
use Rattle.command_engine.specs.Opening as of_engine
use Rattle.period_writer.specs.declared.geometry.Geometry.{Geometry}
use Rattle.period_writer.specs.Rings.{period_bytes, list_bytes}
use Rattle.period_writer.specs.Opening as of_writer
use Rattle.audio_driver.specs.Opening.{HasNoRuns}
use Rattle.laws_start.specs.Starting.{IsAllFree}

-- all granules from this one on are free
abbrev AreBelow : ℕ → List Run → Type 0
AreBelow end taken = All (λ (run : Run). end_of run ≤ end) taken

free_from : (granules : ℕ) (taken : List Run) (end count : ℕ) → AreBelow end taken → end + count ≤ granules → IsFree granules taken end count
free_from granules taken end count below room = record {
  within = room;
  apart = All-weaker (λ (run : Run). end_of run ≤ end) (IsApart end count) (λ run low. inl low) taken below;
}

-- so there is a run where they are enough
has_run : (granules : ℕ) (taken : List Run) (end count : ℕ) → AreBelow end taken → end + count ≤ granules → HasNoRun granules taken count → ⊥
has_run granules taken end count below room none = none end (free_from granules taken end count below room)

-- one run more
below_more : (end end' : ℕ) (front back : List Run) (run : Run) → end ≤ end' → end_of run ≤ end' → AreBelow end (front ++ back) → AreBelow end' (front ++ run ∷ back)
below_more end end' [] back run more low below =
    All-cons (λ (one : Run). end_of one ≤ end') run back low (All-weaker (λ (one : Run). end_of one ≤ end) (λ (one : Run). end_of one ≤ end') (λ one less. omega (arith, less, more)) back below)
below_more end end' (first ∷ front) back run more low below =
    let here = All-head (λ (one : Run). end_of one ≤ end) first (front ++ back) below in
    All-cons (λ (one : Run). end_of one ≤ end') first (front ++ run ∷ back) (omega (arith, here, more))
    (below_more end end' front back run more low (All-tail (λ (one : Run). end_of one ≤ end) first (front ++ back) below))

-- the first fit begins where all is free at the latest
taken_below : (granules address bytes : ℕ) (taken taken' : List Run) (end : ℕ) → AreBelow end taken → end + granules_for bytes ≤ granules
    → IsFirstFit granules taken (address / 128) (granules_for bytes) → AddsRun taken (run_at address bytes) taken' → AreBelow (end + granules_for bytes) taken'
taken_below granules address bytes taken taken' end below room fits adds =
    let lowest : address / 128 ≤ end = fits.lowest end (free_from granules taken end (granules_for bytes) below room) in
    subst (λ (runs : List Run). AreBelow (end + granules_for bytes) runs) (sym adds.becomes)
    (below_more end (end + granules_for bytes) adds.front adds.back (run_at address bytes) (omega arith) (omega (arith, lowest))
    (subst (λ (runs : List Run). AreBelow end runs) adds.was below))

-- how many granules takes of so many need
abbrev granules_in : ℕ → List ℕ → ℕ
granules_in count [] = 0
granules_in count (address ∷ addresses) = count + granules_in count addresses

granules_within : (count : ℕ) (addresses : List ℕ) → count ≤ 384 → granules_in count addresses ≤ 384 * length addresses
granules_within count [] few = omega arith
granules_within count (address ∷ addresses) few = (let rest = granules_within count addresses few in omega (arith, rest, few))

all_below : (granules bytes : ℕ) (taken : List Run) (addresses : List ℕ) (taken' : List Run) (end : ℕ) → AreBelow end taken → end + granules_in (granules_for bytes) addresses ≤ granules
    → TakesAll granules bytes taken addresses taken' → AreBelow (end + granules_in (granules_for bytes) addresses) taken'
all_below granules bytes taken [] taken' end below room same =
    subst (λ (runs : List Run). AreBelow (end + 0) runs) (sym same) (All-weaker (λ (run : Run). end_of run ≤ end) (λ (run : Run). end_of run ≤ end + 0) (λ run less. omega (arith, less)) taken below)
all_below granules bytes taken (address ∷ addresses) taken' end below room takes =
    let count = granules_for bytes in
    let rest = granules_in count addresses in
    let one = takes.1 in
    let room' : end + (count + rest) ≤ granules = room in
    let first = taken_below granules address bytes taken takes.0 end below (omega (arith, room')) one.fits one.adds in
    let later = all_below granules bytes takes.0 addresses taken' (end + count) first (omega (arith, room')) takes.2 in
    All-weaker (λ (run : Run). end_of run ≤ (end + count) + rest) (λ (run : Run). end_of run ≤ end + (count + rest)) (λ run less. omega (arith, less)) taken' later

few_granules : (period : ℕ) → period ≤ 128 → granules_for (period_bytes period) ≤ 384
few_granules period few = omega (arith, few)

few_for_list : (periods : ℕ) → periods ≤ 32 → granules_for (list_bytes periods) ≤ 4
few_for_list periods few = omega (arith, few)

-- ---- the blocks of a driver

engine_has_runs : (pool : PoolState) → pool.granules ≡ 32768 → AreBelow 0 pool.taken → of_engine.HasNoRuns pool → ⊥
engine_has_runs pool whole below (inl none) = has_run pool.granules pool.taken 0 (granules_for corb_bytes) below (omega (arith, whole)) none
engine_has_runs pool whole below (inr second) =
    let corb = second.corb_taken in
    let first = taken_below pool.granules second.corb corb_bytes pool.taken second.middle 0 below (omega (arith, whole)) corb.fits corb.adds in
    has_run pool.granules second.middle (0 + granules_for corb_bytes) (granules_for rirb_bytes) first (omega (arith, whole)) second.none

engine_below : (pool : PoolState) (corb rirb : ℕ) (pool' : PoolState) → pool.granules ≡ 32768 → AreBelow 0 pool.taken → of_engine.OpensEngine pool corb rirb pool' → AreBelow 24 pool'.taken
engine_below pool corb rirb pool' whole below opens =
    let one = opens.corb_taken in
    let other = opens.rirb_taken in
    let first = taken_below pool.granules corb corb_bytes pool.taken opens.middle 0 below (omega (arith, whole)) one.fits one.adds in
    taken_below pool.granules rirb rirb_bytes opens.middle pool'.taken (0 + granules_for corb_bytes) first (omega (arith, whole)) other.fits other.adds

writer_has_runs : (geometry : Geometry) (pool : PoolState) → pool.granules ≡ 32768 → AreBelow 24 pool.taken → of_writer.HasNoRuns geometry pool → ⊥
writer_has_runs geometry pool whole below (inl none) =
    let few = few_for_list geometry.periods geometry.few_periods in
    has_run pool.granules pool.taken 24 (granules_for (list_bytes geometry.periods)) below (omega (arith, whole, few)) none
writer_has_runs geometry pool whole below (inr later) =
    let few = few_for_list geometry.periods geometry.few_periods in
    let list = later.list_taken in
    let meets = later.none in
    let size = few_granules geometry.period geometry.few in
    let number = geometry.few_periods in
    let count = granules_for (period_bytes geometry.period) in
    let all = granules_within count meets.addresses size in
    let fewer = meets.few in
    let first = taken_below pool.granules later.list (list_bytes geometry.periods) pool.taken later.middle 24 below (omega (arith, whole, few)) list.fits list.adds in
    let end = 24 + granules_for (list_bytes geometry.periods) in
    let before = all_below pool.granules (period_bytes geometry.period) later.middle meets.addresses meets.middle end first (omega (arith, whole, few, all, number, fewer)) meets.before in
    has_run pool.granules meets.middle (end + granules_in count meets.addresses) count before (omega (arith, whole, few, all, number, fewer, size)) meets.none

pub full_pool : (geometry : Geometry) (pool : PoolState) → IsAllFree pool → HasNoRuns geometry pool → ⊥
full_pool geometry pool all (inl none) =
    engine_has_runs pool all.granules (subst (λ (runs : List Run). AreBelow 0 runs) (sym all.free) (All-nil (λ (run : Run). end_of run ≤ 0))) none
full_pool geometry pool all (inr ring) =
    let below = engine_below pool ring.corb ring.rirb ring.middle all.granules (subst (λ (runs : List Run). AreBelow 0 runs) (sym all.free) (All-nil (λ (run : Run). end_of run ≤ 0))) ring.engine in
    let same = ring.engine.granules in
    let whole = all.granules in
    let whole' : ring.middle.granules ≡ 32768 = omega (arith, same, whole) in
    writer_has_runs geometry ring.middle whole' below ring.none
