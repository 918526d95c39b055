-- The blocks of a driver's writer are exchanged for others.
use Rattle.std.proofs.Common.{◌≡◌, ◌≤◌, ◌+◌, ◌%◌, ◌/◌, inl, inr, ℕ, List, [], ◌∷◌, refl, sym, ap, subst, ◌∙◌, true, arith}
use Rattle.std.specs.Prelude.{Contains}
use Rattle.dma_pool.specs.declared.blocks.Lent.{Lent}
use Rattle.dma_pool.specs.declared.runs.Run.{Run}
use Rattle.dma_pool.specs.Pools.{PoolState, AddsRun, IsApart, granules_for}
use Rattle.dma_pool.specs.Blocks.{run_at}
use Rattle.dma_pool.specs.Several.{TakesAll, TakesFirst}
use Rattle.dma_pool.proofs.Callers.{AddsRun-keeps, AddsRun-has, given_back}
use Rattle.command_engine.specs.Blocks.{rirb_bytes}
use Rattle.period_writer.specs.declared.geometry.Geometry.{Geometry}
use Rattle.period_writer.specs.Rings.{period_bytes, list_bytes}
use Rattle.period_writer.specs.Blocks.{AddsAll, are_apart, addresses_of, IsBesideAll}
use Rattle.period_writer.specs.Opening.{OpensWriter, GivesBack, HasNoRuns}
use Rattle.period_writer.proofs.Callers.{taken_beside}
use Rattle.audio_driver.specs.Opening.{OpensDriver, HasNoRing}
use Rattle.audio_driver.specs.Opening as of_driver
use Rattle.laws_start.specs.Starting.{IsAllFree}

-- ---- what was taken and given back is as it was

-- a first fit was not taken before
is_fresh : (granules bytes : ℕ) (taken : List Run) (address : ℕ) (taken' : List Run) → 1 ≤ granules_for bytes → TakesFirst granules bytes taken address taken' → Contains taken (run_at address bytes) → ⊥
is_fresh granules bytes taken address taken' some takes has =
    clash (subst (IsApart (run_at address bytes).first (run_at address bytes).count) has.2 (takes.fits.free.apart has.0 (run_at address bytes) has.1))
  where
    clash : IsApart (run_at address bytes).first (run_at address bytes).count (run_at address bytes) → ⊥
    clash (inl low) = omega (arith, low, some)
    clash (inr high) = omega (arith, high, some)

abbrev pool_of : List Run → PoolState
pool_of taken = record { granules = 0; taken = taken }

one_back : (taken given taken' : List Run) (run : Run) → (Contains taken run → ⊥) → AddsRun taken run taken' → AddsRun given run taken' → given ≡ taken
one_back taken given taken' run fresh takes gives =
    ap (λ (pool : PoolState). pool.taken) (given_back (pool_of taken) (pool_of taken') (pool_of given) run fresh takes gives refl refl)

all_back : (granules bytes : ℕ) (taken given : List Run) (addresses : List ℕ) (taken' : List Run) → 1 ≤ granules_for bytes → TakesAll granules bytes taken addresses taken' → AddsAll bytes given addresses taken' → given ≡ taken
all_back granules bytes taken given [] taken' some takes gives = sym gives ∙ takes
all_back granules bytes taken given (address ∷ addresses) taken' some (middle, first, rest) (between, once, more) =
    let same : between ≡ middle = all_back granules bytes middle between addresses taken' some rest more in
    one_back taken given middle (run_at address bytes) (is_fresh granules bytes taken address middle some first) first.adds (subst (λ (runs : List Run). AddsRun given (run_at address bytes) runs) same once)

some_list : (geometry : Geometry) → 1 ≤ granules_for (list_bytes geometry.periods)
some_list geometry = (let two = geometry.some_periods in omega (arith, two))

some_period : (geometry : Geometry) → 1 ≤ granules_for (period_bytes geometry.period)
some_period geometry = (let one = geometry.some in omega (arith, one))

-- a pool without the blocks of a writer that were taken from it
pub as_before : (geometry : Geometry) (before pool after : PoolState) (list : ℕ) (periods : List ℕ) → OpensWriter geometry before list periods pool → GivesBack geometry pool list periods after → after ≡ before
as_before geometry before pool after list periods opens gives =
    let middle : gives.middle ≡ opens.middle = all_back before.granules (period_bytes geometry.period) opens.middle gives.middle periods pool.taken (some_period geometry) opens.periods_taken gives.periods_given in
    let taken : after.taken ≡ before.taken = one_back before.taken after.taken opens.middle (run_at list (list_bytes geometry.periods)) (is_fresh before.granules (list_bytes geometry.periods) before.taken list opens.middle (some_list geometry) opens.list_taken)
    opens.list_taken.adds (subst (λ (runs : List Run). AddsRun after.taken (run_at list (list_bytes geometry.periods)) runs) middle gives.list_given) in
    let granules : after.granules ≡ before.granules = gives.granules ∙ opens.granules in
    subst (λ (n : ℕ). after ≡ record { granules = n; taken = before.taken }) granules (subst (λ (runs : List Run). after ≡ record { granules = after.granules; taken = runs }) taken refl)

-- ---- of a driver

pub fits_again : (geometry : Geometry) (before pool middle pool' : PoolState) (corb rirb list list' : ℕ) (periods periods' : List ℕ) → OpensDriver geometry before corb rirb list periods pool → GivesBack geometry pool list periods middle
    → OpensWriter geometry middle list' periods' pool' → OpensDriver geometry before corb rirb list' periods' pool'
fits_again geometry before pool middle pool' corb rirb list list' periods periods' opens gives takes = record {
  middle = opens.middle;
  engine = opens.engine;
  writer = subst (λ (one : PoolState). OpensWriter geometry one list' periods' pool') (as_before geometry opens.middle pool middle list periods opens.writer gives) takes;
}

pub room_again : ((geometry : Geometry) (pool : PoolState) → IsAllFree pool → of_driver.HasNoRuns geometry pool → ⊥) → (geometry : Geometry) (free pool middle : PoolState) (corb rirb list : ℕ) (periods : List ℕ) → IsAllFree free
    → OpensDriver geometry free corb rirb list periods pool → GivesBack geometry pool list periods middle → HasNoRuns geometry middle → ⊥
room_again full geometry free pool middle corb rirb list periods all opens gives none =
    let ring : HasNoRing geometry free = record {
      corb = corb;
      rirb = rirb;
      middle = opens.middle;
      engine = opens.engine;
      none = subst (λ (one : PoolState). HasNoRuns geometry one) (as_before geometry opens.middle pool middle list periods opens.writer gives) none;
    } in
    full geometry free all (inr ring)

-- ---- apart from RIRB

-- runs that are apart have no byte in common
bytes_apart : (one one_bytes other other_bytes : ℕ) → one % 128 ≡ 0 → other % 128 ≡ 0 → IsApart (other / 128) (granules_for other_bytes) (run_at one one_bytes) → are_apart one one_bytes other other_bytes ≡ true
bytes_apart one one_bytes other other_bytes aligned aligned' (inl less) = (let below : one + one_bytes ≤ other = omega (arith, less, aligned, aligned') in grind (arith, below))
bytes_apart one one_bytes other other_bytes aligned aligned' (inr less) = (let below : other + other_bytes ≤ one = omega (arith, less, aligned, aligned') in grind (arith, below))

pub apart_again : (geometry : Geometry) (before pool middle pool' : PoolState) (corb list : ℕ) (rirb list' : Lent) (periods : List ℕ) (periods' : List Lent) → OpensDriver geometry before corb rirb.address list periods pool
    → GivesBack geometry pool list periods middle → OpensWriter geometry middle list'.address (addresses_of periods') pool'
    → IsBesideAll rirb.address rirb_bytes (period_bytes geometry.period) (addresses_of periods') × (are_apart rirb.address rirb_bytes list'.address (list_bytes geometry.periods) ≡ true)
apart_again geometry before pool middle pool' corb list rirb list' periods periods' opens gives takes = (
  taken_beside middle.granules (period_bytes geometry.period) rirb.address rirb_bytes takes.middle periods' pool'.taken rirb.aligned later takes.periods_taken,
  bytes_apart rirb.address rirb_bytes list'.address (list_bytes geometry.periods) rirb.aligned list'.aligned
      (subst (IsApart (list'.address / 128) (granules_for (list_bytes geometry.periods))) there.2 (takes.list_taken.fits.free.apart there.0 (run_at rirb.address rirb_bytes) there.1)),
) where
  there : Contains middle.taken (run_at rirb.address rirb_bytes)
  there =
      subst (λ (one : PoolState). Contains one.taken (run_at rirb.address rirb_bytes)) (sym (as_before geometry opens.middle pool middle list periods opens.writer gives))
      (AddsRun-has opens.engine.middle (run_at rirb.address rirb_bytes) opens.middle.taken opens.engine.rirb_taken.adds)

  later : Contains takes.middle (run_at rirb.address rirb_bytes)
  later = AddsRun-keeps middle.taken (run_at list'.address (list_bytes geometry.periods)) takes.middle takes.list_taken.adds (run_at rirb.address rirb_bytes) there
