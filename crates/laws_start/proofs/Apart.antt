-- The blocks of a driver lie apart.
use Rattle.std.proofs.Common.{◌≡◌, ◌<◌, ◌%◌, ◌/◌, inl, inr, ℕ, zero, suc, List, [], ◌∷◌, length, subst, sym, arith}
use Rattle.std.specs.Prelude.{Contains, slice_index}
use Rattle.dma_pool.specs.declared.blocks.Lent.{Lent}
use Rattle.dma_pool.specs.declared.runs.Run.{Run}
use Rattle.dma_pool.specs.Pools.{PoolState, IsApart, granules_for}
use Rattle.dma_pool.specs.Blocks.{run_at}
use Rattle.dma_pool.specs.Several.{TakesAll}
use Rattle.command_engine.specs.Blocks.{rirb_bytes}
use Rattle.period_writer.specs.declared.geometry.Geometry.{Geometry}
use Rattle.period_writer.specs.Blocks.{addresses_of}
use Rattle.period_writer.specs.Rings.{period_bytes, list_bytes}
use Rattle.period_writer.specs.Writers.{WriterState, periods_of, ring_of}
use Rattle.driver_bring_up.specs.declared.bringing.BringUp.{BringUp}
use Rattle.audio_driver.specs.Opening.{OpensDriver}
use Rattle.laws_stream.specs.Resting.{IsApartFrom, AreApartFrom}
use Rattle.dma_pool.proofs.Callers.{AddsRun-keeps, AddsRun-has}

-- a block whose run is apart from RIRB's has none of its bytes
runs_apart : (rirb address bytes : ℕ) → rirb % 128 ≡ 0 → address % 128 ≡ 0 → IsApart (address / 128) (granules_for bytes) (run_at rirb rirb_bytes) → IsApartFrom rirb address bytes
runs_apart rirb address bytes aligned aligned' (inl less) = inr (omega (arith, less, aligned, aligned'))
runs_apart rirb address bytes aligned aligned' (inr less) = inl (omega (arith, less, aligned, aligned'))

-- of periods that are taken one after another too
periods_apart : (granules bytes rirb : ℕ) (taken : List Run) (periods : List Lent) (taken' : List Run) → rirb % 128 ≡ 0 → Contains taken (run_at rirb rirb_bytes) → TakesAll granules bytes taken (addresses_of periods) taken'
    → (index : ℕ) → index < length (addresses_of periods) → IsApartFrom rirb (slice_index (addresses_of periods) index) bytes
periods_apart granules bytes rirb taken [] taken' aligned has takes index within = absurd (omega (arith, within))
periods_apart granules bytes rirb taken (period ∷ periods) taken' aligned has (middle, first, rest) zero within =
    runs_apart rirb period.address bytes aligned period.aligned (subst (IsApart (period.address / 128) (granules_for bytes)) has.2 (first.fits.free.apart has.0 (run_at rirb rirb_bytes) has.1))
periods_apart granules bytes rirb taken (period ∷ periods) taken' aligned has (middle, first, rest) (suc index) within =
    periods_apart granules bytes rirb middle periods taken' aligned (AddsRun-keeps taken (run_at period.address bytes) middle first.adds (run_at rirb rirb_bytes) has) rest index (omega (arith, within))

-- of blocks that were taken in this order
taken_apart : (geometry : Geometry) (pool pool' : PoolState) (corb rirb list : ℕ) (periods : List Lent) → rirb % 128 ≡ 0 → list % 128 ≡ 0 → OpensDriver geometry pool corb rirb list (addresses_of periods) pool'
    → AreApartFrom (record { geometry = geometry; list = list; periods = addresses_of periods }) rirb
taken_apart geometry pool pool' corb rirb list periods aligned aligned' opens = record {
  list = runs_apart rirb list (list_bytes geometry.periods) aligned aligned'
      (subst (IsApart (list / 128) (granules_for (list_bytes geometry.periods))) first.2 (opens.writer.list_taken.fits.free.apart first.0 (run_at rirb rirb_bytes) first.1));
  periods = λ index within.
      (periods_apart opens.middle.granules (period_bytes geometry.period) rirb opens.writer.middle periods pool'.taken aligned later opens.writer.periods_taken index
      (let number = opens.writer.number in omega (arith, number, within)));
} where
  first : Contains opens.middle.taken (run_at rirb rirb_bytes)
  first = AddsRun-has opens.engine.middle (run_at rirb rirb_bytes) opens.middle.taken opens.engine.rirb_taken.adds

  later : Contains opens.writer.middle (run_at rirb rirb_bytes)
  later = AddsRun-keeps opens.middle.taken (run_at list (list_bytes geometry.periods)) opens.writer.middle opens.writer.list_taken.adds (run_at rirb rirb_bytes) first

pub opened_apart : (geometry : Geometry) (pool pool' : PoolState) (bring_up : BringUp) (writer : WriterState) → writer.geometry ≡ geometry
    → OpensDriver geometry pool bring_up.engine.corb.address bring_up.engine.rirb.address writer.list.address (periods_of writer) pool' → AreApartFrom (ring_of writer) bring_up.engine.rirb.address
opened_apart geometry pool pool' bring_up writer same opens =
    subst (λ (g : Geometry). AreApartFrom (record { geometry = g; list = writer.list.address; periods = periods_of writer }) bring_up.engine.rirb.address) (sym same)
    (taken_apart geometry pool pool' bring_up.engine.corb.address bring_up.engine.rirb.address writer.list.address writer.periods bring_up.engine.rirb.aligned writer.list.aligned opens)
