-- Blocks that are first fits in a region lie in it, and apart.
use Rattle.std.proofs.Common.{◌≡◌, ◌≤◌, inl, inr, ◌+◌, ◌*◌, ◌/◌, ◌%◌, ◌||◌, ℕ, Bool, true, nat_le, refl, ap, arith, rules}
use Rattle.std.proofs.lemmas.List.Elements.{All-contains}
use Rattle.std.proofs.lemmas.Bool.{or_right}
use Rattle.dma_pool.specs.Pools.{IsApart, granules_for}
use Rattle.dma_pool.specs.Blocks.{run_at}
use Rattle.hda_world.specs.declared.world.TheConstants.{REGION_BYTES}
use Rattle.command_engine.specs.Blocks.{corb_bytes, rirb_bytes, are_apart}
use Rattle.command_engine.specs.Fetchings.{HasBlocks}
use Rattle.command_engine.specs.Quiet.{IsBlockAddress}
use Rattle.period_writer.specs.declared.geometry.Geometry.{Geometry}
use Rattle.driver_progress.specs.Tasks.{Blocks}
use Rattle.program_runs.specs.FirstFits.{AreFirstFits}
use Rattle.dma_pool.proofs.Callers.{AddsRun-has}

lie_apart : (corb rirb : ℕ) → corb % 128 ≡ 0 → rirb % 128 ≡ 0 → IsApart (rirb / 128) (granules_for rirb_bytes) (run_at corb corb_bytes) → are_apart corb rirb ≡ true
lie_apart corb rirb aligned aligned' (inl before) =
    let less : corb + corb_bytes ≤ rirb = omega (arith, before, aligned, aligned') in
    let is : nat_le (corb + corb_bytes) rirb ≡ true = search (rules, less) in
    ap (λ (b : Bool). b || nat_le (rirb + rirb_bytes) corb) is
lie_apart corb rirb aligned aligned' (inr behind) =
    let less : rirb + rirb_bytes ≤ corb = omega (arith, behind, aligned, aligned') in
    or_right (nat_le (corb + corb_bytes) rirb) (nat_le (rirb + rirb_bytes) corb) (search (rules, less))

-- both rings lie so
pub record LieWell (blocks : Blocks) : Type 0 where
  pub blocks_are : HasBlocks blocks.corb blocks.rirb REGION_BYTES
  pub corb : IsBlockAddress blocks.corb
  pub rirb : IsBlockAddress blocks.rirb

inside : (address bytes count granules : ℕ) → address % 128 ≡ 0 → address / 128 + count ≤ granules → bytes ≡ 128 * count → granules ≡ 32768 → address + bytes ≤ 4194304
inside address bytes count granules aligned within size all = omega (arith, aligned, within, size, all)

pub lie_well : (geometry : Geometry) (blocks : Blocks) → AreFirstFits geometry blocks → LieWell blocks
lie_well geometry blocks fits =
    let corb = blocks.corb in
    let rirb = blocks.rirb in
    let first = fits.opens.engine.corb_taken in
    let second = fits.opens.engine.rirb_taken in
    let whole = fits.all_free.granules in
    let below : corb + corb_bytes ≤ REGION_BYTES = inside corb corb_bytes (granules_for corb_bytes) fits.free.granules fits.corb_aligned first.fits.free.within refl whole in
    let above : rirb + rirb_bytes ≤ REGION_BYTES = inside rirb rirb_bytes (granules_for rirb_bytes) fits.free.granules fits.rirb_aligned second.fits.free.within refl whole in
    let beside = All-contains (IsApart (rirb / 128) (granules_for rirb_bytes)) fits.opens.engine.middle (run_at corb corb_bytes) second.fits.free.apart (AddsRun-has fits.free.taken (run_at corb corb_bytes) fits.opens.engine.middle first.adds) in
    record {
      blocks_are = record { corb_inside = below; rirb_inside = above; apart = lie_apart corb rirb fits.corb_aligned fits.rirb_aligned beside };
      corb = record { aligned = fits.corb_aligned; narrow = omega (arith, below) };
      rirb = record { aligned = fits.rirb_aligned; narrow = omega (arith, above) };
    }
