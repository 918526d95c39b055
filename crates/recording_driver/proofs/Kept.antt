-- Tests and what they say.
use Rattle.std.proofs.Common.{◌≡◌, ◌≤◌, ◌<◌, ◌+◌, ℕ, Bool, true, false, not, None, List, [], length, refl, sym, ap, subst, ◌∙◌, arith}
use Rattle.std.specs.Prelude.{Contains}
use Rattle.dma_pool.specs.declared.blocks.Lent.{Lent}
use Rattle.dma_pool.specs.Blocks.{run_at}
use Rattle.dma_pool.specs.Pools.{PoolState}
use Rattle.command_engine.specs.Blocks.{corb_bytes, rirb_bytes}
use Rattle.period_writer.specs.declared.geometry.Geometry.{Geometry}
use Rattle.period_writer.specs.Rings.{period_bytes, list_bytes}
use Rattle.period_writer.specs.Blocks.{are_apart, addresses_of, IsBesideAll}
use Rattle.hda_capture.specs.Recorders.{RecorderState, KeepsRecorderRing, OwnsBlocks}
use Rattle.hda_capture.proofs.Callers.{recorder_owns_on}
use Rattle.recording_driver.specs.RecordingDrivers.{RecordingState, IsRecordingDriver, IsBesideRecorder}
use Rattle.hda_capture.specs.declared.course.Recorded.{Recorded}
use Rattle.hda_capture.specs.declared.course.Recorded.TheVariants.{Recording, Complete, Late}
use Rattle.recording_driver.specs.RecordRules.{records_on}

pub was_not : (b : Bool) → not b ≡ true → b ≡ false
was_not true is = cc
was_not false is = refl

pub was_so : (b : Bool) → not b ≡ false → b ≡ true
was_so true is = refl
was_so false is = cc

-- where a run comes next the stream records
pub on_records : (recorded : Recorded) → records_on recorded ≡ true → recorded ≡ Recording
on_records Recording on = refl
on_records Complete on = cc
on_records (Late from to) on = cc

-- ---- what a call keeps

-- the ring of responses stays beside the recorder's
beside_on : (address address' : ℕ) (old new : RecorderState) → address' ≡ address → KeepsRecorderRing old new → IsBesideRecorder address rirb_bytes old → IsBesideRecorder address' rirb_bytes new
beside_on address address' old new at keeps beside = record {
  list = ap (λ (address : ℕ). are_apart address rirb_bytes new.list.address (list_bytes new.geometry.periods)) at
      ∙ ap (λ (list : Lent). are_apart address rirb_bytes list.address (list_bytes new.geometry.periods)) keeps.list
      ∙ ap (λ (geometry : Geometry). are_apart address rirb_bytes old.list.address (list_bytes geometry.periods)) keeps.geometry
      ∙ beside.list;
  periods = subst (λ (address : ℕ). IsBesideAll address rirb_bytes (period_bytes new.geometry.period) (addresses_of new.periods)) (sym at)
      (subst (λ (geometry : Geometry). IsBesideAll address rirb_bytes (period_bytes geometry.period) (addresses_of new.periods)) (sym keeps.geometry)
      (subst (λ (periods : List Lent). IsBesideAll address rirb_bytes (period_bytes old.geometry.period) (addresses_of periods)) (sym keeps.periods) beside.periods));
}

-- a driver is one after a call
pub called_on : (old new : RecordingState) → IsRecordingDriver old → old.calls < old.runs → new.engine.rings.started ≡ old.engine.rings.started → new.engine.rings.outstanding ≡ None → new.engine.events ≡ []
    → new.engine.corb ≡ old.engine.corb → new.engine.rirb ≡ old.engine.rirb → KeepsRecorderRing old.recorder new.recorder → length new.recorder.runs ≤ length old.recorder.runs + 1
    → new.pool ≡ old.pool → new.runs ≡ old.runs → new.calls ≡ old.calls + 1 → IsRecordingDriver new
called_on old new is few started idle quiet corb rirb keeps recorded pool runs calls = record {
  started = started ∙ is.started;
  idle = idle;
  quiet = quiet;
  owns_corb = subst (λ (pool : PoolState). Contains pool.taken (run_at new.engine.corb.address corb_bytes)) (sym pool)
      (subst (λ (corb : Lent). Contains old.pool.taken (run_at corb.address corb_bytes)) (sym corb) is.owns_corb);
  owns_rirb = subst (λ (pool : PoolState). Contains pool.taken (run_at new.engine.rirb.address rirb_bytes)) (sym pool)
      (subst (λ (rirb : Lent). Contains old.pool.taken (run_at rirb.address rirb_bytes)) (sym rirb) is.owns_rirb);
  owns_ring = subst (λ (pool : PoolState). OwnsBlocks pool.taken new.recorder) (sym pool) (recorder_owns_on old.pool.taken old.recorder new.recorder keeps is.owns_ring);
  beside_rirb = beside_on old.engine.rirb.address new.engine.rirb.address old.recorder new.recorder (ap (λ (rirb : Lent). rirb.address) rirb) keeps is.beside_rirb;
  records = keeps.records ∙ is.records ∙ ap (λ (runs : ℕ). runs + 1) (sym runs);
  few_calls = omega (arith, few, runs, calls);
  few_recorded = (let before = is.few_recorded in omega (arith, before, recorded, calls));
}
