use Rattle.std.proofs.Common.{◌≡◌, Err, List, length, sym, ap, subst, arith}
use Rattle.std.specs.Prelude.{Contains}
use Rattle.dma_pool.specs.Blocks.{run_at}
use Rattle.dma_pool.specs.Pools.{PoolState}
use Rattle.command_engine.specs.Blocks.{corb_bytes, rirb_bytes}
use Rattle.hda_platform.specs.declared.open_fault.OpenFault.{OpenFault}
use Rattle.hda_platform.specs.declared.open_fault.OpenFault.TheVariants.{NoRun, OutOfMemory}
use Rattle.period_writer.specs.declared.geometry.Geometry.{Geometry}
use Rattle.period_writer.specs.Opening.{HasNoRuns, HasRuns}
use Rattle.period_writer.specs.Writers.{periods_of}
use Rattle.hda_capture.specs.declared.course.RecordedRun.{RecordedRun}
use Rattle.hda_capture.specs.Recorders as recorders
use Rattle.recording_driver.proofs.Blocks.{corb_differs, rirb_differs, ring_given, ring_taken, beside_recorder}
use Rattle.recording_driver.proofs.driver.RecordingDriver.open.Goals as goal

pub invariant_of-result : goal.invariant_of-result
invariant_of-result c =
    let parts = c.args.parts in
    let engine = parts.engine in
    let writer = parts.writer in
    let given = c.close.new.pool in
    let recorder = c.in-Ok.recorder in
    let pool = c.open.new.pool in
    let none = ap (λ (runs : List RecordedRun). length runs) c.in-Ok.ensures.runs in
    let records = c.in-Ok.ensures.records in
    let corb = ring_taken c.args.geometry given recorder.list.address (recorders.periods_of recorder) pool (run_at engine.corb.address corb_bytes) c.in-Ok.ensures.opens
    (ring_given writer.geometry parts.pool writer.list.address (periods_of writer) given engine.corb.address corb_bytes corb_differs c.close.ensures c.requires.blocks.owns_corb) in
    let rirb = ring_taken c.args.geometry given recorder.list.address (recorders.periods_of recorder) pool (run_at engine.rirb.address rirb_bytes) c.in-Ok.ensures.opens
    (ring_given writer.geometry parts.pool writer.list.address (periods_of writer) given engine.rirb.address rirb_bytes rirb_differs c.close.ensures c.requires.blocks.owns_rirb) in
    record {
      started = c.requires.idle.started;
      idle = c.requires.idle.idle;
      quiet = c.requires.idle.quiet;
      owns_corb = corb;
      owns_rirb = rirb;
      owns_ring = c.in-Ok.ensures.owns;
      beside_rirb = beside_recorder pool.granules pool.taken engine.rirb.address rirb_bytes recorder c.free-free.ensures.laid_out engine.rirb.aligned rirb rirb_differs c.in-Ok.ensures.owns;
      records = omega (arith, records);
      few_calls = omega arith;
      few_recorded = omega (arith, none);
    }

pub close-requires-in-Err-clause-corb : goal.close-requires-in-Err-clause-corb
close-requires-in-Err-clause-corb c =
    let parts = c.args.parts in
    subst (λ (pool : PoolState). Contains pool.taken (run_at parts.engine.corb.address corb_bytes)) (sym c.in-Err.ensures.unchanged)
    (ring_given parts.writer.geometry parts.pool parts.writer.list.address (periods_of parts.writer) c.close.new.pool parts.engine.corb.address corb_bytes corb_differs c.close.ensures c.requires.blocks.owns_corb)

pub close-requires-in-Err-clause-rirb : goal.close-requires-in-Err-clause-rirb
close-requires-in-Err-clause-rirb c =
    let parts = c.args.parts in
    subst (λ (pool : PoolState). Contains pool.taken (run_at parts.engine.rirb.address rirb_bytes)) (sym c.in-Err.ensures.unchanged)
    (ring_given parts.writer.geometry parts.pool parts.writer.list.address (periods_of parts.writer) c.close.new.pool parts.engine.rirb.address rirb_bytes rirb_differs c.close.ensures c.requires.blocks.owns_rirb)

pub returns-in-Err-clause-no_run : goal.returns-in-Err-clause-no_run
returns-in-Err-clause-no_run c = λ is. let same : c.in-Err.fault ≡ NoRun = cc in record {
  middle = c.close.new.pool;
  gives = c.close.ensures;
  none = subst (λ (geometry : Geometry). HasNoRuns geometry c.close.new.pool) c.requires.geometry (c.in-Err.ensures.no_run (ap (λ (fault : OpenFault). Err fault) same));
}

pub returns-in-Err-clause-no_memory : goal.returns-in-Err-clause-no_memory
returns-in-Err-clause-no_memory c = λ is. let same : c.in-Err.fault ≡ OutOfMemory = cc in record {
  middle = c.close.new.pool;
  gives = c.close.ensures;
  some = subst (λ (geometry : Geometry). HasRuns geometry c.close.new.pool) c.requires.geometry (c.in-Err.ensures.no_memory (ap (λ (fault : OpenFault). Err fault) same));
}
