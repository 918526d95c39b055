use Rattle.std.proofs.Common.{◌∙◌, List, length, sym, subst, ap, arith}
use Rattle.std.specs.Prelude.{Contains}
use Rattle.dma_pool.specs.Blocks.{run_at}
use Rattle.command_engine.specs.Engines.{EngineState}
use Rattle.command_engine.specs.Blocks.{corb_bytes, rirb_bytes}
use Rattle.period_writer.specs.declared.course.Run.{Run}
use Rattle.period_writer.specs.declared.geometry.Geometry.{Geometry}
use Rattle.period_writer.specs.Writers.{periods_of}
use Rattle.audio_driver.proofs.Kept.{opened_tally, not_begun}
use Rattle.audio_driver.proofs.Taken.{opens_keep}
use Rattle.audio_driver.proofs.driver.Driver.open_blocks.Goals as goal

pub invariant_of-result : goal.invariant_of-result
invariant_of-result g c =
    let engine = c.in-Ok.engine in
    let writer = c.in-Ok-open.writer in
    let pool = c.open-2.new.pool in
    let none = ap (λ (runs : List Run). length runs) c.in-Ok-open.ensures.runs in
    record {
      owns_corb = subst (λ (one : EngineState). Contains pool.taken (run_at one.corb.address corb_bytes)) (sym c.in-Ok-new.ensures.engine)
          (opens_keep c.args.geometry c.open.new.pool writer.list.address (periods_of writer) pool (run_at engine.corb.address corb_bytes) c.in-Ok-open.ensures.opens c.in-Ok.ensures.owns_corb);
      owns_rirb = subst (λ (one : EngineState). Contains pool.taken (run_at one.rirb.address rirb_bytes)) (sym c.in-Ok-new.ensures.engine)
          (opens_keep c.args.geometry c.open.new.pool writer.list.address (periods_of writer) pool (run_at engine.rirb.address rirb_bytes) c.in-Ok-open.ensures.opens c.in-Ok.ensures.owns_rirb);
      owns_ring = c.in-Ok-open.ensures.owns;
      formats = c.in-Ok-new.ensures.format ∙ c.format.ensures ∙ ap (λ (geometry : Geometry). geometry.format) (sym c.in-Ok-open.ensures.geometry);
      records = (let records = c.in-Ok-open.ensures.records in omega (arith, records));
      few_runs = c.requires.few;
      few_calls = omega arith;
      few_looks = (let looks = c.in-Ok-new.ensures.looks in omega (arith, looks));
      few_recorded = omega (arith, none);
      fresh = λ fresh. opened_tally writer c.in-Ok-open.ensures.runs c.in-Ok-open.ensures.silences c.in-Ok-open.ensures.course;
      begun = λ started. absurd (not_begun writer c.in-Ok-open.ensures.course started);
    }

pub give_back-requires-clause-corb : goal.give_back-requires-clause-corb
give_back-requires-clause-corb g c =
    let writer = c.in-Ok-open.writer in
    subst (λ (one : EngineState). Contains c.open-2.new.pool.taken (run_at one.corb.address corb_bytes)) (sym c.in-Err-new.ensures.given_back)
    (opens_keep c.args.geometry c.open.new.pool writer.list.address (periods_of writer) c.open-2.new.pool (run_at c.in-Ok.engine.corb.address corb_bytes) c.in-Ok-open.ensures.opens c.in-Ok.ensures.owns_corb)

pub give_back-requires-clause-rirb : goal.give_back-requires-clause-rirb
give_back-requires-clause-rirb g c =
    let writer = c.in-Ok-open.writer in
    subst (λ (one : EngineState). Contains c.open-2.new.pool.taken (run_at one.rirb.address rirb_bytes)) (sym c.in-Err-new.ensures.given_back)
    (opens_keep c.args.geometry c.open.new.pool writer.list.address (periods_of writer) c.open-2.new.pool (run_at c.in-Ok.engine.rirb.address rirb_bytes) c.in-Ok-open.ensures.opens c.in-Ok.ensures.owns_rirb)
