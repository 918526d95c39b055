use Rattle.std.proofs.Common.{◌≡◌, ◌∙◌, true, refl, sym, ap, subst}
use Rattle.std.specs.Prelude.{Contains}
use Rattle.dma_pool.specs.Blocks.{run_at}
use Rattle.command_engine.specs.Engines.{EngineState}
use Rattle.command_engine.specs.Blocks.{corb_bytes, rirb_bytes}
use Rattle.driver_progress.specs.Phases.{is_ready}
use Rattle.driver_progress.proofs.Callers.{ready_is}
use Rattle.audio_driver.specs.States.{phase_of}
use Rattle.audio_driver.specs.Parting.{IsBesideRing}
use Rattle.audio_driver.proofs.Parted.{not_started, ready_before, beside_ring, corb_differs, rirb_differs}
use Rattle.audio_driver.proofs.driver.Driver.into_parts.Goals as goal

pub returns-clause-parts : goal.returns-clause-parts
returns-clause-parts g c = rw (← c.self.view_is)
    (let bring_up = c.self.inside.bring_up in
    let writer = c.self.inside.writer in
    let pool = c.self.inside.pool in
    let ready : is_ready (phase_of c.self.inside.bring_up c.self.inside.writer) ≡ true =
    ap is_ready (sym c.phase_of.ensures) ∙ sym c.is_ready.ensures ∙ c.if-not-is_ready.false in
    let before = ready_before writer.course.started bring_up.phase writer.course.ran ready in
    let same = sym c.parts-engine.ensures.engine in
    let corb = c.self.invariant.owns_corb in
    let rirb = c.self.invariant.owns_rirb in
    record {
      ready = ready_is (phase_of bring_up writer) ready;
      engine = c.parts-engine.ensures.engine;
      writer = refl;
      supply = refl;
      pool = refl;
      graphs = c.parts-engine.ensures.graphs;
      plans = c.parts-engine.ensures.plans;
      sent = c.sent-sent.ensures;
      jacks = c.parts-engine.ensures.jacks;
      engine_idle = record {
        started = ap (λ (engine : EngineState). engine.rings.started) c.parts-engine.ensures.engine ∙ bring_up.runs before;
        idle = ap (λ (engine : EngineState). engine.rings.outstanding) c.parts-engine.ensures.engine ∙ bring_up.idle before;
        quiet = ap (λ (engine : EngineState). engine.events) c.parts-engine.ensures.engine ∙ bring_up.quiet;
      };
      fresh = c.self.invariant.fresh (not_started writer.course.started bring_up.phase writer.course.ran ready);
      records = c.self.invariant.records;
      blocks = record {
        owns_corb = subst (λ (engine : EngineState). Contains pool.taken (run_at engine.corb.address corb_bytes)) same corb;
        owns_rirb = subst (λ (engine : EngineState). Contains pool.taken (run_at engine.rirb.address rirb_bytes)) same rirb;
        owns_ring = c.self.invariant.owns_ring;
        beside_corb = subst (λ (engine : EngineState). IsBesideRing engine.corb.address corb_bytes writer) same
            (beside_ring pool.granules pool.taken bring_up.engine.corb.address corb_bytes writer c.free-free.ensures.laid_out bring_up.engine.corb.aligned corb corb_differs c.self.invariant.owns_ring);
        beside_rirb = subst (λ (engine : EngineState). IsBesideRing engine.rirb.address rirb_bytes writer) same
            (beside_ring pool.granules pool.taken bring_up.engine.rirb.address rirb_bytes writer c.free-free.ensures.laid_out bring_up.engine.rirb.aligned rirb rirb_differs c.self.invariant.owns_ring);
      };
    })
