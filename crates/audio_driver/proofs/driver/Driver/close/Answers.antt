use Rattle.std.proofs.Common.{◌≡◌, ap, sym, subst, ◌∙◌}
use Rattle.std.specs.Prelude.{Contains}
use Rattle.dma_pool.specs.declared.blocks.Lent.{Lent}
use Rattle.dma_pool.specs.Blocks.{run_at}
use Rattle.command_engine.specs.Engines.{EngineState}
use Rattle.command_engine.specs.Blocks.{corb_bytes, rirb_bytes}
use Rattle.period_writer.specs.Blocks.{addresses_of}
use Rattle.period_writer.specs.Writers.{tally_of, periods_of}
use Rattle.period_writer.proofs.Callers.{owns_on}
use Rattle.audio_driver.proofs.Kept.{asking_in, closed_ready}
use Rattle.audio_driver.proofs.Back.{as_before, gives_at}
use Rattle.audio_driver.proofs.driver.Driver.close.Goals as goal

pub give_back-runs-requires-clause-corb : goal.give_back-runs-requires-clause-corb
give_back-runs-requires-clause-corb g c =
    let same = ap (λ (engine : EngineState). engine.corb) c.parts-engine.ensures.engine ∙ c.end_call-ended.ensures.kept.corb in
    subst (λ (lent : Lent). Contains c.self.inside.pool.taken (run_at lent.address corb_bytes)) (sym same) c.self.invariant.owns_corb

pub give_back-runs-requires-clause-rirb : goal.give_back-runs-requires-clause-rirb
give_back-runs-requires-clause-rirb g c =
    let same = ap (λ (engine : EngineState). engine.rirb) c.parts-engine.ensures.engine ∙ c.end_call-ended.ensures.kept.rirb in
    subst (λ (lent : Lent). Contains c.self.inside.pool.taken (run_at lent.address rirb_bytes)) (sym same) c.self.invariant.owns_rirb

pub give_back-runs-requires-clause-ring : goal.give_back-runs-requires-clause-ring
give_back-runs-requires-clause-ring g c =
    owns_on c.self.inside.pool.taken c.self.inside.writer c.end_call-ended.new.writer c.end_call-ended.ensures.keeps c.self.invariant.owns_ring

pub returns-in-Ok-clause-gives : goal.returns-in-Ok-clause-gives
returns-in-Ok-clause-gives g c =
    let writer = c.self.inside.writer in
    let after = c.end_call-ended.new.writer in
    let corb = c.self.inside.bring_up.engine.corb in
    let rirb = c.self.inside.bring_up.engine.rirb in
    let engine = c.parts-engine.result.engine in
    let same_corb : engine.corb ≡ corb = ap (λ (one : EngineState). one.corb) c.parts-engine.ensures.engine ∙ c.end_call-ended.ensures.kept.corb in
    let same_rirb : engine.rirb ≡ rirb = ap (λ (one : EngineState). one.rirb) c.parts-engine.ensures.engine ∙ c.end_call-ended.ensures.kept.rirb in
    rw (← c.self.view_is)
    (gives_at writer.geometry after.geometry c.self.inside.pool corb.address engine.corb.address rirb.address engine.rirb.address writer.list.address after.list.address (periods_of writer) (periods_of after) c.give_back-runs.new.pool
    c.end_call-ended.ensures.keeps.geometry (ap (λ (lent : Lent). lent.address) same_corb) (ap (λ (lent : Lent). lent.address) same_rirb) (ap (λ (lent : Lent). lent.address) c.end_call-ended.ensures.keeps.list) (ap addresses_of c.end_call-ended.ensures.keeps.periods) c.give_back-runs.ensures.gives)

pub returns-in-Ok-clause-pool : goal.returns-in-Ok-clause-pool
returns-in-Ok-clause-pool g c = λ before takes.
    let driver = c.args.self in
    as_before driver.writer.geometry before driver.pool c.give_back-runs.new.pool driver.bring_up.engine.corb.address driver.bring_up.engine.rirb.address driver.writer.list.address (periods_of driver.writer) takes (returns-in-Ok-clause-gives g c)

pub returns-in-Ok-clause-closes : goal.returns-in-Ok-clause-closes
returns-in-Ok-clause-closes g c = rw (← c.self.view_is) (λ sound may last.
    let ended = c.end_call-ended.new.bring_up in
    let after = c.end_call-ended.new.writer in record {
      ended = ended;
      tally = tally_of after;
      ends = c.in-Ok.ensures.ends;
      recorded = c.end_call-ended.ensures.recorded;
      sounds = λ plays. c.end_call-ended.ensures.sounds plays sound may last;
      grows = c.end_call-ended.ensures.grows;
      ready = closed_ready c.self.inside.play c.self.inside.bring_up ended c.self.inside.writer (tally_of after) c.self.invariant.begun c.end_call-ended.ensures.recorded
          (λ plays. (c.end_call-ended.ensures.sounds plays sound may last).phase);
      phase = c.phase_of-phase.ensures;
      sent = c.sent-sent.ensures;
      graphs = c.parts-engine.ensures.graphs;
      plans = c.parts-engine.ensures.plans;
      jacks = c.parts-engine.ensures.jacks;
      runs = c.give_back-runs.ensures.runs;
      silences = c.give_back-runs.ensures.silences;
    })

pub returns-clause-cause : goal.returns-clause-cause
returns-clause-cause g c = rw (← c.self.view_is) (asking_in c.self.inside.play c.self.inside.bring_up c.self.inside.writer c.self.invariant.begun c.in-Err.ensures.cause)

pub returns-clause-wanting : goal.returns-clause-wanting
returns-clause-wanting g c = rw (← c.self.view_is) (c.end_call-ended.new.bring_up, c.in-Err.ensures.wanting)
