use Rattle.std.proofs.Common.{sym, subst}
use Rattle.std.specs.Prelude.{Contains}
use Rattle.dma_pool.specs.Blocks.{run_at}
use Rattle.command_engine.specs.Engines.{EngineState}
use Rattle.command_engine.specs.Blocks.{corb_bytes, rirb_bytes}
use Rattle.period_writer.specs.Writers.{periods_of}
use Rattle.audio_driver.specs.Closing.{GivesBack}
use Rattle.audio_driver.proofs.Back.{as_before}
use Rattle.audio_driver.proofs.driver.Driver.abandon.Goals as goal

pub give_back-requires-clause-corb : goal.give_back-requires-clause-corb
give_back-requires-clause-corb g c =
    subst (λ (engine : EngineState). Contains c.self.inside.pool.taken (run_at engine.corb.address corb_bytes)) (sym c.parts-engine.ensures.engine) c.self.invariant.owns_corb

pub give_back-requires-clause-rirb : goal.give_back-requires-clause-rirb
give_back-requires-clause-rirb g c =
    subst (λ (engine : EngineState). Contains c.self.inside.pool.taken (run_at engine.rirb.address rirb_bytes)) (sym c.parts-engine.ensures.engine) c.self.invariant.owns_rirb

pub returns-clause-gives : goal.returns-clause-gives
returns-clause-gives g c =
    let writer = c.self.inside.writer in
    rw (← c.self.view_is) (subst (λ (one : EngineState). GivesBack writer.geometry c.self.inside.pool one.corb.address one.rirb.address writer.list.address (periods_of writer) c.give_back.new.pool) c.parts-engine.ensures.engine c.give_back.ensures.gives)

pub returns-clause-pool : goal.returns-clause-pool
returns-clause-pool g c = λ before takes.
    let driver = c.args.self in
    as_before driver.writer.geometry before driver.pool c.give_back.new.pool driver.bring_up.engine.corb.address driver.bring_up.engine.rirb.address driver.writer.list.address (periods_of driver.writer) takes (returns-clause-gives g c)
