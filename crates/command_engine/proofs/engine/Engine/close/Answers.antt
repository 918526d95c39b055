use Rattle.std.proofs.Common.{◌∙◌, subst}
use Rattle.dma_pool.proofs.Callers.{adds_at}
use Rattle.command_engine.specs.Opening.{GivesBack}
use Rattle.command_engine.specs.Engines.{EngineState}
use Rattle.command_engine.proofs.engine.Engine.close.Goals as goal

pub returns : goal.returns
returns c =
    let kept = c.self.invariant.0 in
    subst (λ (engine : EngineState). GivesBack c.args.pool.now engine.corb.address engine.rirb.address c.give-2.new.self) c.self.view_is (record {
      middle = c.give.new.self.taken;
      corb_given = adds_at _ _ _ _ _ _ c.back.ensures.address (c.back.ensures.bytes ∙ kept.corb_size) c.give.ensures.gives;
      rirb_given = adds_at _ _ _ _ _ _ c.back-2.ensures.address (c.back-2.ensures.bytes ∙ kept.rirb_size) c.give-2.ensures.gives;
      granules = c.give-2.ensures.granules ∙ c.give.ensures.granules;
    })
