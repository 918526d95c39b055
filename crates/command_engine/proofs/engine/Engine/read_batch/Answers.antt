use Rattle.std.proofs.Common.{subst, ap, ◌∙◌}
use Rattle.command_engine.specs.Engines.{EngineState}
use Rattle.command_engine.specs.Reading.{ReadsBatch}
use Rattle.command_engine.proofs.Readings.{batch_read}
use Rattle.command_engine.proofs.engine.Engine.read_batch.Goals as goal

pub returns-clause-reads : goal.returns-clause-reads
returns-clause-reads g c =
    let engine = c.self.inside in
    subst (λ (seen : EngineState). ReadsBatch seen.rirb.address seen.rings c.read_entries-found.result (record engine.rings { read = c.read_to-self-inside.result }) c.read_entries-found.new.events.items (g.P.Platform.told c.args.platform.now) (g.P.Platform.told c.write.new.self)) c.self.view_is
    (batch_read engine.rirb.address engine.rings c.read-pointer.result c.new_entries-count.result c.read_to-self-inside.result engine.events.items c.read_entries-found.new.events.items c.read_entries-found.result
    (g.P.Platform.told c.args.platform.now) (g.P.Platform.told c.read-pointer.new.self) (g.P.Platform.told c.read_entries-found.new.platform) (g.P.Platform.told c.write.new.self)
    c.read-pointer.ensures.told c.read_entries-found.ensures.reads c.write.ensures.told (ap (λ (seen : EngineState). seen.events) c.self.view_is ∙ c.requires.events) c.new_entries-count.ensures.value c.read_to-self-inside.ensures.value)
