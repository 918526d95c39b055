use Rattle.std.proofs.Common.{subst, sym, ap, ◌∙◌}
use Rattle.command_engine.specs.Engines.{EngineState}
use Rattle.command_engine.specs.Polling.{Polls, poll_of, still_outstanding}
use Rattle.command_engine.proofs.Readings.{polled}
use Rattle.command_engine.proofs.Tells.{poll_tells}
use Rattle.command_engine.proofs.engine.Engine.poll.Goals as goal

pub returns-clause-polls : goal.returns-clause-polls
returns-clause-polls g c =
    let seen = c.self.view_is in
    let found = c.read_new-found.result in
    let answer = c.poll_of-answer.ensures ∙ ap (λ (engine : EngineState). poll_of engine.rings.outstanding found c.args.clock) seen in
    let left = c.still_outstanding-self-inside.ensures ∙ ap (λ (engine : EngineState). still_outstanding engine.rings.outstanding found) seen in
    subst (λ (engine : EngineState). Polls c.args.self.now.rirb.address c.args.clock c.args.self.now.rings c.poll_of-answer.result (record engine.rings { outstanding = c.still_outstanding-self-inside.result }) engine.events (g.P.Platform.told c.args.platform.now) (g.P.Platform.told c.read_new-found.new.platform)) (sym seen)
    (polled c.args.self.now.rirb.address c.args.clock c.read-flag.result c.args.self.now.rings c.read_new-found.new.self.rings found c.poll_of-answer.result c.still_outstanding-self-inside.result c.read_new-found.new.self.events
    (g.P.Platform.told c.args.platform.now) (g.P.Platform.told c.read-flag.new.self) (g.P.Platform.told c.read_new-found.new.platform)
    c.read-flag.ensures.told c.read_new-found.ensures.reads answer left)

pub returns-clause-tells : goal.returns-clause-tells
returns-clause-tells g c =
    poll_tells c.args.clock c.args.self.now.corb.address c.args.self.now.rirb.address c.args.self.now.rings _ c.poll_of-answer.result c.self.inside.events.items
    (g.P.Platform.told c.args.platform.now) (g.P.Platform.told c.read_new-found.new.platform) (returns-clause-polls g c)
