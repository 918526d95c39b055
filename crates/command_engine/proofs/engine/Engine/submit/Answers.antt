use Rattle.std.proofs.Common.{rules, sym, subst, ap, ◌∙◌}
use Rattle.hda_world.specs.Tellings.{Between, Makes}
use Rattle.hda_world.proofs.Callers.{rows}
use Rattle.command_engine.specs.declared.ring_places.RingPlaces.{RingPlaces}
use Rattle.command_engine.specs.declared.answers.Outstanding.{Outstanding}
use Rattle.command_engine.specs.Engines.{EngineState}
use Rattle.command_engine.specs.Submitting.{submit_accesses, rings_submitted}
use Rattle.command_engine.specs.Told as told
use Rattle.command_engine.proofs.Tells.{submit_tells}
use Rattle.command_engine.proofs.engine.Engine.submit.Goals as goal

pub returns-clause-tells : goal.returns-clause-tells
returns-clause-tells g c =
    let command : Outstanding = record { codec = c.args.command.codec; word = c.encode-word.result; issued = c.args.clock } in
    let made : Between (Makes (submit_accesses c.args.self.now.corb.address c.args.self.now.rings c.encode-word.result)) (g.P.Platform.told c.args.platform.now) (g.P.Platform.told c.write.new.self) = search (rules, rows) depth 20 in
    let rings = c.rings_submitted-self-inside.ensures ∙ ap (λ (engine : EngineState). rings_submitted engine.rings command) c.self.view_is in
    subst (λ (rings : RingPlaces). Between (told.LeadsOn c.args.self.now.corb.address c.args.self.now.rirb.address c.args.self.now.rings rings) (g.P.Platform.told c.args.platform.now) (g.P.Platform.told c.write.new.self)) (sym rings)
    (submit_tells c.args.self.now.corb.address c.args.self.now.rirb.address c.args.self.now.rings command (g.P.Platform.told c.args.platform.now) (g.P.Platform.told c.write.new.self) c.requires.idle c.encode-word.type_inv made)
