use Rattle.std.proofs.Common.{◌≡◌, ℕ, None, Some, rules, arith, sym, ◌∙◌, subst, ap}
use Rattle.hda_world.specs.Tellings.{Between, Makes}
use Rattle.hda_world.proofs.Callers.{rows}
use Rattle.command_engine.specs.Starting as spec
use Rattle.command_engine.specs.Quiet.{IsBlockAddress}
use Rattle.command_engine.specs.Engines.{EngineState}
use Rattle.command_engine.proofs.Starts.{starts_not, starts_so}
use Rattle.command_engine.proofs.Tells.{start_tells}
use Rattle.command_engine.proofs.engine.Engine.start.Goals as goal

pub returns-in_default-clause-starts : goal.returns-in_default-clause-starts
returns-in_default-clause-starts g c =
    let none : spec.rings_found c.read-status.result c.read-corb_size.result c.read-rirb_size.result ≡ None = grind (arith, c.rings_found.ensures, c.in_default.is) in
    starts_not c.args.self.now.corb.address c.args.self.now.rirb.address c.read-status.result c.read-corb_size.result c.read-rirb_size.result c.args.self.now.rings (g.P.Platform.told c.args.platform.now) (g.P.Platform.told c.read-rirb_size.new.self)
    none (search (rules, rows) depth 20)

pub returns-clause-starts : goal.returns-clause-starts
returns-clause-starts g c =
    let some : spec.rings_found c.read-status.result c.read-corb_size.result c.read-rirb_size.result ≡ Some c.in-Some.rings = sym c.rings_found.ensures ∙ c.in-Some.is in
    let seen = c.self.view_is in
    let corb_at : c.address.result ≡ c.args.self.now.corb.address = c.address.ensures.value ∙ ap (λ (engine : EngineState). engine.corb.address) seen in
    let rirb_at : c.address-2.result ≡ c.args.self.now.rirb.address = c.address-2.ensures.value ∙ ap (λ (engine : EngineState). engine.rirb.address) seen in
    let corb = subst (λ (at : ℕ). spec.SetsCorb at c.read-status.result (g.P.Platform.told c.read-rirb_size.new.self) (g.P.Platform.told c.set_corb.new.platform)) corb_at c.set_corb.ensures.made in
    let rirb = subst (λ (at : ℕ). Between (Makes (spec.rirb_accesses at c.in-Some.rings.rirb)) (g.P.Platform.told c.set_corb.new.platform) (g.P.Platform.told c.set_rirb.new.platform)) rirb_at c.set_rirb.ensures.made in
    subst (λ (answer : ℕ). spec.Starts c.args.self.now.corb.address c.args.self.now.rirb.address c.args.self.now.rings answer c.in-Some.rings (g.P.Platform.told c.args.platform.now) (g.P.Platform.told c.set_rirb.new.platform)) (sym c.codecs_in.ensures)
    (starts_so c.args.self.now.corb.address c.args.self.now.rirb.address c.read-status.result c.read-corb_size.result c.read-rirb_size.result corb.pointer_reset corb.pointer_ready c.args.self.now.rings c.in-Some.rings
    (g.P.Platform.told c.args.platform.now) (g.P.Platform.told c.read-rirb_size.new.self) (g.P.Platform.told c.set_corb.new.platform) (g.P.Platform.told c.set_rirb.new.platform) some (search (rules, rows) depth 20) corb.made rirb)

pub returns-clause-tells : goal.returns-clause-tells
returns-clause-tells g c =
    let corb = c.args.self.now.corb in
    let rirb = c.args.self.now.rirb in
    let corb_block : IsBlockAddress c.args.self.now.corb.address = record { aligned = corb.aligned; narrow = let inside = corb.inside in omega arith } in
    let rirb_block : IsBlockAddress c.args.self.now.rirb.address = record { aligned = rirb.aligned; narrow = let inside = rirb.inside in omega arith } in
    start_tells c.args.self.now.corb.address c.args.self.now.rirb.address c.codecs_in.result c.args.self.now.rings c.in-Some.rings (g.P.Platform.told c.args.platform.now) (g.P.Platform.told c.set_rirb.new.platform) corb_block rirb_block (returns-clause-starts g c)
