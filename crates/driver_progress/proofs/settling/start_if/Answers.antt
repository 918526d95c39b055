use Rattle.std.proofs.Common.{◌≡◌, ◌≢◌, ℕ, [], length, Bool, refl, sym, ap, subst, ◌∙◌}
use Rattle.command_engine.proofs.Callers.{made_none}
use Rattle.command_engine.specs.Starting.{StartReads}
use Rattle.command_engine.specs.Told.{Begins}
use Rattle.hda_world.specs.Tellings.{Telling, world_of, Makes}
use Rattle.hda_world.proofs.Callers.{told_map}
use Rattle.driver_progress.specs.declared.settling.Settled.TheVariants.{TooEarly, NoCodec, Codecs}
use Rattle.driver_progress.specs.Settling.{StartsIf, codecs_found}
use Rattle.driver_progress.specs.Announcing.{StartLeads}
use Rattle.driver_progress.proofs.settling.start_if.Goals as goal

none_read : StartReads
none_read = record { status = 0; corb_size = 0; rirb_size = 0; pointer_reset = 0; pointer_ready = 0 }

pub returns-then-settled-clause-starts : goal.returns-then-settled-clause-starts
returns-then-settled-clause-starts g c =
    let starts = c.start-codecs.ensures.starts in
    subst (λ (settled : Bool). StartsIf settled c.args.engine.now.corb.address c.args.engine.now.rirb.address c.args.engine.now.rings c.found.result c.start-codecs.new.self.rings
    (g.P.Platform.told c.args.platform.now) (g.P.Platform.told c.start-codecs.new.platform)) (sym c.if-settled.true)
    (record { reads = starts.reads; made = starts.made; answer_is = c.found.ensures ∙ ap codecs_found starts.answer_is; rings_are = starts.rings_are })

pub returns-else-settled-clause-starts : goal.returns-else-settled-clause-starts
returns-else-settled-clause-starts g c =
    subst (λ (settled : Bool). StartsIf settled c.args.engine.now.corb.address c.args.engine.now.rirb.address c.args.engine.now.rings _ c.args.engine.now.rings
    (g.P.Platform.told c.args.platform.now) (g.P.Platform.told c.args.platform.now)) (sym c.if-settled.false)
    (record { reads = none_read; made = made_none (g.P.Platform.told c.args.platform.now); answer_is = refl; rings_are = refl })

no_codecs : (bits : ℕ) → NoCodec ≡ Codecs bits → ⊥
no_codecs bits is = cc

not_early : (bits : ℕ) → TooEarly ≡ Codecs bits → ⊥
not_early bits is = cc

pub returns-then-settled-clause-tells : goal.returns-then-settled-clause-tells
returns-then-settled-clause-tells g c =
    told_map {Before = Begins c.args.engine.now.corb.address c.args.engine.now.rirb.address c.start-codecs.result c.start-codecs.new.self.rings}
    {After = StartLeads c.args.engine.now.corb.address c.args.engine.now.rirb.address c.start-codecs.new.self.rings c.found.result} (λ (old : Telling) (new : Telling) begins bits is can.
    let some : c.start-codecs.result ≢ 0 = λ (none : c.start-codecs.result ≡ 0). no_codecs bits (sym (ap codecs_found none) ∙ sym c.found.ensures ∙ is) in
    record { read = length (world_of old).written; stands = begins some can }) c.start-codecs.ensures.tells

pub returns-else-settled-clause-tells : goal.returns-else-settled-clause-tells
returns-else-settled-clause-tells g c =
    told_map {Before = Makes []} {After = StartLeads c.args.engine.now.corb.address c.args.engine.now.rirb.address c.args.engine.now.rings TooEarly} (λ (old : Telling) (new : Telling) makes bits is can.
    absurd (not_early bits is)) (made_none (g.P.Platform.told c.args.platform.now))
