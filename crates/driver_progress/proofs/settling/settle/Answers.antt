use Rattle.std.proofs.Common.{◌≡◌, Bool, subst}
use Rattle.hda_world.specs.Events.{Read}
use Rattle.hda_registers.specs.declared.shapes.Width.TheVariants.{Four}
use Rattle.hda_world.specs.Tellings.{Telling, Accessed, Makes, Then, Between}
use Rattle.hda_world.proofs.Callers.{told_both, told_map, told_pair}
use Rattle.driver_progress.specs.Expected.{has_settled}
use Rattle.driver_progress.specs.Settling.{start_if, found_if}
use Rattle.driver_progress.specs.Announcing.{StartLeads, LeadsToRings}
use Rattle.driver_progress.proofs.SettleWorlds.{settle_told}
use Rattle.driver_progress.proofs.settling.settle.Goals as goal

pub returns-clause-tells : goal.returns-clause-tells
returns-clause-tells g c =
    let corb = c.args.engine.now.corb.address in
    let rirb = c.args.engine.now.rirb.address in
    let clock = c.read-clock.result in
    let starts = c.start_if.ensures.starts in
    let had : c.has_settled.result ≡ has_settled c.args.kept clock = c.has_settled.ensures in
    let made = subst (λ (had : Bool). Between (Makes (start_if had corb rirb starts.reads)) (g.P.Platform.told c.read-clock.new.self) (g.P.Platform.told c.start_if.new.platform)) had starts.made in
    let answer = subst (λ (had : Bool). c.start_if.result ≡ found_if had starts.reads) had starts.answer_is in
    told_map {Before = Then (λ (old : Telling) (mid : Telling). Accessed old mid (Read 0x30 Four clock))
    (λ (mid : Telling) (new : Telling). Makes (start_if (has_settled c.args.kept clock) corb rirb starts.reads) mid new × StartLeads corb rirb c.start_if.new.engine.rings c.start_if.result mid new)}
    {After = LeadsToRings corb rirb c.start_if.new.engine.rings c.start_if.result}
    (λ (old : Telling) (new : Telling) both settling.
    settle_told corb rirb c.args.kept clock c.start_if.new.engine.rings starts.reads c.start_if.result old both.0 new both.1 both.2.0 answer both.2.1 settling)
    (told_both c.read-clock.ensures.told (told_pair made c.start_if.ensures.tells))
