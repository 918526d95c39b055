use Rattle.hda_registers.specs.declared.shapes.Width.TheVariants.{Four}
use Rattle.hda_world.specs.Events.{Read}
use Rattle.hda_world.specs.Tellings.{Telling, Accessed, Then}
use Rattle.hda_world.proofs.Callers.{told_both, told_map, accessed_then}
use Rattle.command_engine.specs.Told.{PollTellsOf}
use Rattle.command_engine.specs.Fetchings.{Stands}
use Rattle.command_engine.proofs.Callers.{responses_apart, keeps_standing}
use Rattle.driver_progress.proofs.commands.ask.Goals as goal

-- src/commands.rt:24:1
pub returns-clause-tells : goal.returns-clause-tells
returns-clause-tells g c =
    let corb = c.args.engine.now.corb.address in
    let rirb = c.args.engine.now.rirb.address in
    let rings = c.args.engine.now.rings in
    let clock = c.read-clock.result in
    let polls = PollTellsOf clock corb rirb rings c.poll-poll.result c.poll-poll.new.self.rings c.poll-poll.new.self.events in
    told_map {Before = Then (λ (old : Telling) (mid : Telling). Accessed old mid (Read 0x30 Four clock)) polls} {After = polls}
    (λ (old : Telling) (new : Telling) both from read stands.
    both.2 from read
    (accessed_then (Stands from read corb rirb rings) (Stands from read corb rirb rings) (Read 0x30 Four clock) (keeps_standing from read corb rirb rings responses_apart)
    (λ world there honest. there) old both.0 both.1 stands))
    (told_both {Second = polls} c.read-clock.ensures.told c.poll-poll.ensures.tells)
