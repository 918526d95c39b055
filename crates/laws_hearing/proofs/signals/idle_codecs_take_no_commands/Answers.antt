use Rattle.laws_hearing.proofs.IdleCodecs.{nothing_taken}
use Rattle.laws_hearing.proofs.signals.idle_codecs_take_no_commands.Goals as goal

pub returns : goal.returns
returns c = nothing_taken
