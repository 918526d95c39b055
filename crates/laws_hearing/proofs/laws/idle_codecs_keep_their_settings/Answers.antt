use Rattle.laws_hearing.proofs.IdleCodecs.{events_idle}
use Rattle.laws_hearing.proofs.laws.idle_codecs_keep_their_settings.Goals as goal

pub returns : goal.returns
returns c = events_idle
