use Rattle.codec_walk.proofs.Endings.{asks_told}
use Rattle.codec_walk.proofs.laws.asks_what_is_told.Goals as goal

pub returns : goal.returns
returns c = λ address answers codec e. asks_told address answers codec e
