use Rattle.codec_walk.proofs.Counting.{count_walk}
use Rattle.codec_walk.proofs.laws.counts_the_commands.Goals as goal

pub returns : goal.returns
returns c = λ codec. count_walk codec
