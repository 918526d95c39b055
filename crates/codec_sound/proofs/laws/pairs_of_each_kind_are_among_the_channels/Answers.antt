use Rattle.codec_sound.proofs.Callers.{among-signal_of}
use Rattle.codec_sound.proofs.laws.pairs_of_each_kind_are_among_the_channels.Goals as goal

pub returns : goal.returns
returns c = among-signal_of
