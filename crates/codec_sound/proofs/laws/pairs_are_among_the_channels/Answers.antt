use Rattle.codec_graph.specs.declared.pin_kind.PinKind.TheVariants.{Analog}
use Rattle.codec_sound.proofs.Callers.{among-signal_of}
use Rattle.codec_sound.proofs.laws.pairs_are_among_the_channels.Goals as goal

pub returns : goal.returns
returns c = among-signal_of Analog
