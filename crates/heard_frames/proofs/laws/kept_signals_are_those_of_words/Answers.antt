use Rattle.codec_graph.specs.declared.pin_kind.PinKind.TheVariants.{Analog}
use Rattle.heard_frames.proofs.HeardLists.{signal_by-word}
use Rattle.heard_frames.proofs.laws.kept_signals_are_those_of_words.Goals as goal

pub returns : goal.returns
returns c = signal_by-word Analog
