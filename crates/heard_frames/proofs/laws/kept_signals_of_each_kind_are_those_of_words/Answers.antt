use Rattle.heard_frames.proofs.HeardLists.{signal_by-word}
use Rattle.heard_frames.proofs.laws.kept_signals_of_each_kind_are_those_of_words.Goals as goal

pub returns : goal.returns
returns c = signal_by-word
