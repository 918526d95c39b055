use Rattle.std.proofs.Common.{drop}
use Rattle.heard_frames.specs.HeardLists.{block_size}
use Rattle.laws_hearing.proofs.Along.{one_along}
use Rattle.laws_hearing.proofs.Streaming.{steady_streams}
use Rattle.laws_hearing.proofs.signals.steady_signals.Goals as goal

pub returns-clause-streams : goal.returns-clause-streams
returns-clause-streams c = steady_streams

pub returns-clause-along : goal.returns-clause-along
returns-clause-along c = λ kind codecs tag word layout from world address pin signal known steady is.
    one_along kind codecs tag word (block_size layout) layout address pin signal (drop from world.carried) known steady.frames is
