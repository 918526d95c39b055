use Rattle.std.proofs.Common.{drop}
use Rattle.codec_sound.specs.declared.signals.Signal.TheVariants.{Pair}
use Rattle.heard_frames.specs.HeardLists.{block_size}
use Rattle.laws_hearing.proofs.LineHeard.{count_heard}
use Rattle.laws_hearing.proofs.Along.{one_along}
use Rattle.laws_hearing.proofs.Streaming.{steady_streams}
use Rattle.laws_hearing.proofs.laws.all_that_was_sent_is_heard.Goals as goal

pub returns : goal.returns
returns c = λ kind codecs tag word layout from world address pin pair known steady sent is.
    count_heard kind tag word layout known from world (steady_streams codecs tag word (block_size layout) from world steady) address pin (λ place. Pair pair)
    (one_along kind codecs tag word (block_size layout) layout address pin (Pair pair) (drop from world.carried) known steady.frames is) sent
