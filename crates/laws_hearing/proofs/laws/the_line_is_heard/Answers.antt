use Rattle.codec_sound.specs.declared.signals.Signal.TheVariants.{Pair}
use Rattle.std.proofs.Common.{◌++◌, replicate, drop}
use Rattle.heard_frames.specs.HeardLists.{block_size, heard_as}
use Rattle.period_writer.specs.Lines.{line_of}
use Rattle.laws_hearing.proofs.LineHeard.{playing_heard, drained_heard, stopped_heard}
use Rattle.laws_hearing.proofs.Playing.{front_of_pair}
use Rattle.laws_hearing.proofs.Along.{one_along}
use Rattle.laws_hearing.proofs.Streaming.{steady_streams}
use Rattle.laws_hearing.proofs.laws.the_line_is_heard.Goals as goal

pub returns-clause-playing : goal.returns-clause-playing
returns-clause-playing c = λ kind codecs tag word layout from world address pin pair ring pcm tally known steady sent is playing few.
    front_of_pair layout pair (line_of tally pcm) (heard_as kind address pin (drop from world.carried))
    (playing_heard kind tag word layout known from world (steady_streams codecs tag word (block_size layout) from world steady) address pin (λ place. Pair pair)
    (one_along kind codecs tag word (block_size layout) layout address pin (Pair pair) (drop from world.carried) known steady.frames is) sent ring pcm tally playing few)

pub returns-clause-drained : goal.returns-clause-drained
returns-clause-drained c = λ kind codecs tag word layout from world address pin pair ring pcm tally known steady sent is drained.
    let by = drained_heard kind tag word layout known from world (steady_streams codecs tag word (block_size layout) from world steady) address pin (λ place. Pair pair)
    (one_along kind codecs tag word (block_size layout) layout address pin (Pair pair) (drop from world.carried) known steady.frames is) sent ring pcm tally drained in
    (by.0, front_of_pair layout pair (line_of tally pcm ++ replicate by.0 0) (heard_as kind address pin (drop from world.carried)) by.1)

pub returns-clause-stopped : goal.returns-clause-stopped
returns-clause-stopped c = λ kind codecs tag word layout from world address pin pair ring pcm tally since to limit known steady sent is stopped.
    stopped_heard kind tag word layout known from world (steady_streams codecs tag word (block_size layout) from world steady) address pin (λ place. Pair pair)
    (one_along kind codecs tag word (block_size layout) layout address pin (Pair pair) (drop from world.carried) known steady.frames is) sent ring pcm tally stopped
