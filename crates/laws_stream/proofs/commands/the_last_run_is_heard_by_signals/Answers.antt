use Rattle.laws_stream.proofs.StreamRuns.{RowLaws, SignalLaws, finish_goes, over_hears, over_stays}
use Rattle.laws_stream.proofs.commands.the_last_run_is_heard_by_signals.Goals as goal

pub returns-clause-finish : goal.returns-clause-finish
returns-clause-finish c = λ ring pcm runs tally tally' answer old new events tells is plays course small little went goes.
    let rows : RowLaws = record { streams = c.streams_go_on.ensures.events; sent = c.streams_go_on.ensures.sent } in
    let laws : SignalLaws = record {
      playing = c.signals_are_heard.ensures.playing;
      drained = c.signals_are_heard.ensures.drained;
      stopped = c.signals_are_heard.ensures.stopped;
      all_sent = c.signals_are_heard.ensures.all_sent;
      alone = c.signals_are_heard.ensures.alone;
      longer = c.signals_are_heard.ensures.longer;
    } in
    finish_goes rows laws c.runs_append_to_the_line.ensures.grows ring pcm runs tally tally' old new plays course small events went goes answer tells is little

pub returns-clause-over : goal.returns-clause-over
returns-clause-over c = λ given_up ring pcm tally telling over goes.
    let laws : SignalLaws = record {
      playing = c.signals_are_heard.ensures.playing;
      drained = c.signals_are_heard.ensures.drained;
      stopped = c.signals_are_heard.ensures.stopped;
      all_sent = c.signals_are_heard.ensures.all_sent;
      alone = c.signals_are_heard.ensures.alone;
      longer = c.signals_are_heard.ensures.longer;
    } in
    over_hears laws given_up ring pcm tally telling over goes

pub returns-clause-stays : goal.returns-clause-stays
returns-clause-stays c = λ given_up ring pcm tally made old new makes all over goes.
    over_stays c.a_stopped_stream_stays.ensures.histories given_up ring pcm tally made old new makes all over goes
