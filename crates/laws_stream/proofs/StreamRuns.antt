-- Runs lead a stream on, whatever codecs take meanwhile.
use Rattle.std.proofs.Common.{◌≡◌, ◌≤◌, ◌+◌, ◌*◌, ◌/◌, ℕ, Bool, true, false, List, [], ◌∷◌, ◌++◌, append_assoc, length, drop, Some, refl, sym, ap, subst, ◌∙◌}
use Rattle.std.specs.Prelude.{All}
use Rattle.std.proofs.lemmas.List.Elements.{All-cons, All-nil, All-weaker}
use Rattle.codec_graph.specs.declared.pin_kind.PinKind.{PinKind}
use Rattle.hda_registers.specs.declared.shapes.Width.TheVariants.{One, Four}
use Rattle.hda_registers.specs.declared.places.TheConstants.{WALCLK}
use Rattle.hda_registers.specs.Fields.{is_running}
use Rattle.stream_format.specs.Layouts.{Layout, layout, layout_of}
use Rattle.stream_format.specs.Words.{format_word}
use Rattle.stream_format.proofs.Callers.{read_back}
use Rattle.world_streams.specs.Streams.{begun}
use Rattle.world_streams.proofs.Callers.{some_block}
use Rattle.codec_sound.specs.declared.signals.Signal.{Signal}
use Rattle.heard_frames.specs.declared.heard.Heard.{Heard}
use Rattle.heard_frames.specs.HeardLists.{block_size, heard_as}
use Rattle.heard_frames.specs.Marks.{without_holes}
use Rattle.hda_world.specs.Worlds.{World, CarriedFrame}
use Rattle.hda_world.specs.Events.{Event, Read, Write, after, IsNoStep}
use Rattle.hda_world.specs.Streaming.{HasSent}
use Rattle.hda_world.specs.Tellings.{Telling, world_of, Went, Makes}
use Rattle.hda_world.specs.Moments.{AreWoven}
use Rattle.hda_world.proofs.Callers.{world_of-went, after-append, access_leaves, Weaving, woven}
use Rattle.period_writer.specs.declared.course.Ran.{Ran}
use Rattle.period_writer.specs.declared.course.Ran.TheVariants as ran
use Rattle.period_writer.specs.Courses.{IsCourse}
use Rattle.period_writer.specs.Runs.{Tally, Measures, measures, facts_of, run_sure}
use Rattle.period_writer.specs.Lines.{line_of}
use Rattle.period_writer.specs.Playing.{run_bytes, turn_accesses, play_accesses, finish_accesses}
use Rattle.period_writer.specs.Starting.{rise_accesses}
use Rattle.period_writer.specs.Standing.{Ring, size_of, limit_in}
use Rattle.period_writer.specs.Owning.{IsPlaying}
use Rattle.period_writer.specs.Beside.{LeavesStopped, StaysEnded}
use Rattle.period_writer.specs.Outcomes.{HasNotWrapped, HasDrained, WasStopped, StartTells, RunTells, RunTellsOf, FinishTells, FinishTellsOf, allowed_in}
use Rattle.period_writer.proofs.Callers.{still_on, started_by}
use Rattle.laws_hearing.specs.Steady.{LeavesSteady}
use Rattle.laws_hearing.specs.Streams.{Streams, LeavesStream}
use Rattle.laws_hearing.specs.BySignals.{PlaysFrontBy, PlaysBelow, PlaysBy, AreBySignals, IsSignalAlong}
use Rattle.audio_driver.specs.States.{is_open}
use Rattle.laws_stream.specs.Lives.{Runs, IsStopped, HasNotBegun, Along, sets_going, stops, IsGoing, HasStopped, Lives}
use Rattle.laws_stream.specs.Sounding.{StreamIs}
use Rattle.laws_stream.specs.Going.{LeavesAlone, StreamLeft, is_left_open, StreamGoes}
use Rattle.laws_stream.specs.Signalled.{HearBySignals}
use Rattle.laws_stream.proofs.Rows.{woven_all, woven_before, carried_alone}
use Rattle.laws_stream.proofs.Lives.{Along-append, Along-end, goes_more, stays_stopped, stops_now}
use Rattle.laws_stream.proofs.Beside.{drained_stopped, stopped_along}
use Rattle.laws_stream.proofs.Silent.{LeavesSilent, events_silent, front, rise_is, front_silent}
use Rattle.laws_stream.proofs.StreamOn.{OnLaws, runs_along}
use Rattle.laws_stream.proofs.Runs.{stop_steady, play_steady, finish_steady, finish_is, runs_each, stopped_by}
use Rattle.laws_stream.proofs.Ended.{ends_stopped, more_blocks, never_drained}
use Rattle.laws_stream.proofs.InTime.{GrowsLaw, line_is, few}

-- ---- rows that leave its tag and its format

pub record RowLaws : Type 0 where
  pub streams : (tag word : ℕ) (layout : Layout) (from : ℕ) (events : List Event) (world : World) → layout_of word ≡ Some layout → All LeavesStream events
      → Streams tag word (block_size layout) from world → Streams tag word (block_size layout) from (after events world)
  pub sent : (from : ℕ) (events : List Event) (world : World) → All LeavesStream events → HasSent from world → HasSent from (after events world)

steady_stream : (event : Event) → LeavesSteady event → LeavesStream event
steady_stream (Write at width value) leaves = (leaves.0.control, leaves.1)
steady_stream event leaves = tt {0}

abbrev Streaming : Ring → World → Type 0
Streaming ring world = Streams 1 (format_word ring.geometry.format) (block_size (layout ring.geometry.format)) 0 world

module _ (laws : RowLaws) (ring : Ring) (made : List Event) (old new : Telling) (makes : Makes made old new) (all : All LeavesSteady made) where
  weaving : Weaving made old new
  weaving = woven makes

  streaming : All LeavesStream weaving.events
  streaming = woven_all LeavesStream (λ step. tt {0}) made weaving.events weaving.woven (All-weaker LeavesSteady LeavesStream steady_stream made all)

  row_streams : Streaming ring (world_of old) → Streaming ring (world_of new)
  row_streams streams =
      subst (Streaming ring) (sym (world_of-went old new weaving.events weaving.went))
      (laws.streams 1 (format_word ring.geometry.format) (layout ring.geometry.format) 0 weaving.events (world_of old) (read_back ring.geometry.format) streaming streams)

  row_sent : HasSent 0 (world_of old) → HasSent 0 (world_of new)
  row_sent sent = subst (HasSent 0) (sym (world_of-went old new weaving.events weaving.went)) (laws.sent 0 weaving.events (world_of old) streaming sent)

-- ---- a first run

pub record BeginLaws : Type 0 where
  pub streams : (ring : Ring) (pcm : List ℕ) (tally : Tally) (world : World) → IsPlaying ring pcm tally world
      → Streams 1 (format_word ring.geometry.format) (block_size (layout ring.geometry.format)) (length world.carried) world
  pub sent : (world : World) → world.output ≡ begun → HasSent (length world.carried) world

-- the stream was set going after these events, and nothing was carried
record HasRisen (old risen : Telling) : Type 0 where
  none : (world_of risen).carried ≡ []
  during : List Event
  still : Along HasNotBegun during (world_of old)
  went : Went old risen (during ++ sets_going ∷ [])

module _ (begins : BeginLaws) (laws : RowLaws) (ring : Ring) (pcm : List ℕ) (budget : ℕ) (tally tally' : Tally) (old new : Telling) (tells : StartTells ring pcm budget tally tally' old new) (along : Along HasNotBegun old.journal old.start) where
  silent : HasNotBegun (world_of old)
  silent = Along-end HasNotBegun old.journal old.start along

  abbrev line : List ℕ
  line = run_bytes (measures ring.geometry) tally.course (facts_of budget (length pcm) tells.from 0 tells.to) pcm

  abbrev rise : List Event
  rise = rise_accesses ring.geometry ring.list ring.periods tells.from tells.in_reset tells.ready line

  abbrev set : List Event
  set = front ring.geometry ring.list ring.periods tells.from tells.in_reset tells.ready line

  risen : HasRisen old tells.risen
  risen =
      let weaving : Weaving rise old tells.risen = woven tells.before in
      let (during, is, before) = woven_before LeavesSilent (λ step. tt {0}) set sets_going weaving.events
      (subst (λ (made : List Event). AreWoven made weaving.events) (rise_is ring.geometry ring.list ring.periods tells.from tells.in_reset tells.ready line) weaving.woven)
      (front_silent ring.geometry ring.list ring.periods tells.from tells.in_reset tells.ready line) in
      let went = subst (Went old tells.risen) is weaving.went in
      let there = world_of-went old tells.risen (during ++ sets_going ∷ []) went ∙ after-append during (sets_going ∷ []) (world_of old) in record {
        none = ap (λ (world : World). world.carried) there ∙ (access_leaves (after during (world_of old)) 0xA0 0x1E One).carried ∙ (Along-end HasNotBegun during (world_of old) (events_silent during (world_of old) before silent)).none;
        during = during;
        still = events_silent during (world_of old) before silent;
        went = went;
      }

  from_none : length (world_of tells.risen).carried ≡ 0
  from_none = ap (λ (carried : List CarriedFrame). length carried) risen.none

  clock_steady : All LeavesSteady (Read WALCLK Four tells.to ∷ [])
  clock_steady = All-cons LeavesSteady (Read WALCLK Four tells.to) [] (tt {0}) (All-nil LeavesSteady)

  going : IsGoing new
  going =
      let here = risen in
      let journal : tells.risen.journal ≡ (old.journal ++ here.during) ++ sets_going ∷ [] = here.went.journal ∙ sym (append_assoc old.journal here.during (sets_going ∷ [])) in record {
        before = old.journal ++ here.during;
        during = tells.events;
        journal = tells.went.journal ∙ ap (λ (journal : List Event). journal ++ tells.events) journal ∙ append_assoc (old.journal ++ here.during) (sets_going ∷ []) tells.events;
        silent = subst (Along HasNotBegun (old.journal ++ here.during)) (sym (tells.went.start ∙ here.went.start)) (Along-append HasNotBegun old.journal here.during old.start along here.still);
        runs = subst (Along Runs tells.events) (ap (λ (journal : List Event). after journal tells.risen.start) journal ∙ ap (after ((old.journal ++ here.during) ++ sets_going ∷ [])) (sym tells.went.start))
            (runs_each ring (line_of tally' pcm) tally'.course.reach tally'.course.from (record { from = 0; to = 0; start = tally'.course.reach; reach = tally'.course.reach }) tells.events (world_of tells.risen) tells.moments
            (subst Runs (world_of-went tells.risen new tells.events tells.went) (record { running = tells.plays.stands.set.runs; no_error = tells.plays.stands.set.no_error })));
      }

  pub first_goes : StreamGoes false ring pcm tally' new
  first_goes = record {
    started = tells.plays.started;
    streams = row_streams laws ring (Read WALCLK Four tells.to ∷ []) tells.risen new tells.after clock_steady
        (subst (λ (from : ℕ). Streams 1 (format_word ring.geometry.format) (block_size (layout ring.geometry.format)) from (world_of tells.risen)) from_none (begins.streams ring pcm tally' (world_of tells.risen) tells.rises));
    sent = row_sent laws ring (Read WALCLK Four tells.to ∷ []) tells.risen new tells.after clock_steady
        (subst (λ (from : ℕ). HasSent from (world_of tells.risen)) from_none (begins.sent (world_of tells.risen) tells.anew));
    stream = subst (λ (was : Ran). StreamIs was ring pcm tally' (world_of new)) (sym tells.plays.plays) tells.plays;
    lives = subst (λ (was : Ran). Lives (is_left_open false was) new) (sym tells.plays.plays) going;
  }

-- ---- a stream that plays

module _ (ring : Ring) (pcm : List ℕ) (tally : Tally) (telling : Telling) (goes : StreamGoes false ring pcm tally telling) (plays : tally.course.ran ≡ ran.Playing) where
  now_playing : IsPlaying ring pcm tally (world_of telling)
  now_playing = subst (λ (was : Ran). StreamIs was ring pcm tally (world_of telling)) plays goes.stream

  now_going : IsGoing telling
  now_going = subst (λ (was : Ran). Lives (is_left_open false was) telling) plays goes.lives

-- ---- a later run

module _ (laws : RowLaws) (ring : Ring) (pcm : List ℕ) (budget : ℕ) (tally tally' : Tally) (old new : Telling) (goes : StreamGoes false ring pcm tally old) (plays : tally.course.ran ≡ ran.Playing) where
  module _ (answer : Ran) (run : RunTells ring pcm budget tally answer tally' old new) where
    stopped_after : play_accesses ring.geometry ring.periods tally.course run.facts (drop tally.course.used pcm) answer ≡ turn_accesses ring.geometry ring.periods tally.course run.facts (drop tally.course.used pcm) ++ stops ∷ []
        → IsStopped (world_of new) → HasStopped new
    stopped_after ends stopped =
        stopped_by ring (line_of tally pcm) (run_sure (measures ring.geometry) tally.course run.facts) tally.course.from (allowed_in ring tally run.facts)
        (play_accesses ring.geometry ring.periods tally.course run.facts (drop tally.course.used pcm) answer) (turn_accesses ring.geometry ring.periods tally.course run.facts (drop tally.course.used pcm))
        run.events old new run.made ends run.went run.moments (now_going ring pcm tally old goes plays) stopped

    going_after : IsPlaying ring pcm tally' (world_of new) → IsGoing new
    going_after playing =
        goes_more old new run.events run.went (now_going ring pcm tally old goes plays)
        (runs_each ring (line_of tally pcm) (run_sure (measures ring.geometry) tally.course run.facts) tally.course.from (allowed_in ring tally run.facts) run.events (world_of old) run.moments
        (subst Runs (world_of-went old new run.events run.went) (record { running = playing.stands.set.runs; no_error = playing.stands.set.no_error })))

  stream_after : (answer : Ran) → RunTells ring pcm budget tally answer tally' old new → StreamIs answer ring pcm tally' (world_of new) × Lives (is_left_open false answer) new
  stream_after ran.Playing run = (run.ends, going_after ran.Playing run run.ends)
  stream_after ran.Drained run =
      let drained = run.ends in
      (drained, stopped_after ran.Drained run (finish_is ring tally run.facts (drop tally.course.used pcm)) (record { stopped = drained.stopped; no_error = drained.no_error }))
  stream_after (ran.Late from to limit) run =
      let was = run.ends in
      (was, stopped_after (ran.Late from to limit) run (finish_is ring tally run.facts (drop tally.course.used pcm)) (record { stopped = was.stopped; no_error = was.no_error }))

  run_tells : (answer : Ran) → answer ≡ tally'.course.ran → RunTells ring pcm budget tally answer tally' old new → StreamGoes false ring pcm tally' new
  run_tells answer is run =
      let led = stream_after answer run in
      let row = play_accesses ring.geometry ring.periods tally.course run.facts (drop tally.course.used pcm) answer in
      let steady = play_steady ring tally run.facts (drop tally.course.used pcm) answer in
      record {
        started = still_on (measures ring.geometry) tally tally' run.facts run.recorded goes.started;
        streams = row_streams laws ring (play_accesses ring.geometry ring.periods tally.course run.facts (drop tally.course.used pcm) answer) old new run.made steady goes.streams;
        sent = row_sent laws ring (play_accesses ring.geometry ring.periods tally.course run.facts (drop tally.course.used pcm) answer) old new run.made steady goes.sent;
        stream = subst (λ (was : Ran). StreamIs was ring pcm tally' (world_of new)) is led.0;
        lives = subst (λ (was : Ran). Lives (is_left_open false was) new) is led.1;
      }

  pub run_goes : (answer : Ran) → RunTellsOf ring pcm budget tally answer tally' old new → answer ≡ tally'.course.ran → HasNotWrapped (world_of new) → StreamGoes false ring pcm tally' new
  run_goes answer tells is small = run_tells answer is (tells (now_playing ring pcm tally old goes plays) small)

-- ---- it is given up

pub given_up_goes : (on : OnLaws) (rows : RowLaws) (ends : (ring : Ring) (pcm : List ℕ) (tally : Tally) (old new : Telling) → Makes (stops ∷ []) old new → IsPlaying ring pcm tally (world_of old) → WasStopped ring pcm tally (world_of new))
    (ring : Ring) (pcm : List ℕ) (tally : Tally) (old new : Telling) → Makes (stops ∷ []) old new → tally.course.ran ≡ ran.Playing → StreamGoes false ring pcm tally old → StreamGoes true ring pcm tally new
given_up_goes on rows ends ring pcm tally old new makes plays goes =
    let playing = now_playing ring pcm tally old goes plays in
    let was = ends ring pcm tally old new makes playing in
    let weaving = woven makes in
    let (during, is, all) = woven_before (LeavesAlone ring) (λ step. tt {0}) [] stops weaving.events weaving.woven (All-nil (LeavesAlone ring)) in
    record {
      started = goes.started;
      streams = row_streams rows ring (stops ∷ []) old new makes stop_steady goes.streams;
      sent = row_sent rows ring (stops ∷ []) old new makes stop_steady goes.sent;
      stream = was;
      lives = stops_now old new during (subst (Went old new) is weaving.went) (now_going ring pcm tally old goes plays) (runs_along on ring pcm tally during (world_of old) all playing)
          (record { stopped = was.stopped; no_error = was.no_error });
    }

-- ---- what pins heard

pub record SignalLaws : Type 0 where
  pub playing : (kind : PinKind) (tag word : ℕ) (layout : Layout) (from : ℕ) (world : World) (address pin : ℕ) (signals : ℕ → Signal) (ring : Ring) (pcm : List ℕ) (tally : Tally) → layout_of word ≡ Some layout
      → Streams tag word (block_size layout) from world → HasSent from world → IsSignalAlong kind address pin signals (drop from world.carried) → IsPlaying ring pcm tally world
      → 500 * world.frames ≤ tally.course.from + 500 * limit_in ring → PlaysBy false ran.Playing layout signals (line_of tally pcm) tally.course.sure (heard_as kind address pin (drop from world.carried))
  pub drained : (kind : PinKind) (tag word : ℕ) (layout : Layout) (from : ℕ) (world : World) (address pin : ℕ) (signals : ℕ → Signal) (ring : Ring) (pcm : List ℕ) (tally : Tally) → layout_of word ≡ Some layout
      → Streams tag word (block_size layout) from world → HasSent from world → IsSignalAlong kind address pin signals (drop from world.carried) → HasDrained ring pcm tally world
      → PlaysBy false ran.Drained layout signals (line_of tally pcm) tally.course.sure (heard_as kind address pin (drop from world.carried))
  pub stopped : (kind : PinKind) (tag word : ℕ) (layout : Layout) (from : ℕ) (world : World) (address pin : ℕ) (signals : ℕ → Signal) (ring : Ring) (pcm : List ℕ) (tally : Tally) → layout_of word ≡ Some layout
      → Streams tag word (block_size layout) from world → HasSent from world → IsSignalAlong kind address pin signals (drop from world.carried) → WasStopped ring pcm tally world
      → PlaysBelow layout signals (line_of tally pcm) tally.course.sure (heard_as kind address pin (drop from world.carried))
  pub all_sent : (kind : PinKind) (tag word : ℕ) (layout : Layout) (from : ℕ) (world : World) (address pin : ℕ) (signals : ℕ → Signal) → layout_of word ≡ Some layout → Streams tag word (block_size layout) from world
      → HasSent from world → IsSignalAlong kind address pin signals (drop from world.carried) → length (without_holes (heard_as kind address pin (drop from world.carried))) ≡ world.output.left / block_size layout
  pub alone : (kind : PinKind) (tag word : ℕ) (layout : Layout) (from : ℕ) (world : World) (address pin : ℕ) (signals : ℕ → Signal) → layout_of word ≡ Some layout → Streams tag word (block_size layout) from world
      → IsSignalAlong kind address pin signals (drop from world.carried) → AreBySignals signals (heard_as kind address pin (drop from world.carried))
  pub longer : (layout : Layout) (signals : ℕ → Signal) (line more : List ℕ) (list : List Heard) → PlaysFrontBy layout signals line list → PlaysFrontBy layout signals (line ++ more) list

module _ (laws : SignalLaws) (ring : Ring) (pcm : List ℕ) (tally : Tally) (world : World) (streams : Streaming ring world) (sent : HasSent 0 world) where
  abbrev word : ℕ
  word = format_word ring.geometry.format

  abbrev shape : Layout
  shape = layout ring.geometry.format

  known : layout_of (format_word ring.geometry.format) ≡ Some (layout ring.geometry.format)
  known = read_back ring.geometry.format

  abbrev PlaysAs : (given_up : Bool) → Ran → Type 0
  PlaysAs given_up was = (kind : PinKind) (address pin : ℕ) (signals : ℕ → Signal) → IsSignalAlong kind address pin signals world.carried
      → PlaysBy given_up was (layout ring.geometry.format) signals (line_of tally pcm) tally.course.sure (heard_as kind address pin world.carried)

  -- of a stream that is over
  over_plays : (given_up : Bool) (was : Ran) → is_left_open given_up was ≡ false → StreamLeft given_up was ring pcm tally world → PlaysAs given_up was
  over_plays true was over stream kind address pin signals along = laws.stopped kind 1 word shape 0 world address pin signals ring pcm tally known streams sent along stream
  over_plays false ran.Playing over stream kind address pin signals along = cc
  over_plays false ran.Drained over stream kind address pin signals along = laws.drained kind 1 word shape 0 world address pin signals ring pcm tally known streams sent along stream
  over_plays false (ran.Late from to limit) over stream kind address pin signals along = laws.stopped kind 1 word shape 0 world address pin signals ring pcm tally known streams sent along stream

  hear_by : (given_up : Bool) (carried : List CarriedFrame) → carried ≡ world.carried → PlaysAs given_up tally.course.ran
      → (given_up ≡ false → tally.course.ran ≡ ran.Drained → tally.course.at ≤ world.output.left) → HearBySignals given_up ring.geometry.format pcm tally carried
  hear_by given_up carried same plays past = subst (HearBySignals given_up ring.geometry.format pcm tally) (sym same) (record {
    plays = plays;
    made = λ kind address pin signals along. laws.alone kind 1 word shape 0 world address pin signals known streams along;
    all_sent = λ kept drained kind address pin signals along.
        subst (λ (count : ℕ). tally.course.at / block_size (layout ring.geometry.format) ≤ count)
        (sym (laws.all_sent kind 1 word shape 0 world address pin signals known streams sent along))
        (more_blocks tally.course.at world.output.left (block_size (layout ring.geometry.format)) (some_block word shape known) (past kept drained));
  })

-- where the line has drained the link stood at what was sent at most
over_past : (given_up : Bool) (was : Ran) (ring : Ring) (pcm : List ℕ) (tally : Tally) (world : World) → StreamLeft given_up was ring pcm tally world → given_up ≡ false → was ≡ ran.Drained → tally.course.at ≤ world.output.left
over_past true was ring pcm tally world stream kept drained = cc
over_past false ran.Playing ring pcm tally world stream kept drained = absurd (never_drained ran.Playing refl drained)
over_past false ran.Drained ring pcm tally world stream kept drained = stream.sent
over_past false (ran.Late from to limit) ring pcm tally world stream kept drained = absurd (never_drained (ran.Late from to limit) refl drained)

pub over_hears : (laws : SignalLaws) (given_up : Bool) (ring : Ring) (pcm : List ℕ) (tally : Tally) (telling : Telling) → is_left_open given_up tally.course.ran ≡ false → StreamGoes given_up ring pcm tally telling
    → HearBySignals given_up ring.geometry.format pcm tally (world_of telling).carried
over_hears laws given_up ring pcm tally telling over goes =
    hear_by laws ring pcm tally (world_of telling) goes.streams goes.sent given_up (world_of telling).carried refl
    (over_plays laws ring pcm tally (world_of telling) goes.streams goes.sent given_up tally.course.ran over goes.stream)
    (over_past given_up tally.course.ran ring pcm tally (world_of telling) goes.stream)

-- it stays over
left_stopped : (given_up : Bool) (was : Ran) (ring : Ring) (pcm : List ℕ) (tally : Tally) (world : World) → is_left_open given_up was ≡ false → StreamLeft given_up was ring pcm tally world → WasStopped ring pcm tally world
left_stopped true was ring pcm tally world over stream = stream
left_stopped false ran.Playing ring pcm tally world over stream = cc
left_stopped false ran.Drained ring pcm tally world over stream = drained_stopped ring pcm tally world stream
left_stopped false (ran.Late from to limit) ring pcm tally world over stream = stream

pub over_stays : (ended : (events : List Event) (world : World) → All LeavesStopped events → is_running world.registers.output ≡ false → StaysEnded world (after events world))
    (given_up : Bool) (ring : Ring) (pcm : List ℕ) (tally : Tally) (made : List Event) (old new : Telling) → Makes made old new → All LeavesStopped made → is_left_open given_up tally.course.ran ≡ false → StreamGoes given_up ring pcm tally old
    → HasStopped new × ((world_of new).carried ≡ (world_of old).carried)
over_stays ended given_up ring pcm tally made old new makes all over goes =
    let weaving = woven makes in
    let was = left_stopped given_up tally.course.ran ring pcm tally (world_of old) over goes.stream in
    let leaves = woven_all LeavesStopped (λ step. tt {0}) made weaving.events weaving.woven all in (
      stays_stopped old new weaving.events weaving.went (subst (λ (open' : Bool). Lives open' old) over goes.lives) (stopped_along ring pcm tally weaving.events (world_of old) leaves was),
      ap (λ (world : World). world.carried) (world_of-went old new weaving.events weaving.went) ∙ (ended weaving.events (world_of old) leaves was.stopped).carried,
    )

-- ---- the last run

module _ (rows : RowLaws) (laws : SignalLaws) (grows : GrowsLaw) (ring : Ring) (pcm : List ℕ) (runs : ℕ) (tally tally' : Tally) (old new : Telling) (plays : tally.course.ran ≡ ran.Playing) (course : IsCourse (size_of ring) runs tally.course)
    (small : HasNotWrapped (world_of old)) (events : List Event) (went : Went old new events) (goes : StreamGoes false ring pcm tally old) where
  module _ (answer : Ran) (is : answer ≡ tally'.course.ran) (run : FinishTells ring pcm tally answer tally' old new) where
    stopped : WasStopped ring pcm tally' (world_of new)
    stopped = ends_stopped answer ring pcm tally tally' run.facts (world_of new) run.recorded is run.ends

    finished : StreamGoes true ring pcm tally' new
    finished = record {
      started = ap (λ (tally : Tally). tally.course.started) run.recorded ∙ started_by _ (measures ring.geometry) tally run.facts goes.started;
      streams = row_streams rows ring (finish_accesses ring.geometry ring.periods tally.course run.facts (drop tally.course.used pcm)) old new run.made (finish_steady ring tally run.facts (drop tally.course.used pcm)) goes.streams;
      sent = row_sent rows ring (finish_accesses ring.geometry ring.periods tally.course run.facts (drop tally.course.used pcm)) old new run.made (finish_steady ring tally run.facts (drop tally.course.used pcm)) goes.sent;
      stream = stopped;
      lives = (
          let stop : IsStopped (world_of new) = record { stopped = stopped.stopped; no_error = stopped.no_error } in
          stopped_by ring (line_of tally pcm) (run_sure (measures ring.geometry) tally.course run.facts) tally.course.from (allowed_in ring tally run.facts)
          (finish_accesses ring.geometry ring.periods tally.course run.facts (drop tally.course.used pcm)) (turn_accesses ring.geometry ring.periods tally.course run.facts (drop tally.course.used pcm))
          run.events old new run.made (finish_is ring tally run.facts (drop tally.course.used pcm)) run.went run.moments (now_going ring pcm tally old goes plays) stop);
    }

  -- no link frame passes where the device makes no step
  same_carried : All IsNoStep events → (world_of new).carried ≡ (world_of old).carried
  same_carried alone = ap (λ (world : World). world.carried) (world_of-went old new events went) ∙ carried_alone events (world_of old) alone

  module _ (is : ran.Playing ≡ tally'.course.ran) (run : FinishTells ring pcm tally ran.Playing tally' old new) where
    abbrev m : Measures
    m = measures ring.geometry

    abbrev playing : IsPlaying ring pcm tally (world_of old)
    playing = now_playing ring pcm tally old goes plays

    plays_on : All IsNoStep events → (kind : PinKind) (address pin : ℕ) (signals : ℕ → Signal) → IsSignalAlong kind address pin signals (world_of old).carried
        → PlaysFrontBy (layout ring.geometry.format) signals (line_of tally' pcm) (heard_as kind address pin (world_of old).carried)
    plays_on alone kind address pin signals along =
        subst (λ (line : List ℕ). PlaysFrontBy (layout ring.geometry.format) signals line (heard_as kind address pin (world_of old).carried)) (sym (line_is grows ring pcm tally tally' runs course old new playing small run is))
        (laws.longer (layout ring.geometry.format) signals (line_of tally pcm) (run_bytes m tally.course run.facts (drop tally.course.used pcm)) (heard_as kind address pin (world_of old).carried)
        (laws.playing kind 1 (format_word ring.geometry.format) (layout ring.geometry.format) 0 (world_of old) address pin signals ring pcm tally (read_back ring.geometry.format) goes.streams goes.sent along playing
        (few grows ring pcm tally tally' runs course old new playing small run is events went alone)))

    heard_on : All IsNoStep events → HearBySignals false ring.geometry.format pcm tally' (world_of new).carried
    heard_on alone =
        hear_by laws ring pcm tally' (world_of old) goes.streams goes.sent false (world_of new).carried (same_carried alone)
        (λ kind address pin signals along. subst (λ (was : Ran). PlaysBy false was (layout ring.geometry.format) signals (line_of tally' pcm) tally'.course.sure (heard_as kind address pin (world_of old).carried)) is (plays_on alone kind address pin signals along))
        (λ kept drained. absurd (never_drained ran.Playing refl (is ∙ drained)))

  heard_over : (answer : Ran) → answer ≡ tally'.course.ran → is_open answer ≡ false → (run : FinishTells ring pcm tally answer tally' old new) → StreamIs answer ring pcm tally' (world_of new)
      → HearBySignals false ring.geometry.format pcm tally' (world_of new).carried
  heard_over answer is over run stream =
      let ended = finished answer is run in
      let left : StreamLeft false tally'.course.ran ring pcm tally' (world_of new) = subst (λ (was : Ran). StreamIs was ring pcm tally' (world_of new)) is stream in
      let closed : is_left_open false tally'.course.ran ≡ false = subst (λ (was : Ran). is_left_open false was ≡ false) is over in
      hear_by laws ring pcm tally' (world_of new) ended.streams ended.sent false (world_of new).carried refl
      (over_plays laws ring pcm tally' (world_of new) ended.streams ended.sent false tally'.course.ran closed left) (over_past false tally'.course.ran ring pcm tally' (world_of new) left)

  finish_by : (answer : Ran) → answer ≡ tally'.course.ran → FinishTells ring pcm tally answer tally' old new
      → StreamGoes true ring pcm tally' new × (All IsNoStep events → HearBySignals false ring.geometry.format pcm tally' (world_of new).carried)
  finish_by ran.Playing is run = (finished ran.Playing is run, heard_on is run)
  finish_by ran.Drained is run = (finished ran.Drained is run, λ alone. heard_over ran.Drained is refl run run.ends)
  finish_by (ran.Late from to limit) is run = (finished (ran.Late from to limit) is run, λ alone. heard_over (ran.Late from to limit) is refl run run.ends)

  pub finish_goes : (answer : Ran) → FinishTellsOf ring pcm tally answer tally' old new → answer ≡ tally'.course.ran → HasNotWrapped (world_of new)
      → StreamGoes true ring pcm tally' new × (All IsNoStep events → HearBySignals false ring.geometry.format pcm tally' (world_of new).carried)
  finish_goes answer tells is little = finish_by answer is (tells (now_playing ring pcm tally old goes plays) little)
