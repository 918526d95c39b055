-- The last run stops the stream, and pins heard the line.
use Rattle.std.proofs.Common.{◌≡◌, inl, inr, ◌≤◌, ◌+◌, ◌*◌, ◌/◌, ◌&&◌, not, ℕ, Bool, true, false, List, ◌++◌, length, drop, Some, refl, sym, ap, subst, ◌∙◌, arith}
use Rattle.std.proofs.lemmas.Bool.{false≢true}
use Rattle.std.specs.Prelude.{All}
use Rattle.std.proofs.Math.Nat.{div-mul-le_self}
use Rattle.std.proofs.lemmas.Nat.{le-div}
use Rattle.std.proofs.lemmas.List.Elements.{All-from_recursion}
use Rattle.codec_graph.specs.declared.pin_kind.PinKind.{PinKind}
use Rattle.codec_graph.specs.CodecStates.{CodecState}
use Rattle.stream_format.specs.Layouts.{Layout, layout, layout_of}
use Rattle.stream_format.specs.Words.{format_word}
use Rattle.stream_format.proofs.Callers.{read_back}
use Rattle.world_streams.proofs.Callers.{some_block}
use Rattle.codec_sound.specs.declared.signals.Signal.TheVariants.{Pair, Silence}
use Rattle.heard_frames.specs.declared.heard.Heard.{Heard}
use Rattle.heard_frames.specs.HeardLists.{block_size, signal_with_as, heard_as}
use Rattle.hda_world.specs.Worlds.{World, CarriedFrame, codec_at}
use Rattle.hda_world.specs.Events.{Event, IsNoStep}
use Rattle.hda_world.specs.Streaming.{HasSent}
use Rattle.hda_world.specs.Tellings.{Telling, world_of, Went, Makes}
use Rattle.hda_world.proofs.Callers.{world_of-went, went_both, Weaving, woven, events_front, events_back}
use Rattle.command_engine.specs.Polling.{poll_accesses}
use Rattle.period_writer.specs.declared.course.Ran.{Ran}
use Rattle.period_writer.specs.declared.course.Ran.TheVariants as ran
use Rattle.period_writer.specs.Courses.{IsCourse}
use Rattle.period_writer.specs.Runs.{RunFacts, Tally, Measures, measures, run_sure, takes_back, is_late, tally_if, tally_after}
use Rattle.period_writer.specs.Lines.{IsLine, line_of}
use Rattle.period_writer.specs.Playing.{run_bytes, turn_accesses, finish_accesses}
use Rattle.period_writer.specs.Standing.{Ring, size_of, limit_in}
use Rattle.period_writer.specs.Owning.{IsPlaying}
use Rattle.period_writer.specs.Beside.{LeavesStopped}
use Rattle.period_writer.specs.Writers.{WriterState, tally_of, ring_of}
use Rattle.period_writer.specs.Outcomes.{HasNotWrapped, HasDrained, WasStopped, EndsLast, FinishTells, allowed_in}
use Rattle.period_writer.proofs.Callers.{started_by}
use Rattle.driver_progress.specs.Shutting.{shut_accesses}
use Rattle.driver_bring_up.specs.declared.bringing.BringUp.{BringUp}
use Rattle.laws_hearing.specs.Plays.{Plays, PlaysFront, WasSent, IsSilent, without_holes}
use Rattle.laws_hearing.specs.Steady.{Steady}
use Rattle.audio_driver.specs.States.{is_open, was_late, IsLeft}
use Rattle.audio_driver.specs.Sounding.{ShutsAlone, StopsSound, EndTells}
use Rattle.audio_driver.proofs.Callers.{open_playing}
use Rattle.laws_stream.specs.Lives.{Along, IsStopped, IsGoing, HasStopped, Lives}
use Rattle.laws_stream.specs.Sounding.{StreamIs, IsHeardBy, StreamSounds}
use Rattle.laws_stream.specs.Ending.{HearTheLine}
use Rattle.laws_stream.proofs.Rows.{woven_all, carried_alone, went_same}
use Rattle.laws_stream.proofs.Lives.{Along-end, Along-front, stays_stopped}
use Rattle.laws_stream.proofs.Beside.{Laws, heard_row, drained_stopped, stopped_along}
use Rattle.laws_stream.proofs.Runs.{finish_steady, finish_is, stopped_by}
use Rattle.laws_stream.proofs.InTime.{line_is, few}
use Rattle.laws_stream.proofs.Calls.{row_sounds, poll_beside}

-- ---- the laws of what is heard

pub record HearLaws : Type 0 where
  pub playing : (kind : PinKind) (codecs : List CodecState) (tag word : ℕ) (layout : Layout) (from : ℕ) (world : World) (address pin pair : ℕ) (ring : Ring) (pcm : List ℕ) (tally : Tally) → layout_of word ≡ Some layout
      → Steady codecs tag word (block_size layout) from world → HasSent from world → signal_with_as kind (codec_at address codecs) tag word (Some layout) pin ≡ Pair pair → IsPlaying ring pcm tally world
      → 500 * world.frames ≤ tally.course.from + 500 * limit_in ring → Plays ran.Playing layout pair (line_of tally pcm) tally.course.sure (heard_as kind address pin (drop from world.carried))
  pub drained : (kind : PinKind) (codecs : List CodecState) (tag word : ℕ) (layout : Layout) (from : ℕ) (world : World) (address pin pair : ℕ) (ring : Ring) (pcm : List ℕ) (tally : Tally) → layout_of word ≡ Some layout
      → Steady codecs tag word (block_size layout) from world → HasSent from world → signal_with_as kind (codec_at address codecs) tag word (Some layout) pin ≡ Pair pair → HasDrained ring pcm tally world
      → Plays ran.Drained layout pair (line_of tally pcm) tally.course.sure (heard_as kind address pin (drop from world.carried))
  pub stopped : (kind : PinKind) (codecs : List CodecState) (tag word : ℕ) (layout : Layout) (from : ℕ) (world : World) (address pin pair : ℕ) (ring : Ring) (pcm : List ℕ) (tally : Tally) (since to limit : ℕ) → layout_of word ≡ Some layout
      → Steady codecs tag word (block_size layout) from world → HasSent from world → signal_with_as kind (codec_at address codecs) tag word (Some layout) pin ≡ Pair pair → WasStopped ring pcm tally world
      → Plays (ran.Late since to limit) layout pair (line_of tally pcm) tally.course.sure (heard_as kind address pin (drop from world.carried))
  pub count : (kind : PinKind) (codecs : List CodecState) (tag word : ℕ) (layout : Layout) (from : ℕ) (world : World) (address pin pair : ℕ) → layout_of word ≡ Some layout → Steady codecs tag word (block_size layout) from world
      → HasSent from world → signal_with_as kind (codec_at address codecs) tag word (Some layout) pin ≡ Pair pair → length (without_holes (heard_as kind address pin (drop from world.carried))) ≡ world.output.left / block_size layout
  pub longer : (layout : Layout) (pair : ℕ) (line more : List ℕ) (list : List Heard) → PlaysFront layout pair line list → PlaysFront layout pair (line ++ more) list
  pub sent_alone : (kind : PinKind) (codecs : List CodecState) (tag word : ℕ) (layout : Layout) (from : ℕ) (world : World) (address pin pair : ℕ) → layout_of word ≡ Some layout → Steady codecs tag word (block_size layout) from world
      → signal_with_as kind (codec_at address codecs) tag word (Some layout) pin ≡ Pair pair → All WasSent (heard_as kind address pin (drop from world.carried))
  pub silent : (kind : PinKind) (codecs : List CodecState) (tag word : ℕ) (layout : Layout) (from : ℕ) (world : World) (address pin : ℕ) → layout_of word ≡ Some layout → Steady codecs tag word (block_size layout) from world
      → signal_with_as kind (codec_at address codecs) tag word (Some layout) pin ≡ Silence → All IsSilent (heard_as kind address pin (drop from world.carried))
  pub grows : (m : Measures) (runs : ℕ) (tally : Tally) (facts : RunFacts) (pcm : List ℕ) → IsCourse m.ring runs tally.course → IsLine tally
      → takes_back m tally.course facts ≡ false → line_of (tally_if false m tally facts) pcm ≡ line_of tally pcm ++ run_bytes m tally.course facts (drop tally.course.used pcm)

-- ---- the end of a stream that was stopped

shut_leaves : All LeavesStopped shut_accesses
shut_leaves = All-from_recursion LeavesStopped shut_accesses (inl (inl (omega arith)), (inl (inl (omega arith)), (inl (inl (omega arith)), tt)))

shut_stopped : (ring : Ring) (pcm : List ℕ) (tally : Tally) (old new : Telling) → Makes shut_accesses old new → WasStopped ring pcm tally (world_of old) → HasStopped old → HasStopped new
shut_stopped ring pcm tally old new makes was lives =
    let weaving = woven makes in
    stays_stopped old new weaving.events weaving.went lives
    (stopped_along ring pcm tally weaving.events (world_of old) (woven_all LeavesStopped (λ step. tt {0}) shut_accesses weaving.events weaving.woven shut_leaves) was)

over_stopped : (was : Ran) (ring : Ring) (pcm : List ℕ) (tally : Tally) (world : World) → is_open was ≡ false → StreamIs was ring pcm tally world → WasStopped ring pcm tally world
over_stopped ran.Playing ring pcm tally world over stream = absurd (false≢true (sym over))
over_stopped ran.Drained ring pcm tally world over stream = drained_stopped ring pcm tally world stream
over_stopped (ran.Late from to limit) ring pcm tally world over stream = stream

-- ---- what pins heard

abbrev pub is_drained : Ran → Bool
is_drained ran.Playing = false
is_drained ran.Drained = true
is_drained (ran.Late from to limit) = false

pub never_drained : (was : Ran) → is_drained was ≡ false → was ≡ ran.Drained → ⊥
never_drained was not same = false≢true (sym not ∙ ap is_drained same)

pub more_blocks : (some many block : ℕ) → 1 ≤ block → some ≤ many → some / block ≤ many / block
more_blocks some many block whole more = let fewer = div-mul-le_self some block in le-div (some / block) many block whole (omega (arith, fewer, more))

-- where the line has drained the link stood at what was sent at most
over_past : (was : Ran) (ring : Ring) (pcm : List ℕ) (tally : Tally) (world : World) → StreamIs was ring pcm tally world → was ≡ ran.Drained → tally.course.at ≤ world.output.left
over_past ran.Playing ring pcm tally world stream drained = absurd (never_drained ran.Playing refl drained)
over_past ran.Drained ring pcm tally world stream drained = stream.sent
over_past (ran.Late from to limit) ring pcm tally world stream drained = absurd (never_drained (ran.Late from to limit) refl drained)

module _ (laws : HearLaws) (codecs : List CodecState) (ring : Ring) (pcm : List ℕ) (tally : Tally) (world : World) (hears : IsHeardBy codecs ring world) where
  -- of a stream that was over
  over_heard : (was : Ran) → is_open was ≡ false → StreamIs was ring pcm tally world → (kind : PinKind) (address pin pair : ℕ)
      → signal_with_as kind (codec_at address codecs) 1 (format_word ring.geometry.format) (Some (layout ring.geometry.format)) pin ≡ Pair pair
      → Plays was (layout ring.geometry.format) pair (line_of tally pcm) tally.course.sure (heard_as kind address pin world.carried)
  over_heard ran.Playing over stream kind address pin pair is = absurd (false≢true (sym over))
  over_heard ran.Drained over stream kind address pin pair is =
      laws.drained kind codecs 1 (format_word ring.geometry.format) (layout ring.geometry.format) 0 world address pin pair ring pcm tally (read_back ring.geometry.format) hears.steady hears.sent is stream
  over_heard (ran.Late from to limit) over stream kind address pin pair is =
      laws.stopped kind codecs 1 (format_word ring.geometry.format) (layout ring.geometry.format) 0 world address pin pair ring pcm tally from to limit (read_back ring.geometry.format) hears.steady hears.sent is stream

  hear : (carried : List CarriedFrame) → carried ≡ world.carried
      → ((kind : PinKind) (address pin pair : ℕ) → signal_with_as kind (codec_at address codecs) 1 (format_word ring.geometry.format) (Some (layout ring.geometry.format)) pin ≡ Pair pair
      → Plays tally.course.ran (layout ring.geometry.format) pair (line_of tally pcm) tally.course.sure (heard_as kind address pin world.carried))
      → (tally.course.ran ≡ ran.Drained → tally.course.at ≤ world.output.left) → HearTheLine codecs ring.geometry.format pcm tally carried
  hear carried same plays past = subst (HearTheLine codecs ring.geometry.format pcm tally) (sym same) (record {
    plays = plays;
    all_sent = λ drained kind address pin pair is.
        subst (λ (count : ℕ). tally.course.at / block_size (layout ring.geometry.format) ≤ count)
        (sym (laws.count kind codecs 1 (format_word ring.geometry.format) (layout ring.geometry.format) 0 world address pin pair (read_back ring.geometry.format) hears.steady hears.sent is))
        (more_blocks tally.course.at world.output.left (block_size (layout ring.geometry.format)) (some_block (format_word ring.geometry.format) (layout ring.geometry.format) (read_back ring.geometry.format)) (past drained));
    sent_alone = λ kind address pin pair is. laws.sent_alone kind codecs 1 (format_word ring.geometry.format) (layout ring.geometry.format) 0 world address pin pair (read_back ring.geometry.format) hears.steady is;
    silent = λ kind address pin is. laws.silent kind codecs 1 (format_word ring.geometry.format) (layout ring.geometry.format) 0 world address pin (read_back ring.geometry.format) hears.steady is;
  })

-- ---- the last run

pub ends_stopped : (answer : Ran) (ring : Ring) (pcm : List ℕ) (tally tally' : Tally) (facts : RunFacts) (world : World) → tally' ≡ tally_after (measures ring.geometry) tally facts → answer ≡ tally'.course.ran
    → EndsLast answer ring pcm tally' world → WasStopped ring pcm tally' world
ends_stopped ran.Playing ring pcm tally tally' facts world recorded is ends = ends
ends_stopped ran.Drained ring pcm tally tally' facts world recorded is ends = drained_stopped ring pcm tally' world ends
ends_stopped (ran.Late from to limit) ring pcm tally tally' facts world recorded is ends = ends

module _ (laws : HearLaws) (codecs : List CodecState) (ring : Ring) (pcm : List ℕ) (tally tally' : Tally) (runs : ℕ) (course : IsCourse (size_of ring) runs tally.course) (begins ends : Telling)
    (playing : IsPlaying ring pcm tally (world_of begins)) (hears : IsHeardBy codecs ring (world_of begins)) (small : HasNotWrapped (world_of begins))
    (run : FinishTells ring pcm tally ran.Playing tally' begins ends) (plays : ran.Playing ≡ tally'.course.ran) where
  abbrev m : Measures
  m = measures ring.geometry

  -- where the device makes no step
  module _ (events : List Event) (went : Went begins ends events) (alone : All IsNoStep events) where
    playing_heard : (kind : PinKind) (address pin pair : ℕ) → signal_with_as kind (codec_at address codecs) 1 (format_word ring.geometry.format) (Some (layout ring.geometry.format)) pin ≡ Pair pair
        → Plays tally'.course.ran (layout ring.geometry.format) pair (line_of tally' pcm) tally'.course.sure (heard_as kind address pin (world_of begins).carried)
    playing_heard kind address pin pair is =
        subst (λ (was : Ran). Plays was (layout ring.geometry.format) pair (line_of tally' pcm) tally'.course.sure (heard_as kind address pin (world_of begins).carried)) plays
        (subst (λ (line : List ℕ). PlaysFront (layout ring.geometry.format) pair line (heard_as kind address pin (world_of begins).carried)) (sym (line_is laws.grows ring pcm tally tally' runs course begins ends playing small run plays))
        (laws.longer (layout ring.geometry.format) pair (line_of tally pcm) (run_bytes m tally.course run.facts (drop tally.course.used pcm)) (heard_as kind address pin (world_of begins).carried)
        (laws.playing kind codecs 1 (format_word ring.geometry.format) (layout ring.geometry.format) 0 (world_of begins) address pin pair ring pcm tally (read_back ring.geometry.format) hears.steady hears.sent is playing (few laws.grows ring pcm tally tally' runs course begins ends playing small run plays events went alone))))

-- ---- the last call

module _ (on : Laws) (laws : HearLaws) (codecs : List CodecState) (pcm : List ℕ) (old ended : BringUp) (writer : WriterState) (tally' : Tally) (supply : List ℕ) (made last : List Event) (before after : Telling)
    (went : Went before after last) (small : Along HasNotWrapped last (world_of before)) (left : IsLeft pcm writer.course supply) (sounds : StreamSounds codecs (ring_of writer) pcm (tally_of writer) before) where
  abbrev ring : Ring
  ring = ring_of writer

  abbrev tally : Tally
  tally = tally_of writer

  abbrev Ends : Type 0
  Ends = (tally'.course.started ≡ true) × HasStopped after × (All IsNoStep last → HearTheLine codecs writer.geometry.format pcm tally' (world_of after).carried)

  -- no link frame passes where the device makes no step
  same_carried : All IsNoStep last → (world_of after).carried ≡ (world_of before).carried
  same_carried alone = ap (λ (world : World). world.carried) (world_of-went before after last went) ∙ carried_alone last (world_of before) alone

  -- the stream was over
  shuts_end : ShutsAlone old ended writer tally' made → Makes made before after → Ends
  shuts_end shuts makes =
      let over : is_open writer.course.ran ≡ false = sym (ap (λ (started : Bool). started && is_open writer.course.ran) sounds.started) ∙ shuts.still in (
        ap (λ (tally : Tally). tally.course.started) shuts.tally_is ∙ sounds.started,
        shut_stopped ring pcm tally before after (subst (λ (made : List Event). Makes made before after) shuts.made_is makes) (over_stopped writer.course.ran ring pcm tally (world_of before) over sounds.stream)
            (subst (λ (open' : Bool). Lives open' before) over sounds.lives),
        λ alone. subst (λ (tally : Tally). HearTheLine codecs writer.geometry.format pcm tally (world_of after).carried) (sym shuts.tally_is)
            (hear laws codecs ring pcm tally (world_of before) sounds.heard (world_of after).carried (same_carried alone) (over_heard laws codecs ring pcm tally (world_of before) sounds.heard writer.course.ran over sounds.stream)
            (over_past writer.course.ran ring pcm tally (world_of before) sounds.stream)),
      )

  -- or it played
  module _ (stops_sound : StopsSound old ended writer tally' supply made before after) where
    abbrev begins : Telling
    begins = stops_sound.begins

    abbrev ends : Telling
    ends = stops_sound.ends

    abbrev poll : List Event
    poll = poll_accesses old.engine.rirb.address old.engine.rings stops_sound.reads

    polled : Weaving poll before begins
    polled = woven stops_sound.listened

    ran_on : Weaving stops_sound.run begins ends
    ran_on = woven stops_sound.run_made

    shut : Weaving shut_accesses ends after
    shut = woven stops_sound.shut

    went_ends : Went before ends (polled.events ++ ran_on.events)
    went_ends = went_both before begins ends polled.events ran_on.events polled.went ran_on.went

    last_is : last ≡ (polled.events ++ ran_on.events) ++ shut.events
    last_is = went_same before after last ((polled.events ++ ran_on.events) ++ shut.events) went (went_both before ends after (polled.events ++ ran_on.events) shut.events went_ends shut.went)

    small_along : Along HasNotWrapped (polled.events ++ ran_on.events) (world_of before)
    small_along = Along-front HasNotWrapped (polled.events ++ ran_on.events) shut.events (world_of before) (subst (λ (events : List Event). Along HasNotWrapped events (world_of before)) last_is small)

    small_ends : HasNotWrapped (world_of ends)
    small_ends = subst HasNotWrapped (sym (world_of-went before ends (polled.events ++ ran_on.events) went_ends)) (Along-end HasNotWrapped (polled.events ++ ran_on.events) (world_of before) small_along)

    small_begins : HasNotWrapped (world_of begins)
    small_begins =
        subst HasNotWrapped (sym (world_of-went before begins polled.events polled.went))
        (Along-end HasNotWrapped polled.events (world_of before) (Along-front HasNotWrapped polled.events ran_on.events (world_of before) small_along))

    here : StreamSounds codecs ring pcm tally begins
    here = row_sounds on codecs ring pcm tally poll before begins stops_sound.listened (poll_beside old.engine.rirb.address old.engine.rings stops_sound.reads) sounds

    open_is : is_open writer.course.ran ≡ true
    open_is = sym (ap (λ (started : Bool). started && is_open writer.course.ran) sounds.started) ∙ stops_sound.plays

    plays : writer.course.ran ≡ ran.Playing
    plays = open_playing writer.course.ran open_is

    playing : IsPlaying ring pcm tally (world_of begins)
    playing = subst (λ (was : Ran). StreamIs was ring pcm tally (world_of begins)) plays here.stream

    going : IsGoing begins
    going = subst (λ (was : Ran). Lives (is_open was) begins) plays here.lives

    module _ (answer : Ran) (is : answer ≡ tally'.course.ran) (run : FinishTells ring pcm tally answer tally' begins ends) where
      set_going : tally'.course.started ≡ true
      set_going = ap (λ (tally : Tally). tally.course.started) run.recorded ∙ started_by (is_late (measures ring.geometry) tally.course run.facts) (measures ring.geometry) tally run.facts sounds.started

      stopped : WasStopped ring pcm tally' (world_of ends)
      stopped = ends_stopped answer ring pcm tally tally' run.facts (world_of ends) run.recorded is run.ends

      has_stopped : HasStopped after
      has_stopped =
          let stop : IsStopped (world_of ends) = record { stopped = stopped.stopped; no_error = stopped.no_error } in
          shut_stopped ring pcm tally' ends after stops_sound.shut stopped
          (stopped_by ring (line_of tally pcm) (run_sure (measures ring.geometry) tally.course run.facts) tally.course.from (allowed_in ring tally run.facts)
          (finish_accesses ring.geometry ring.periods tally.course run.facts (drop tally.course.used pcm)) (turn_accesses ring.geometry ring.periods tally.course run.facts (drop tally.course.used pcm))
          run.events begins ends run.made (finish_is ring tally run.facts (drop tally.course.used pcm)) run.went run.moments going stop)

      hears_ends : IsHeardBy codecs ring (world_of ends)
      hears_ends =
          heard_row on codecs ring (finish_accesses ring.geometry ring.periods tally.course run.facts (drop tally.course.used pcm)) begins ends run.made
          (finish_steady ring tally run.facts (drop tally.course.used pcm)) here.heard

    alone_ends : All IsNoStep last → All IsNoStep (polled.events ++ ran_on.events)
    alone_ends alone = events_front IsNoStep (polled.events ++ ran_on.events) shut.events (subst (All IsNoStep) last_is alone)

    carried_ends : All IsNoStep last → (world_of after).carried ≡ (world_of ends).carried
    carried_ends alone =
        ap (λ (world : World). world.carried) (world_of-went ends after shut.events shut.went)
        ∙ carried_alone shut.events (world_of ends) (events_back IsNoStep (polled.events ++ ran_on.events) shut.events (subst (All IsNoStep) last_is alone))

    carried_begins : All IsNoStep last → (world_of after).carried ≡ (world_of begins).carried
    carried_begins alone =
        carried_ends alone ∙ ap (λ (world : World). world.carried) (world_of-went begins ends ran_on.events ran_on.went)
        ∙ carried_alone ran_on.events (world_of begins) (events_back IsNoStep polled.events ran_on.events (alone_ends alone))

    abbrev HeardAt : Ran → Type 0
    HeardAt was =
        (kind : PinKind) (address pin pair : ℕ) → signal_with_as kind (codec_at address codecs) 1 (format_word writer.geometry.format) (Some (layout writer.geometry.format)) pin ≡ Pair pair
        → Plays was (layout writer.geometry.format) pair (line_of tally' pcm) tally'.course.sure (heard_as kind address pin (world_of ends).carried)

    ends_by : (answer : Ran) → answer ≡ tally'.course.ran → FinishTells ring pcm tally answer tally' begins ends → Ends
    ends_by ran.Playing is run = (
      set_going ran.Playing is run,
      has_stopped ran.Playing is run,
      λ alone. hear laws codecs ring pcm tally' (world_of begins) here.heard (world_of after).carried (carried_begins alone)
          (playing_heard laws codecs ring pcm tally tally' (length writer.runs) stops_sound.course_is begins ends playing here.heard small_begins run is ran_on.events ran_on.went (events_back IsNoStep polled.events ran_on.events (alone_ends alone)))
          (λ drained. absurd (never_drained ran.Playing refl (is ∙ drained))),
    )
    ends_by ran.Drained is run = (
      set_going ran.Drained is run,
      has_stopped ran.Drained is run,
      λ alone. hear laws codecs ring pcm tally' (world_of ends) (hears_ends ran.Drained is run) (world_of after).carried (carried_ends alone)
          (subst HeardAt is (over_heard laws codecs ring pcm tally' (world_of ends) (hears_ends ran.Drained is run) ran.Drained refl run.ends))
          (λ drained. run.ends.sent),
    )
    ends_by (ran.Late from to limit) is run = (
      set_going (ran.Late from to limit) is run,
      has_stopped (ran.Late from to limit) is run,
      λ alone. hear laws codecs ring pcm tally' (world_of ends) (hears_ends (ran.Late from to limit) is run) (world_of after).carried (carried_ends alone)
          (subst HeardAt is (over_heard laws codecs ring pcm tally' (world_of ends) (hears_ends (ran.Late from to limit) is run) (ran.Late from to limit) refl (stopped (ran.Late from to limit) is run)))
          (λ drained. absurd (never_drained (ran.Late from to limit) refl (is ∙ drained))),
    )

    sound_ends : Ends
    sound_ends = ends_by tally'.course.ran refl (stops_sound.tells pcm (left (ap was_late plays)) playing small_ends)

  pub call_ends : EndTells old ended writer tally' supply made before after → Makes made before after → Ends
  call_ends (inl shuts) makes = shuts_end shuts makes
  call_ends (inr stops_sound) makes = sound_ends stops_sound
