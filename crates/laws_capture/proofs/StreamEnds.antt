-- The last call of a driver that records: what is known of its stream then.
use Rattle.std.proofs.Common.{◌≡◌, ◌⊎◌, inl, inr, ◌++◌, ℕ, false, List, [], ◌∷◌, map, length, refl, sym, ap, subst, ◌∙◌, lit<, arith}
use Rattle.std.proofs.lemmas.Bool.{false≢true}
use Rattle.std.specs.Prelude.{All, take}
use Rattle.std.proofs.lemmas.List.Elements.{All-append, All-cons, All-nil}
use Rattle.codec_graph.specs.declared.raw.RawCodec.{RawCodec}
use Rattle.stream_format.specs.Cadence.{block_bytes}
use Rattle.hda_registers.specs.declared.shapes.Width.TheVariants.{One, Four}
use Rattle.hda_registers.specs.declared.places.TheConstants.{GCTL, CORBCTL, RIRBCTL}
use Rattle.hda_world.specs.Worlds.{World}
use Rattle.hda_world.specs.Steps.{after_steps}
use Rattle.hda_world.specs.Streaming.{taken_sound}
use Rattle.hda_world.specs.Events.{Event, Stepped, End, Write}
use Rattle.hda_world.specs.Tellings.{Telling, world_of, Went, Accessed, Makes}
use Rattle.hda_world.proofs.Callers.{world_of-went, woven}
use Rattle.command_engine.specs.Polling.{poll_accesses}
use Rattle.period_writer.specs.Outcomes.{HasNotWrapped}
use Rattle.hda_capture.specs.declared.course.Recorded.{Recorded}
use Rattle.hda_capture.specs.declared.course.Recorded.TheVariants.{Recording, Complete, Late}
use Rattle.hda_capture.specs.declared.registers.TheConstants.{CONTROL}
use Rattle.hda_capture.specs.Recordings.{RecordTally}
use Rattle.hda_capture.specs.Recorders.{RecorderState, IsRecorder, IsAtBlocks}
use Rattle.driver_progress.specs.Shutting.{shut_accesses}
use Rattle.laws_bring_up.proofs.Callers.{world_after}
use Rattle.laws_stream.specs.Resting.{LeavesRest}
use Rattle.laws_stream.proofs.Callers.{all_map, woven_all}
use Rattle.laws_recording.specs.Filling.{recorder_ring}
use Rattle.laws_recording.specs.Beside.{LeavesStoppedInput}
use Rattle.laws_recording.specs.Sound.{RecordsGiven}
use Rattle.recording_driver.specs.RecordRules.{records_on}
use Rattle.recording_driver.specs.RecordingDrivers.{RecordingState, KeepsRecording}
use Rattle.recording_driver.specs.RecordingCalls.{last_stop, ShutsStill, StopsRecord}
use Rattle.laws_capture.specs.Taking.{HasNotStarted, IsTaking, HasTaken, IsOverWith, StreamTakes}
use Rattle.laws_capture.proofs.NoneCame.{CameLaws, mark_quiet, row_quiet}
use Rattle.laws_capture.proofs.Given.{RecorderLaws, TakenLaws}
use Rattle.laws_capture.proofs.StreamLooks.{taking_row}
use Rattle.laws_capture.proofs.StreamCalls.{run_leaves, taking_on, unstarted_fresh}

-- ---- what is known at the end

-- what was recorded is the first of the given sound that was taken, in whole blocks, and no block came where the stream was not started
pub record HasGiven (recorder : RecorderState) (world : World) : Type 0 where
  pub records : RecordsGiven recorder world
  pub whole : All (IsAtBlocks (block_bytes recorder.geometry.format)) recorder.runs
  pub none_came : recorder.course.started ≡ false → world.came ≡ []

-- nothing was recorded
none_given : (recorder : RecorderState) (world : World) → recorder.bytes ≡ [] → recorder.runs ≡ [] → world.came ≡ [] → HasGiven recorder world
none_given recorder world none no_runs came = record {
  records = (
      let taken = taken_sound (block_bytes recorder.geometry.format) world.given world.came in
      subst (λ (bytes : List ℕ). bytes ≡ take (length bytes) taken) (sym none) refl);
  whole = subst (All (IsAtBlocks (block_bytes recorder.geometry.format))) (sym no_runs) (All-nil (IsAtBlocks (block_bytes recorder.geometry.format)));
  none_came = λ not. came;
}

-- ---- the end of all

shut_rests : All LeavesRest shut_accesses
shut_rests =
    All-cons LeavesRest (Write CORBCTL One 0) (Write RIRBCTL One 0 ∷ Write GCTL Four 0 ∷ []) (inl (omega arith, inl (lit< tt)))
    (All-cons LeavesRest (Write RIRBCTL One 0) (Write GCTL Four 0 ∷ []) (inl (omega arith, inl (lit< tt)))
    (All-cons LeavesRest (Write GCTL Four 0) [] (inr (inr (record { place = refl; wide = refl; either = inl refl }))) (All-nil LeavesRest)))

shut_stopped : All LeavesStoppedInput shut_accesses
shut_stopped =
    All-cons LeavesStoppedInput (Write CORBCTL One 0) (Write RIRBCTL One 0 ∷ Write GCTL Four 0 ∷ []) (inl (inl (lit< tt)))
    (All-cons LeavesStoppedInput (Write RIRBCTL One 0) (Write GCTL Four 0 ∷ []) (inl (inl (lit< tt)))
    (All-cons LeavesStoppedInput (Write GCTL Four 0) [] (inl (inl (lit< tt))) (All-nil LeavesStoppedInput)))

module _ (came : CameLaws) (recorder_laws : RecorderLaws) (taken_laws : TakenLaws) where
  -- ---- once its stream was stopped

  went_taken : (recorder : RecorderState) (old new : Telling) (events : List Event) → Went old new events → All LeavesStoppedInput events → HasTaken recorder (world_of old) → HasTaken recorder (world_of new)
  went_taken recorder old new events went all has =
      subst (HasTaken recorder) (sym (world_of-went old new events went)) (record {
        recorded = recorder_laws.over recorder events (world_of old) all has.recorded;
        took = taken_laws.over recorder.geometry.format events (world_of old) recorder all has.recorded has.took;
      })

  row_taken : (recorder : RecorderState) (made : List Event) (old new : Telling) → Makes made old new → All LeavesStoppedInput made → HasTaken recorder (world_of old) → HasTaken recorder (world_of new)
  row_taken recorder made old new makes all has =
      let weaving = woven makes in
      went_taken recorder old new weaving.events weaving.went (woven_all LeavesStoppedInput (λ step. tt {0}) made weaving.events weaving.woven all) has

  end_taken : (recorder : RecorderState) (old new : Telling) → Accessed old new End → HasTaken recorder (world_of old) → HasTaken recorder (world_of new)
  end_taken recorder old new accessed has =
      went_taken recorder old new (map Stepped accessed.steps ++ End ∷ []) accessed.went
      (All-append LeavesStoppedInput (map Stepped accessed.steps) (End ∷ []) (all_map LeavesStoppedInput Stepped (λ step. tt {0}) accessed.steps) (All-cons LeavesStoppedInput End [] (tt {0}) (All-nil LeavesStoppedInput))) has

  taken_given : (recorder : RecorderState) (world : World) → HasTaken recorder world → HasGiven recorder world
  taken_given recorder world has = record {
    records = taken_laws.given recorder world has.recorded has.took;
    whole = has.recorded.whole.runs;
    none_came = λ not. absurd (false≢true (sym not ∙ has.recorded.started));
  }

  -- after the end of the closing stretch
  shut_given : (recorder : RecorderState) (before made after : Telling) → Makes shut_accesses before made → Accessed made after End → HasTaken recorder (world_of before) → HasGiven recorder (world_of after)
  shut_given recorder before made after makes ends has =
      taken_given recorder (world_of after) (end_taken recorder made after ends (row_taken recorder shut_accesses before made makes shut_stopped has))

  -- ---- the stop

  -- the write that takes RUN back, after some steps
  stop_taken : (recorder : RecorderState) (old new : Telling) → Accessed old new (Write CONTROL One 0) → IsTaking recorder (world_of old) → HasTaken recorder (world_of new)
  stop_taken recorder old new accessed is =
      let there = after_steps accessed.steps (world_of old) in
      let recording = recorder_laws.steps recorder accessed.steps (world_of old) is.recording in
      let given = taken_laws.steps is.nid recorder accessed.steps (world_of old) is.recording is.hears is.took in
      subst (HasTaken recorder) (sym (world_after (Write CONTROL One 0) old new accessed)) (record {
        recorded = recorder_laws.stop recorder there recording;
        took = taken_laws.stop recorder there recording given.1;
      })

  last_taken : (recorder : RecorderState) (answer : Recorded) (old new : Telling) → recorder.course.recorded ≡ answer → Makes (last_stop answer) old new → IsTaking recorder (world_of old) ⊎ IsOverWith recorder (world_of old) → HasTaken recorder (world_of new)
  last_taken recorder Recording old new answered makes (inl is) =
      subst (λ (telling : Telling). HasTaken recorder (world_of telling)) (sym makes.by.2) (stop_taken recorder old makes.by.0 makes.by.1 is)
  last_taken recorder Recording old new answered makes (inr is) = absurd (false≢true (sym is.over ∙ ap records_on answered))
  last_taken recorder Complete old new answered makes (inl is) = absurd (false≢true (sym (ap records_on answered) ∙ taking_on recorder (world_of old) is))
  last_taken recorder Complete old new answered makes (inr is) = subst (λ (telling : Telling). HasTaken recorder (world_of telling)) (sym makes.by) is.has
  last_taken recorder (Late from to) old new answered makes (inl is) = absurd (false≢true (sym (ap records_on answered) ∙ taking_on recorder (world_of old) is))
  last_taken recorder (Late from to) old new answered makes (inr is) = subst (λ (telling : Telling). HasTaken recorder (world_of telling)) (sym makes.by) is.has

  -- ---- the last call

  module _ (graphs : List RawCodec) (old ended : RecordingState) (keeps : KeepsRecording old ended) (recorder : IsRecorder old.recorder) (before made after : Telling) (ends : Accessed made after End) where
    not_still : (world : World) → IsTaking old.recorder world → (old.recorder.course.started ≡ false) ⊎ (records_on old.recorder.course.recorded ≡ false) → ⊥
    not_still world is (inl not) = false≢true (sym not ∙ is.recording.started)
    not_still world is (inr over) = false≢true (sym over ∙ taking_on old.recorder world is)

    unstarted_given : Makes shut_accesses before made → HasNotStarted graphs old.engine old.recorder (world_of before) → HasGiven old.recorder (world_of after)
    unstarted_given makes has =
        let fifo = old.recorder.geometry.fifo in
        let quiet = mark_quiet came fifo End made after (tt {0}) ends (row_quiet came fifo shut_accesses before made makes shut_rests (record { rests = has.rests; none_came = has.none_came })) in
        none_given old.recorder (world_of after) has.none (ap (λ (tally : RecordTally). tally.runs) has.fresh) quiet.none_came

    shuts_by : Makes shut_accesses before made → (old.recorder.course.started ≡ false) ⊎ (records_on old.recorder.course.recorded ≡ false) → StreamTakes graphs old.engine old.recorder (world_of before) → HasGiven old.recorder (world_of after)
    shuts_by makes still (inl has) = unstarted_given makes has
    shuts_by makes still (inr (inl is)) = absurd (not_still (world_of before) is still)
    shuts_by makes still (inr (inr is)) = shut_given old.recorder before made after makes ends is.has

    pub shuts_given : (events : List Event) → Makes events before made → ShutsStill old ended events → StreamTakes graphs old.engine old.recorder (world_of before) → HasGiven ended.recorder (world_of after)
    shuts_given events makes shuts takes =
        subst (λ (recorder : RecorderState). HasGiven recorder (world_of after)) (sym shuts.recorder)
        (shuts_by (subst (λ (events : List Event). Makes events before made) shuts.made_is makes) shuts.still takes)

    pub stops_given : (events : List Event) → (stops : StopsRecord old ended events before made) → HasNotWrapped (world_of stops.ran) → StreamTakes graphs old.engine old.recorder (world_of before) → HasGiven ended.recorder (world_of after)
    stops_given events stops small (inl has) = absurd (false≢true (sym (unstarted_fresh graphs old.engine old.recorder (world_of before) has) ∙ stops.started))
    stops_given events stops small (inr (inl is)) =
        let polled = taking_row came recorder_laws taken_laws graphs old.engine old.recorder (poll_accesses old.engine.rirb.address old.engine.rings stops.reads) before stops.begins stops.listened
        (recorder_laws.polls (recorder_ring old.recorder) old.engine.rirb.address old.engine.rings stops.reads) is in
        let ran = run_leaves recorder_laws taken_laws old ended stops.begins stops.ran keeps recorder stops.records small polled in
        shut_given ended.recorder stops.ends made after stops.shut ends (last_taken ended.recorder ended.recorder.course.recorded stops.ran stops.ends refl stops.stopped ran)
    stops_given events stops small (inr (inr is)) = absurd (false≢true (sym is.over ∙ stops.more))
