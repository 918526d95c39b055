-- A call of a driver that records leads its stream on: to its first run, to a later one, or nowhere.
use Rattle.std.proofs.Common.{◌≡◌, ◌⊎◌, inl, inr, ◌++◌, ℕ, Bool, true, false, List, Some, refl, sym, ap, subst, ◌∙◌}
use Rattle.std.proofs.lemmas.Bool.{false≢true}
use Rattle.std.specs.Prelude.{All}
use Rattle.std.proofs.lemmas.List.Elements.{All-append}
use Rattle.codec_graph.specs.declared.raw.RawCodec.{RawCodec}
use Rattle.stream_format.specs.declared.format.Format.{Format}
use Rattle.route_setup.specs.Means.{Means}
use Rattle.hda_world.specs.Worlds.{World}
use Rattle.hda_world.specs.Events.{Event}
use Rattle.hda_world.specs.Tellings.{Telling, world_of, Makes}
use Rattle.command_engine.specs.Engines.{EngineState}
use Rattle.command_engine.specs.Polling.{PollReads, poll_accesses}
use Rattle.period_writer.specs.declared.geometry.Geometry.{Geometry}
use Rattle.period_writer.specs.Outcomes.{HasNotWrapped}
use Rattle.hda_capture.specs.declared.course.Recorded.{Recorded}
use Rattle.hda_capture.specs.declared.course.Recorded.TheVariants.{Recording, Complete, Late}
use Rattle.hda_capture.specs.Recordings.{RecordTally}
use Rattle.hda_capture.specs.Recorders.{RecorderState, IsRecorder, KeepsRecorderRing}
use Rattle.hda_capture.specs.Calls.{StartsRecording, RecordsRun}
use Rattle.laws_bring_up.specs.SettingUp.{AreSetUpForGood}
use Rattle.laws_recording.specs.Filling.{recorder_ring}
use Rattle.laws_recording.specs.Recording.{IsRecording, HasRecorded, RecordedAs}
use Rattle.laws_recording.specs.Beside.{LeavesFilling}
use Rattle.laws_recording.specs.Sound.{HearsGiven, TookGiven}
use Rattle.recording_driver.specs.RecordRules.{records_on}
use Rattle.recording_driver.specs.RecordingDrivers.{RecordingState, KeepsRecording}
use Rattle.recording_driver.specs.RecordingCalls.{IsBeforeRun, StaysStill, BeginsRecord, GoesOnRecord, RecordTells}
use Rattle.laws_capture.specs.Listening.{HearsWhereOpen}
use Rattle.laws_capture.specs.Taking.{HasNotStarted, IsTaking, IsOverWith, StreamTakes}
use Rattle.laws_capture.proofs.NoneCame.{CameLaws}
use Rattle.laws_capture.proofs.Given.{RecorderLaws, TakenLaws}
use Rattle.laws_capture.proofs.Looks.{all_filling, still_looks, before_looks}
use Rattle.laws_capture.proofs.StreamLooks.{row_takes, unstarted_row, taking_row}

-- ---- a recorder with as much room for records as another

abbrev with_room : (old new : RecorderState) → RecorderState
with_room old new = record new { records = old.records }

keeps_ring : (old new : RecordingState) → KeepsRecording old new → KeepsRecorderRing old.recorder (with_room old.recorder new.recorder)
keeps_ring old new keeps = record { geometry = keeps.geometry; list = keeps.list; periods = keeps.periods; total = keeps.total; records = refl }

-- what is said of it is said of the other
as_recording : (old new : RecorderState) (world : World) → IsRecording (with_room old new) world → IsRecording new world
as_recording old new world is = record {
  since = is.since;
  clock_from = is.clock_from;
  started = is.started;
  records = is.records;
  whole = record { at = is.whole.at; runs = is.whole.runs };
  fills = is.fills;
  paced = is.paced;
  there = is.there;
  stored = is.stored;
  first = is.first;
}

as_recorded : (old new : RecorderState) (world : World) → HasRecorded (with_room old new) world → HasRecorded new world
as_recorded old new world has = record {
  stopped = has.stopped;
  no_error = has.no_error;
  started = has.started;
  whole = record { at = has.whole.at; runs = has.whole.runs };
  first = has.first;
}

starts_with : (old new : RecorderState) (before after : Telling) → StartsRecording old new (Some before) (Some after) → StartsRecording old (with_room old new) (Some before) (Some after)
starts_with old new before after starts = record {
  from = starts.from;
  in_reset = starts.in_reset;
  ready = starts.ready;
  to = starts.to;
  made = starts.made;
  tally_is = starts.tally_is;
  bytes_is = starts.bytes_is;
}

run_with : (old new : RecorderState) (answer : Recorded) (before after : Telling) → RecordsRun old answer new (Some before) (Some after) → RecordsRun old answer (with_room old new) (Some before) (Some after)
run_with old new answer before after run = record {
  from = run.from;
  lpib = run.lpib;
  to = run.to;
  pieces = run.pieces;
  sizes = run.sizes;
  made = run.made;
  tally_is = run.tally_is;
  answer_is = run.answer_is;
  bytes_is = run.bytes_is;
}

-- ---- what a run leaves

-- by what it answered: it records on, or no run comes any more
abbrev pub RunLeaves : RecorderState → World → Type 0
RunLeaves recorder world = IsTaking recorder world ⊎ IsOverWith recorder world

module _ (recorder_laws : RecorderLaws) (taken_laws : TakenLaws) where
  pub run_leaves : (old new : RecordingState) (before after : Telling) → KeepsRecording old new → IsRecorder old.recorder → RecordsRun old.recorder new.recorder.course.recorded new.recorder (Some before) (Some after)
      → HasNotWrapped (world_of after) → IsTaking old.recorder (world_of before) → RunLeaves new.recorder (world_of after)
  run_leaves old new before after keeps recorder run small is =
      by new.recorder.course.recorded refl
      (recorder_laws.later old.recorder (with_room old.recorder new.recorder) new.recorder.course.recorded before after recorder (keeps_ring old new keeps) (run_with old.recorder new.recorder new.recorder.course.recorded before after run) is.recording small)
    where
      given : HearsGiven old.recorder.geometry.format is.nid (world_of after) × TookGiven old.recorder.geometry.format (world_of after)
      given = taken_laws.later is.nid old.recorder new.recorder new.recorder.course.recorded before after run is.recording is.hears is.took

      hears : HearsGiven new.recorder.geometry.format is.nid (world_of after)
      hears = subst (λ (geometry : Geometry). HearsGiven geometry.format is.nid (world_of after)) (sym keeps.geometry) given.0

      took : TookGiven new.recorder.geometry.format (world_of after)
      took = subst (λ (geometry : Geometry). TookGiven geometry.format (world_of after)) (sym keeps.geometry) given.1

      by : (answer : Recorded) → new.recorder.course.recorded ≡ answer → RecordedAs answer (with_room old.recorder new.recorder) (world_of after) → RunLeaves new.recorder (world_of after)
      by Recording answered recording = inl (record { nid = is.nid; recording = as_recording old.recorder new.recorder (world_of after) recording; hears = hears; took = took })
      by Complete answered complete = inr (record { over = ap records_on answered; has = record { recorded = as_recorded old.recorder new.recorder (world_of after) complete.ended; took = took } })
      by (Late from to) answered late = inr (record { over = ap records_on answered; has = record { recorded = as_recorded old.recorder new.recorder (world_of after) late; took = took } })

-- ---- a call

-- what its stream takes is that of both sides of it
takes_by : (graphs : List RawCodec) (old new : RecordingState) (world : World) → new.engine ≡ old.engine → new.recorder ≡ old.recorder → StreamTakes graphs old.engine old.recorder world → StreamTakes graphs new.engine new.recorder world
takes_by graphs old new world engine recorder takes =
    subst (λ (engine : EngineState). StreamTakes graphs engine new.recorder world) (sym engine) (subst (λ (recorder : RecorderState). StreamTakes graphs old.engine recorder world) (sym recorder) takes)

-- a recorder that records is one that runs come to
pub taking_on : (recorder : RecorderState) (world : World) → IsTaking recorder world → records_on recorder.course.recorded ≡ true
taking_on recorder world is = ap records_on is.recording.records

-- and one of which nothing is recorded was not started
pub unstarted_fresh : (graphs : List RawCodec) (engine : EngineState) (recorder : RecorderState) (world : World) → HasNotStarted graphs engine recorder world → recorder.course.started ≡ false
unstarted_fresh graphs engine recorder world has = ap (λ (tally : RecordTally). tally.course.started) has.fresh

module _ (came : CameLaws) (recorder_laws : RecorderLaws) (taken_laws : TakenLaws) (means : Means) (graphs : List RawCodec) (format : Format) (nid : ℕ)
    (hears : HearsWhereOpen means graphs format nid) (old new : RecordingState) (format_is : format ≡ old.recorder.geometry.format) (keeps : KeepsRecording old new) (recorder : IsRecorder old.recorder) where
  abbrev Takes : RecordingState → Telling → Type 0
  Takes driver telling = StreamTakes graphs driver.engine driver.recorder (world_of telling)

  -- no run came
  still_takes : (irq : Bool) (made : List Event) (before after : Telling) → Makes made before after → StaysStill irq old new made → Takes old before → Takes new after
  still_takes irq made before after makes still takes =
      takes_by graphs old new (world_of after) still.engine still.recorder (row_takes came recorder_laws taken_laws graphs old.engine old.recorder made before after makes (still_looks made still.looks) takes)

  -- the first
  first_takes : (before after : Telling) → StartsRecording old.recorder new.recorder (Some before) (Some after) → AreSetUpForGood means graphs (world_of before) → HasNotWrapped (world_of after)
      → HasNotStarted graphs old.engine old.recorder (world_of before) → IsTaking new.recorder (world_of after)
  first_takes before after starts good small has =
      let can = recorder_laws.can_begin (recorder_ring old.recorder) has.from has.read old.engine.corb.address old.engine.rirb.address old.engine.rings (world_of before) has.rests has.stands has.apart in
      let heard = subst (λ (format : Format). HearsGiven format nid (world_of before)) format_is (hears (world_of before) has.graphs_are good.set_up good.idle) in
      let given = taken_laws.first nid old.recorder new.recorder before after recorder starts has.region can heard in
      let recording = recorder_laws.first old.recorder (with_room old.recorder new.recorder) before after recorder (keeps_ring old new keeps) (unstarted_fresh graphs old.engine old.recorder (world_of before) has)
      (starts_with old.recorder new.recorder before after starts) has.region can small in record {
        nid = nid;
        recording = as_recording old.recorder new.recorder (world_of after) recording;
        hears = subst (λ (geometry : Geometry). HearsGiven geometry.format nid (world_of after)) (sym keeps.geometry) given.0;
        took = subst (λ (geometry : Geometry). TookGiven geometry.format (world_of after)) (sym keeps.geometry) given.1;
      }

  -- at the first run all codecs are set up, as they were when it was called
  abbrev pub StaysGoodOver : (before : Telling) → Type 0
  StaysGoodOver before = (irq : Bool) (first : List Event) (begins : Telling) → IsBeforeRun irq first → Makes first before begins → AreSetUpForGood means graphs (world_of begins)

  begins_takes : (irq : Bool) (made : List Event) (before after : Telling) → BeginsRecord irq old new made before after → StaysGoodOver before → HasNotWrapped (world_of after) → Takes old before → Takes new after
  begins_takes irq made before after begins good small (inl has) =
      inr (inl (first_takes begins.begins after begins.starts (good irq begins.first begins.begins begins.is_before begins.first_made) small
      (unstarted_row came recorder_laws taken_laws graphs old.engine old.recorder begins.first before begins.begins begins.first_made (before_looks irq begins.first begins.is_before) has)))
  begins_takes irq made before after begins good small (inr (inl is)) = absurd (false≢true (sym begins.fresh ∙ is.recording.started))
  begins_takes irq made before after begins good small (inr (inr is)) = absurd (false≢true (sym begins.fresh ∙ is.has.recorded.started))

  -- a later one
  look_filling : (irq : Bool) (first : List Event) (reads : PollReads) → IsBeforeRun irq first → All (LeavesFilling (recorder_ring old.recorder)) (first ++ poll_accesses old.engine.rirb.address old.engine.rings reads)
  look_filling irq first reads is_before =
      let ring = recorder_ring old.recorder in
      All-append (LeavesFilling ring) first (poll_accesses old.engine.rirb.address old.engine.rings reads) (all_filling ring first (before_looks irq first is_before))
      (recorder_laws.polls ring old.engine.rirb.address old.engine.rings reads)

  goes_takes : (irq : Bool) (made : List Event) (before after : Telling) → GoesOnRecord irq old new made before after → HasNotWrapped (world_of after) → Takes old before → Takes new after
  goes_takes irq made before after goes small (inl has) =
      absurd (false≢true (sym (unstarted_fresh graphs old.engine old.recorder (world_of before) has) ∙ goes.started))
  goes_takes irq made before after goes small (inr (inl is)) =
      inr (run_leaves recorder_laws taken_laws old new goes.begins after keeps recorder goes.records small
      (taking_row came recorder_laws taken_laws graphs old.engine old.recorder (goes.first ++ poll_accesses old.engine.rirb.address old.engine.rings goes.reads) before goes.begins goes.first_made
      (look_filling irq goes.first goes.reads goes.is_before) is))
  goes_takes irq made before after goes small (inr (inr is)) = absurd (false≢true (sym is.over ∙ goes.more))

  pub call_takes : (irq : Bool) (made : List Event) (before after : Telling) → Makes made before after → RecordTells irq old new made before after → StaysGoodOver before → HasNotWrapped (world_of after) → Takes old before → Takes new after
  call_takes irq made before after makes (inl still) good small takes = still_takes irq made before after makes still takes
  call_takes irq made before after makes (inr (inl begins)) good small takes = begins_takes irq made before after begins good small takes
  call_takes irq made before after makes (inr (inr goes)) good small takes = goes_takes irq made before after goes small takes
