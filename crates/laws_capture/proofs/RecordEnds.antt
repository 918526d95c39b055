-- The closing stretch of a driver that records, and all that is known then.
use Rattle.std.proofs.Common.{◌≡◌, ◌⊎◌, inl, inr, ◌++◌, ℕ, Bool, false, if◌then◌else◌, List, [], None, Some, sym, ap, subst, ◌∙◌}
use Rattle.verb_codes.specs.declared.verbs.Command.{Command}
use Rattle.codec_graph.specs.declared.raw.RawCodec.{RawCodec}
use Rattle.route_setup.specs.Means.{Means}
use Rattle.hda_world.specs.Worlds.{World}
use Rattle.hda_world.specs.Events.{Event, Begin, End}
use Rattle.hda_world.specs.Tellings.{Telling, world_of, Went, Accessed, Grew}
use Rattle.hda_world.proofs.Callers.{world_of-went, went_both, grew_both, grew_access, grew_row}
use Rattle.period_writer.specs.Outcomes.{HasNotWrapped}
use Rattle.hda_capture.specs.Recorders.{IsRecorder}
use Rattle.driver_progress.specs.Tasks.{Task, DriverLine}
use Rattle.driver_progress.specs.States.{State}
use Rattle.driver_progress.specs.Progress.{Trail, trail_of, ended, state_of}
use Rattle.driver_rules.proofs.Callers.{trail_is, rest_onward}
use Rattle.laws_stream.specs.Lives.{Along}
use Rattle.laws_stream.proofs.Callers.{went_same, Along-end, Along-front}
use Rattle.recording_driver.specs.RecordRules.{record_rules}
use Rattle.recording_driver.specs.RecordingDrivers.{RecordingState, record_state}
use Rattle.recording_driver.specs.RecordingCalls.{ShutsStill, StopsRecord, EndsRecord}
use Rattle.laws_capture.specs.Capturing.{CaptureGoesOn, CaptureHasGone}
use Rattle.laws_capture.proofs.StreamEnds.{HasGiven, shuts_given, stops_given}
use Rattle.laws_capture.proofs.RecordCalls.{IsOpened, record_opens, StretchEnds, stretch_ends}
use Rattle.laws_capture.proofs.Given.{Given}

-- what holds at every moment of a stretch holds at one of them
held_there : (Holds : World → Type 0) (before there after : Telling) (last : List Event) → Went before after last → Along Holds last (world_of before) → Grew before there → Grew there after → Holds (world_of there)
held_there Holds before there after last went along first second =
    let is = went_same before after last (first.events ++ second.events) went (went_both before there after first.events second.events first.went second.went) in
    subst Holds (sym (world_of-went before there first.events first.went))
    (Along-end Holds first.events (world_of before)
    (Along-front Holds first.events second.events (world_of before) (subst (λ (events : List Event). Along Holds events (world_of before)) is along)))

-- the state where no stretch is open is that of the trail
state_at : (task : Task) (trail : Trail) → trail.within ≡ false → (if trail.within then ended task trail else trail).state ≡ trail.state
state_at task trail none = ap (λ (within : Bool). (if within then ended task trail else trail).state) none

module _ (means : Means) (verbs : RawCodec → List Command) (graphs : List RawCodec) (task : Task) (nid : ℕ)
    (laws : Given means verbs graphs task nid) (lines : List DriverLine) (old ended : RecordingState) (last : List Event) (before begun made after : Telling) (recorder : IsRecorder old.recorder)
    (begins : Accessed before begun Begin) (call : EndsRecord old ended (Some begun) (Some made)) (ends : Accessed made after End) (went : Went before after last)
    (small : Along HasNotWrapped last (world_of before)) (on : CaptureGoesOn means graphs task lines [] old before) where
  opened : IsOpened means verbs graphs task nid laws lines [] None old begun
  opened = record_opens means verbs graphs task nid laws lines [] old before begun begins on

  stretch : StretchEnds means verbs graphs task nid laws lines [] old ended after
  stretch = stretch_ends means verbs graphs task nid laws lines [] None old ended call.made begun made after call.by.is call.are (λ answered. call.is task answered opened.of.task_is) call.keeps ends opened

  -- WALCLK has not wrapped where the last run ended
  ran_small : (stops : StopsRecord old ended call.made begun made) → HasNotWrapped (world_of stops.ran)
  ran_small stops =
      held_there HasNotWrapped before stops.ran after last went small
      (grew_both before begun stops.ran (grew_access before begun Begin begins) (grew_both begun stops.begins stops.ran (grew_row stops.listened) (grew_row stops.run_made)))
      (grew_both stops.ran stops.ends after (grew_row stops.stopped) (grew_both stops.ends made after (grew_row stops.shut) (grew_access made after End ends)))

  given_by : ShutsStill old ended call.made ⊎ StopsRecord old ended call.made begun made → HasGiven ended.recorder (world_of after)
  given_by (inl shuts) = shuts_given laws.came laws.recorder laws.taken graphs old ended call.keeps recorder begun made after ends call.made call.by.is shuts opened.stream
  given_by (inr stops) = stops_given laws.came laws.recorder laws.taken graphs old ended call.keeps recorder begun made after ends call.made stops (ran_small stops) opened.stream

  pub record_ends : CaptureHasGone means graphs task lines ended after
  record_ends =
      let rules = record_rules task ended.recorder.total in
      let onward = rest_onward rules task lines [] (Some (record_state ended)) after stretch.rest in
      let same : (state_of task lines after) ≡ (trail_of task lines after).state =
      state_at task (trail_of task lines after) (ap (λ (trail : Trail). trail.within) (sym (trail_is rules task lines after)) ∙ stretch.rest.within) in
      let given = given_by call.tells.is in record {
        onward = onward.0;
        later_is = onward.1;
        finds = stretch.beside.finds;
        phase_is = ap (λ (state : State). state.phase) same ∙ stretch.beside.phase_is;
        sent_is = ap (λ (state : State). state.sent) same ∙ stretch.beside.sent_is;
        answered = ap (λ (state : State). state.rings.outstanding) same ∙ stretch.beside.answered;
        walked = stretch.of.walked;
        enough = stretch.of.enough;
        set_up = stretch.stays.set_up;
        records = given.records;
        whole = given.whole;
        none_came = given.none_came;
        recorded = stretch.recorded;
      }
