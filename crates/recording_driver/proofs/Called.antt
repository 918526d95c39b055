-- A call of a driver that records does what is said of it.
use Rattle.std.proofs.Common.{◌≡◌, ◌/◌, ℕ, List, [], ◌++◌, length, map, Bool, true, false, Option, Some, None, inl, inr, refl, sym, ap, subst, ◌∙◌}
use Rattle.std.specs.Prelude.{not, slice_index}
use Rattle.std.specs.List.{range_with_len}
use Rattle.verb_codes.specs.Words.{has_bit}
use Rattle.hda_registers.specs.declared.places.TheConstants.{WALCLK}
use Rattle.hda_world.specs.Events.{Event}
use Rattle.hda_world.specs.Tellings.{Telling, Between, Makes}
use Rattle.hda_world.proofs.Callers.{row_both, told_both, told_map}
use Rattle.command_engine.specs.Engines.{EngineState}
use Rattle.command_engine.specs.declared.ring_places.RingPlaces.{RingPlaces}
use Rattle.command_engine.specs.Polling.{PollReads, poll_accesses}
use Rattle.command_engine.proofs.Callers.{made_none}
use Rattle.period_writer.specs.declared.geometry.Geometry.{Geometry}
use Rattle.period_writer.specs.Places.{touched}
use Rattle.period_writer.specs.Rings.{period_bytes}
use Rattle.hda_capture.specs.declared.course.Recorded.{Recorded}
use Rattle.hda_capture.specs.declared.registers.TheConstants.{POSITION}
use Rattle.hda_capture.specs.Recordings.{RecordFacts, RecordTally, record_measures, facts_of, read_upto, tally_after}
use Rattle.hda_capture.specs.Reading.{piece_size}
use Rattle.hda_capture.specs.Starting.{start_accesses}
use Rattle.hda_capture.specs.Calls.{stop_accesses, record_accesses, RecordsRun}
use Rattle.hda_capture.specs.Recorders.{RecorderState, tally_of, periods_of, measures_of}
use Rattle.driver_progress.specs.Tasks.{Task, DriverLine}
use Rattle.driver_progress.specs.Seen.{values_of}
use Rattle.driver_progress.proofs.Callers.{accesses_both}
use Rattle.recording_driver.specs.InputInterrupts.{input_interrupt_accesses}
use Rattle.recording_driver.specs.RecordRules.{RecordState, records_on}
use Rattle.recording_driver.specs.RecordingDrivers.{RecordingState, record_state, KeepsRecording, IsTaskOfRecording}
use Rattle.recording_driver.specs.RecordingCalls.{IsBeforeRun, Records}
use Rattle.recording_driver.specs.RecordingSteps.{BeginsNow, GoesOnNow, RecordsNow}
use Rattle.recording_driver.proofs.Kept.{on_records}
use Rattle.recording_driver.proofs.Accesses.{look_are, before_are, poll_are, start_are, run_are}
use Rattle.recording_driver.proofs.Stretches.{run_made, made_for, start_made, line_of, IsRecordStretch, AreSized, IsCalled, goes_called, begins_called, start_clocks, start_position, run_seen, looked_seen, no_stop, look_unread, called_stretch, found_stretch, none_stretch, over_stretch}

-- ---- no run comes

abbrev state_by : RingPlaces → RecordTally → RecordState
state_by rings tally = record { rings = rings; tally = tally }

pub same_state : (old new : RecordingState) → new.engine ≡ old.engine → new.recorder ≡ old.recorder → record_state new ≡ record_state old
same_state old new engine recorder =
    ap (λ (engine : EngineState). state_by engine.rings (tally_of new.recorder)) engine
    ∙ ap (λ (recorder : RecorderState). state_by old.engine.rings (tally_of recorder)) recorder

pub leads_as : (task : Task) (total : ℕ) (state : RecordState) (turn : Option DriverLine) (made : List Event) (state' state'' : RecordState) → state'' ≡ state' → IsRecordStretch task total state turn made state'
    → IsRecordStretch task total state turn made state''
leads_as task total state turn made state' state'' same stretch = λ answered. record { fits = (stretch answered).fits; leads = same ∙ (stretch answered).leads }

never : true ≡ false → ⊥
never is = cc

pub over_records : (irq : Bool) (old new : RecordingState) (told : Option Telling) → records_on old.recorder.course.recorded ≡ false → new.engine ≡ old.engine → new.recorder ≡ old.recorder → KeepsRecording old new
    → Records irq old new told told
over_records irq old new told over engine recorder keeps = record {
  made = [];
  are = tt {0};
  by = made_none told;
  is = λ task budget answered of.
      leads_as task old.recorder.total (record_state old) (Some (line_of irq budget)) [] (record_state old) (record_state new) (same_state old new engine recorder)
      (over_stretch task old.recorder.total (record_state old) irq budget over) answered;
  keeps = keeps;
  tells = told_map (λ before after makes. inl (record { cause = inr over; looks = inl refl; over = λ closed. refl; engine = engine; recorder = recorder })) (made_none told);
}

-- the call was for an interrupt that it did not find
pub none_records : (old new : RecordingState) (interrupts status : ℕ) (before after : Option Telling) → records_on old.recorder.course.recorded ≡ true → has_bit interrupts 31 ≡ false
    → Between (Makes (input_interrupt_accesses interrupts status)) before after → new.engine ≡ old.engine → new.recorder ≡ old.recorder → KeepsRecording old new → Records true old new before after
none_records old new interrupts status before after more off looked engine recorder keeps =
    let made = input_interrupt_accesses interrupts status in record {
      made = made;
      are = look_are interrupts status;
      by = looked;
      is = λ task budget answered of.
          leads_as task old.recorder.total (record_state old) (Some (line_of true budget)) made (record_state old) (record_state new) (same_state old new engine recorder)
          (none_stretch task old.recorder.total (record_state old) budget interrupts status more off) answered;
      keeps = keeps;
      tells = told_map (λ before after makes. inl (record {
        cause = inl (ap not off);
        looks = inr (record { interrupts = interrupts; status = status; is = refl });
        over = λ closed. absurd (never (sym more ∙ closed));
        engine = engine;
        recorder = recorder;
      })) looked;
    }

-- ---- a stretch after what came before it

-- what is done where a run comes goes by the rules, whether a look came before it or not
after_look : (irq : Bool) (first : List Event) (task : Task) (total : ℕ) (state : RecordState) (budget : ℕ) (called : List Event) (state' : RecordState) → IsBeforeRun irq first → records_on state.tally.course.recorded ≡ true
    → IsCalled task total state (values_of called) called state'
    → ((interrupts status : ℕ) → IsCalled task total state (values_of (input_interrupt_accesses interrupts status ++ called)) called state')
    → IsRecordStretch task total state (Some (line_of irq budget)) (first ++ called) state'
after_look true first task total state budget called state' before more plain looked =
    subst (λ (first : List Event). IsRecordStretch task total state (Some (line_of true budget)) (first ++ called) state') (sym before.is)
    (found_stretch task total state budget before.interrupts before.status called state' more before.on (looked before.interrupts before.status))
after_look false first task total state budget called state' before more plain looked =
    subst (λ (first : List Event). IsRecordStretch task total state (Some (line_of false budget)) (first ++ called) state') (sym before)
    (called_stretch task total state budget called state' more plain)

-- ---- the first run

start_same : (driver : RecordingState) (task : Task) (from in_reset ready to : ℕ) → IsTaskOfRecording driver task
    → start_made task from in_reset ready to ≡ start_accesses driver.recorder.geometry driver.recorder.list.address (periods_of driver.recorder) from in_reset ready to
start_same driver task from in_reset ready to of =
    ap (λ (geometry : Geometry). start_accesses geometry task.blocks.list task.blocks.periods from in_reset ready to) of.geometry
    ∙ ap (λ (list : ℕ). start_accesses driver.recorder.geometry list task.blocks.periods from in_reset ready to) of.list
    ∙ ap (λ (periods : List ℕ). start_accesses driver.recorder.geometry driver.recorder.list.address periods from in_reset ready to) of.periods

pub measured : (driver new : RecordingState) (task : Task) (facts : RecordFacts) → IsTaskOfRecording driver task → tally_of new.recorder ≡ tally_after (measures_of driver.recorder) (tally_of driver.recorder) facts
    → tally_of new.recorder ≡ tally_after (record_measures task.geometry driver.recorder.total) (tally_of driver.recorder) facts
measured driver new task facts of is =
    is ∙ ap (λ (geometry : Geometry). tally_after (record_measures geometry driver.recorder.total) (tally_of driver.recorder) facts) (sym of.geometry)

begins_is : (irq : Bool) (old new : RecordingState) (first : List Event) (task : Task) (budget : ℕ) (before after : Option Telling) → IsBeforeRun irq first → IsTaskOfRecording old task → records_on old.recorder.course.recorded ≡ true
    → (now : BeginsNow old.engine new.engine old.recorder new.recorder before after)
    → IsRecordStretch task old.recorder.total (record_state old) (Some (line_of irq budget))
    (first ++ start_accesses old.recorder.geometry old.recorder.list.address (periods_of old.recorder) now.starts.from now.starts.in_reset now.starts.ready now.starts.to) (record_state new)
begins_is irq old new first task budget before after is_before of more now =
    let from = now.starts.from in
    let in_reset = now.starts.in_reset in
    let ready = now.starts.ready in
    let to = now.starts.to in
    let total = old.recorder.total in
    let state = record_state old in
    let called = start_made task from in_reset ready to in
    let recording = on_records old.recorder.course.recorded more in
    let tally = measured old new task (facts_of from 0 to) of now.starts.tally_is in
    let rings = ap (λ (engine : EngineState). engine.rings) now.engine_is in
    subst (λ (called : List Event). IsRecordStretch task total state (Some (line_of irq budget)) (first ++ called) (record_state new)) (start_same old task from in_reset ready to of)
    (after_look irq first task total state budget called (record_state new) is_before more
    (begins_called task total state (record_state new) (values_of called) from in_reset ready to now.fresh recording (start_clocks task from in_reset ready to) (start_position task from in_reset ready to) tally rings)
    (λ interrupts status.
    begins_called task total state (record_state new) (values_of (input_interrupt_accesses interrupts status ++ called)) from in_reset ready to now.fresh recording
    (look_unread WALCLK interrupts status called refl refl ∙ start_clocks task from in_reset ready to) (ap (λ (values : List ℕ). slice_index values 0) (look_unread POSITION interrupts status called refl refl) ∙ start_position task from in_reset ready to) tally rings))

begins_records : (irq : Bool) (old new : RecordingState) (first : List Event) (before middle after : Option Telling) → IsBeforeRun irq first → Between (Makes first) before middle → records_on old.recorder.course.recorded ≡ true
    → BeginsNow old.engine new.engine old.recorder new.recorder middle after → KeepsRecording old new → Records irq old new before after
begins_records irq old new first before middle after is_before looked more now keeps =
    let starts = now.starts in
    let run = start_accesses old.recorder.geometry old.recorder.list.address (periods_of old.recorder) starts.from starts.in_reset starts.ready starts.to in record {
      made = first ++ run;
      are = accesses_both first run (before_are irq first is_before) (start_are old.recorder.geometry old.recorder.list.address (periods_of old.recorder) starts.from starts.in_reset starts.ready starts.to);
      by = row_both looked starts.made;
      is = λ task budget answered of. begins_is irq old new first task budget middle after is_before of more now answered;
      keeps = keeps;
      tells = told_map (λ before after both. inr (inl (record {
        fresh = now.fresh;
        first = first;
        is_before = is_before;
        begins = both.0;
        first_made = both.1;
        run = run;
        made_is = refl;
        run_made = both.2;
        starts = record {
          from = starts.from;
          in_reset = starts.in_reset;
          ready = starts.ready;
          to = starts.to;
          made = record { is = both.2 };
          tally_is = starts.tally_is;
          bytes_is = starts.bytes_is;
        };
        engine = now.engine_is;
      }))) (told_both looked starts.made);
    }

-- ---- a later run

pub made_same : (driver : RecordingState) (task : Task) (reads : PollReads) (facts : RecordFacts) (pieces : List (List ℕ)) (after : List Event) → IsTaskOfRecording driver task
    → made_for task (record_state driver) reads facts pieces after
    ≡ run_made driver.engine.rirb.address driver.engine.rings driver.recorder.geometry (periods_of driver.recorder) driver.recorder.course.read reads facts pieces after
made_same driver task reads facts pieces after of =
    let rings = driver.engine.rings in
    let read = driver.recorder.course.read in
    ap (λ (rirb : ℕ). run_made rirb rings task.geometry task.blocks.periods read reads facts pieces after) of.rirb
    ∙ ap (λ (geometry : Geometry). run_made driver.engine.rirb.address rings geometry task.blocks.periods read reads facts pieces after) of.geometry
    ∙ ap (λ (periods : List ℕ). run_made driver.engine.rirb.address rings driver.recorder.geometry periods read reads facts pieces after) of.periods

abbrev SizedBy : (total : ℕ) → (tally : RecordTally) → (lpib : ℕ) → (pieces : List (List ℕ)) → Geometry → Type 0
SizedBy total tally lpib pieces geometry =
    let bytes = period_bytes geometry.period in
    let upto = read_upto (record_measures geometry total) tally.course lpib in
    map length pieces ≡ map (piece_size bytes tally.course.read upto) (range_with_len (tally.course.read / bytes) (touched bytes tally.course.read upto))

pub sized : (driver : RecordingState) (task : Task) (facts : RecordFacts) (pieces : List (List ℕ)) → IsTaskOfRecording driver task
    → SizedBy driver.recorder.total (tally_of driver.recorder) facts.lpib pieces driver.recorder.geometry → AreSized task driver.recorder.total (record_state driver) facts pieces
sized driver task facts pieces of sizes = subst (SizedBy driver.recorder.total (tally_of driver.recorder) facts.lpib pieces) (sym of.geometry) sizes

-- by its answer
pub run_answered : (old : RecorderState) (answer : Recorded) (new : RecorderState) (before after : Option Telling) → RecordsRun old answer new before after → RecordsRun old new.course.recorded new before after
run_answered old answer new before after runs = subst (λ (answer : Recorded). RecordsRun old answer new before after) runs.answer_is runs

goes_is : (irq : Bool) (old new : RecordingState) (first : List Event) (task : Task) (budget : ℕ) (before after : Option Telling) → IsBeforeRun irq first → IsTaskOfRecording old task → records_on old.recorder.course.recorded ≡ true → old.engine.rings.outstanding ≡ None
    → (now : GoesOnNow old.engine new.engine old.recorder new.recorder before after)
    → IsRecordStretch task old.recorder.total (record_state old) (Some (line_of irq budget))
    (first ++ run_made old.engine.rirb.address old.engine.rings old.recorder.geometry (periods_of old.recorder) old.recorder.course.read now.listens.reads (facts_of now.records.from now.records.lpib now.records.to) now.records.pieces
    (stop_accesses new.recorder.course.recorded)) (record_state new)
goes_is irq old new first task budget before after is_before of more idle now =
    let total = old.recorder.total in
    let state = record_state old in
    let reads = now.listens.reads in
    let facts = facts_of now.records.from now.records.lpib now.records.to in
    let pieces = now.records.pieces in
    let recorded = new.recorder.course.recorded in
    let called = made_for task state reads facts pieces (stop_accesses recorded) in
    let recording = on_records old.recorder.course.recorded more in
    let tally = measured old new task facts of now.records.tally_is in
    let sizes = sized old task facts pieces of now.records.sizes in
    let sees = run_seen task.blocks.rirb state.rings task.geometry task.blocks.periods state.tally.course.read reads facts pieces (stop_accesses recorded) (no_stop WALCLK recorded) (no_stop POSITION recorded) in
    subst (λ (called : List Event). IsRecordStretch task total state (Some (line_of irq budget)) (first ++ called) (record_state new)) (made_same old task reads facts pieces (stop_accesses recorded) of)
    (after_look irq first task total state budget called (record_state new) is_before more
    (goes_called task total state (record_state new) (values_of called) reads facts pieces now.started recording idle now.listens.new_ones sizes sees tally now.listens.rings)
    (λ interrupts status.
    goes_called task total state (record_state new) (values_of (input_interrupt_accesses interrupts status ++ called)) reads facts pieces now.started recording idle now.listens.new_ones sizes
    (looked_seen interrupts status called reads facts sees) tally now.listens.rings))

goes_records : (irq : Bool) (old new : RecordingState) (first : List Event) (before middle after : Option Telling) → IsBeforeRun irq first → Between (Makes first) before middle → records_on old.recorder.course.recorded ≡ true → old.engine.rings.outstanding ≡ None
    → GoesOnNow old.engine new.engine old.recorder new.recorder middle after → KeepsRecording old new → Records irq old new before after
goes_records irq old new first before middle after is_before looked more idle now keeps =
    let reads = now.listens.reads in
    let runs = now.records in
    let facts = facts_of runs.from runs.lpib runs.to in
    let poll = poll_accesses old.engine.rirb.address old.engine.rings reads in
    let run = record_accesses old.recorder facts runs.pieces new.recorder.course.recorded in record {
      made = first ++ (poll ++ run);
      are = accesses_both first (poll ++ run) (before_are irq first is_before)
          (accesses_both poll run (poll_are old.engine.rirb.address old.engine.rings reads) (run_are old.recorder facts runs.pieces new.recorder.course.recorded));
      by = row_both looked (row_both now.listens.made runs.made);
      is = λ task budget answered of. goes_is irq old new first task budget middle after is_before of more idle now answered;
      keeps = keeps;
      tells = told_map (λ before after both. inr (inr (record {
        started = now.started;
        more = more;
        first = first;
        is_before = is_before;
        reads = reads;
        new_ones = now.listens.new_ones;
        begins = both.0;
        first_made = both.1;
        run = run;
        made_is = refl;
        run_made = both.2;
        records = record { from = runs.from; lpib = runs.lpib; to = runs.to; pieces = runs.pieces; sizes = runs.sizes; made = record { is = both.2 }; tally_is = runs.tally_is; answer_is = runs.answer_is; bytes_is = runs.bytes_is };
        rings = now.listens.rings;
      }))) (told_both (row_both looked now.listens.made) runs.made);
    }

-- ---- a call

pub now_records : (irq : Bool) (old new : RecordingState) (first : List Event) (before middle after : Option Telling) → IsBeforeRun irq first → Between (Makes first) before middle → records_on old.recorder.course.recorded ≡ true → old.engine.rings.outstanding ≡ None
    → RecordsNow old.engine new.engine old.recorder new.recorder middle after → KeepsRecording old new → Records irq old new before after
now_records irq old new first before middle after is_before looked more idle (inl begins) keeps = begins_records irq old new first before middle after is_before looked more begins keeps
now_records irq old new first before middle after is_before looked more idle (inr goes) keeps = goes_records irq old new first before middle after is_before looked more idle goes keeps
