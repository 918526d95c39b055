-- The last call of a driver that records does what is said of it.
use Rattle.std.proofs.Common.{◌≡◌, ℕ, List, ◌∷◌, ◌++◌, Option, None, inl, inr, refl, sym, ap, subst, ◌∙◌, append_assoc}
use Rattle.hda_registers.specs.declared.shapes.Width.TheVariants.{One, Four}
use Rattle.hda_registers.specs.declared.places.TheConstants.{WALCLK}
use Rattle.hda_world.specs.Events.{Event, Read, Write}
use Rattle.hda_world.specs.Tellings.{Telling, Between, Makes}
use Rattle.hda_world.proofs.Callers.{row_both, told_both, told_map}
use Rattle.command_engine.specs.Polling.{poll_accesses}
use Rattle.period_writer.specs.Rings.{period_bytes}
use Rattle.hda_capture.specs.declared.course.Recorded.{Recorded}
use Rattle.hda_capture.specs.declared.registers.TheConstants.{CONTROL, POSITION}
use Rattle.hda_capture.specs.Recordings.{RecordFacts, facts_of}
use Rattle.hda_capture.specs.Reading.{line_reads}
use Rattle.hda_capture.specs.Calls.{stop_accesses, record_accesses}
use Rattle.hda_capture.specs.Recorders.{RecorderState, periods_of}
use Rattle.driver_progress.specs.Shutting.{shut_accesses}
use Rattle.driver_progress.specs.Tasks.{Task}
use Rattle.driver_progress.proofs.Callers.{accesses_both}
use Rattle.recording_driver.specs.RecordingDrivers.{RecordingState, record_state, KeepsRecording, IsTaskOfRecording}
use Rattle.recording_driver.specs.RecordingCalls.{last_stop, EndsRecord}
use Rattle.recording_driver.specs.RecordingSteps.{IsStillNow, StopsNow, EndsNow}
use Rattle.recording_driver.proofs.Kept.{on_records}
use Rattle.recording_driver.proofs.Accesses.{poll_are, run_are, last_are, shut_are}
use Rattle.recording_driver.proofs.Stretches.{run_made, IsRecordStretch, shuts_stretch, stops_stretch, stop_last}
use Rattle.recording_driver.proofs.Called.{same_state, leads_as, measured, made_same, sized}

-- ---- the stream does not record

still_ends : (old ended : RecordingState) (before middle after : Option Telling) → IsStillNow old.engine ended.engine old.recorder ended.recorder before middle → Between (Makes shut_accesses) middle after → KeepsRecording old ended
    → EndsRecord old ended before after
still_ends old ended before middle after now shut keeps =
    let made : Between (Makes shut_accesses) before after = subst (λ (told : Option Telling). Between (Makes shut_accesses) told after) now.told_is shut in record {
      made = shut_accesses;
      are = shut_are;
      by = made;
      is = λ task answered of.
          leads_as task old.recorder.total (record_state old) None shut_accesses (record_state old) (record_state ended) (same_state old ended now.engine_is now.recorder_is)
          (shuts_stretch task old.recorder.total (record_state old) now.still) answered;
      keeps = keeps;
      tells = told_map (λ before after shut. inl (record { still = now.still; made_is = refl; engine = now.engine_is; recorder = now.recorder_is })) made;
    }

-- ---- it does

-- what comes after a run comes after its last clock and its stop
run_then : (recorder : RecorderState) (facts : RecordFacts) (pieces : List (List ℕ)) (answer : Recorded) (after : List Event)
    → record_accesses recorder facts pieces answer ++ after
    ≡ Read WALCLK Four facts.from ∷ Read POSITION Four facts.lpib ∷ (line_reads (period_bytes recorder.geometry.period) (periods_of recorder) recorder.course.read pieces ++ Read WALCLK Four facts.to ∷ (stop_accesses answer ++ after))
run_then recorder facts pieces answer after =
    ap (λ (rest : List Event). Read WALCLK Four facts.from ∷ Read POSITION Four facts.lpib ∷ rest)
    (append_assoc (line_reads (period_bytes recorder.geometry.period) (periods_of recorder) recorder.course.read pieces) (Read WALCLK Four facts.to ∷ stop_accesses answer) after)

made_last : (old ended : RecordingState) (before after : Option Telling) (now : StopsNow old.engine ended.engine old.recorder ended.recorder before after)
    → run_made old.engine.rirb.address old.engine.rings old.recorder.geometry (periods_of old.recorder) old.recorder.course.read now.listens.reads (facts_of now.records.from now.records.lpib now.records.to) now.records.pieces (Write CONTROL One 0 ∷ shut_accesses)
    ≡ poll_accesses old.engine.rirb.address old.engine.rings now.listens.reads
    ++ (record_accesses old.recorder (facts_of now.records.from now.records.lpib now.records.to) now.records.pieces ended.recorder.course.recorded ++ (last_stop ended.recorder.course.recorded ++ shut_accesses))
made_last old ended before after now =
    let reads = now.listens.reads in
    let facts = facts_of now.records.from now.records.lpib now.records.to in
    let pieces = now.records.pieces in
    let recorded = ended.recorder.course.recorded in
    let poll = poll_accesses old.engine.rirb.address old.engine.rings reads in
    ap (λ (rest : List Event). run_made old.engine.rirb.address old.engine.rings old.recorder.geometry (periods_of old.recorder) old.recorder.course.read reads facts pieces rest) (sym (stop_last recorded shut_accesses))
    ∙ ap (λ (rest : List Event). poll ++ rest) (sym (run_then old.recorder facts pieces recorded (last_stop recorded ++ shut_accesses)))

stops_is : (old ended : RecordingState) (task : Task) (before after : Option Telling) → IsTaskOfRecording old task → old.engine.rings.outstanding ≡ None
    → (now : StopsNow old.engine ended.engine old.recorder ended.recorder before after)
    → IsRecordStretch task old.recorder.total (record_state old) None
    (poll_accesses old.engine.rirb.address old.engine.rings now.listens.reads
    ++ (record_accesses old.recorder (facts_of now.records.from now.records.lpib now.records.to) now.records.pieces ended.recorder.course.recorded ++ (last_stop ended.recorder.course.recorded ++ shut_accesses))) (record_state ended)
stops_is old ended task before after of idle now =
    let reads = now.listens.reads in
    let facts = facts_of now.records.from now.records.lpib now.records.to in
    let pieces = now.records.pieces in
    subst (λ (made : List Event). IsRecordStretch task old.recorder.total (record_state old) None made (record_state ended))
    (made_same old task reads facts pieces (Write CONTROL One 0 ∷ shut_accesses) of ∙ made_last old ended before after now)
    (stops_stretch task old.recorder.total (record_state old) (record_state ended) reads facts pieces now.started now.more (on_records old.recorder.course.recorded now.more) idle now.listens.new_ones
    (sized old task facts pieces of now.records.sizes) (measured old ended task facts of now.records.tally_is) now.listens.rings)

stops_ends : (old ended : RecordingState) (before middle after : Option Telling) → old.engine.rings.outstanding ≡ None → StopsNow old.engine ended.engine old.recorder ended.recorder before middle → Between (Makes shut_accesses) middle after → KeepsRecording old ended
    → EndsRecord old ended before after
stops_ends old ended before middle after idle now shut keeps =
    let reads = now.listens.reads in
    let runs = now.records in
    let facts = facts_of runs.from runs.lpib runs.to in
    let recorded = ended.recorder.course.recorded in
    let poll = poll_accesses old.engine.rirb.address old.engine.rings reads in
    let run = record_accesses old.recorder facts runs.pieces recorded in
    let last = last_stop recorded in record {
      made = poll ++ (run ++ (last ++ shut_accesses));
      are = accesses_both poll (run ++ (last ++ shut_accesses)) (poll_are old.engine.rirb.address old.engine.rings reads)
          (accesses_both run (last ++ shut_accesses) (run_are old.recorder facts runs.pieces recorded) (accesses_both last shut_accesses (last_are recorded) shut_are));
      by = row_both now.listens.made (row_both runs.made (row_both now.stopped shut));
      is = λ task answered of. stops_is old ended task before middle of idle now answered;
      keeps = keeps;
      tells = told_map (λ before after both. inr (record {
        started = now.started;
        more = now.more;
        reads = reads;
        new_ones = now.listens.new_ones;
        begins = both.0;
        listened = both.1;
        run = run;
        ran = both.2.0;
        run_made = both.2.1;
        records = record { from = runs.from; lpib = runs.lpib; to = runs.to; pieces = runs.pieces; sizes = runs.sizes; made = record { is = both.2.1 }; tally_is = runs.tally_is; answer_is = runs.answer_is; bytes_is = runs.bytes_is };
        ends = both.2.2.0;
        stopped = both.2.2.1;
        shut = both.2.2.2;
        made_is = refl;
        rings = now.listens.rings;
      })) (told_both now.listens.made (told_both runs.made (told_both now.stopped shut)));
    }

pub ends_record : (old ended : RecordingState) (before middle after : Option Telling) → old.engine.rings.outstanding ≡ None → EndsNow old.engine ended.engine old.recorder ended.recorder before middle → Between (Makes shut_accesses) middle after → KeepsRecording old ended
    → EndsRecord old ended before after
ends_record old ended before middle after idle (inl still) shut keeps = still_ends old ended before middle after still shut keeps
ends_record old ended before middle after idle (inr stops) shut keeps = stops_ends old ended before middle after idle stops shut keeps
