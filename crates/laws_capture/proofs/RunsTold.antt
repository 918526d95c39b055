-- What a driver recorded are the runs of the journal's stretches: each stretch by the rules is taken up as one of them.
use Rattle.std.proofs.Common.{◌≡◌, ℕ, Bool, true, false, List, [], ◌∷◌, ◌++◌, map, Option, sym, ap, subst, ◌∙◌}
use Rattle.world_steps.specs.declared.Step.{Step}
use Rattle.hda_world.specs.Events.{Event, Stepped, Begin, End}
use Rattle.hda_world.specs.Tellings.{Telling, Went, Accessed, Makes}
use Rattle.period_writer.specs.declared.geometry.Geometry.{Geometry}
use Rattle.hda_capture.specs.Recordings.{RecordMeasures, RecordTally, record_measures}
use Rattle.hda_capture.specs.Recorders.{tally_of, measures_of}
use Rattle.driver_progress.specs.Tasks.{Task, DriverLine}
use Rattle.driver_progress.specs.Progress.{trail_of}
use Rattle.driver_progress.specs.Unread.{AreAccesses}
use Rattle.driver_rules.specs.Onward.{IsRuleStretch}
use Rattle.recording_driver.specs.RecordRules.{RecordState, measures_for, record_rules}
use Rattle.recording_driver.specs.RecordingDrivers.{RecordingState, record_state, KeepsRecording}
use Rattle.recording_driver.specs.RecordStretches.{RecordStretch, record_taken_up, record_tally_of, record_stretch_of, record_stretches_of}
use Rattle.laws_capture.proofs.JournalRuns.{closed_in, HasStretches, has_stretches, stretches_are, steps_have, begin_has, row_have, end_has, tally_both}

-- what was recorded are the runs of all stretches
abbrev pub RecordsAll : RecordingState → Telling → Type 0
RecordsAll driver telling = tally_of driver.recorder ≡ record_tally_of (measures_of driver.recorder) (record_stretches_of telling.journal)

-- what was recorded are the runs of those that ended; one that is open made these accesses
pub record AreRuns (driver : RecordingState) (within : Bool) (made : List Event) (telling : Telling) : Type 0 where
  pub stretches : List RecordStretch
  pub has : HasStretches stretches within made telling
  pub tally : tally_of driver.recorder ≡ record_tally_of (measures_of driver.recorder) stretches

module _ (task : Task) (lines : List DriverLine) (driver : RecordingState) where
  -- between two stretches
  pub runs_at : (telling : Telling) → (trail_of task lines telling).within ≡ false → RecordsAll driver telling → AreRuns driver false (trail_of task lines telling).made telling
  runs_at telling closed records =
      let stretches = closed_in false [] telling.journal in
      let made = (trail_of task lines telling).made in
      let has = subst (λ (within : Bool). HasStretches stretches within made telling) closed (has_stretches task lines telling) in record {
        stretches = stretches;
        has = has;
        tally = records ∙ ap (λ (all : List RecordStretch). record_tally_of (measures_of driver.recorder) all) (stretches_are stretches made telling has);
      }

  runs_all : (made : List Event) (telling : Telling) → AreRuns driver false made telling → RecordsAll driver telling
  runs_all made telling runs =
      runs.tally ∙ ap (λ (all : List RecordStretch). record_tally_of (measures_of driver.recorder) all) (sym (stretches_are runs.stretches made telling runs.has))

  -- steps of the device
  pub steps_runs : (steps : List Step) (old new : Telling) → Went old new (map Stepped steps) → (trail_of task lines old).within ≡ false → RecordsAll driver old → RecordsAll driver new
  steps_runs steps old new went closed records =
      let made = (trail_of task lines old).made in
      let runs = runs_at old closed records in
      runs_all made new (record { stretches = runs.stretches; has = steps_have runs.stretches false made steps old new went runs.has; tally = runs.tally })

  -- a stretch begins
  pub begin_runs : (old new : Telling) → Accessed old new Begin → (trail_of task lines old).within ≡ false → RecordsAll driver old → AreRuns driver true [] new
  begin_runs old new accessed closed records =
      let runs = runs_at old closed records in
      record { stretches = runs.stretches; has = begin_has runs.stretches false (trail_of task lines old).made old new accessed runs.has; tally = runs.tally }

-- it goes by the rules, and ends
same_measures : (task : Task) (old new : RecordingState) → KeepsRecording old new → task.geometry ≡ old.recorder.geometry → measures_for task old.recorder.total ≡ measures_of new.recorder
same_measures task old new keeps geometry =
    ap (λ (geometry : Geometry). record_measures geometry old.recorder.total) (geometry ∙ sym keeps.geometry)
    ∙ ap (λ (total : ℕ). record_measures new.recorder.geometry total) (sym keeps.total)

kept_measures : (old new : RecordingState) → KeepsRecording old new → measures_of old.recorder ≡ measures_of new.recorder
kept_measures old new keeps =
    ap (λ (geometry : Geometry). record_measures geometry old.recorder.total) (sym keeps.geometry)
    ∙ ap (λ (total : ℕ). record_measures new.recorder.geometry total) (sym keeps.total)

pub stretch_runs : (task : Task) (old new : RecordingState) (turn : Option DriverLine) (events : List Event) (answered : Bool) (begun made after : Telling) → Makes events begun made → AreAccesses events → Accessed made after End
    → IsRuleStretch (record_rules task old.recorder.total) (record_state old) turn events answered (record_state new) → KeepsRecording old new → task.geometry ≡ old.recorder.geometry → AreRuns old true [] begun
    → RecordsAll new after
stretch_runs task old new turn events answered begun made after makes are ends stretch keeps geometry runs =
    let stretches = runs.stretches in
    let one = record_stretch_of events in
    let has = end_has stretches true events made after ends (row_have stretches true [] events begun made makes.by are runs.has) in
    let m = measures_of new.recorder in
    let was : tally_of old.recorder ≡ record_tally_of m stretches = runs.tally ∙ ap (λ (m : RecordMeasures). record_tally_of m stretches) (kept_measures old new keeps) in
    ap (λ (state : RecordState). state.tally) stretch.leads
    ∙ ap (λ (m : RecordMeasures). record_taken_up m (tally_of old.recorder) one) (same_measures task old new keeps geometry)
    ∙ ap (λ (tally : RecordTally). record_taken_up m tally one) was
    ∙ sym (tally_both m _ stretches (one ∷ []))
    ∙ ap (λ (all : List RecordStretch). record_tally_of m all) (sym (stretches_are (stretches ++ one ∷ []) events after has))
