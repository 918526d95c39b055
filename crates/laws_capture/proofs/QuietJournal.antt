-- While a driver brings its codecs up no stretch of its journal is a run.
use Rattle.std.proofs.Common.{◌≡◌, ◌⊎◌, inl, inr, ℕ, Bool, true, false, if◌then◌else◌, List, [], ◌∷◌, length, refl, sym, ap, subst, ◌∙◌}
use Rattle.std.proofs.lemmas.Bool.{false≢true}
use Rattle.hda_registers.specs.declared.places.TheConstants.{WALCLK}
use Rattle.hda_world.specs.Worlds.{World}
use Rattle.hda_world.specs.Events.{Event, Stepped, Begin, End, Read, Write, DmaRead, DmaWrite, happens}
use Rattle.hda_world.specs.Tellings.{Telling}
use Rattle.period_writer.specs.declared.course.Course.{Course}
use Rattle.period_writer.specs.declared.course.Ran.{Ran}
use Rattle.period_writer.specs.declared.course.Ran.TheVariants as ran
use Rattle.period_writer.specs.Runs.{Measures, RunFacts, Tally, Stretch, tally_opened, is_late, is_late_since, lateness, tally_if, tally_after, taken_up_if, measures}
use Rattle.hda_capture.specs.declared.course.Recorded.TheVariants.{Recording}
use Rattle.hda_capture.specs.Recordings as capture
use Rattle.driver_progress.specs.Tasks.{Task, DriverLine}
use Rattle.driver_progress.specs.Seen.{values_of}
use Rattle.driver_progress.specs.Next.{budget_of}
use Rattle.driver_progress.specs.Progress.{Trail, trail_of, trail_after, trail_opened, noted, seen_in}
use Rattle.audio_driver.specs.States.{is_open}
use Rattle.recording_driver.specs.RecordStretches.{RecordStretch, record_taken_up_if, record_tally_on, record_tally_of, record_stretch_of, open_record_in, record_stretches_in, record_stretches_of}

-- a stretch that reads these values of the clock is a run
abbrev is_run : List ℕ → Bool
is_run [] = false
is_run (from ∷ []) = false
is_run (from ∷ to ∷ []) = true
is_run (from ∷ to ∷ other ∷ more) = false

-- ---- what a stretch does to both tallies

-- to that of progress: it moves on for good
abbrev HasMoved : Tally → Type 0
HasMoved tally = (tally.course.started ≡ true) ⊎ (is_open tally.course.ran ≡ false)

not_moved : (tally : Tally) → tally ≡ tally_opened → HasMoved tally → ⊥
not_moved tally fresh (inl started) = false≢true (sym (ap (λ (tally : Tally). tally.course.started) fresh) ∙ started)
not_moved tally fresh (inr over) = false≢true (sym over ∙ ap (λ (tally : Tally). is_open tally.course.ran) fresh)

late_over : (m : Measures) (course : Course) (facts : RunFacts) → is_open (lateness m course facts) ≡ false
late_over m course facts = by (is_late_since m course facts)
  where
    by : (since : Bool) → is_open (if since then ran.Late course.from facts.to m.limit else ran.Late facts.from facts.to m.slack) ≡ false
    by true = refl
    by false = refl

after_moved : (m : Measures) (tally : Tally) (facts : RunFacts) → HasMoved (tally_after m tally facts)
after_moved m tally facts = by (is_late m tally.course facts)
  where
    by : (late : Bool) → HasMoved (tally_if late m tally facts)
    by true = inr (late_over m tally.course facts)
    by false = inl refl

moved_by : (was : Ran) (clocks : List ℕ) (m : Measures) (total : ℕ) (stretch : Stretch) (tally : Tally) → HasMoved tally → HasMoved (taken_up_if was clocks m total stretch tally)
moved_by ran.Playing [] m total stretch tally moved = moved
moved_by ran.Playing (from ∷ []) m total stretch tally moved = moved
moved_by ran.Playing (from ∷ to ∷ []) m total stretch tally moved = after_moved m tally _
moved_by ran.Playing (from ∷ to ∷ other ∷ more) m total stretch tally moved = moved
moved_by ran.Drained clocks m total stretch tally moved = moved
moved_by (ran.Late from to limit) clocks m total stretch tally moved = moved

run_moves : (clocks : List ℕ) (m : Measures) (total : ℕ) (stretch : Stretch) (tally : Tally) → is_run clocks ≡ true → HasMoved (taken_up_if ran.Playing clocks m total stretch tally)
run_moves [] m total stretch tally is = absurd (false≢true is)
run_moves (from ∷ []) m total stretch tally is = absurd (false≢true is)
run_moves (from ∷ to ∷ []) m total stretch tally is = after_moved m tally _
run_moves (from ∷ to ∷ other ∷ more) m total stretch tally is = absurd (false≢true is)

none_stays : (clocks : List ℕ) (m : Measures) (total : ℕ) (stretch : Stretch) (tally : Tally) → is_run clocks ≡ false → taken_up_if ran.Playing clocks m total stretch tally ≡ tally
none_stays [] m total stretch tally none = refl
none_stays (from ∷ []) m total stretch tally none = refl
none_stays (from ∷ to ∷ []) m total stretch tally none = absurd (false≢true (sym none))
none_stays (from ∷ to ∷ other ∷ more) m total stretch tally none = refl

-- to that of a recorder
none_recorded : (clocks : List ℕ) (m : capture.RecordMeasures) (stretch : RecordStretch) (tally : capture.RecordTally) → is_run clocks ≡ false → record_taken_up_if Recording clocks m stretch tally ≡ tally
none_recorded [] m stretch tally none = refl
none_recorded (from ∷ []) m stretch tally none = refl
none_recorded (from ∷ to ∷ []) m stretch tally none = absurd (false≢true (sym none))
none_recorded (from ∷ to ∷ other ∷ more) m stretch tally none = refl

-- ---- over a journal

module _ (task : Task) where
  abbrev stretch_at : Trail → Stretch
  stretch_at trail = record { budget = budget_of trail.turn; clocks = (seen_in trail).clocks; lpibs = (seen_in trail).positions }

  moved_after : (events : List Event) (world : World) (trail : Trail) → HasMoved trail.state.tally → HasMoved (trail_after task events world trail).state.tally
  moved_after [] world trail moved = moved
  moved_after (Stepped step ∷ events) world trail moved = moved_after events (happens world (Stepped step)) (noted task trail world (Stepped step)) moved
  moved_after (Begin ∷ events) world trail moved = moved_after events world (noted task trail world Begin) moved
  moved_after (End ∷ events) world trail moved =
      moved_after events world (noted task trail world End)
      (moved_by trail.state.tally.course.ran (values_of trail.made WALCLK) (measures task.geometry) (length task.pcm) (stretch_at trail) trail.state.tally moved)
  moved_after (Read at width value ∷ events) world trail moved = moved_after events world (noted task trail world (Read at width value)) moved
  moved_after (Write at width value ∷ events) world trail moved = moved_after events (happens world (Write at width value)) (noted task trail world (Write at width value)) moved
  moved_after (DmaRead at bytes ∷ events) world trail moved = moved_after events world (noted task trail world (DmaRead at bytes)) moved
  moved_after (DmaWrite at bytes ∷ events) world trail moved = moved_after events (happens world (DmaWrite at bytes)) (noted task trail world (DmaWrite at bytes)) moved

  module _ (m : capture.RecordMeasures) where
    abbrev None : List Event → Trail → Type 0
    None events trail = record_tally_on m capture.tally_opened (record_stretches_in trail.within trail.made events) ≡ capture.tally_opened

    abbrev Fresh : Trail → Type 0
    Fresh trail = trail.state.tally ≡ tally_opened

    -- where progress' tally is still that of nothing, no stretch that ended was a run
    end_none : (events : List Event) (world : World) (trail : Trail) → Fresh trail → Fresh (trail_after task events world (noted task trail world End)) → (Fresh (noted task trail world End) → None events (noted task trail world End))
        → None (End ∷ events) trail
    end_none events world trail fresh still rest = by (is_run (values_of trail.made WALCLK)) refl
      where
        led : (noted task trail world End).state.tally ≡ taken_up_if ran.Playing (values_of trail.made WALCLK) (measures task.geometry) (length task.pcm) (stretch_at trail) trail.state.tally
        led = ap (λ (tally : Tally). taken_up_if tally.course.ran (values_of trail.made WALCLK) (measures task.geometry) (length task.pcm) (stretch_at trail) trail.state.tally) fresh

        by : (runs : Bool) → is_run (values_of trail.made WALCLK) ≡ runs → None (End ∷ events) trail
        by true runs =
            absurd (not_moved (trail_after task events world (noted task trail world End)).state.tally still
            (moved_after events world (noted task trail world End)
            (subst HasMoved (sym led) (run_moves (values_of trail.made WALCLK) (measures task.geometry) (length task.pcm) (stretch_at trail) trail.state.tally runs))))
        by false none =
            ap (λ (tally : capture.RecordTally). record_tally_on m tally (record_stretches_in false trail.made events))
            (none_recorded (values_of trail.made WALCLK) m (record_stretch_of trail.made) capture.tally_opened none)
            ∙ rest (led ∙ none_stays (values_of trail.made WALCLK) (measures task.geometry) (length task.pcm) (stretch_at trail) trail.state.tally none ∙ fresh)

    none_after : (events : List Event) (world : World) (trail : Trail) → Fresh trail → Fresh (trail_after task events world trail) → (trail_after task events world trail).within ≡ false → None events trail
    none_after [] world trail fresh still closed = ap (λ (within : Bool). record_tally_on m capture.tally_opened (open_record_in within trail.made)) closed
    none_after (Stepped step ∷ events) world trail fresh still closed = none_after events (happens world (Stepped step)) (noted task trail world (Stepped step)) fresh still closed
    none_after (Begin ∷ events) world trail fresh still closed = none_after events world (noted task trail world Begin) fresh still closed
    none_after (End ∷ events) world trail fresh still closed =
        end_none events world trail fresh still (λ there. none_after events world (noted task trail world End) there still closed)
    none_after (Read at width value ∷ events) world trail fresh still closed = none_after events world (noted task trail world (Read at width value)) fresh still closed
    none_after (Write at width value ∷ events) world trail fresh still closed = none_after events (happens world (Write at width value)) (noted task trail world (Write at width value)) fresh still closed
    none_after (DmaRead at bytes ∷ events) world trail fresh still closed = none_after events world (noted task trail world (DmaRead at bytes)) fresh still closed
    none_after (DmaWrite at bytes ∷ events) world trail fresh still closed = none_after events (happens world (DmaWrite at bytes)) (noted task trail world (DmaWrite at bytes)) fresh still closed

    -- of a journal in which no stretch is open
    pub no_runs : (lines : List DriverLine) (telling : Telling) → (trail_of task lines telling).state.tally ≡ tally_opened → (trail_of task lines telling).within ≡ false
        → record_tally_of m (record_stretches_of telling.journal) ≡ capture.tally_opened
    no_runs lines telling fresh closed = none_after telling.journal telling.start (trail_opened lines) refl fresh closed
