-- What a driver keeps from call to call.
use Rattle.std.proofs.Common.{◌≡◌, ◌≤◌, ◌<◌, ◌+◌, ℕ, List, [], length, Bool, true, false, refl, sym, ap, subst, ◌∙◌, arith}
use Rattle.std.specs.Prelude.{◌&&◌, not, Contains}
use Rattle.std.proofs.lemmas.Bool.{and_parts}
use Rattle.dma_pool.specs.declared.blocks.Lent.{Lent}
use Rattle.dma_pool.specs.Blocks.{run_at}
use Rattle.dma_pool.specs.Pools.{PoolState}
use Rattle.command_engine.specs.Blocks.{corb_bytes, rirb_bytes}
use Rattle.period_writer.specs.declared.geometry.Geometry.{Geometry}
use Rattle.period_writer.proofs.Callers.{owns_on}
use Rattle.period_writer.specs.declared.course.Course.{Course}
use Rattle.period_writer.specs.declared.course.Ran.{Ran}
use Rattle.period_writer.specs.declared.course.Run.{Run}
use Rattle.period_writer.specs.declared.course.Span.{Span}
use Rattle.period_writer.specs.Runs.{Tally, course_opened, tally_opened}
use Rattle.period_writer.specs.Writers.{WriterState, KeepsRing, tally_of}
use Rattle.driver_progress.specs.declared.phase.Phase.{Phase}
use Rattle.driver_progress.specs.Phases.{is_asking, is_ready}
use Rattle.driver_progress.proofs.Callers.{ready_is}
use Rattle.driver_bring_up.specs.declared.bringing.BringUp.{BringUp}
use Rattle.driver_bring_up.specs.Calls.{IsKept}
use Rattle.audio_driver.specs.Drivers.{IsDriver}
use Rattle.audio_driver.specs.States.{is_open, phase_if, phase_of, plays_now}

-- ---- the phase

-- where calls play, all codecs are set up
pub plays_ready : (play : Bool) (bring_up : BringUp) → plays_now play bring_up ≡ true → is_ready bring_up.phase ≡ true
plays_ready play bring_up plays = (and_parts play (is_ready bring_up.phase) plays).1

pub plays_same : (play : Bool) (old new : BringUp) → new.phase ≡ old.phase → plays_now play old ≡ true → plays_now play new ≡ true
plays_same play old new same plays = ap (λ (phase : Phase). play && is_ready phase) same ∙ plays

-- ---- a driver that was just opened

pub opened_tally : (writer : WriterState) → writer.runs ≡ [] → writer.silences ≡ [] → writer.course ≡ course_opened → tally_of writer ≡ tally_opened
opened_tally writer runs silences course =
    ap (λ (runs : List Run). record (tally_of writer) { runs = runs }) runs
    ∙ ap (λ (silences : List Span). record (tally_of writer) { runs = []; silences = silences }) silences
    ∙ ap (λ (course : Course). record tally_opened { course = course }) course

never : false ≡ true → ⊥
never is = cc

pub not_begun : (writer : WriterState) → writer.course ≡ course_opened → writer.course.started ≡ true → ⊥
not_begun writer opened started = never (sym (ap (λ (course : Course). course.started) opened) ∙ started)

pub not_both : (b : Bool) → b ≡ false → b ≡ true → ⊥
not_both b off on = never (sym off ∙ on)

pub was_not : (b : Bool) → not b ≡ true → b ≡ false
was_not true is = cc
was_not false is = refl

pub was_so : (b : Bool) → not b ≡ false → b ≡ true
was_so true is = refl
was_so false is = cc

must_be : (b : Bool) → (b ≡ false → ⊥) → b ≡ true
must_be true not_off = refl
must_be false not_off = absurd (not_off refl)

-- where no run comes next, there was one
pub over_started : (writer : WriterState) → (writer.course.started ≡ false → tally_of writer ≡ tally_opened) → is_open writer.course.ran ≡ false → writer.course.started ≡ true
over_started writer fresh over =
    must_be writer.course.started (λ off. never (sym over ∙ ap (λ (tally : Tally). is_open tally.course.ran) (fresh off)))

-- ---- want of memory

asking_if : (started : Bool) (phase : Phase) (was : Ran) → (started ≡ true → is_ready phase ≡ true) → is_asking phase ≡ true → is_asking (phase_if started phase was) ≡ true
asking_if true phase was ready asks = absurd (never (sym (ap is_asking (ready_is phase (ready refl))) ∙ asks))
asking_if false phase was ready asks = asks

-- where the bring-up sends commands the driver does
pub asking_in : (play : Bool) (bring_up : BringUp) (writer : WriterState) → (writer.course.started ≡ true → plays_now play bring_up ≡ true)
    → is_asking bring_up.phase ≡ true → is_asking (phase_of bring_up writer) ≡ true
asking_in play bring_up writer begun asks =
    asking_if writer.course.started bring_up.phase writer.course.ran (λ started. plays_ready play bring_up (begun started)) asks

-- ---- the last call

-- runs were made only where all codecs are set up
pub closed_ready : (play : Bool) (old ended : BringUp) (writer : WriterState) (tally : Tally) → (writer.course.started ≡ true → plays_now play old ≡ true)
    → (plays_now play old ≡ false → tally ≡ tally_of writer) → (plays_now play old ≡ true → ended.phase ≡ old.phase) → tally.course.started ≡ true → is_ready ended.phase ≡ true
closed_ready play old ended writer tally begun recorded same started = by (plays_now play old) refl
  where
    by : (plays : Bool) → plays_now play old ≡ plays → is_ready ended.phase ≡ true
    by true plays = ap is_ready (same plays) ∙ plays_ready play old plays
    by false silent =
        absurd (not_both (plays_now play old) silent (begun (ap (λ (tally : Tally). tally.course.started) (sym (recorded silent)) ∙ started)))

-- ---- what is true of every driver

-- it stays so over a call that plays
pub played_on : (bring_up bring_up' : BringUp) (writer writer' : WriterState) (pool : PoolState) (play : Bool) (runs calls : ℕ) → IsDriver bring_up writer pool play runs calls → calls < runs
    → IsKept bring_up bring_up' → KeepsRing writer writer' → bring_up'.phase ≡ bring_up.phase → length writer'.runs ≤ length writer.runs + 1
    → (writer'.course.started ≡ false → tally_of writer' ≡ tally_opened) → plays_now play bring_up ≡ true → IsDriver bring_up' writer' pool play runs (calls + 1)
played_on bring_up bring_up' writer writer' pool play runs calls is few kept keeps phase recorded fresh plays =
    let looks = is.few_looks in
    let long = is.few_recorded in
    record {
      owns_corb = subst (λ (lent : Lent). Contains pool.taken (run_at lent.address corb_bytes)) (sym kept.corb) is.owns_corb;
      owns_rirb = subst (λ (lent : Lent). Contains pool.taken (run_at lent.address rirb_bytes)) (sym kept.rirb) is.owns_rirb;
      owns_ring = owns_on pool.taken writer writer' keeps is.owns_ring;
      formats = kept.format ∙ is.formats ∙ ap (λ (geometry : Geometry). geometry.format) (sym keeps.geometry);
      records = keeps.records ∙ is.records;
      few_runs = is.few_runs;
      few_calls = omega (arith, few);
      few_looks = (let more = kept.looks in omega (arith, looks, more));
      few_recorded = omega (arith, long, recorded);
      fresh = fresh;
      begun = λ started. plays_same play bring_up bring_up' phase plays;
    }

-- and over one that does not
pub led_on : (bring_up bring_up' : BringUp) (writer : WriterState) (pool : PoolState) (play : Bool) (runs calls : ℕ) → IsDriver bring_up writer pool play runs calls → calls < runs
    → IsKept bring_up bring_up' → plays_now play bring_up ≡ false → IsDriver bring_up' writer pool play runs (calls + 1)
led_on bring_up bring_up' writer pool play runs calls is few kept silent =
    let looks = is.few_looks in
    let long = is.few_recorded in
    record {
      owns_corb = subst (λ (lent : Lent). Contains pool.taken (run_at lent.address corb_bytes)) (sym kept.corb) is.owns_corb;
      owns_rirb = subst (λ (lent : Lent). Contains pool.taken (run_at lent.address rirb_bytes)) (sym kept.rirb) is.owns_rirb;
      owns_ring = is.owns_ring;
      formats = kept.format ∙ is.formats;
      records = is.records;
      few_runs = is.few_runs;
      few_calls = omega (arith, few);
      few_looks = (let more = kept.looks in omega (arith, looks, more));
      few_recorded = omega (arith, long);
      fresh = is.fresh;
      begun = λ started. absurd (not_both (plays_now play bring_up) silent (is.begun started));
    }
