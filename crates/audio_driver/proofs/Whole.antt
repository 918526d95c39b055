-- Where the runs of a writer lead a driver, by the driver's own ring and sound.
use Rattle.std.proofs.Common.{◌≡◌, ◌-◌, ℕ, List, [], ◌∷◌, ◌++◌, length, append_assoc, Bool, true, false, Option, Some, None, refl, sym, ap, subst, ◌∙◌}
use Rattle.period_writer.proofs.Callers.{opened_late, started_by}
use Rattle.std.specs.Prelude.{drop}
use Rattle.std.specs.Option.{is_some}
use Rattle.std.proofs.lemmas.List.{length-drop}
use Rattle.hda_registers.specs.declared.shapes.Width.TheVariants.{One, Four}
use Rattle.hda_registers.specs.declared.places.TheConstants.{WALCLK}
use Rattle.hda_world.specs.Events.{Event, Read, Write}
use Rattle.command_engine.specs.declared.ring_places.RingPlaces.{RingPlaces}
use Rattle.command_engine.specs.Polling.{PollReads, AreNew, poll_accesses, found_by, rings_polled}
use Rattle.period_writer.specs.declared.course.Ran.{Ran}
use Rattle.period_writer.specs.declared.course.Ran.TheVariants as ran
use Rattle.period_writer.specs.declared.geometry.Geometry.{Geometry}
use Rattle.period_writer.specs.declared.registers.TheConstants.{CONTROL, POSITION}
use Rattle.period_writer.specs.Rings.{period_bytes}
use Rattle.period_writer.specs.Starting.{start_accesses}
use Rattle.period_writer.specs.Playing.{run_writes, run_bytes, stop_accesses, play_accesses, finish_accesses}
use Rattle.period_writer.specs.Runs.{Measures, RunFacts, Tally, measures, facts_of, is_late, tally_if, tally_after, tally_opened}
use Rattle.period_writer.specs.Writers.{WriterState, tally_of, measures_of, periods_of}
use Rattle.driver_progress.specs.declared.phase.Phase.{Phase}
use Rattle.driver_progress.specs.declared.phase.Phase.TheVariants.{Ready, Playing}
use Rattle.driver_progress.specs.Tasks.{Task, DriverLine}
use Rattle.driver_progress.specs.States.{State}
use Rattle.driver_progress.specs.Next.{phase_played, budget_of}
use Rattle.driver_progress.specs.Shutting.{shut_accesses}
use Rattle.driver_bring_up.specs.Commanding.{IsStretch, run_of}
use Rattle.driver_bring_up.specs.declared.bringing.BringUp.{BringUp}
use Rattle.audio_driver.specs.States.{played_as, phase_if, phase_with, state_with, state_of, is_open, was_late, IsTaskOf}
use Rattle.audio_driver.proofs.PlayedOn.{facts_in, tally_in}
use Rattle.audio_driver.proofs.Stretches.{plays_stretch, closes_stretch, starts_stretch, stopped_last}

-- ---- what a run leaves

pub open_playing : (was : Ran) → is_open was ≡ true → was ≡ ran.Playing
open_playing ran.Playing more = refl
open_playing ran.Drained more = cc
open_playing (ran.Late from to limit) more = cc

pub open_on_time : (was : Ran) → is_open was ≡ true → was_late was ≡ false
open_on_time ran.Playing more = refl
open_on_time ran.Drained more = refl
open_on_time (ran.Late from to limit) more = cc

played_same : (task : Task) (was : Ran) → phase_played task was ≡ played_as was
played_same task ran.Playing = refl
played_same task ran.Drained = refl
played_same task (ran.Late from to limit) = refl

-- of the sound so many bytes are left
left_same : (pcm supply : List ℕ) (used : ℕ) → supply ≡ drop used pcm → length pcm - used ≡ length supply
left_same pcm supply used is = sym (ap length is ∙ length-drop used pcm)

-- ---- the first run

abbrev StartsAt : Task → State → (budget from in_reset ready to : ℕ) → Geometry → (list : ℕ) → (periods pcm : List ℕ) → (left : ℕ) → Type 0
StartsAt task state budget from in_reset ready to geometry list periods pcm left =
    let facts = facts_of budget left from 0 to in
    IsStretch task state (Some (run_of budget)) (start_accesses geometry list periods from in_reset ready to (run_bytes (measures geometry) state.tally.course facts pcm)) false
    (record state { phase = Playing; tally = tally_after (measures geometry) state.tally facts })

fresh_phase : (m : Measures) (tally : Tally) (facts : RunFacts) (phase : Phase) → tally ≡ tally_opened → phase_if (tally_after m tally facts).course.started phase (tally_after m tally facts).course.ran ≡ Playing
fresh_phase m tally facts phase opened =
    ap (λ (tally : Tally). phase_if (tally_after m tally facts).course.started phase (tally_after m tally facts).course.ran) opened
    ∙ ap (λ (late : Bool). phase_if (tally_if late m tally_opened facts).course.started phase (tally_if late m tally_opened facts).course.ran) (opened_late m facts)

pub start_is : (task : Task) (old : BringUp) (writer writer' : WriterState) (supply : List ℕ) (budget from in_reset ready to : ℕ)
    → IsTaskOf old writer supply task → old.phase ≡ Ready → tally_of writer ≡ tally_opened
    → tally_of writer' ≡ tally_after (measures_of writer) (tally_of writer) (facts_of budget (length supply) from 0 to)
    → IsStretch task (state_of old writer) (Some (run_of budget))
    (start_accesses writer.geometry writer.list.address (periods_of writer) from in_reset ready to (run_bytes (measures_of writer) writer.course (facts_of budget (length supply) from 0 to) supply)) false (state_of old writer')
start_is task old writer writer' supply budget from in_reset ready to of is_ready opened tally_is =
    let state = state_of old writer in
    let used = writer.course.used in
    let turn = Some (run_of budget) in
    let phase : state.phase ≡ Ready = ap (λ (tally : Tally). phase_if tally.course.started old.phase tally.course.ran) opened ∙ is_ready in
    let on_time : was_late writer.course.ran ≡ false = ap (λ (tally : Tally). was_late tally.course.ran) opened in
    let sound = of.sound on_time in
    let facts = facts_of budget (length supply) from 0 to in
    let after = tally_after (measures_of writer) (tally_of writer) facts in
    let base : StartsAt task state budget from in_reset ready to task.geometry task.blocks.list task.blocks.periods (drop used task.pcm) (length task.pcm - used) =
    starts_stretch task state budget in_reset ready (facts_in task state budget from 0 to) phase of.plays opened refl refl in
    let here : StartsAt task state budget from in_reset ready to writer.geometry writer.list.address (periods_of writer) supply (length supply) =
    subst (λ (geometry : Geometry). StartsAt task state budget from in_reset ready to geometry writer.list.address (periods_of writer) supply (length supply)) of.geometry
    (subst (λ (list : ℕ). StartsAt task state budget from in_reset ready to task.geometry list (periods_of writer) supply (length supply)) of.list
    (subst (λ (periods : List ℕ). StartsAt task state budget from in_reset ready to task.geometry task.blocks.list periods supply (length supply)) of.periods
    (subst (λ (pcm : List ℕ). StartsAt task state budget from in_reset ready to task.geometry task.blocks.list task.blocks.periods pcm (length supply)) (sym sound)
    (subst (λ (left : ℕ). StartsAt task state budget from in_reset ready to task.geometry task.blocks.list task.blocks.periods (drop used task.pcm) left) (left_same task.pcm supply used sound) base)))) in
    let last : record state { phase = Playing; tally = after } ≡ state_of old writer' =
    ap (λ (phase : Phase). record state { phase = phase; tally = after }) (sym (fresh_phase (measures_of writer) (tally_of writer) facts old.phase opened))
    ∙ ap (λ (tally : Tally). state_with old tally) (sym tally_is) in
    subst (λ (state' : State). IsStretch task state turn (start_accesses writer.geometry writer.list.address (periods_of writer) from in_reset ready to (run_bytes (measures_of writer) writer.course facts supply)) false state') last here

-- ---- a later run, and the last one

-- the accesses of a poll and a run, with what comes after it by how it ended
abbrev pub made_by : (rirb : ℕ) → RingPlaces → PollReads → Geometry → (periods : List ℕ) → Tally → (pcm : List ℕ) → RunFacts → (later : Ran → List Event) → List Event
made_by rirb rings reads geometry periods tally pcm facts later =
    let m = measures geometry in
    poll_accesses rirb rings reads
    ++ (Read WALCLK Four facts.from ∷ Read POSITION Four facts.lpib
    ∷ (run_writes (period_bytes geometry.period) periods m tally.course facts pcm
    ++ Read WALCLK Four facts.to ∷ later (tally_after m tally facts).course.ran))

abbrev GoesAt : Task → State → Option DriverLine → PollReads → (from lpib to : ℕ) → (later : Ran → List Event) → (rirb : ℕ) → Geometry → (periods pcm : List ℕ) → (left : ℕ) → Type 0
GoesAt task state turn reads from lpib to later rirb geometry periods pcm left =
    let facts = facts_of (budget_of turn) left from lpib to in
    let tally = tally_after (measures geometry) state.tally facts in
    IsStretch task state turn (made_by rirb state.rings reads geometry periods state.tally pcm facts later) (is_some (found_by state.rings reads))
    (record state { phase = played_as tally.course.ran; rings = rings_polled state.rings reads; tally = tally })

moved : (task : Task) (old : BringUp) (writer : WriterState) (supply : List ℕ) (turn : Option DriverLine) (reads : PollReads) (from lpib to : ℕ) (later : Ran → List Event) → IsTaskOf old writer supply task → supply ≡ drop writer.course.used task.pcm
    → GoesAt task (state_of old writer) turn reads from lpib to later task.blocks.rirb task.geometry task.blocks.periods (drop writer.course.used task.pcm) (length task.pcm - writer.course.used)
    → GoesAt task (state_of old writer) turn reads from lpib to later old.engine.rirb.address writer.geometry (periods_of writer) supply (length supply)
moved task old writer supply turn reads from lpib to later of sound base =
    let state = state_of old writer in
    let used = writer.course.used in
    subst (λ (rirb : ℕ). GoesAt task state turn reads from lpib to later rirb writer.geometry (periods_of writer) supply (length supply)) of.rings.rirb
    (subst (λ (geometry : Geometry). GoesAt task state turn reads from lpib to later task.blocks.rirb geometry (periods_of writer) supply (length supply)) of.geometry
    (subst (λ (periods : List ℕ). GoesAt task state turn reads from lpib to later task.blocks.rirb task.geometry periods supply (length supply)) of.periods
    (subst (λ (pcm : List ℕ). GoesAt task state turn reads from lpib to later task.blocks.rirb task.geometry task.blocks.periods pcm (length supply)) (sym sound)
    (subst (λ (left : ℕ). GoesAt task state turn reads from lpib to later task.blocks.rirb task.geometry task.blocks.periods (drop used task.pcm) left) (left_same task.pcm supply used sound) base))))

-- where it leads
went_to : (old new : BringUp) (writer : WriterState) (tally' : Tally) (reads : PollReads) → tally'.course.started ≡ true → new.kept ≡ old.kept → new.sent ≡ old.sent → new.engine.rings ≡ rings_polled old.engine.rings reads
    → record (state_of old writer) { phase = played_as tally'.course.ran; rings = rings_polled old.engine.rings reads; tally = tally' } ≡ state_with new tally'
went_to old new writer tally' reads started kept sent rings =
    ap (λ (started : Bool). record (state_of old writer) { phase = phase_if started new.phase tally'.course.ran; rings = rings_polled old.engine.rings reads; tally = tally' }) (sym started)
    ∙ ap (λ (rings : RingPlaces). record (state_of old writer) { phase = phase_with new tally'; rings = rings; tally = tally' }) (sym rings)
    ∙ ap (λ (kept : ℕ). record (state_of old writer) { phase = phase_with new tally'; kept = kept; rings = new.engine.rings; tally = tally' }) (sym kept)
    ∙ ap (λ (sent : ℕ). record (state_of old writer) { phase = phase_with new tally'; kept = new.kept; sent = sent; rings = new.engine.rings; tally = tally' }) (sym sent)

-- what a poll and a run leave alike
pub record GoesTo (old new : BringUp) (writer : WriterState) (tally' : Tally) (supply : List ℕ) (budget from lpib to : ℕ) (reads : PollReads) : Type 0 where
  pub started : writer.course.started ≡ true
  pub more : is_open writer.course.ran ≡ true
  pub new_ones : AreNew old.engine.rings reads
  pub kept : new.kept ≡ old.kept
  pub sent : new.sent ≡ old.sent
  pub rings : new.engine.rings ≡ rings_polled old.engine.rings reads
  pub tally_is : tally' ≡ tally_after (measures_of writer) (tally_of writer) (facts_of budget (length supply) from lpib to)

playing_phase : (old : BringUp) (writer : WriterState) → writer.course.started ≡ true → writer.course.ran ≡ ran.Playing → (state_of old writer).phase ≡ Playing
playing_phase old writer started playing =
    ap (λ (started : Bool). phase_if started old.phase writer.course.ran) started
    ∙ ap (λ (was : Ran). played_as was) playing

led_to : (task : Task) (old new : BringUp) (writer : WriterState) (tally' : Tally) (supply : List ℕ) (turn : Option DriverLine) (from lpib to : ℕ) (reads : PollReads) (later : Ran → List Event) → IsTaskOf old writer supply task
    → GoesTo old new writer tally' supply (budget_of turn) from lpib to reads
    → GoesAt task (state_of old writer) turn reads from lpib to later task.blocks.rirb task.geometry task.blocks.periods (drop writer.course.used task.pcm) (length task.pcm - writer.course.used)
    → IsStretch task (state_of old writer) turn (made_by old.engine.rirb.address old.engine.rings reads writer.geometry (periods_of writer) (tally_of writer) supply (facts_of (budget_of turn) (length supply) from lpib to) later)
    (is_some (found_by old.engine.rings reads)) (state_with new tally')
led_to task old new writer tally' supply turn from lpib to reads later of goes base =
    let state = state_of old writer in
    let facts = facts_of (budget_of turn) (length supply) from lpib to in
    let m = measures_of writer in
    let here = moved task old writer supply turn reads from lpib to later of (of.sound (open_on_time writer.course.ran goes.more)) base in
    let started : tally'.course.started ≡ true = ap (λ (tally : Tally). tally.course.started) goes.tally_is ∙ started_by (is_late m writer.course facts) m (tally_of writer) facts goes.started in
    subst (λ (state' : State). IsStretch task state turn (made_by old.engine.rirb.address old.engine.rings reads writer.geometry (periods_of writer) (tally_of writer) supply facts later) (is_some (found_by old.engine.rings reads)) state')
    (ap (λ (tally : Tally). record state { phase = played_as tally.course.ran; rings = rings_polled old.engine.rings reads; tally = tally }) (sym goes.tally_is)
    ∙ went_to old new writer tally' reads started goes.kept goes.sent goes.rings)
    here

pub play_is : (task : Task) (old new : BringUp) (writer writer' : WriterState) (supply : List ℕ) (budget from lpib to : ℕ) (reads : PollReads) → IsTaskOf old writer supply task
    → GoesTo old new writer (tally_of writer') supply budget from lpib to reads
    → IsStretch task (state_of old writer) (Some (run_of budget))
    (poll_accesses old.engine.rirb.address old.engine.rings reads ++ play_accesses writer.geometry (periods_of writer) writer.course (facts_of budget (length supply) from lpib to) supply writer'.course.ran)
    (is_some (found_by old.engine.rings reads)) (state_of new writer')
play_is task old new writer writer' supply budget from lpib to reads of goes =
    let state = state_of old writer in
    let facts = facts_of budget (length supply) from lpib to in
    let playing = open_playing writer.course.ran goes.more in
    let turn = Some (run_of budget) in
    let own = facts_in task state budget from lpib to in
    let base = subst (λ (phase : Phase). IsStretch task state turn (made_by task.blocks.rirb state.rings reads task.geometry task.blocks.periods state.tally (drop writer.course.used task.pcm) own stop_accesses) (is_some (found_by state.rings reads))
    (record state { phase = phase; rings = rings_polled state.rings reads; tally = tally_in task state own })) (played_same task (tally_in task state own).course.ran)
    (plays_stretch task state budget reads own (playing_phase old writer goes.started playing) playing refl goes.new_ones) in
    let whole = led_to task old new writer (tally_of writer') supply turn from lpib to reads stop_accesses of goes base in
    subst (λ (was : Ran). IsStretch task state turn (poll_accesses old.engine.rirb.address old.engine.rings reads ++ play_accesses writer.geometry (periods_of writer) writer.course facts supply was) (is_some (found_by old.engine.rings reads)) (state_of new writer'))
    (sym (ap (λ (tally : Tally). tally.course.ran) goes.tally_is))
    whole

pub finish_is : (task : Task) (old new : BringUp) (writer : WriterState) (tally' : Tally) (supply : List ℕ) (from lpib to : ℕ) (reads : PollReads) → IsTaskOf old writer supply task
    → GoesTo old new writer tally' supply 0 from lpib to reads
    → IsStretch task (state_of old writer) None
    (poll_accesses old.engine.rirb.address old.engine.rings reads ++ (finish_accesses writer.geometry (periods_of writer) writer.course (facts_of 0 (length supply) from lpib to) supply ++ shut_accesses))
    (is_some (found_by old.engine.rings reads)) (state_with new tally')
finish_is task old new writer tally' supply from lpib to reads of goes =
    let state = state_of old writer in
    let facts = facts_of 0 (length supply) from lpib to in
    let m = measures_of writer in
    let playing = open_playing writer.course.ran goes.more in
    let own = facts_in task state 0 from lpib to in
    let writes = run_writes (period_bytes writer.geometry.period) (periods_of writer) m writer.course facts supply in
    let base = subst (λ (phase : Phase). IsStretch task state None (made_by task.blocks.rirb state.rings reads task.geometry task.blocks.periods state.tally (drop writer.course.used task.pcm) own (λ was. stopped_last)) (is_some (found_by state.rings reads))
    (record state { phase = phase; rings = rings_polled state.rings reads; tally = tally_in task state own })) (played_same task (tally_in task state own).course.ran)
    (closes_stretch task state reads own (playing_phase old writer goes.started playing) playing refl goes.new_ones) in
    subst (λ (run : List Event). IsStretch task state None (poll_accesses old.engine.rirb.address old.engine.rings reads ++ (Read WALCLK Four from ∷ Read POSITION Four lpib ∷ run)) (is_some (found_by old.engine.rings reads)) (state_with new tally'))
    (sym (append_assoc writes (Read WALCLK Four to ∷ Write CONTROL One 0 ∷ []) shut_accesses))
    (led_to task old new writer tally' supply None from lpib to reads (λ was. stopped_last) of goes base)
