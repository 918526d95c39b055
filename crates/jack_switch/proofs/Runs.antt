-- Where the runs of a driver that switches lead it, by its own ring and sound.
use Rattle.std.proofs.Common.{◌≡◌, ◌+◌, ◌-◌, ℕ, zero, suc, List, [], ◌∷◌, ◌++◌, length, append_assoc, Bool, true, false, if◌then◌else◌, Option, Some, None, refl, sym, ap, subst, ◌∙◌, arith}
use Rattle.std.specs.Prelude.{◌&&◌, drop, slice_get, slice_index}
use Rattle.std.specs.Option.{is_some}
use Rattle.std.proofs.lemmas.List.{length-drop, length-append, drop-drop}
use Rattle.codec_graph.specs.declared.raw.RawCodec.{RawCodec}
use Rattle.route_planner.specs.declared.routes.Plan.{Plan}
use Rattle.hda_registers.specs.declared.shapes.Width.TheVariants.{One, Four}
use Rattle.hda_registers.specs.declared.places.TheConstants.{WALCLK}
use Rattle.hda_world.specs.Events.{Event, Read, Write}
use Rattle.command_engine.specs.declared.ring_places.RingPlaces.{RingPlaces}
use Rattle.command_engine.specs.Polling.{PollReads, AreNew, poll_accesses, rings_polled}
use Rattle.period_writer.specs.declared.course.Ran.{Ran}
use Rattle.period_writer.specs.declared.course.Ran.TheVariants as ran
use Rattle.period_writer.specs.declared.course.Run.{Run}
use Rattle.period_writer.specs.declared.geometry.Geometry.{Geometry}
use Rattle.period_writer.specs.declared.registers.TheConstants.{CONTROL, POSITION}
use Rattle.period_writer.specs.Rings.{period_bytes}
use Rattle.period_writer.specs.Starting.{start_accesses}
use Rattle.period_writer.specs.Playing.{run_writes, run_bytes, stop_accesses, play_accesses, finish_accesses}
use Rattle.period_writer.specs.Runs.{Measures, RunFacts, Tally, measures, facts_of, run_of, run_sound, has_drained, is_late, is_late_since, tally_if, tally_after, tally_opened}
use Rattle.period_writer.specs.Writers.{WriterState, tally_of, measures_of, periods_of}
use Rattle.driver_progress.specs.Tasks.{Task, DriverLine}
use Rattle.driver_progress.specs.Shutting.{shut_accesses}
use Rattle.driver_bring_up.specs.Commanding.{submit_made, answer_in}
use Rattle.driver_bring_up.specs.Told.{IsBefore}
use Rattle.driver_rules.specs.Findings.{findings_of}
use Rattle.audio_driver.specs.States.{is_open, was_late, IsLeft}
use Rattle.audio_driver.proofs.Callers.{open_playing}
use Rattle.jack_switch.specs.SwitchRules.{SwitchState, as_progress, is_on, is_overdue, order_after, last_run_clock, clock_if, clock_of}
use Rattle.jack_switch.specs.JackDrivers.{JackDriverState, switch_state, IsTaskOfSwitching}
use Rattle.jack_switch.proofs.PlayedOn.{facts_in, pcm_in, tally_in, made_in}
use Rattle.jack_switch.proofs.Stretches.{look_at, ran_to, later_made, later_unread, stop_entries, submit_entries, submit_unread, read_before, started_in, start_clocks, start_positions, IsCalled, goes_called, gives_called, begins_called, line_of}
use Rattle.jack_switch.proofs.Interrupted.{IsSwitchStretch, called_stretch, found_stretch}
use Rattle.jack_switch.proofs.Last.{stopped_last, finished_to, finishes_stretch, halts_stretch}
use Rattle.jack_switch.proofs.Seen.{before_unread, poll_sees, poll_no_clocks, run_sees}
use Rattle.std.proofs.lemmas.Grind.{flat_map-append}
use Rattle.driver_bring_up.specs.Commanding.{entries_in, entry_in}

-- ---- the clock that a run read last

last_run : (runs : List Run) (run : Run) → slice_get (runs ++ run ∷ []) (length runs) ≡ Some run
last_run [] run = refl
last_run (one ∷ runs) run = last_run runs run

one_less : (runs : List Run) (run : Run) → length (runs ++ run ∷ []) - 1 ≡ length runs
one_less runs run = let long = length-append runs (run ∷ []) in omega (arith, long)

late_clock : (since : Bool) (m : Measures) (tally : Tally) (facts : RunFacts) (runs : List Run)
    → clock_if (if since then ran.Late tally.course.from facts.to m.limit else ran.Late facts.from facts.to m.slack) runs ≡ facts.to
late_clock true m tally facts runs = refl
late_clock false m tally facts runs = refl

open_clock : (drained : Bool) (runs : List Run) → clock_if (if drained then ran.Drained else ran.Playing) runs ≡ last_run_clock (slice_get runs (length runs - 1))
open_clock true runs = refl
open_clock false runs = refl

clock_by : (late : Bool) (m : Measures) (tally : Tally) (facts : RunFacts) → clock_of (tally_if late m tally facts) ≡ facts.to
clock_by true m tally facts = late_clock (is_late_since m tally.course facts) m tally facts tally.runs
clock_by false m tally facts =
    let run = run_of m tally.course facts in
    let runs = tally.runs ++ run ∷ [] in
    open_clock (has_drained m tally.course facts) runs
    ∙ ap (λ (place : ℕ). last_run_clock (slice_get runs place)) (one_less tally.runs run)
    ∙ ap last_run_clock (last_run tally.runs run)

pub clock_after : (m : Measures) (tally : Tally) (facts : RunFacts) → clock_of (tally_after m tally facts) ≡ facts.to
clock_after m tally facts = clock_by (is_late m tally.course facts) m tally facts

-- ---- the sound that is left

used_by : (late : Bool) (m : Measures) (tally : Tally) (facts : RunFacts) → was_late (tally_if late m tally facts).course.ran ≡ false → tally.course.used + run_sound m tally.course facts ≡ (tally_if late m tally facts).course.used
used_by true m tally facts on_time = by (is_late_since m tally.course facts) on_time where
  by : (since_first : Bool) → was_late (if since_first then ran.Late tally.course.from facts.to m.limit else ran.Late facts.from facts.to m.slack) ≡ false → tally.course.used + run_sound m tally.course facts ≡ tally.course.used
  by true e = cc
  by false e = cc
used_by false m tally facts on_time = refl

pub left_after : (pcm supply supply' : List ℕ) (m : Measures) (tally tally' : Tally) (facts : RunFacts) → was_late tally.course.ran ≡ false → tally' ≡ tally_after m tally facts → supply' ≡ drop (run_sound m tally.course facts) supply
    → IsLeft pcm tally.course supply → IsLeft pcm tally'.course supply'
left_after pcm supply supply' m tally tally' facts before tally_is is left = λ on_time.
    let sound = run_sound m tally.course facts in
    let after : was_late (tally_after m tally facts).course.ran ≡ false = ap (λ (tally : Tally). was_late tally.course.ran) (sym tally_is) ∙ on_time in
    is ∙ ap (λ (supply : List ℕ). drop sound supply) (left before) ∙ drop-drop sound tally.course.used pcm
    ∙ ap (λ (used : ℕ). drop used pcm) (used_by (is_late m tally.course facts) m tally facts after ∙ ap (λ (tally : Tally). tally.course.used) (sym tally_is))

pub open_on_time : (was : Ran) → is_open was ≡ true → was_late was ≡ false
open_on_time ran.Playing more = refl
open_on_time ran.Drained more = refl
open_on_time (ran.Late from to limit) more = cc

-- of the sound so many bytes are left
left_same : (pcm supply : List ℕ) (used : ℕ) → supply ≡ drop used pcm → length pcm - used ≡ length supply
left_same pcm supply used is = sym (ap length is ∙ length-drop used pcm)

-- ---- the blocks of a driver in place of those of its task

abbrev own : JackDriverState → Task → Task
own driver task = record task {
  blocks = record task.blocks { corb = driver.engine.corb.address; rirb = driver.engine.rirb.address; list = driver.writer.list.address; periods = periods_of driver.writer };
  geometry = driver.writer.geometry;
}

own_same : (driver : JackDriverState) (supply : List ℕ) (task : Task) → IsTaskOfSwitching driver supply task → task ≡ own driver task
own_same driver supply task of =
    ap (λ (corb : ℕ). record task { blocks = record task.blocks { corb = corb } }) of.corb
    ∙ ap (λ (rirb : ℕ). record task { blocks = record task.blocks { corb = driver.engine.corb.address; rirb = rirb } }) of.rirb
    ∙ ap (λ (list : ℕ). record task { blocks = record task.blocks { corb = driver.engine.corb.address; rirb = driver.engine.rirb.address; list = list } }) of.list
    ∙ ap (λ (periods : List ℕ). record task { blocks = record task.blocks { corb = driver.engine.corb.address; rirb = driver.engine.rirb.address; list = driver.writer.list.address; periods = periods } }) of.periods
    ∙ ap (λ (geometry : Geometry). record task { blocks = record task.blocks { corb = driver.engine.corb.address; rirb = driver.engine.rirb.address; list = driver.writer.list.address; periods = periods_of driver.writer }; geometry = geometry }) of.geometry

-- ---- a call after what came before it

lift : (irq : Bool) (first : List Event) (task : Task) (graphs : List RawCodec) (plans : List Plan) (state : SwitchState) (budget : ℕ) (called : List Event) (answered : Bool) (state' : SwitchState) → IsBefore irq first → is_on state ≡ true
    → IsCalled task state (line_of irq budget) (findings_of (first ++ called) answered) called state' → IsSwitchStretch task graphs plans state (Some (line_of irq budget)) (first ++ called) answered state'
lift true first task graphs plans state budget called answered state' before on is =
    subst (λ (first : List Event). IsCalled task state (line_of true budget) (findings_of (first ++ called) answered) called state' → IsSwitchStretch task graphs plans state (Some (line_of true budget)) (first ++ called) answered state') (sym before.is)
    (found_stretch task graphs plans state budget before.interrupts before.stream called answered state' on before.on) is
lift false first task graphs plans state budget called answered state' before on is =
    subst (λ (first : List Event). IsCalled task state (line_of false budget) (findings_of (first ++ called) answered) called state' → IsSwitchStretch task graphs plans state (Some (line_of false budget)) (first ++ called) answered state') (sym before)
    (called_stretch task graphs plans state budget called answered state' on) is

-- whether the command that was outstanding was answered in it
abbrev answered_in : JackDriverState → List Event → Bool
answered_in driver made = is_some (answer_in driver.engine.rings made)

-- ---- a later run

-- the tally that it leaves
abbrev pub tally_to : JackDriverState → RunFacts → Tally
tally_to driver facts = tally_after (measures_of driver.writer) (tally_of driver.writer) facts

abbrev pub looked_by : JackDriverState → PollReads → SwitchState
looked_by driver reads = look_at (switch_state driver) reads

abbrev turned : JackDriverState → PollReads → RunFacts → (pcm : List ℕ) → (later : List Event) → List Event
turned driver reads facts pcm later =
    poll_accesses driver.engine.rirb.address driver.engine.rings reads
    ++ (Read WALCLK Four facts.from ∷ Read POSITION Four facts.lpib
    ∷ (run_writes (period_bytes driver.writer.geometry.period) (periods_of driver.writer) (measures_of driver.writer) driver.writer.course facts pcm ++ Read WALCLK Four facts.to ∷ later))

abbrev later_of : JackDriverState → PollReads → (was : Ran) → List Event
later_of driver reads was = later_made driver.engine.corb.address was (looked_by driver reads)

-- in one row
abbrev pub goes_made : JackDriverState → PollReads → RunFacts → (supply : List ℕ) → (was : Ran) → List Event
goes_made driver reads facts supply was =
    poll_accesses driver.engine.rirb.address driver.engine.rings reads
    ++ (play_accesses driver.writer.geometry (periods_of driver.writer) driver.writer.course facts supply was
    ++ submit_made driver.engine.corb.address (rings_polled driver.engine.rings reads) (order_after (looked_by driver reads) was))

goes_flat : (driver : JackDriverState) (reads : PollReads) (facts : RunFacts) (supply : List ℕ) (was : Ran) → turned driver reads facts supply (later_of driver reads was) ≡ goes_made driver reads facts supply was
goes_flat driver reads facts supply was =
    let writes = run_writes (period_bytes driver.writer.geometry.period) (periods_of driver.writer) (measures_of driver.writer) driver.writer.course facts supply in
    let submitted = submit_made driver.engine.corb.address (rings_polled driver.engine.rings reads) (order_after (looked_by driver reads) was) in
    ap (λ (rest : List Event). poll_accesses driver.engine.rirb.address driver.engine.rings reads ++ (Read WALCLK Four facts.from ∷ Read POSITION Four facts.lpib ∷ rest))
    (sym (append_assoc writes (Read WALCLK Four facts.to ∷ stop_accesses was) submitted))

later_entries : (driver : JackDriverState) (reads : PollReads) (was : Ran) → entries_in (later_of driver reads was) ≡ []
later_entries driver reads was =
    let submitted = submit_made driver.engine.corb.address (rings_polled driver.engine.rings reads) (order_after (looked_by driver reads) was) in
    flat_map-append entry_in (stop_accesses was) submitted
    ∙ ap (λ (entries : List (List ℕ)). entries_in (stop_accesses was) ++ entries) (submit_entries driver.engine.corb.address (rings_polled driver.engine.rings reads) (order_after (looked_by driver reads) was))
    ∙ ap (λ (entries : List (List ℕ)). entries ++ []) (stop_entries was)

abbrev GoesAt : (irq : Bool) (first : List Event) → JackDriverState → Task → (budget : ℕ) → PollReads → (from lpib to : ℕ) → (pcm : List ℕ) → (left : ℕ) → Type 0
GoesAt irq first driver task budget reads from lpib to pcm left =
    let facts = facts_of budget left from lpib to in
    let tally = tally_to driver facts in
    let made = first ++ turned driver reads facts pcm (later_of driver reads tally.course.ran) in
    IsSwitchStretch (own driver task) driver.graphs driver.plans (switch_state driver) (Some (line_of irq budget)) made (answered_in driver made) (ran_to (looked_by driver reads) to tally)

-- what a later run goes by
pub record GoesBy (driver : JackDriverState) (reads : PollReads) : Type 0 where
  pub on : is_on (switch_state driver) ≡ true
  pub started : driver.writer.course.started ≡ true
  pub more : is_open driver.writer.course.ran ≡ true
  pub new_ones : AreNew driver.engine.rings reads

goes_at : (irq : Bool) (first : List Event) (driver : JackDriverState) (task : Task) (budget : ℕ) (reads : PollReads) (from lpib to : ℕ) → IsBefore irq first → GoesBy driver reads → is_overdue (rings_polled driver.engine.rings reads).outstanding driver.clock ≡ false
    → GoesAt irq first driver task budget reads from lpib to (drop driver.writer.course.used task.pcm) (length task.pcm - driver.writer.course.used)
goes_at irq first driver task budget reads from lpib to before goes time =
    let state = switch_state driver in
    let mine = own driver task in
    let facts = facts_in mine (as_progress state) budget from lpib to in
    let was = (tally_in mine (as_progress state) facts).course.ran in
    let later = later_of driver reads was in
    let called = made_in mine (as_progress state) reads facts later in
    let answered = answered_in driver (first ++ called) in
    let after = ran_to (looked_by driver reads) to (tally_in mine (as_progress state) facts) in
    let sees = run_sees irq first later mine (as_progress state) reads facts before goes.new_ones (later_unread WALCLK driver.engine.corb.address was (looked_by driver reads)) (later_unread POSITION driver.engine.corb.address was (looked_by driver reads)) (later_entries driver reads was) in
    lift irq first mine driver.graphs driver.plans state budget called answered after before goes.on
    (goes_called mine state after (line_of irq budget) (findings_of (first ++ called) answered) reads facts goes.started (open_playing driver.writer.course.ran goes.more) goes.new_ones refl sees time refl)

pub goes_is : (irq : Bool) (first : List Event) (driver : JackDriverState) (task : Task) (supply : List ℕ) (budget : ℕ) (reads : PollReads) (from lpib to : ℕ) → IsBefore irq first → IsTaskOfSwitching driver supply task → GoesBy driver reads
    → is_overdue (rings_polled driver.engine.rings reads).outstanding driver.clock ≡ false → (was : Ran) → (state' : SwitchState) → was ≡ (tally_to driver (facts_of budget (length supply) from lpib to)).course.ran
    → state' ≡ ran_to (looked_by driver reads) to (tally_to driver (facts_of budget (length supply) from lpib to))
    → IsSwitchStretch task driver.graphs driver.plans (switch_state driver) (Some (line_of irq budget)) (first ++ goes_made driver reads (facts_of budget (length supply) from lpib to) supply was)
    (answered_in driver (first ++ goes_made driver reads (facts_of budget (length supply) from lpib to) supply was)) state'
goes_is irq first driver task supply budget reads from lpib to before of goes time was state' was_is leads =
    let used = driver.writer.course.used in
    let sound = of.sound (open_on_time driver.writer.course.ran goes.more) in
    let facts = facts_of budget (length supply) from lpib to in
    let tally = tally_to driver facts in
    let state = switch_state driver in
    let turn = Some (line_of irq budget) in
    let base = goes_at irq first driver task budget reads from lpib to before goes time in
    let here : GoesAt irq first driver task budget reads from lpib to supply (length supply) =
    subst (λ (pcm : List ℕ). GoesAt irq first driver task budget reads from lpib to pcm (length supply)) (sym sound)
    (subst (λ (left : ℕ). GoesAt irq first driver task budget reads from lpib to (drop used task.pcm) left) (left_same task.pcm supply used sound) base) in
    let flat = ap (λ (was : Ran). turned driver reads facts supply (later_of driver reads was)) (sym was_is) ∙ goes_flat driver reads facts supply was in
    subst (λ (task : Task). IsSwitchStretch task driver.graphs driver.plans state turn (first ++ goes_made driver reads facts supply was) (answered_in driver (first ++ goes_made driver reads facts supply was)) state') (sym (own_same driver supply task of))
    (subst (λ (state' : SwitchState). IsSwitchStretch (own driver task) driver.graphs driver.plans state turn (first ++ goes_made driver reads facts supply was) (answered_in driver (first ++ goes_made driver reads facts supply was)) state') (sym leads)
    (subst (λ (made : List Event). IsSwitchStretch (own driver task) driver.graphs driver.plans state turn (first ++ made) (answered_in driver (first ++ made)) (ran_to (looked_by driver reads) to tally)) flat here))

-- ---- the driver gives up

abbrev pub gives_made : JackDriverState → PollReads → List Event
gives_made driver reads = poll_accesses driver.engine.rirb.address driver.engine.rings reads ++ Write CONTROL One 0 ∷ []

pub gives_is : (irq : Bool) (first : List Event) (driver : JackDriverState) (task : Task) (supply : List ℕ) (budget : ℕ) (reads : PollReads) (state' : SwitchState) → IsBefore irq first → IsTaskOfSwitching driver supply task → GoesBy driver reads
    → is_overdue (rings_polled driver.engine.rings reads).outstanding driver.clock ≡ true → state' ≡ record (looked_by driver reads) { given_up = Some driver.clock }
    → IsSwitchStretch task driver.graphs driver.plans (switch_state driver) (Some (line_of irq budget)) (first ++ gives_made driver reads) (answered_in driver (first ++ gives_made driver reads)) state'
gives_is irq first driver task supply budget reads state' before of goes over leads =
    let state = switch_state driver in
    let mine = own driver task in
    let called = gives_made driver reads in
    let answered = answered_in driver (first ++ called) in
    let sees = poll_sees irq first (Write CONTROL One 0 ∷ []) driver.engine.rirb.address driver.engine.rings reads before goes.new_ones refl in
    let none = poll_no_clocks irq first (Write CONTROL One 0 ∷ []) driver.engine.rirb.address driver.engine.rings reads before refl in
    subst (λ (task : Task). IsSwitchStretch task driver.graphs driver.plans state (Some (line_of irq budget)) (first ++ called) answered state') (sym (own_same driver supply task of))
    (lift irq first mine driver.graphs driver.plans state budget called answered state' before goes.on
    (gives_called mine state state' (line_of irq budget) (findings_of (first ++ called) answered) reads goes.started goes.new_ones sees none over leads))

-- ---- the first run

abbrev pub begins_made : JackDriverState → (in_reset ready : ℕ) → RunFacts → (supply : List ℕ) → (was : Ran) → List Event
begins_made driver in_reset ready facts supply was =
    start_accesses driver.writer.geometry driver.writer.list.address (periods_of driver.writer) facts.from in_reset ready facts.to (run_bytes (measures_of driver.writer) driver.writer.course facts supply)
    ++ submit_made driver.engine.corb.address driver.engine.rings (order_after (switch_state driver) was)

abbrev BeginsAt : (irq : Bool) (first : List Event) → JackDriverState → Task → (budget in_reset ready from to : ℕ) → (pcm : List ℕ) → (left : ℕ) → Type 0
BeginsAt irq first driver task budget in_reset ready from to pcm left =
    let facts = facts_of budget left from 0 to in
    let tally = tally_to driver facts in
    let made = first ++ begins_made driver in_reset ready facts pcm tally.course.ran in
    IsSwitchStretch (own driver task) driver.graphs driver.plans (switch_state driver) (Some (line_of irq budget)) made (answered_in driver made) (ran_to (switch_state driver) to tally)

begins_at : (irq : Bool) (first : List Event) (driver : JackDriverState) (task : Task) (budget in_reset ready from to : ℕ) → IsBefore irq first → is_on (switch_state driver) ≡ true → tally_of driver.writer ≡ tally_opened
    → BeginsAt irq first driver task budget in_reset ready from to (drop driver.writer.course.used task.pcm) (length task.pcm - driver.writer.course.used)
begins_at irq first driver task budget in_reset ready from to before on opened =
    let state = switch_state driver in
    let mine = own driver task in
    let facts = facts_in mine (as_progress state) budget from 0 to in
    let tally = tally_in mine (as_progress state) facts in
    let order = order_after state tally.course.ran in
    let started = started_in mine (as_progress state) in_reset ready facts in
    let submitted = submit_made driver.engine.corb.address driver.engine.rings order in
    let called = started ++ submitted in
    let answered = answered_in driver (first ++ called) in
    let after = ran_to state to tally in
    let clocks = before_unread irq first called WALCLK before (λ number. refl) (λ number. refl) ∙ read_before WALCLK started submitted (submit_unread WALCLK driver.engine.corb.address driver.engine.rings order) ∙ start_clocks mine (as_progress state) in_reset ready facts in
    let positions = before_unread irq first called POSITION before (λ number. refl) (λ number. refl) ∙ read_before POSITION started submitted (submit_unread POSITION driver.engine.corb.address driver.engine.rings order) ∙ start_positions mine (as_progress state) in_reset ready facts in
    lift irq first mine driver.graphs driver.plans state budget called answered after before on
    (begins_called mine state after (line_of irq budget) (findings_of (first ++ called) answered) in_reset ready facts opened refl clocks (ap (λ (values : List ℕ). slice_index values 0) positions) refl)

pub begins_is : (irq : Bool) (first : List Event) (driver : JackDriverState) (task : Task) (supply : List ℕ) (budget in_reset ready from to : ℕ) → IsBefore irq first → IsTaskOfSwitching driver supply task → is_on (switch_state driver) ≡ true
    → tally_of driver.writer ≡ tally_opened → (was : Ran) → (state' : SwitchState) → was ≡ (tally_to driver (facts_of budget (length supply) from 0 to)).course.ran
    → state' ≡ ran_to (switch_state driver) to (tally_to driver (facts_of budget (length supply) from 0 to))
    → IsSwitchStretch task driver.graphs driver.plans (switch_state driver) (Some (line_of irq budget)) (first ++ begins_made driver in_reset ready (facts_of budget (length supply) from 0 to) supply was)
    (answered_in driver (first ++ begins_made driver in_reset ready (facts_of budget (length supply) from 0 to) supply was)) state'
begins_is irq first driver task supply budget in_reset ready from to before of on opened was state' was_is leads =
    let used = driver.writer.course.used in
    let on_time : was_late driver.writer.course.ran ≡ false = ap (λ (tally : Tally). was_late tally.course.ran) opened in
    let sound = of.sound on_time in
    let facts = facts_of budget (length supply) from 0 to in
    let tally = tally_to driver facts in
    let state = switch_state driver in
    let turn = Some (line_of irq budget) in
    let base = begins_at irq first driver task budget in_reset ready from to before on opened in
    let here : BeginsAt irq first driver task budget in_reset ready from to supply (length supply) =
    subst (λ (pcm : List ℕ). BeginsAt irq first driver task budget in_reset ready from to pcm (length supply)) (sym sound)
    (subst (λ (left : ℕ). BeginsAt irq first driver task budget in_reset ready from to (drop used task.pcm) left) (left_same task.pcm supply used sound) base) in
    subst (λ (task : Task). IsSwitchStretch task driver.graphs driver.plans state turn (first ++ begins_made driver in_reset ready facts supply was) (answered_in driver (first ++ begins_made driver in_reset ready facts supply was)) state') (sym (own_same driver supply task of))
    (subst (λ (state' : SwitchState). IsSwitchStretch (own driver task) driver.graphs driver.plans state turn (first ++ begins_made driver in_reset ready facts supply was) (answered_in driver (first ++ begins_made driver in_reset ready facts supply was)) state') (sym leads)
    (subst (λ (was : Ran). IsSwitchStretch (own driver task) driver.graphs driver.plans state turn (first ++ begins_made driver in_reset ready facts supply was) (answered_in driver (first ++ begins_made driver in_reset ready facts supply was)) (ran_to state to tally)) (sym was_is) here))

-- ---- the last run

abbrev pub finishes_made : JackDriverState → PollReads → RunFacts → (supply : List ℕ) → List Event
finishes_made driver reads facts supply =
    poll_accesses driver.engine.rirb.address driver.engine.rings reads ++ (finish_accesses driver.writer.geometry (periods_of driver.writer) driver.writer.course facts supply ++ shut_accesses)

finishes_flat : (driver : JackDriverState) (reads : PollReads) (facts : RunFacts) (supply : List ℕ) → turned driver reads facts supply stopped_last ≡ finishes_made driver reads facts supply
finishes_flat driver reads facts supply =
    let writes = run_writes (period_bytes driver.writer.geometry.period) (periods_of driver.writer) (measures_of driver.writer) driver.writer.course facts supply in
    ap (λ (rest : List Event). poll_accesses driver.engine.rirb.address driver.engine.rings reads ++ (Read WALCLK Four facts.from ∷ Read POSITION Four facts.lpib ∷ rest))
    (sym (append_assoc writes (Read WALCLK Four facts.to ∷ Write CONTROL One 0 ∷ []) shut_accesses))

abbrev FinishesAt : JackDriverState → Task → PollReads → (from lpib to : ℕ) → (pcm : List ℕ) → (left : ℕ) → Type 0
FinishesAt driver task reads from lpib to pcm left =
    let facts = facts_of 0 left from lpib to in
    let made = turned driver reads facts pcm stopped_last in
    IsSwitchStretch (own driver task) driver.graphs driver.plans (switch_state driver) None made (answered_in driver made) (finished_to (looked_by driver reads) to (tally_to driver facts))

finishes_at : (driver : JackDriverState) (task : Task) (reads : PollReads) (from lpib to : ℕ) → GoesBy driver reads → is_overdue (rings_polled driver.engine.rings reads).outstanding driver.clock ≡ false
    → FinishesAt driver task reads from lpib to (drop driver.writer.course.used task.pcm) (length task.pcm - driver.writer.course.used)
finishes_at driver task reads from lpib to goes time =
    let state = switch_state driver in
    let mine = own driver task in
    let facts = facts_in mine (as_progress state) 0 from lpib to in
    let made = made_in mine (as_progress state) reads facts stopped_last in
    let sees = run_sees false [] stopped_last mine (as_progress state) reads facts refl goes.new_ones refl refl refl in
    finishes_stretch mine driver.graphs driver.plans state (finished_to (looked_by driver reads) to (tally_in mine (as_progress state) facts)) reads facts (answered_in driver made) goes.on goes.started (open_playing driver.writer.course.ran goes.more) goes.new_ones refl
    sees time refl

pub finishes_is : (driver : JackDriverState) (task : Task) (supply : List ℕ) (reads : PollReads) (from lpib to : ℕ) → IsTaskOfSwitching driver supply task → GoesBy driver reads → is_overdue (rings_polled driver.engine.rings reads).outstanding driver.clock ≡ false
    → (state' : SwitchState) → state' ≡ finished_to (looked_by driver reads) to (tally_to driver (facts_of 0 (length supply) from lpib to))
    → IsSwitchStretch task driver.graphs driver.plans (switch_state driver) None (finishes_made driver reads (facts_of 0 (length supply) from lpib to) supply) (answered_in driver (finishes_made driver reads (facts_of 0 (length supply) from lpib to) supply)) state'
finishes_is driver task supply reads from lpib to of goes time state' leads =
    let used = driver.writer.course.used in
    let sound = of.sound (open_on_time driver.writer.course.ran goes.more) in
    let facts = facts_of 0 (length supply) from lpib to in
    let state = switch_state driver in
    let base = finishes_at driver task reads from lpib to goes time in
    let here : FinishesAt driver task reads from lpib to supply (length supply) =
    subst (λ (pcm : List ℕ). FinishesAt driver task reads from lpib to pcm (length supply)) (sym sound)
    (subst (λ (left : ℕ). FinishesAt driver task reads from lpib to (drop used task.pcm) left) (left_same task.pcm supply used sound) base) in
    subst (λ (task : Task). IsSwitchStretch task driver.graphs driver.plans state None (finishes_made driver reads facts supply) (answered_in driver (finishes_made driver reads facts supply)) state') (sym (own_same driver supply task of))
    (subst (λ (state' : SwitchState). IsSwitchStretch (own driver task) driver.graphs driver.plans state None (finishes_made driver reads facts supply) (answered_in driver (finishes_made driver reads facts supply)) state') (sym leads)
    (subst (λ (made : List Event). IsSwitchStretch (own driver task) driver.graphs driver.plans state None made (answered_in driver made) (finished_to (looked_by driver reads) to (tally_to driver facts))) (finishes_flat driver reads facts supply) here))

-- or the driver gives up
abbrev pub halts_made : JackDriverState → PollReads → List Event
halts_made driver reads = poll_accesses driver.engine.rirb.address driver.engine.rings reads ++ Write CONTROL One 0 ∷ shut_accesses

pub halts_is : (driver : JackDriverState) (task : Task) (supply : List ℕ) (reads : PollReads) (state' : SwitchState) → IsTaskOfSwitching driver supply task → GoesBy driver reads
    → is_overdue (rings_polled driver.engine.rings reads).outstanding driver.clock ≡ true → state' ≡ record (looked_by driver reads) { given_up = Some driver.clock }
    → IsSwitchStretch task driver.graphs driver.plans (switch_state driver) None (halts_made driver reads) (answered_in driver (halts_made driver reads)) state'
halts_is driver task supply reads state' of goes over leads =
    let state = switch_state driver in
    let mine = own driver task in
    let made = halts_made driver reads in
    let sees = poll_sees false [] stopped_last driver.engine.rirb.address driver.engine.rings reads refl goes.new_ones refl in
    let none = poll_no_clocks false [] stopped_last driver.engine.rirb.address driver.engine.rings reads refl refl in
    subst (λ (task : Task). IsSwitchStretch task driver.graphs driver.plans state None made (answered_in driver made) state') (sym (own_same driver supply task of))
    (halts_stretch mine driver.graphs driver.plans state state' reads (answered_in driver made) goes.on goes.started goes.new_ones sees none over leads)
