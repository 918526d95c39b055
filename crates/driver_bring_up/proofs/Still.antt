-- Calls in which nothing is left to do, calls for an interrupt, and the last call.
use Rattle.std.proofs.Common.{◌≡◌, ◌*◌, ℕ, List, [], ◌∷◌, ◌++◌, Bool, true, false, if◌then◌else◌, Some, None, refl, sym, ap, subst, ◌∙◌}
use Rattle.std.specs.Prelude.{not}
use Rattle.verb_codes.specs.Words.{has_bit, bits_of}
use Rattle.hda_registers.specs.declared.shapes.Width.TheVariants.{One, Four}
use Rattle.hda_registers.specs.declared.places.TheConstants.{INTSTS}
use Rattle.hda_world.specs.Events.{Event, Read, Write}
use Rattle.period_writer.specs.declared.course.Ran.{Ran}
use Rattle.period_writer.specs.declared.course.Ran.TheVariants as ran
use Rattle.period_writer.specs.Runs.{Tally, Measures, Stretch, taken_up_if}
use Rattle.driver_progress.specs.declared.registers.TheConstants.{STREAM_STATUS}
use Rattle.driver_progress.specs.declared.phase.Phase.{Phase}
use Rattle.driver_progress.specs.declared.phase.Phase.TheVariants.{Reset, Settling, Walking, SettingUp, Ready, Playing}
use Rattle.driver_progress.specs.Requests.{Request, Gets, requests_of}
use Rattle.driver_progress.specs.Tasks.{Task, DriverLine}
use Rattle.driver_progress.specs.Seen.{Seen, seen_by, values_of}
use Rattle.driver_progress.specs.States.{State}
use Rattle.driver_progress.specs.Expected.{runs, runs_in, starts, asks, clears, interrupted_if, closes, shuts}
use Rattle.driver_progress.specs.Next.{led, closed, polled, tally_next, next, expected}
use Rattle.driver_progress.specs.Interrupts.{clear_accesses, interrupt_accesses}
use Rattle.driver_progress.specs.Shutting.{shut_accesses}
use Rattle.driver_bring_up.specs.Commanding.{IsStretch, IsLastLook, run_of}
use Rattle.driver_progress.specs.Phases.{PhaseGroup, Over, group_of, acts, is_active, is_asking, is_early, is_reset, is_settling}
use Rattle.driver_progress.proofs.Callers.{interrupt_fits}

-- ---- nothing is left to do

still_runs : (task : Task) (state : State) (budget : ℕ) (seen : Seen) (tally : Tally) (phase : Phase) → is_asking phase ≡ false → is_reset phase ≡ false → is_settling phase ≡ false → is_early phase ≡ true → (phase ≡ Ready → task.plays ≡ false) → runs task state budget seen tally phase ≡ []
still_runs task state budget seen tally Reset asking reset settling early silent = cc
still_runs task state budget seen tally Settling asking reset settling early silent = cc
still_runs task state budget seen tally Walking asking reset settling early silent = cc
still_runs task state budget seen tally SettingUp asking reset settling early silent = cc
still_runs task state budget seen tally Playing asking reset settling early silent = cc
still_runs task state budget seen tally Ready asking reset settling early silent = ap (λ (plays : Bool). if plays then starts task state budget seen else []) (silent refl)
still_runs task state budget seen tally phase asking reset settling early silent = refl

still_led : (task : Task) (state : State) (seen : Seen) (tally : Tally) (phase : Phase) → is_asking phase ≡ false → is_reset phase ≡ false → is_settling phase ≡ false → is_early phase ≡ true → (phase ≡ Ready → task.plays ≡ false) → led task state seen tally phase ≡ state
still_led task state seen tally Reset asking reset settling early silent = cc
still_led task state seen tally Settling asking reset settling early silent = cc
still_led task state seen tally Walking asking reset settling early silent = cc
still_led task state seen tally SettingUp asking reset settling early silent = cc
still_led task state seen tally Playing asking reset settling early silent = cc
still_led task state seen tally Ready asking reset settling early silent = ap (λ (plays : Bool). if plays then record state { phase = Playing } else state) (silent refl)
still_led task state seen tally phase asking reset settling early silent = refl

-- a stretch that reads no clock is no run
pub clock_unread : (was : Ran) (m : Measures) (total : ℕ) (stretch : Stretch) (tally : Tally) → taken_up_if was [] m total stretch tally ≡ tally
clock_unread ran.Playing m total stretch tally = refl
clock_unread ran.Drained m total stretch tally = refl
clock_unread (ran.Late from to limit) m total stretch tally = refl

pub still_stretch : (task : Task) (state : State) (budget : ℕ) → is_asking state.phase ≡ false → is_reset state.phase ≡ false → is_settling state.phase ≡ false → is_early state.phase ≡ true
    → (state.phase ≡ Ready → task.plays ≡ false) → IsStretch task state (Some (run_of budget)) [] false state
still_stretch task state budget asking reset settling early silent =
    let seen = seen_by (values_of []) false in
    let tally = tally_next task state (Some (run_of budget)) seen in record {
      fits = sym (still_runs task state budget seen tally state.phase asking reset settling early silent);
      leads = sym (ap (λ (after : State). record after { tally = tally }) (still_led task state seen tally state.phase asking reset settling early silent)
          ∙ ap (λ (tally : Tally). record state { tally = tally }) (clock_unread state.tally.course.ran _ _ _ state.tally));
    }

-- ---- the last call

shut_closes : (task : Task) (state : State) (seen : Seen) (phase : Phase) → is_asking phase ≡ false → is_reset phase ≡ false → is_early phase ≡ true → closes task state seen phase ≡ shuts
shut_closes task state seen Reset asking reset early = cc
shut_closes task state seen Walking asking reset early = cc
shut_closes task state seen SettingUp asking reset early = cc
shut_closes task state seen Playing asking reset early = cc
shut_closes task state seen phase asking reset early = refl

shut_closed : (task : Task) (state : State) (seen : Seen) (tally : Tally) (phase : Phase) → is_asking phase ≡ false → is_reset phase ≡ false → is_early phase ≡ true → closed task state seen tally phase ≡ state
shut_closed task state seen tally Walking asking reset early = cc
shut_closed task state seen tally SettingUp asking reset early = cc
shut_closed task state seen tally Playing asking reset early = cc
shut_closed task state seen tally phase asking reset early = refl

reset_closes : (task : Task) (state : State) (seen : Seen) (phase : Phase) → is_reset phase ≡ true → closes task state seen phase ≡ []
reset_closes task state seen Reset reset = refl
reset_closes task state seen phase reset = cc

reset_closed : (task : Task) (state : State) (seen : Seen) (tally : Tally) (phase : Phase) → is_reset phase ≡ true → closed task state seen tally phase ≡ state
reset_closed task state seen tally Reset reset = refl
reset_closed task state seen tally phase reset = cc

pub shut_stretch : (task : Task) (state : State) → is_asking state.phase ≡ false → is_reset state.phase ≡ false → is_early state.phase ≡ true → IsStretch task state None shut_accesses false state
shut_stretch task state asking reset early =
    let seen = seen_by (values_of shut_accesses) false in
    let tally = tally_next task state None seen in record {
      fits = sym (shut_closes task state seen state.phase asking reset early);
      leads = sym (ap (λ (after : State). record after { tally = tally }) (shut_closed task state seen tally state.phase asking reset early)
          ∙ ap (λ (tally : Tally). record state { tally = tally }) (clock_unread state.tally.course.ran _ _ _ state.tally));
    }

pub none_stretch : (task : Task) (state : State) → is_reset state.phase ≡ true → IsStretch task state None [] false state
none_stretch task state reset =
    let seen = seen_by (values_of []) false in
    let tally = tally_next task state None seen in record {
      fits = sym (reset_closes task state seen state.phase reset);
      leads = sym (ap (λ (after : State). record after { tally = tally }) (reset_closed task state seen tally state.phase reset)
          ∙ ap (λ (tally : Tally). record state { tally = tally }) (clock_unread state.tally.course.ran _ _ _ state.tally));
    }

-- ---- calls for an interrupt

runs_same : (task : Task) (state : State) (budget interrupts stream : ℕ) (seen : Seen) (tally : Tally) (phase : Phase) → runs task state budget (record seen { interrupts = interrupts; stream = stream }) tally phase ≡ runs task state budget seen tally phase
runs_same task state budget interrupts stream seen tally Reset = refl
runs_same task state budget interrupts stream seen tally phase = refl

led_same : (task : Task) (state : State) (interrupts stream : ℕ) (seen : Seen) (tally : Tally) (phase : Phase) → led task state (record seen { interrupts = interrupts; stream = stream }) tally phase ≡ led task state seen tally phase
led_same task state interrupts stream seen tally Reset = refl
led_same task state interrupts stream seen tally phase = refl

abbrev pub irq_of : (budget : ℕ) → DriverLine
irq_of budget = record { irq = true; budget = budget }

-- what it saw is what the call after it saw, and the interrupts
pub interrupted_seen : Bool → (interrupts stream : ℕ) → (called : List Event) → (found : Bool) → Seen
interrupted_seen clears interrupts stream called found =
    record (seen_by (values_of called) found) { interrupts = interrupts; stream = if clears then stream else (seen_by (values_of called) found).stream }

seen_same : (clears : Bool) (interrupts stream : ℕ) (called : List Event) (found : Bool)
    → seen_by (values_of (Read INTSTS Four interrupts ∷ ((if clears then Read STREAM_STATUS One stream ∷ Write STREAM_STATUS One (4 * bits_of stream 2 3) ∷ [] else []) ++ called))) found
    ≡ interrupted_seen clears interrupts stream called found
unfolding interrupted_seen
seen_same true interrupts stream called found = refl
seen_same false interrupts stream called found = refl

pub not_reset : (phase : Phase) → (phase ≡ Reset → ⊥) → is_reset phase ≡ false
not_reset Reset not = absurd (not refl)
not_reset phase not = refl

pub not_settling : (phase : Phase) → (phase ≡ Settling → ⊥) → is_settling phase ≡ false
not_settling Settling not = absurd (not refl)
not_settling phase not = refl

inactive_in : (task : Task) (state : State) (budget : ℕ) (seen : Seen) (tally : Tally) (phase : Phase) (group : PhaseGroup) → acts group ≡ false → runs_in task state budget seen tally phase group ≡ []
inactive_in task state budget seen tally phase Over inactive = refl
inactive_in task state budget seen tally phase group inactive = cc

inactive_runs : (task : Task) (state : State) (budget : ℕ) (seen : Seen) (tally : Tally) (phase : Phase) → is_active phase ≡ false → runs task state budget seen tally phase ≡ []
inactive_runs task state budget seen tally phase inactive = inactive_in task state budget seen tally phase (group_of phase) inactive

-- no interrupt is looked for
pub inactive_stretch : (task : Task) (state : State) (budget : ℕ) → is_active state.phase ≡ false → IsStretch task state (Some (irq_of budget)) [] false state
inactive_stretch task state budget inactive =
    let seen = seen_by (values_of []) false in
    let tally = tally_next task state (Some (irq_of budget)) seen in record {
      fits = sym (ap (λ (active : Bool). interrupted_if active seen (runs task state budget seen tally state.phase)) inactive ∙ inactive_runs task state budget seen tally state.phase inactive);
      leads = sym (ap (λ (tally : Tally). record state { tally = tally }) (clock_unread state.tally.course.ran _ _ _ state.tally));
    }

-- there is none
no_interrupt : (task : Task) (state : State) (budget interrupts : ℕ) → has_bit interrupts 31 ≡ false → is_active state.phase ≡ true → IsStretch task state (Some (irq_of budget)) (Read INTSTS Four interrupts ∷ []) false state
no_interrupt task state budget interrupts none active =
    let seen = seen_by (values_of (Read INTSTS Four interrupts ∷ [])) false in
    let tally = tally_next task state (Some (irq_of budget)) seen in record {
      fits = sym (ap (λ (active : Bool). interrupted_if active seen (runs task state budget seen tally state.phase)) active
          ∙ ap (λ (on : Bool). Gets INTSTS Four ∷ (if on then clears seen ++ runs task state budget seen tally state.phase else [])) none);
      leads = sym (ap (λ (on : Bool). record (if not on then state else led task state seen tally state.phase) { tally = tally }) none
          ∙ ap (λ (tally : Tally). record state { tally = tally }) (clock_unread state.tally.course.ran _ _ _ state.tally));
    }

pub none_stretch_of : (task : Task) (state : State) (budget interrupts stream : ℕ) → has_bit interrupts 31 ≡ false → is_active state.phase ≡ true → IsStretch task state (Some (irq_of budget)) (interrupt_accesses interrupts stream) false state
none_stretch_of task state budget interrupts stream none active =
    subst (λ (made : List Event). IsStretch task state (Some (irq_of budget)) made false state) (ap (λ (on : Bool). Read INTSTS Four interrupts ∷ (if on then clear_accesses interrupts stream else [])) (sym none))
    (no_interrupt task state budget interrupts none active)

-- there is one
clears_first : (task : Task) (state : State) (budget : ℕ) (made : List Event) (found : Bool) (state' : State) (interrupts stream : ℕ) → has_bit interrupts 31 ≡ true → is_active state.phase ≡ true
    → IsStretch task state (Some (run_of budget)) made found state' → IsStretch task state (Some (irq_of budget)) (Read INTSTS Four interrupts ∷ (clear_accesses interrupts stream ++ made)) found state'
unfolding interrupted_seen
clears_first task state budget made found state' interrupts stream on active run =
    let called = seen_by (values_of made) found in
    let seen = interrupted_seen (has_bit interrupts 1) interrupts stream made found in
    let whole = seen_same (has_bit interrupts 1) interrupts stream made found in
    let tally = tally_next task state (Some (run_of budget)) called in
    let cleared = λ (is : has_bit interrupts 1 ≡ true). ap (λ (clears : Bool). if clears then stream else called.stream) is in record {
      fits = ap (λ (on : Bool). requests_of (Read INTSTS Four interrupts ∷ (if on then clear_accesses interrupts stream ++ made else []))) (sym on)
          ∙ interrupt_fits interrupts stream seen made refl cleared
          ∙ ap (λ (later : List Request). interrupted_if true seen later) (run.fits ∙ sym (runs_same task state budget interrupts seen.stream called tally state.phase))
          ∙ ap (λ (active : Bool). interrupted_if active seen (runs task state budget seen tally state.phase)) (sym active)
          ∙ ap (λ (seen : Seen). expected task state (Some (irq_of budget)) seen) (sym whole);
      leads = run.leads
          ∙ ap (λ (after : State). record after { tally = tally }) (sym (led_same task state interrupts seen.stream called tally state.phase))
          ∙ ap (λ (on : Bool). record (if not on then state else led task state seen tally state.phase) { tally = tally }) (sym on)
          ∙ ap (λ (seen : Seen). next task state (Some (irq_of budget)) seen) (sym whole);
    }

pub interrupted_stretch : (task : Task) (state : State) (budget : ℕ) (made : List Event) (found : Bool) (state' : State) (interrupts stream : ℕ) → has_bit interrupts 31 ≡ true → is_active state.phase ≡ true
    → IsStretch task state (Some (run_of budget)) made found state' → IsStretch task state (Some (irq_of budget)) (interrupt_accesses interrupts stream ++ made) found state'
interrupted_stretch task state budget made found state' interrupts stream on active run =
    subst (λ (events : List Event). IsStretch task state (Some (irq_of budget)) events found state') (ap (λ (on : Bool). Read INTSTS Four interrupts ∷ ((if on then clear_accesses interrupts stream else []) ++ made)) (sym on))
    (clears_first task state budget made found state' interrupts stream on active run)

-- and where an answer ended it
last_first : (task : Task) (state : State) (later : List Request) (made : List Event) (state' : State) (interrupts stream : ℕ) → has_bit interrupts 31 ≡ true
    → IsLastLook task state false later made state' → IsLastLook task state true later (Read INTSTS Four interrupts ∷ (clear_accesses interrupts stream ++ made)) state'
unfolding interrupted_seen
last_first task state later made state' interrupts stream on last =
    let seen = interrupted_seen (has_bit interrupts 1) interrupts stream made true in
    let whole = seen_same (has_bit interrupts 1) interrupts stream made true in
    let cleared = λ (is : has_bit interrupts 1 ≡ true). ap (λ (clears : Bool). if clears then stream else (seen_by (values_of made) true).stream) is in record {
      fits = ap (λ (on : Bool). requests_of (Read INTSTS Four interrupts ∷ (if on then clear_accesses interrupts stream ++ made else []))) (sym on)
          ∙ interrupt_fits interrupts stream seen made refl cleared
          ∙ ap (λ (asked : List Request). interrupted_if true seen asked) last.fits
          ∙ ap (λ (seen : Seen). interrupted_if true seen (asks task state seen later)) (sym whole);
      leads = last.leads ∙ ap (λ (seen : Seen). record state { phase = state'.phase; rings = polled state.rings seen }) (sym whole);
    }

pub interrupted_last : (task : Task) (state : State) (later : List Request) (made : List Event) (state' : State) (interrupts stream : ℕ) → has_bit interrupts 31 ≡ true
    → IsLastLook task state false later made state' → IsLastLook task state true later (interrupt_accesses interrupts stream ++ made) state'
interrupted_last task state later made state' interrupts stream on last =
    subst (λ (events : List Event). IsLastLook task state true later events state') (ap (λ (on : Bool). Read INTSTS Four interrupts ∷ ((if on then clear_accesses interrupts stream else []) ++ made)) (sym on))
    (last_first task state later made state' interrupts stream on last)
