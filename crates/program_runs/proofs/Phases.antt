-- That no stretch leads to the phase of want of memory, and in which phases runs can end.
use Rattle.std.proofs.Common.{◌≡◌, ℕ, Bool, true, false, List, [], ◌∷◌, refl, Option, None, Some, if◌then◌else◌}
use Rattle.std.specs.Prelude.{nat_le, length}
use Rattle.command_engine.specs.declared.answers.Outstanding.{Outstanding}
use Rattle.command_engine.specs.declared.ring_places.RingPlaces.{RingPlaces}
use Rattle.hda_world.specs.Worlds.{World}
use Rattle.hda_world.specs.Events.{Event, Stepped, Begin, End, Read, Write, DmaRead, DmaWrite, happens}
use Rattle.period_writer.specs.Runs.{Tally}
use Rattle.period_writer.specs.declared.course.Ran.{Ran}
use Rattle.period_writer.specs.declared.course.Ran.TheVariants as ran
use Rattle.driver_progress.specs.declared.phase.Phase.{Phase}
use Rattle.driver_progress.specs.declared.phase.Phase.TheVariants.{Reset, Settling, Walking, SettingUp, Ready, Playing}
use Rattle.driver_progress.specs.declared.phase.Phase.TheVariants.{Drained, NothingRouted, Unanswered, Late, Malformed}
use Rattle.driver_progress.specs.declared.phase.Phase.TheVariants.{Failed}
use Rattle.driver_progress.specs.Tasks.{Task, Order, DriverLine}
use Rattle.driver_progress.specs.Seen.{Seen, clock_of}
use Rattle.driver_progress.specs.States.{State}
use Rattle.driver_progress.specs.Next.{next, led, closed, tally_next, phase_polled, phase_of_answers, outstanding_if, after_poll, submitted_if, walking_if, settled_if, reset_if, phase_played, finds_none}
use Rattle.driver_progress.specs.Expected.{next_order, has_settled, rings_seen}
use Rattle.driver_progress.specs.Progress.{Trail, trail_after, noted, ended, seen_in}
use Rattle.laws_bring_up.specs.Standing.{WalkedIn}
use Rattle.program_runs.specs.Ends.{play_can_end, walk_can_end}

abbrev pub is_failed : Phase → Bool
is_failed Failed = true
is_failed phase = false

abbrev IsWell : State → Type 0
IsWell state = is_failed state.phase ≡ false

if_well : (b : Bool) (one other : Phase) → is_failed one ≡ false → is_failed other ≡ false → is_failed (if b then one else other) ≡ false
if_well true one other first second = first
if_well false one other first second = second

answers_well : (task : Task) (answers : ℕ) → is_failed (phase_of_answers task answers) ≡ false
answers_well task answers =
    if_well (nat_le (length task.orders) answers) Ready (if nat_le task.walks answers then SettingUp else Walking) refl (if_well (nat_le task.walks answers) SettingUp Walking refl refl)

polled_well : (task : Task) (state : State) (clock : ℕ) (outstanding : Option Outstanding) → IsWell state → is_failed (phase_polled task state clock outstanding) ≡ false
polled_well task state clock None well = answers_well task state.sent
polled_well task state clock (Some command) well = if_well _ (Unanswered command.codec command.word command.issued clock) state.phase refl well

submitted_well : (order : Option Order) (clock : ℕ) (state : State) → IsWell state → IsWell (submitted_if order clock state)
submitted_well None clock state well = well
submitted_well (Some order) clock state well = well

poll_well : (task : Task) (state : State) (seen : Seen) → IsWell state → IsWell (after_poll task state seen)
poll_well task state seen well = polled_well task state (clock_of seen) (outstanding_if seen.answered state.rings.outstanding) well

reset_well : (out : Bool) (clock : ℕ) (state : State) → IsWell state → IsWell (reset_if out clock state)
reset_well true clock state well = refl
reset_well false clock state well = well

walking_well : (rings : Option RingPlaces) (state : State) → IsWell state → IsWell (walking_if rings state)
walking_well None state well = well
walking_well (Some rings) state well = refl

settled_well : (settled : Bool) (rings : Option RingPlaces) (state : State) → IsWell state → IsWell (settled_if settled rings state)
settled_well true rings state well = walking_well rings state well
settled_well false rings state well = well

played_well : (task : Task) (end : Ran) → is_failed (phase_played task end) ≡ false
played_well task ran.Playing = refl
played_well task ran.Drained = refl
played_well task (ran.Late from to limit) = refl

plays_well : (plays : Bool) (state : State) → IsWell state → IsWell (if plays then record state { phase = Playing } else state)
plays_well true state well = refl
plays_well false state well = well

led_well : (task : Task) (state : State) (seen : Seen) (tally : Tally) (phase : Phase) → IsWell state → IsWell (led task state seen tally phase)
led_well task state seen tally Reset well = reset_well _ (clock_of seen) state well
led_well task state seen tally Settling well = settled_well (has_settled state.kept (clock_of seen)) (rings_seen seen) state well
led_well task state seen tally Walking well = submitted_well (next_order task state seen) (clock_of seen) (after_poll task state seen) (poll_well task state seen well)
led_well task state seen tally SettingUp well = submitted_well (next_order task state seen) (clock_of seen) (after_poll task state seen) (poll_well task state seen well)
led_well task state seen tally Ready well = plays_well task.plays state well
led_well task state seen tally Playing well = played_well task tally.course.ran
led_well task state seen tally phase well = well

closed_well : (task : Task) (state : State) (seen : Seen) (tally : Tally) (phase : Phase) → IsWell state → IsWell (closed task state seen tally phase)
closed_well task state seen tally Walking well = poll_well task state seen well
closed_well task state seen tally SettingUp well = poll_well task state seen well
closed_well task state seen tally Playing well = played_well task tally.course.ran
closed_well task state seen tally phase well = well

unless_well : (none : Bool) (state other : State) → IsWell state → IsWell other → IsWell (if none then state else other)
unless_well true state other well led = well
unless_well false state other well led = led

next_well : (task : Task) (state : State) (turn : Option DriverLine) (seen : Seen) → IsWell state → IsWell (next task state turn seen)
next_well task state None seen well = closed_well task state seen (tally_next task state None seen) state.phase well
next_well task state (Some line) seen well =
    let tally = tally_next task state (Some line) seen in
    unless_well (finds_none line seen) state (led task state seen tally state.phase) well (led_well task state seen tally state.phase well)

noted_well : (task : Task) (trail : Trail) (world : World) (event : Event) → IsWell trail.state → IsWell (noted task trail world event).state
noted_well task trail world (Stepped step) well = well
noted_well task trail world Begin well = well
noted_well task trail world End well = next_well task trail.state trail.turn (seen_in trail) well
noted_well task trail world (Read at width value) well = well
noted_well task trail world (Write at width value) well = well
noted_well task trail world (DmaRead at bytes) well = well
noted_well task trail world (DmaWrite at bytes) well = well

pub trail_well : (task : Task) (events : List Event) (world : World) (trail : Trail) → IsWell trail.state → IsWell (trail_after task events world trail).state
trail_well task [] world trail well = well
trail_well task (event ∷ events) world trail well = trail_well task events (happens world event) (noted task trail world event) (noted_well task trail world event well)

pub ended_well : (within : Bool) (task : Task) (trail : Trail) → IsWell trail.state → IsWell (if within then ended task trail else trail).state
ended_well true task trail well = next_well task trail.state trail.turn (seen_in trail) well
ended_well false task trail well = well

-- in a phase in which the walked graphs are known walks can end
pub ends : (phase : Phase) (all : Type 0) → is_failed phase ≡ false → WalkedIn phase all → walk_can_end phase ≡ true
ends Playing all well walked = absurd walked
ends Drained all well walked = absurd walked
ends NothingRouted all well walked = absurd walked
ends (Late from to limit) all well walked = absurd walked
ends (Malformed codec fault) all well walked = absurd walked
ends Failed all well walked = cc
ends phase all well walked = refl

-- where a walk can end, a run that plays can too
pub plays_too : (phase : Phase) → walk_can_end phase ≡ true → play_can_end phase ≡ true
plays_too Playing can = refl
plays_too Drained can = refl
plays_too (Late from to limit) can = refl
plays_too phase can = can
