-- Where a stretch of its accesses leads a driver. This project's own.
use Rattle.std.specs.Prelude.{ℕ, ◌+◌, ◌%◌, Bool, true, false, ◌&&◌, not, nat_le, List, length, Option, None, Some}
use Rattle.std.specs.Prelude.{if◌then◌else◌}
use Rattle.verb_codes.specs.Words.{has_bit}
use Rattle.hda_registers.specs.Fields.{entries_of}
use Rattle.command_engine.specs.declared.ring_places.RingPlaces.{RingPlaces}
use Rattle.command_engine.specs.declared.answers.Outstanding.{Outstanding}
use Rattle.command_engine.specs.Submitting.{rings_submitted}
use Rattle.command_engine.specs.Polling.{answer_limit}
use Rattle.period_writer.specs.declared.course.Ran.{Ran}
use Rattle.period_writer.specs.declared.course.Ran.TheVariants as ran
use Rattle.period_writer.specs.Runs.{Tally, measures, taken_up}
use Rattle.driver_progress.specs.declared.phase.Phase.{Phase}
use Rattle.driver_progress.specs.declared.phase.Phase.TheVariants.{Settling, Walking, SettingUp, Ready, Playing}
use Rattle.driver_progress.specs.declared.phase.Phase.TheVariants.{Drained, Unanswered, Late}
use Rattle.driver_progress.specs.Phases.{PhaseGroup, BeforeWalk, Asking, BeforeSound, Sounding, Over, group_of}
use Rattle.driver_progress.specs.Phases.{is_reset}
use Rattle.driver_progress.specs.Requests.{Request}
use Rattle.driver_progress.specs.Tasks.{Order, Task, DriverLine}
use Rattle.driver_progress.specs.Seen.{Seen, clock_of, interrupts_at}
use Rattle.driver_progress.specs.States.{State}
use Rattle.driver_progress.specs.Expected.{has_settled, rings_seen, next_order, expected_by}

-- ---- the reset

-- the controller is out of reset, and the clock is kept
abbrev pub reset_if : (out : Bool) → (clock : ℕ) → State → State
reset_if true clock state = record state { phase = Settling; kept = clock }
reset_if false clock state = state

abbrev pub walking_if : Option RingPlaces → State → State
walking_if None state = state
walking_if (Some rings) state = record state { phase = Walking; rings = rings }

abbrev pub settled_if : (settled : Bool) → Option RingPlaces → State → State
settled_if true rings state = walking_if rings state
settled_if false rings state = state

-- ---- commands and their answers

abbrev pub outstanding_if : (answered : Bool) → Option Outstanding → Option Outstanding
outstanding_if true outstanding = None
outstanding_if false outstanding = outstanding

-- after the poll: RIRB is read up to its write pointer, and an answered command is not outstanding any more
abbrev pub polled : RingPlaces → Seen → RingPlaces
polled rings seen = record rings {
  read = if has_bit seen.flag 0 then seen.pointer % entries_of rings.rirb else rings.read;
  outstanding = outstanding_if seen.answered rings.outstanding;
}

-- the phase where so many commands were submitted and all of them are answered
abbrev pub phase_of_answers : Task → (answers : ℕ) → Phase
phase_of_answers task answers =
    if nat_le (length task.orders) answers then Ready else (if nat_le task.walks answers then SettingUp else Walking)

-- the phase after the poll: a command may be outstanding for 1,000 link frames
abbrev pub phase_polled : Task → State → (clock : ℕ) → Option Outstanding → Phase
phase_polled task state clock None = phase_of_answers task state.sent
phase_polled task state clock (Some command) =
    if nat_le (command.issued + answer_limit) clock then Unanswered command.codec command.word command.issued clock else
    state.phase

abbrev pub after_poll : Task → State → Seen → State
after_poll task state seen = record state {
  phase = phase_polled task state (clock_of seen) (outstanding_if seen.answered state.rings.outstanding);
  rings = polled state.rings seen;
}

-- the next command was submitted at this clock, if there is one
abbrev pub submitted_if : Option Order → (clock : ℕ) → State → State
submitted_if None clock state = state
submitted_if (Some order) clock state = record state {
  sent = state.sent + 1;
  rings = rings_submitted state.rings (record { codec = order.codec; word = order.word; issued = clock });
}

abbrev pub after_commands : Task → State → Seen → State
after_commands task state seen = submitted_if (next_order task state seen) (clock_of seen) (after_poll task state seen)

-- ---- the sound

abbrev pub phase_played : Task → Ran → Phase
phase_played task ran.Playing = Playing
phase_played task ran.Drained = Drained
phase_played task (ran.Late from to limit) = Late from to limit

-- after a later run that left this tally
abbrev pub after_run : Task → State → Seen → Tally → State
after_run task state seen tally = record state {
  phase = phase_played task tally.course.ran;
  rings = polled state.rings seen;
}

-- ---- a stretch

-- by the group of the phase, but for the tally. Once it is over nothing changes
abbrev pub led_in : Task → State → Seen → Tally → Phase → PhaseGroup → State
led_in task state seen tally phase BeforeWalk =
    if is_reset phase
    then reset_if (has_bit seen.control 0) (clock_of seen) state
    else settled_if (has_settled state.kept (clock_of seen)) (rings_seen seen) state
led_in task state seen tally phase Asking = after_commands task state seen
led_in task state seen tally phase BeforeSound = if task.plays then record state { phase = Playing } else state
led_in task state seen tally phase Sounding = after_run task state seen tally
led_in task state seen tally phase Over = state

abbrev pub led : Task → State → Seen → Tally → Phase → State
led task state seen tally phase = led_in task state seen tally phase (group_of phase)

-- the closing stretch submits nothing
abbrev pub closed_in : Task → State → Seen → Tally → PhaseGroup → State
closed_in task state seen tally BeforeWalk = state
closed_in task state seen tally Asking = after_poll task state seen
closed_in task state seen tally BeforeSound = state
closed_in task state seen tally Sounding = after_run task state seen tally
closed_in task state seen tally Over = state

abbrev pub closed : Task → State → Seen → Tally → Phase → State
closed task state seen tally phase = closed_in task state seen tally (group_of phase)

-- whether a call for an interrupt found none
abbrev pub finds_none : DriverLine → Seen → Bool
finds_none line seen = line.irq && not (has_bit seen.interrupts interrupts_at)

abbrev pub led_by : Task → State → Option DriverLine → Seen → Tally → State
led_by task state None seen tally = closed task state seen tally state.phase
led_by task state (Some line) seen tally = if finds_none line seen then state else led task state seen tally state.phase

-- how many bytes of sound a stretch may write
abbrev pub budget_of : Option DriverLine → ℕ
budget_of None = 0
budget_of (Some line) = line.budget

-- each stretch is taken up as the tally of runs says, in whichever phase: one that reads the clock twice is a run
abbrev pub tally_next : Task → State → Option DriverLine → Seen → Tally
tally_next task state turn seen =
    taken_up (measures task.geometry) (length task.pcm) state.tally
    (record { budget = budget_of turn; clocks = seen.clocks; lpibs = seen.positions })

abbrev pub next : Task → State → Option DriverLine → Seen → State
next task state turn seen =
    let tally = tally_next task state turn seen in record (led_by task state turn seen tally) { tally = tally }

-- the accesses that the stretch is to have made
abbrev pub expected : Task → State → Option DriverLine → Seen → List Request
expected task state turn seen = expected_by task state turn seen (tally_next task state turn seen)
