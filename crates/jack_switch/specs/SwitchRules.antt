-- The rules of a driver that switches speakers while it plays: the accesses of its stretches, and where they lead. Its
-- runs, polls and submissions are those of progress; their order is this project's own. What they do is High Definition
-- Audio 1.0a, 3.3, 4.4 and 4.5.
use Rattle.std.specs.Prelude.{ℕ, ◌+◌, Bool, true, false, ◌&&◌, not, nat_le, List, [], ◌∷◌, ◌++◌, slice_index, Option}
use Rattle.std.specs.Prelude.{None, Some, if◌then◌else◌, length, slice_get, ◌-◌}
use Rattle.std.specs.Option.{is_none, option_map}
use Rattle.codec_graph.specs.declared.raw.RawCodec.{RawCodec}
use Rattle.route_planner.specs.declared.routes.Plan.{Plan}
use Rattle.hda_registers.specs.declared.shapes.Width.TheVariants.{One}
use Rattle.command_engine.specs.declared.answers.Event.{Event}
use Rattle.command_engine.specs.declared.answers.Outstanding.{Outstanding}
use Rattle.command_engine.specs.declared.ring_places.RingPlaces.{RingPlaces}
use Rattle.command_engine.specs.Entries.{responses_in, unasked_events_of, answer_among}
use Rattle.command_engine.specs.Polling.{asked_of, answer_limit}
use Rattle.period_writer.specs.declared.course.Ran.{Ran}
use Rattle.period_writer.specs.declared.course.Ran.TheVariants as ran
use Rattle.period_writer.specs.declared.course.Run.{Run}
use Rattle.period_writer.specs.declared.registers.TheConstants.{CONTROL}
use Rattle.period_writer.specs.Runs.{Tally, tally_opened}
use Rattle.driver_progress.specs.declared.phase.Phase.TheVariants.{Playing}
use Rattle.driver_progress.specs.Requests.{Request, Puts}
use Rattle.driver_progress.specs.Tasks.{Order, Task, DriverLine, order_of}
use Rattle.driver_progress.specs.Seen.{Seen, seen_by}
use Rattle.driver_progress.specs.States.{State}
use Rattle.driver_progress.specs.Expected.{polls, submits, starts, plays_on, stops, shuts, interrupted_if}
use Rattle.driver_progress.specs.Next.{polled, tally_next, finds_none}
use Rattle.driver_bring_up.specs.Commanding.{rings_with}
use Rattle.audio_driver.specs.States.{is_open}
use Rattle.jack_rules.specs.Switching.{SwitchingState, Choice, switching_opened, told_all, next_choice}
use Rattle.driver_rules.specs.Findings.{Findings}
use Rattle.driver_rules.specs.Rules.{Rules}

-- where both rings stand, the runs that were recorded, the clock that the run before read last, what the jack rules
-- keep, and the clock at which the driver gave up, if it did
pub record SwitchState : Type 0 where
  pub rings : RingPlaces
  pub tally : Tally
  pub clock : ℕ
  pub switching : SwitchingState
  pub given_up : Option ℕ

abbrev pub switch_begun : List RawCodec → List Plan → RingPlaces → SwitchState
switch_begun graphs plans rings = record {
  rings = rings;
  tally = tally_opened;
  clock = 0;
  switching = switching_opened graphs plans;
  given_up = None;
}

-- as progress has rings and tally, for what it expects of a run
abbrev pub as_progress : SwitchState → State
as_progress state = record { phase = Playing; kept = 0; sent = 0; rings = state.rings; tally = state.tally }

-- ---- what a stretch found

abbrev pub seen_of : Findings → Seen
seen_of findings = seen_by findings.values findings.answered

-- of the entries that it read: what codecs told unasked, and the answer, if one came
abbrev pub events_found : Findings → List Event
events_found findings = unasked_events_of (responses_in findings.pieces)

abbrev pub answer_found : RingPlaces → Findings → Option ℕ
answer_found rings findings =
    if findings.answered then answer_among (asked_of rings.outstanding) (responses_in findings.pieces) else None

-- the clock that a run reads last
abbrev pub last_clock : Findings → ℕ
last_clock findings = slice_index (seen_of findings).clocks 1

-- ---- whether a run comes

-- the stream plays or was not started yet, and the driver did not give up
abbrev pub is_on : SwitchState → Bool
is_on state = is_open state.tally.course.ran && is_none state.given_up

-- a stretch of a line makes a run, if its call is for no interrupt or found one; the closing one does where the stream
-- plays
abbrev pub comes : SwitchState → Option DriverLine → Findings → Bool
comes state None findings = is_on state && state.tally.course.started
comes state (Some line) findings = is_on state && not (finds_none line (seen_of findings))

-- ---- the look: before each run but the first RIRB is polled

-- a look changes the rings and what the jack rules keep
abbrev pub looked : SwitchState → Findings → SwitchState
looked state findings = record state {
  rings = polled state.rings (seen_of findings);
  switching = told_all state.switching (events_found findings) (answer_found state.rings findings);
}

abbrev pub looked_if : (started : Bool) → SwitchState → Findings → SwitchState
looked_if false state findings = state
looked_if true state findings = looked state findings

-- whether a command was not answered in its time, by the clock that the run before read last
abbrev pub is_overdue : Option Outstanding → (clock : ℕ) → Bool
is_overdue None clock = false
is_overdue (Some command) clock = nat_le (command.issued + answer_limit) clock

-- then the driver gives up: after a look, where the command is still outstanding
abbrev pub gives_up : SwitchState → Findings → Bool
gives_up state findings =
    state.tally.course.started && is_overdue (polled state.rings (seen_of findings)).outstanding state.clock

-- ---- the next command

-- the tally of runs after the stretch
abbrev pub tally_after : Task → SwitchState → Option DriverLine → Findings → Tally
tally_after task state turn findings = tally_next task (as_progress state) turn (seen_of findings)

-- a command is submitted where the run was neither late nor drained, and nothing is outstanding
abbrev pub may_submit : (ran : Ran) → RingPlaces → Bool
may_submit ran rings = is_open ran && is_none rings.outstanding

-- what the jack rules choose then
abbrev pub choice_if : (may : Bool) → SwitchingState → Choice
choice_if true switching = next_choice switching
choice_if false switching = record { command = None; next = switching }

-- by how the run ended, the rings after the look, and what the jack rules keep then
abbrev pub choice_by : (ran : Ran) → RingPlaces → SwitchingState → Choice
choice_by ran rings switching = choice_if (may_submit ran rings) switching

abbrev pub order_by : (ran : Ran) → RingPlaces → SwitchingState → Option Order
order_by ran rings switching = option_map order_of (choice_by ran rings switching).command

abbrev pub choice_after : SwitchState → (ran : Ran) → Choice
choice_after state ran = choice_by ran state.rings state.switching

abbrev pub order_after : SwitchState → (ran : Ran) → Option Order
order_after state ran = order_by ran state.rings state.switching

-- the clock that the last run read last, by its tally
abbrev pub last_run_clock : Option Run → ℕ
last_run_clock None = 0
last_run_clock (Some run) = run.to

abbrev pub clock_if : Ran → List Run → ℕ
clock_if ran.Playing runs = last_run_clock (slice_get runs (length runs - 1))
clock_if ran.Drained runs = last_run_clock (slice_get runs (length runs - 1))
clock_if (ran.Late from to limit) runs = to

abbrev pub clock_of : Tally → ℕ
clock_of tally = clock_if tally.course.ran tally.runs

module _ (task : Task) where
  -- ---- the accesses

  -- a run, and what comes after its last clock
  abbrev pub run_then : SwitchState → (budget : ℕ) → Findings → (later : List Request) → List Request
  run_then state budget findings later =
      if state.tally.course.started
      then plays_on task (as_progress state) budget (seen_of findings) later
      else starts task (as_progress state) budget (seen_of findings) ++ later

  -- the poll and the stop, where the driver gives up
  abbrev pub stops_at_once : SwitchState → Findings → (later : List Request) → List Request
  stops_at_once state findings later =
      polls task.blocks.rirb state.rings (seen_of findings) ++ (Puts CONTROL One 0 ∷ later)

  -- a call: a run, the stop where the stream ends with it, and the next command, if one comes
  abbrev pub switch_runs : SwitchState → DriverLine → Findings → List Request
  switch_runs state line findings =
      let tally = tally_after task state (Some line) findings in
      let after = looked_if state.tally.course.started state findings in
      if gives_up state findings
      then stops_at_once state findings []
      else run_then state line.budget findings
      (stops tally ++ submits task.blocks after.rings (order_after after tally.course.ran))

  -- the end: a stream that plays makes one more run that writes no sound, and is stopped in any case
  abbrev pub switch_closes : SwitchState → Findings → List Request
  switch_closes state findings =
      if comes state None findings
      then (if gives_up state findings
      then stops_at_once state findings shuts
      else run_then state 0 findings (Puts CONTROL One 0 ∷ shuts))
      else shuts

  -- once it is over no access is made
  abbrev pub switch_expected : SwitchState → Option DriverLine → Findings → List Request
  switch_expected state None findings = switch_closes state findings
  switch_expected state (Some line) findings =
      if is_on state then interrupted_if line.irq (seen_of findings) (switch_runs state line findings) else []

  -- ---- where they lead

  -- after a run that left this tally: of the closing stretch no command comes
  abbrev pub run_leads : SwitchState → Option DriverLine → Findings → Tally → SwitchState
  run_leads after None findings tally = record after { tally = tally; clock = last_clock findings }
  run_leads after (Some line) findings tally = record after {
    tally = tally;
    clock = last_clock findings;
    rings = rings_with (order_after after tally.course.ran) (last_clock findings) after.rings;
    switching = (choice_after after tally.course.ran).next;
  }

  abbrev pub leads_by : (gives : Bool) → SwitchState → Option DriverLine → Findings → Tally → SwitchState
  leads_by true after turn findings tally = record after { tally = tally; given_up = Some after.clock }
  leads_by false after turn findings tally = run_leads after turn findings tally

  -- each stretch is taken up as the tally of runs says: one that reads the clock twice is a run
  abbrev pub switch_next : SwitchState → Option DriverLine → Findings → SwitchState
  switch_next state turn findings =
      let tally = tally_after task state turn findings in
      if comes state turn findings
      then leads_by (gives_up state findings) (looked_if state.tally.course.started state findings) turn findings tally
      else record state { tally = tally }

  -- the rules of a driver with these blocks and this sound, of codecs with these graphs that were set up for these
  -- plans
  abbrev pub switch_rules : List RawCodec → List Plan → Rules SwitchState
  switch_rules graphs plans = record {
    begin = switch_begun graphs plans;
    asked = λ state. asked_of state.rings.outstanding;
    expected = switch_expected;
    next = switch_next;
  }
