-- The stretches of a driver that switches make the accesses that its rules expect, and lead where they say.
use Rattle.std.proofs.Common.{◌≡◌, ◌-◌, ◌/◌, ℕ, List, [], ◌∷◌, ◌++◌, length, append-nil, Bool, true, false, if◌then◌else◌, Option, Some, None, inl, inr, refl, sym, ap, subst, ◌∙◌, arith}
use Rattle.std.specs.Prelude.{◌&&◌, ◌⊎◌, not, slice_index}
use Rattle.std.specs.List.{range_with_len}
use Rattle.std.specs.Option.{is_some, is_none}
use Rattle.std.proofs.lemmas.Grind.{flat_map-append}
use Rattle.verb_codes.specs.Words.{has_bit, bits_of}
use Rattle.codec_graph.specs.declared.raw.RawCodec.{RawCodec}
use Rattle.route_planner.specs.declared.routes.Plan.{Plan}
use Rattle.hda_registers.specs.declared.shapes.Width.TheVariants.{One, Four}
use Rattle.hda_registers.specs.declared.places.TheConstants.{WALCLK, INTSTS, RIRBSTS, RIRBWP}
use Rattle.hda_world.specs.Events.{Event, Read, Write}
use Rattle.command_engine.specs.declared.answers.Event as told
use Rattle.command_engine.specs.declared.answers.Outstanding.{Outstanding}
use Rattle.command_engine.specs.declared.ring_places.RingPlaces.{RingPlaces}
use Rattle.command_engine.specs.Entries.{responses_in, unasked_events_of, answer_among}
use Rattle.command_engine.specs.Polling.{PollReads, AreNew, asked_of, poll_accesses, found_by, still_outstanding, rings_polled}
use Rattle.period_writer.proofs.Callers.{opened_start, opened_late, writes_first}
use Rattle.period_writer.specs.declared.course.Ran.{Ran}
use Rattle.period_writer.specs.declared.course.Ran.TheVariants as ran
use Rattle.period_writer.specs.declared.course.Run.{Run}
use Rattle.period_writer.specs.declared.registers.TheConstants.{CONTROL, POSITION}
use Rattle.period_writer.specs.Lines.{sound_and_silence}
use Rattle.period_writer.specs.Places.{line_writes, piece_write, touched}
use Rattle.period_writer.specs.Playing.{run_writes, writes_by, run_bytes, stop_accesses}
use Rattle.period_writer.specs.Rings.{period_bytes, ring_bytes}
use Rattle.period_writer.specs.Runs.{RunFacts, Tally, Measures, measures, run_of, run_reach, run_sound, run_start, is_late, is_late_since, tally_if, tally_after, tally_opened, has_drained}
use Rattle.period_writer.specs.Starting.{entry_write, entry_writes, run_accesses, start_accesses}
use Rattle.driver_progress.specs.Interrupts.{clear_accesses, interrupt_accesses}
use Rattle.driver_progress.specs.Requests.{Request, Gets, Puts, requests_of, requests_in}
use Rattle.driver_progress.specs.Tasks.{Blocks, Order, Task, DriverLine}
use Rattle.driver_progress.specs.Seen.{Seen, seen_by, values_of, value_in}
use Rattle.driver_progress.specs.States.{State}
use Rattle.driver_progress.specs.Expected.{polls, submits, starts, plays_on, stops, shuts, interrupted_if, clears}
use Rattle.driver_progress.specs.Next.{polled, tally_next, finds_none, outstanding_if, budget_of}
use Rattle.driver_progress.specs.Shutting.{shut_accesses}
use Rattle.driver_progress.proofs.Callers.{poll_fits, interrupt_fits}
use Rattle.driver_bring_up.specs.Commanding.{submit_made, rings_with, entries_in}
use Rattle.driver_bring_up.proofs.Callers.{clock_unread, rings_same}
use Rattle.driver_rules.specs.Findings.{Findings, findings_of}
use Rattle.driver_rules.specs.Onward.{IsRuleStretch}
use Rattle.jack_rules.specs.Switching.{SwitchingState, told_all}
use Rattle.jack_switch.specs.SwitchRules.{SwitchState, as_progress, seen_of, events_found, answer_found, last_clock, is_on, comes, looked, looked_if, is_overdue, gives_up, tally_after as tally_led, choice_by, order_by, choice_after, order_after, last_run_clock, clock_if, clock_of, run_then, stops_at_once, switch_runs, switch_closes, switch_expected, run_leads, leads_by, switch_next, switch_rules}
use Rattle.jack_switch.proofs.Seeing.{writes_seen}
use Rattle.jack_switch.proofs.PlayedOn.{facts_in, pcm_in, tally_in, writes_in, made_in, tally_by, appends_by, requests_same}

-- ---- by what was found

-- a poll and a later run found these
pub record Sees (findings : Findings) (rings : RingPlaces) (reads : PollReads) (from lpib to : ℕ) : Type 0 where
  pub flag : (seen_of findings).flag ≡ reads.flag
  pub pointer : has_bit reads.flag 0 ≡ true → (seen_of findings).pointer ≡ reads.pointer
  pub clocks : (seen_of findings).clocks ≡ from ∷ to ∷ []
  pub position : slice_index (seen_of findings).positions 0 ≡ lpib
  pub pieces : findings.pieces ≡ reads.entries
  pub answered : findings.answered ≡ is_some (found_by rings reads)

-- a poll alone
pub record SeesPoll (findings : Findings) (rings : RingPlaces) (reads : PollReads) : Type 0 where
  pub flag : (seen_of findings).flag ≡ reads.flag
  pub pointer : has_bit reads.flag 0 ≡ true → (seen_of findings).pointer ≡ reads.pointer
  pub pieces : findings.pieces ≡ reads.entries
  pub answered : findings.answered ≡ is_some (found_by rings reads)

pub poll_of_run : (findings : Findings) (rings : RingPlaces) (reads : PollReads) (from lpib to : ℕ) → Sees findings rings reads from lpib to → SeesPoll findings rings reads
poll_of_run findings rings reads from lpib to sees = record { flag = sees.flag; pointer = sees.pointer; pieces = sees.pieces; answered = sees.answered }

-- ---- after a look

abbrev pub look_at : SwitchState → PollReads → SwitchState
look_at state reads = record state {
  rings = rings_polled state.rings reads;
  switching = told_all state.switching (unasked_events_of (responses_in reads.entries)) (found_by state.rings reads);
}

still_same : (outstanding : Option Outstanding) (found : Option ℕ) → still_outstanding outstanding found ≡ outstanding_if (is_some found) outstanding
still_same outstanding None = refl
still_same outstanding (Some word) = refl

if_some : (found : Option ℕ) → (if is_some found then found else None) ≡ found
if_some None = refl
if_some (Some word) = refl

rings_by : (findings : Findings) (rings : RingPlaces) (reads : PollReads) → SeesPoll findings rings reads → polled rings (seen_of findings) ≡ rings_polled rings reads
rings_by findings rings reads sees =
    rings_same rings reads (seen_of findings) (is_some (found_by rings reads)) sees.flag sees.pointer sees.answered (still_same rings.outstanding (found_by rings reads))

pub looked_same : (state : SwitchState) (findings : Findings) (reads : PollReads) → SeesPoll findings state.rings reads → looked state findings ≡ look_at state reads
looked_same state findings reads sees =
    let asked = asked_of state.rings.outstanding in
    let rings = rings_polled state.rings reads in
    ap (λ (rings : RingPlaces). record state { rings = rings; switching = told_all state.switching (events_found findings) (answer_found state.rings findings) }) (rings_by findings state.rings reads sees)
    ∙ ap (λ (pieces : List (List ℕ)). record state { rings = rings; switching = told_all state.switching (unasked_events_of (responses_in pieces)) (if findings.answered then answer_among asked (responses_in pieces) else None) }) sees.pieces
    ∙ ap (λ (answered : Bool). record state { rings = rings; switching = told_all state.switching (unasked_events_of (responses_in reads.entries)) (if answered then found_by state.rings reads else None) }) sees.answered
    ∙ ap (λ (found : Option ℕ). record state { rings = rings; switching = told_all state.switching (unasked_events_of (responses_in reads.entries)) found }) (if_some (found_by state.rings reads))

pub overdue_by : (state : SwitchState) (findings : Findings) (reads : PollReads) (overdue : Bool) → state.tally.course.started ≡ true → SeesPoll findings state.rings reads
    → is_overdue (rings_polled state.rings reads).outstanding state.clock ≡ overdue → gives_up state findings ≡ overdue
overdue_by state findings reads overdue started sees is =
    ap (λ (rings : RingPlaces). state.tally.course.started && is_overdue rings.outstanding state.clock) (rings_by findings state.rings reads sees)
    ∙ ap (λ (started : Bool). started && is_overdue (rings_polled state.rings reads).outstanding state.clock) started
    ∙ is

never_first : (started overdue : Bool) → started ≡ false → (started && overdue) ≡ false
never_first true overdue fresh = cc
never_first false overdue fresh = refl

-- ---- what is submitted

pub submits_fit : (blocks : Blocks) (rings : RingPlaces) (order : Option Order) → requests_of (submit_made blocks.corb rings order) ≡ submits blocks rings order
submits_fit blocks rings None = refl
submits_fit blocks rings (Some order) = refl

pub submit_unread : (register corb : ℕ) (rings : RingPlaces) (order : Option Order) → values_of (submit_made corb rings order) register ≡ []
submit_unread register corb rings None = refl
submit_unread register corb rings (Some order) = refl

pub submit_entries : (corb : ℕ) (rings : RingPlaces) (order : Option Order) → entries_in (submit_made corb rings order) ≡ []
submit_entries corb rings None = refl
submit_entries corb rings (Some order) = refl

pub stop_unread : (register : ℕ) (was : Ran) → values_of (stop_accesses was) register ≡ []
stop_unread register ran.Playing = refl
stop_unread register ran.Drained = refl
stop_unread register (ran.Late from to limit) = refl

pub stop_entries : (was : Ran) → entries_in (stop_accesses was) ≡ []
stop_entries ran.Playing = refl
stop_entries ran.Drained = refl
stop_entries (ran.Late from to limit) = refl

-- what is read before something that reads nothing
pub read_before : (register : ℕ) (made later : List Event) → values_of later register ≡ [] → values_of (made ++ later) register ≡ values_of made register
read_before register made later none =
    flat_map-append (value_in register) made later
    ∙ ap (λ (values : List ℕ). values_of made register ++ values) none
    ∙ append-nil (values_of made register)

-- ---- a call, but for the look for interrupts

-- where a run leads
abbrev pub ran_to : SwitchState → (clock : ℕ) → Tally → SwitchState
ran_to after clock tally = record after {
  tally = tally;
  clock = clock;
  rings = rings_with (order_after after tally.course.ran) clock after.rings;
  switching = (choice_after after tally.course.ran).next;
}

-- what is done where a run comes, and where that leads
pub record IsCalled (task : Task) (state : SwitchState) (line : DriverLine) (findings : Findings) (called : List Event) (state' : SwitchState) : Type 0 where
  pub fits : requests_of called ≡ switch_runs task state line findings
  pub leads : state' ≡ leads_by task (gives_up state findings) (looked_if state.tally.course.started state findings) (Some line) findings (tally_led task state (Some line) findings)

-- a run, its stop where the stream ends with it, and the next command
abbrev runs_by : (task : Task) (state : SwitchState) (line : DriverLine) (findings : Findings) (gives started : Bool) (after : SwitchState) (tally : Tally) → List Request
runs_by task state line findings gives started after tally =
    let later = stops tally ++ submits task.blocks after.rings (order_after after tally.course.ran) in
    if gives
    then stops_at_once task state findings []
    else (if started then plays_on task (as_progress state) line.budget (seen_of findings) later else starts task (as_progress state) line.budget (seen_of findings) ++ later)

-- ---- a later run

abbrev pub later_made : (corb : ℕ) → (was : Ran) → SwitchState → List Event
later_made corb was after = stop_accesses was ++ submit_made corb after.rings (order_after after was)

pub later_unread : (register corb : ℕ) (was : Ran) (after : SwitchState) → values_of (later_made corb was after) register ≡ []
later_unread register corb was after =
    read_before register (stop_accesses was) (submit_made corb after.rings (order_after after was)) (submit_unread register corb after.rings (order_after after was)) ∙ stop_unread register was

pub later_fits : (blocks : Blocks) (tally : Tally) (after : SwitchState) → requests_of (later_made blocks.corb tally.course.ran after) ≡ stops tally ++ submits blocks after.rings (order_after after tally.course.ran)
later_fits blocks tally after =
    flat_map-append requests_in (stop_accesses tally.course.ran) (submit_made blocks.corb after.rings (order_after after tally.course.ran))
    ∙ ap (λ (rest : List Request). stops tally ++ rest) (submits_fit blocks after.rings (order_after after tally.course.ran))

pub goes_called : (task : Task) (state state' : SwitchState) (line : DriverLine) (findings : Findings) (reads : PollReads) (facts : RunFacts) → state.tally.course.started ≡ true → state.tally.course.ran ≡ ran.Playing → AreNew state.rings reads
    → facts ≡ facts_in task (as_progress state) line.budget facts.from facts.lpib facts.to → Sees findings state.rings reads facts.from facts.lpib facts.to
    → is_overdue (rings_polled state.rings reads).outstanding state.clock ≡ false → state' ≡ ran_to (look_at state reads) facts.to (tally_in task (as_progress state) facts)
    → IsCalled task state line findings (made_in task (as_progress state) reads facts (later_made task.blocks.corb (tally_in task (as_progress state) facts).course.ran (look_at state reads))) state'
goes_called task state state' line findings reads facts started playing new is sees time leads =
    let seen = seen_of findings in
    let tally = tally_in task (as_progress state) facts in
    let after = look_at state reads in
    let later = later_made task.blocks.corb tally.course.ran after in
    let poll = poll_of_run findings state.rings reads facts.from facts.lpib facts.to sees in
    let appended = appends_by task (as_progress state) line.budget seen facts is sees.clocks sees.position in
    let same_after = looked_same state findings reads poll in
    let same_tally = tally_by task (as_progress state) (Some line) seen facts is playing sees.clocks sees.position in
    let gives = overdue_by state findings reads false started poll time in record {
      fits = requests_same task (as_progress state) line.budget reads facts later seen new sees.flag sees.pointer appended
          ∙ ap (λ (later : List Request). plays_on task (as_progress state) line.budget seen later) (later_fits task.blocks tally after)
          ∙ ap (λ (after : SwitchState). runs_by task state line findings false true after tally) (sym same_after)
          ∙ ap (λ (tally : Tally). runs_by task state line findings false true (looked state findings) tally) (sym same_tally)
          ∙ ap (λ (started : Bool). runs_by task state line findings false started (looked_if started state findings) (tally_led task state (Some line) findings)) (sym started)
          ∙ ap (λ (gives : Bool). runs_by task state line findings gives state.tally.course.started (looked_if state.tally.course.started state findings) (tally_led task state (Some line) findings)) (sym gives);
      leads = leads
          ∙ ap (λ (clocks : List ℕ). ran_to after (slice_index clocks 1) tally) (sym sees.clocks)
          ∙ ap (λ (after : SwitchState). ran_to after (last_clock findings) tally) (sym same_after)
          ∙ ap (λ (tally : Tally). ran_to (looked state findings) (last_clock findings) tally) (sym same_tally)
          ∙ ap (λ (started : Bool). leads_by task false (looked_if started state findings) (Some line) findings (tally_led task state (Some line) findings)) (sym started)
          ∙ ap (λ (gives : Bool). leads_by task gives (looked_if state.tally.course.started state findings) (Some line) findings (tally_led task state (Some line) findings)) (sym gives);
    }

-- ---- the driver gives up

abbrev gave_up : SwitchState → SwitchState
gave_up after = record after { given_up = Some after.clock }

pub gives_called : (task : Task) (state state' : SwitchState) (line : DriverLine) (findings : Findings) (reads : PollReads) → state.tally.course.started ≡ true → AreNew state.rings reads → SeesPoll findings state.rings reads → (seen_of findings).clocks ≡ []
    → is_overdue (rings_polled state.rings reads).outstanding state.clock ≡ true → state' ≡ record (look_at state reads) { given_up = Some state.clock }
    → IsCalled task state line findings (poll_accesses task.blocks.rirb state.rings reads ++ Write CONTROL One 0 ∷ []) state'
gives_called task state state' line findings reads started new sees none over leads =
    let seen = seen_of findings in
    let tally = state.tally in
    let after = look_at state reads in
    let same_after = looked_same state findings reads sees in
    let same_tally : tally_led task state (Some line) findings ≡ tally = ap (λ (clocks : List ℕ). tally_next task (as_progress state) (Some line) (record seen { clocks = clocks })) none ∙ clock_unread state.tally.course.ran _ _ _ state.tally in
    let gives = overdue_by state findings reads true started sees over in record {
      fits = flat_map-append requests_in (poll_accesses task.blocks.rirb state.rings reads) (Write CONTROL One 0 ∷ [])
          ∙ ap (λ (polled : List Request). polled ++ Puts CONTROL One 0 ∷ []) (poll_fits task.blocks.rirb state.rings reads seen new sees.flag sees.pointer)
          ∙ ap (λ (gives : Bool). runs_by task state line findings gives state.tally.course.started (looked_if state.tally.course.started state findings) (tally_led task state (Some line) findings)) (sym gives);
      leads = leads
          ∙ ap (λ (after : SwitchState). record after { tally = tally; given_up = Some after.clock }) (sym same_after)
          ∙ ap (λ (tally : Tally). record (looked state findings) { tally = tally; given_up = Some state.clock }) (sym same_tally)
          ∙ ap (λ (started : Bool). leads_by task true (looked_if started state findings) (Some line) findings (tally_led task state (Some line) findings)) (sym started)
          ∙ ap (λ (gives : Bool). leads_by task gives (looked_if state.tally.course.started state findings) (Some line) findings (tally_led task state (Some line) findings)) (sym gives);
    }

-- ---- the first run

abbrev pub started_in : Task → State → (in_reset ready : ℕ) → RunFacts → List Event
started_in task state in_reset ready facts =
    start_accesses task.geometry task.blocks.list task.blocks.periods facts.from in_reset ready facts.to (run_bytes (measures task.geometry) state.tally.course facts (pcm_in task state))

-- what it reads after the stream's reset
start_reads : (register : ℕ) (task : Task) (state : State) (facts : RunFacts)
    → values_of (entry_writes task.blocks.list task.blocks.periods (period_bytes task.geometry.period)
    ++ (line_writes (period_bytes task.geometry.period) task.blocks.periods 0 (ring_bytes task.geometry.periods task.geometry.period) (run_bytes (measures task.geometry) state.tally.course facts (pcm_in task state))
    ++ (run_accesses task.blocks.list task.geometry ++ Read WALCLK Four facts.to ∷ []))) register
    ≡ values_of (run_accesses task.blocks.list task.geometry ++ Read WALCLK Four facts.to ∷ []) register
start_reads register task state facts =
    let bytes = period_bytes task.geometry.period in
    let ring = ring_bytes task.geometry.periods task.geometry.period in
    let written = run_bytes (measures task.geometry) state.tally.course facts (pcm_in task state) in
    let rest = run_accesses task.blocks.list task.geometry ++ Read WALCLK Four facts.to ∷ [] in
    writes_seen register (entry_write task.blocks.list task.blocks.periods bytes) (range_with_len 0 (length task.blocks.periods)) (line_writes bytes task.blocks.periods 0 ring written ++ rest) (λ number. refl)
    ∙ writes_seen register (piece_write bytes task.blocks.periods 0 ring written) (range_with_len (0 / bytes) (touched bytes 0 ring)) rest (λ number. refl)

pub start_clocks : (task : Task) (state : State) (in_reset ready : ℕ) (facts : RunFacts) → values_of (started_in task state in_reset ready facts) WALCLK ≡ facts.from ∷ facts.to ∷ []
start_clocks task state in_reset ready facts = ap (λ (values : List ℕ). facts.from ∷ values) (start_reads WALCLK task state facts)

pub start_positions : (task : Task) (state : State) (in_reset ready : ℕ) (facts : RunFacts) → values_of (started_in task state in_reset ready facts) POSITION ≡ []
start_positions task state in_reset ready facts = start_reads POSITION task state facts

line_opened : (task : Task) (state : State) (facts : RunFacts) → state.tally ≡ tally_opened
    → line_writes (period_bytes task.geometry.period) task.blocks.periods 0 (ring_bytes task.geometry.periods task.geometry.period) (run_bytes (measures task.geometry) state.tally.course facts (pcm_in task state)) ≡ writes_in task state facts
line_opened task state facts opened =
    sym (ap (λ (tally : Tally). run_writes (period_bytes task.geometry.period) task.blocks.periods (measures task.geometry) tally.course facts (pcm_in task state)) opened
    ∙ ap (λ (n : ℕ). writes_by (period_bytes task.geometry.period) task.blocks.periods n (run_sound (measures task.geometry) tally_opened.course facts) 0 (run_reach (measures task.geometry) tally_opened.course facts) (pcm_in task state)) none
    ∙ writes_first (period_bytes task.geometry.period) task.blocks.periods (run_sound (measures task.geometry) tally_opened.course facts) (run_reach (measures task.geometry) tally_opened.course facts) (pcm_in task state)
    ∙ ap (λ (n : ℕ). line_writes (period_bytes task.geometry.period) task.blocks.periods 0 n (sound_and_silence (run_sound (measures task.geometry) tally_opened.course facts) n (pcm_in task state))) same
    ∙ ap (λ (n : ℕ). line_writes (period_bytes task.geometry.period) task.blocks.periods 0 (ring_bytes task.geometry.periods task.geometry.period) (sound_and_silence (run_sound (measures task.geometry) tally_opened.course facts) n (pcm_in task state))) room
    ∙ ap (λ (tally : Tally). line_writes (period_bytes task.geometry.period) task.blocks.periods 0 (ring_bytes task.geometry.periods task.geometry.period) (run_bytes (measures task.geometry) tally.course facts (pcm_in task state))) (sym opened)) where
      none : run_start (measures task.geometry) tally_opened.course facts ≡ 0
      none = opened_start (measures task.geometry) facts

      same : run_reach (measures task.geometry) tally_opened.course facts ≡ ring_bytes task.geometry.periods task.geometry.period
      same = omega arith

      room : ring_bytes task.geometry.periods task.geometry.period ≡ run_reach (measures task.geometry) tally_opened.course facts - run_start (measures task.geometry) tally_opened.course facts
      room = let none = none in let same = same in omega (arith, none, same)

-- its accesses are those that are expected
start_fits : (task : Task) (state : State) (budget in_reset ready : ℕ) (facts : RunFacts) (seen : Seen) → state.tally ≡ tally_opened → requests_of (writes_in task state facts) ≡ requests_of (run_writes (period_bytes task.geometry.period) task.blocks.periods (measures task.geometry) state.tally.course (facts_in task state budget (slice_index seen.clocks 0) (slice_index seen.positions 0) (slice_index seen.clocks 1)) (pcm_in task state))
    → requests_of (started_in task state in_reset ready facts) ≡ starts task state budget seen
start_fits task state budget in_reset ready facts seen opened appended =
    let bytes = period_bytes task.geometry.period in
    let list = task.blocks.list in
    let periods = task.blocks.periods in
    let ring = ring_bytes task.geometry.periods task.geometry.period in
    let written = run_bytes (measures task.geometry) state.tally.course facts (pcm_in task state) in
    let rest = run_accesses list task.geometry ++ Read WALCLK Four facts.to ∷ [] in
    let opening = λ (later : List Request). Gets WALCLK Four ∷ Puts CONTROL One 1 ∷ Gets CONTROL One ∷ Puts CONTROL One 0 ∷ Gets CONTROL One ∷ later in
    ap opening
    (flat_map-append requests_in (entry_writes list periods bytes) (line_writes bytes periods 0 ring written ++ rest)
    ∙ ap (λ (later : List Request). requests_of (entry_writes list periods bytes) ++ later)
    (flat_map-append requests_in (line_writes bytes periods 0 ring written) rest ∙ ap (λ (written : List Request). written ++ requests_of rest) (ap requests_of (line_opened task state facts opened) ∙ appended)))

-- it is never late, and does not drain
first_ran : (m : Measures) (facts : RunFacts) → (tally_after m tally_opened facts).course.ran ≡ ran.Playing
first_ran m facts = ap (λ (late : Bool). (tally_if late m tally_opened facts).course.ran) (opened_late m facts)

first_stops : (m : Measures) (tally : Tally) (facts : RunFacts) → tally ≡ tally_opened → stops (tally_after m tally facts) ≡ []
first_stops m tally facts opened = ap (λ (tally : Tally). stops (tally_after m tally facts)) opened ∙ ap (λ (was : Ran). requests_of (stop_accesses was)) (first_ran m facts)

pub begins_called : (task : Task) (state state' : SwitchState) (line : DriverLine) (findings : Findings) (in_reset ready : ℕ) (facts : RunFacts) → state.tally ≡ tally_opened
    → facts ≡ facts_in task (as_progress state) line.budget facts.from facts.lpib facts.to → (seen_of findings).clocks ≡ facts.from ∷ facts.to ∷ [] → slice_index (seen_of findings).positions 0 ≡ facts.lpib
    → state' ≡ ran_to state facts.to (tally_in task (as_progress state) facts)
    → IsCalled task state line findings (started_in task (as_progress state) in_reset ready facts ++ submit_made task.blocks.corb state.rings (order_after state (tally_in task (as_progress state) facts).course.ran)) state'
begins_called task state state' line findings in_reset ready facts opened is clocks position leads =
    let seen = seen_of findings in
    let tally = tally_in task (as_progress state) facts in
    let order = order_after state tally.course.ran in
    let submitted = submit_made task.blocks.corb state.rings order in
    let fresh : state.tally.course.started ≡ false = ap (λ (tally : Tally). tally.course.started) opened in
    let playing : state.tally.course.ran ≡ ran.Playing = ap (λ (tally : Tally). tally.course.ran) opened in
    let appended = appends_by task (as_progress state) line.budget seen facts is clocks position in
    let same_tally = tally_by task (as_progress state) (Some line) seen facts is playing clocks position in
    let gives : gives_up state findings ≡ false = never_first state.tally.course.started (is_overdue (polled state.rings seen).outstanding state.clock) fresh in record {
      fits = flat_map-append requests_in (started_in task (as_progress state) in_reset ready facts) submitted
          ∙ ap (λ (started : List Request). started ++ requests_of submitted) (start_fits task (as_progress state) line.budget in_reset ready facts seen opened appended)
          ∙ ap (λ (submitted : List Request). starts task (as_progress state) line.budget seen ++ submitted) (submits_fit task.blocks state.rings order)
          ∙ ap (λ (stopped : List Request). starts task (as_progress state) line.budget seen ++ (stopped ++ submits task.blocks state.rings order)) (sym (first_stops (measures task.geometry) state.tally facts opened))
          ∙ ap (λ (tally : Tally). runs_by task state line findings false false state tally) (sym same_tally)
          ∙ ap (λ (started : Bool). runs_by task state line findings false started (looked_if started state findings) (tally_led task state (Some line) findings)) (sym fresh)
          ∙ ap (λ (gives : Bool). runs_by task state line findings gives state.tally.course.started (looked_if state.tally.course.started state findings) (tally_led task state (Some line) findings)) (sym gives);
      leads = leads
          ∙ ap (λ (clocks : List ℕ). ran_to state (slice_index clocks 1) tally) (sym clocks)
          ∙ ap (λ (tally : Tally). ran_to state (last_clock findings) tally) (sym same_tally)
          ∙ ap (λ (started : Bool). leads_by task false (looked_if started state findings) (Some line) findings (tally_led task state (Some line) findings)) (sym fresh)
          ∙ ap (λ (gives : Bool). leads_by task gives (looked_if state.tally.course.started state findings) (Some line) findings (tally_led task state (Some line) findings)) (sym gives);
    }

-- ---- with the look for interrupts

abbrev pub line_of : (irq : Bool) (budget : ℕ) → DriverLine
line_of irq budget = record { irq = irq; budget = budget }
