-- A later run after a poll: what it saw, that its accesses are those that are expected, and where the tally and the rings stand.
use Rattle.std.proofs.Common.{◌≡◌, ◌-◌, ℕ, List, [], ◌∷◌, ◌++◌, length, true, Option, Some, None, refl, sym, ap, ◌∙◌}
use Rattle.std.specs.Prelude.{drop, slice_index}
use Rattle.std.specs.Option.{is_some}
use Rattle.std.proofs.lemmas.Grind.{flat_map-append}
use Rattle.verb_codes.specs.Words.{has_bit}
use Rattle.hda_registers.specs.declared.shapes.Width.TheVariants.{Four}
use Rattle.hda_registers.specs.declared.places.TheConstants.{WALCLK}
use Rattle.hda_world.specs.Events.{Event, Read}
use Rattle.command_engine.specs.declared.answers.Outstanding.{Outstanding}
use Rattle.command_engine.specs.Polling.{PollReads, AreNew, poll_accesses, found_by, still_outstanding, rings_polled}
use Rattle.period_writer.specs.declared.course.Ran.{Ran}
use Rattle.period_writer.specs.declared.course.Ran.TheVariants as ran
use Rattle.period_writer.specs.declared.registers.TheConstants.{POSITION}
use Rattle.period_writer.specs.Rings.{period_bytes}
use Rattle.period_writer.specs.Playing.{run_writes}
use Rattle.period_writer.specs.Runs.{run_start, run_sound, RunFacts, Tally, measures, facts_of, run_reach, tally_after, taken_up_if}
use Rattle.driver_progress.specs.Requests.{Request, Gets, requests_of, requests_in}
use Rattle.driver_progress.specs.Tasks.{Task, DriverLine}
use Rattle.driver_progress.specs.Seen.{Seen, seen_by, values_of}
use Rattle.driver_progress.specs.States.{State}
use Rattle.driver_progress.specs.Expected.{polls, appends, plays_on}
use Rattle.driver_progress.specs.Next.{outstanding_if, polled, tally_next, budget_of}
use Rattle.driver_progress.proofs.Callers.{poll_fits}
use Rattle.driver_bring_up.proofs.Callers.{rings_same}
use Rattle.jack_switch.proofs.Seeing.{poll_clocks, poll_positions, poll_pointer, turn_seen}

-- what a run of a task goes by, and what it writes
abbrev pub facts_in : Task → State → (budget from lpib to : ℕ) → RunFacts
facts_in task state budget from lpib to = facts_of budget (length task.pcm - state.tally.course.used) from lpib to

abbrev pub pcm_in : Task → State → List ℕ
pcm_in task state = drop state.tally.course.used task.pcm

abbrev pub tally_in : Task → State → RunFacts → Tally
tally_in task state facts = tally_after (measures task.geometry) state.tally facts

abbrev pub writes_in : Task → State → RunFacts → List Event
writes_in task state facts =
    let m = measures task.geometry in
    run_writes (period_bytes task.geometry.period) task.blocks.periods m state.tally.course facts (pcm_in task state)

-- the accesses of a poll and the run, and what comes after it
abbrev pub made_in : Task → State → PollReads → RunFacts → (later : List Event) → List Event
made_in task state reads facts later =
    poll_accesses task.blocks.rirb state.rings reads
    ++ (Read WALCLK Four facts.from ∷ Read POSITION Four facts.lpib ∷ (writes_in task state facts ++ Read WALCLK Four facts.to ∷ later))

abbrev pub seen_in : Task → State → PollReads → RunFacts → (later : List Event) → Seen
seen_in task state reads facts later = seen_by (values_of (made_in task state reads facts later)) (is_some (found_by state.rings reads))

-- ---- what it saw

clocks_seen : (task : Task) (state : State) (reads : PollReads) (facts : RunFacts) (later : List Event) → values_of later WALCLK ≡ [] → (seen_in task state reads facts later).clocks ≡ facts.from ∷ facts.to ∷ []
clocks_seen task state reads facts later none =
    let m = measures task.geometry in
    let bytes = period_bytes task.geometry.period in
    let course = state.tally.course in
    let reach = run_reach m course facts in
    poll_clocks task.blocks.rirb state.rings reads (Read WALCLK Four facts.from ∷ Read POSITION Four facts.lpib ∷ (writes_in task state facts ++ Read WALCLK Four facts.to ∷ later))
    ∙ ap (λ (values : List ℕ). facts.from ∷ values) (turn_seen WALCLK bytes task.blocks.periods (run_start m course facts) (run_sound m course facts) course.reach reach (pcm_in task state) (Read WALCLK Four facts.to ∷ later) ∙ ap (λ (values : List ℕ). facts.to ∷ values) none)

positions_seen : (task : Task) (state : State) (reads : PollReads) (facts : RunFacts) (later : List Event) → values_of later POSITION ≡ [] → (seen_in task state reads facts later).positions ≡ facts.lpib ∷ []
positions_seen task state reads facts later none =
    let m = measures task.geometry in
    let bytes = period_bytes task.geometry.period in
    let course = state.tally.course in
    let reach = run_reach m course facts in
    poll_positions task.blocks.rirb state.rings reads (Read WALCLK Four facts.from ∷ Read POSITION Four facts.lpib ∷ (writes_in task state facts ++ Read WALCLK Four facts.to ∷ later))
    ∙ ap (λ (values : List ℕ). facts.lpib ∷ values)
    (turn_seen POSITION bytes task.blocks.periods (run_start m course facts) (run_sound m course facts) course.reach reach (pcm_in task state) (Read WALCLK Four facts.to ∷ later) ∙ none)

-- ---- where it leads

-- a stretch that reads the clock twice, and LPIB, is a run while the stream plays
pub tally_by : (task : Task) (state : State) (turn : Option DriverLine) (seen : Seen) (facts : RunFacts) → facts ≡ facts_in task state (budget_of turn) facts.from facts.lpib facts.to
    → state.tally.course.ran ≡ ran.Playing → seen.clocks ≡ facts.from ∷ facts.to ∷ [] → slice_index seen.positions 0 ≡ facts.lpib → tally_next task state turn seen ≡ tally_in task state facts
tally_by task state turn seen facts is playing clocks position =
    let m = measures task.geometry in
    let total = length task.pcm in
    ap (λ (clocks : List ℕ). tally_next task state turn (record seen { clocks = clocks })) clocks
    ∙ ap (λ (was : Ran). taken_up_if was (facts.from ∷ facts.to ∷ []) m total (record { budget = budget_of turn; clocks = facts.from ∷ facts.to ∷ []; lpibs = seen.positions }) state.tally) playing
    ∙ ap (λ (lpib : ℕ). tally_in task state (facts_in task state (budget_of turn) facts.from lpib facts.to)) position
    ∙ ap (λ (facts : RunFacts). tally_in task state facts) (sym is)

still_same : (outstanding : Option Outstanding) (found : Option ℕ) → still_outstanding outstanding found ≡ outstanding_if (is_some found) outstanding
still_same outstanding None = refl
still_same outstanding (Some word) = refl

polled_same : (task : Task) (state : State) (reads : PollReads) (facts : RunFacts) (later : List Event) → polled state.rings (seen_in task state reads facts later) ≡ rings_polled state.rings reads
polled_same task state reads facts later =
    let found = is_some (found_by state.rings reads) in
    rings_same state.rings reads (seen_in task state reads facts later) found refl (poll_pointer task.blocks.rirb state.rings reads (Read WALCLK Four facts.from ∷ Read POSITION Four facts.lpib ∷ (writes_in task state facts ++ Read WALCLK Four facts.to ∷ later)) found) refl
    (still_same state.rings.outstanding (found_by state.rings reads))

-- ---- its accesses

-- what it appends, by what was seen
pub appends_by : (task : Task) (state : State) (budget : ℕ) (seen : Seen) (facts : RunFacts) → facts ≡ facts_in task state budget facts.from facts.lpib facts.to → seen.clocks ≡ facts.from ∷ facts.to ∷ [] → slice_index seen.positions 0 ≡ facts.lpib
    → requests_of (writes_in task state facts) ≡ appends task state budget seen
appends_by task state budget seen facts is clocks position =
    ap (λ (facts : RunFacts). requests_of (writes_in task state facts)) is
    ∙ ap (λ (lpib : ℕ). requests_of (writes_in task state (facts_in task state budget facts.from lpib facts.to))) (sym position)
    ∙ ap (λ (clocks : List ℕ). appends task state budget (record seen { clocks = clocks })) (sym clocks)

pub requests_same : (task : Task) (state : State) (budget : ℕ) (reads : PollReads) (facts : RunFacts) (later : List Event) (seen : Seen) → AreNew state.rings reads → seen.flag ≡ reads.flag → (has_bit reads.flag 0 ≡ true → seen.pointer ≡ reads.pointer)
    → requests_of (writes_in task state facts) ≡ appends task state budget seen → requests_of (made_in task state reads facts later) ≡ plays_on task state budget seen (requests_of later)
requests_same task state budget reads facts later seen new flag pointer appended =
    let run = Read WALCLK Four facts.from ∷ Read POSITION Four facts.lpib ∷ (writes_in task state facts ++ Read WALCLK Four facts.to ∷ later) in
    flat_map-append requests_in (poll_accesses task.blocks.rirb state.rings reads) run
    ∙ ap (λ (polled : List Request). polled ++ requests_of run) (poll_fits task.blocks.rirb state.rings reads seen new flag pointer)
    ∙ ap (λ (written : List Request). polls task.blocks.rirb state.rings seen ++ (Gets WALCLK Four ∷ Gets POSITION Four ∷ written))
    (flat_map-append requests_in (writes_in task state facts) (Read WALCLK Four facts.to ∷ later)
    ∙ ap (λ (written : List Request). written ++ (Gets WALCLK Four ∷ requests_of later)) appended)

-- ---- all of it

pub record PlayedOn (task : Task) (state : State) (turn : Option DriverLine) (reads : PollReads) (facts : RunFacts) (later : List Event) : Type 0 where
  pub requests : requests_of (made_in task state reads facts later) ≡ plays_on task state (budget_of turn) (seen_in task state reads facts later) (requests_of later)
  pub tally : tally_next task state turn (seen_in task state reads facts later) ≡ tally_in task state facts
  pub rings : polled state.rings (seen_in task state reads facts later) ≡ rings_polled state.rings reads

pub played_on : (task : Task) (state : State) (turn : Option DriverLine) (reads : PollReads) (facts : RunFacts) (later : List Event) → facts ≡ facts_in task state (budget_of turn) facts.from facts.lpib facts.to
    → state.tally.course.ran ≡ ran.Playing → AreNew state.rings reads → values_of later WALCLK ≡ [] → values_of later POSITION ≡ [] → PlayedOn task state turn reads facts later
played_on task state turn reads facts later is playing new no_clock no_position =
    let seen = seen_in task state reads facts later in
    let clocks = clocks_seen task state reads facts later no_clock in
    let position : slice_index seen.positions 0 ≡ facts.lpib = ap (λ (positions : List ℕ). slice_index positions 0) (positions_seen task state reads facts later no_position) in
    let run = Read WALCLK Four facts.from ∷ Read POSITION Four facts.lpib ∷ (writes_in task state facts ++ Read WALCLK Four facts.to ∷ later) in
    let pointer = poll_pointer task.blocks.rirb state.rings reads run (is_some (found_by state.rings reads)) in record {
      requests = requests_same task state (budget_of turn) reads facts later seen new refl pointer (appends_by task state (budget_of turn) seen facts is clocks position);
      tally = tally_by task state turn seen facts is playing clocks position;
      rings = polled_same task state reads facts later;
    }
