-- The stretches of a driver whose calls play make the accesses that are expected, and lead where progress says.
use Rattle.std.proofs.Common.{◌≡◌, ◌-◌, ◌/◌, ℕ, List, [], ◌∷◌, ◌++◌, length, Bool, true, false, if◌then◌else◌, Some, None, refl, sym, ap, ◌∙◌, arith}
use Rattle.period_writer.proofs.Callers.{opened_start, writes_first}
use Rattle.period_writer.specs.Lines.{sound_and_silence}
use Rattle.std.specs.Prelude.{◌&&◌, slice_index}
use Rattle.std.specs.List.{range_with_len}
use Rattle.std.specs.Option.{is_some}
use Rattle.std.proofs.lemmas.Grind.{flat_map-append}
use Rattle.hda_registers.specs.declared.shapes.Width.TheVariants.{One, Four}
use Rattle.hda_registers.specs.declared.places.TheConstants.{WALCLK}
use Rattle.hda_world.specs.Events.{Event, Read, Write}
use Rattle.command_engine.specs.declared.ring_places.RingPlaces.{RingPlaces}
use Rattle.command_engine.specs.Polling.{PollReads, AreNew, found_by, rings_polled}
use Rattle.period_writer.specs.declared.course.Ran.{Ran}
use Rattle.period_writer.specs.declared.course.Ran.TheVariants as ran
use Rattle.period_writer.specs.declared.registers.TheConstants.{CONTROL, POSITION}
use Rattle.period_writer.specs.Rings.{period_bytes, ring_bytes}
use Rattle.period_writer.specs.Places.{line_writes, piece_write, touched}
use Rattle.period_writer.specs.Starting.{entry_write, entry_writes, run_accesses, start_accesses}
use Rattle.period_writer.specs.Playing.{run_writes, writes_by, run_bytes, stop_accesses}
use Rattle.period_writer.specs.Runs.{run_start, run_sound, RunFacts, Tally, measures, run_reach, tally_opened}
use Rattle.driver_progress.specs.declared.phase.Phase.{Phase}
use Rattle.driver_progress.specs.declared.phase.Phase.TheVariants.{Ready, Playing}
use Rattle.driver_progress.specs.Phases.{is_active}
use Rattle.driver_progress.specs.Requests.{Request, Gets, Puts, requests_of, requests_in}
use Rattle.driver_progress.specs.Tasks.{Task}
use Rattle.driver_progress.specs.Seen.{Seen, seen_by, values_of}
use Rattle.driver_progress.specs.States.{State}
use Rattle.driver_progress.specs.Expected.{starts, plays_on, stops, runs, closes, shuts}
use Rattle.driver_progress.specs.Next.{phase_played, after_run, led, closed, tally_next}
use Rattle.driver_progress.specs.Shutting.{shut_accesses}
use Rattle.driver_bring_up.specs.Commanding.{IsStretch, run_of}
use Rattle.driver_bring_up.proofs.Callers.{clock_unread}
use Rattle.audio_driver.specs.States.{played_as, phase_if, is_open}
use Rattle.audio_driver.proofs.Seeing.{writes_seen}
use Rattle.audio_driver.proofs.PlayedOn.{facts_in, pcm_in, tally_in, writes_in, made_in, seen_in, tally_by, appends_by, played_on}

-- ---- a later run, and the last one

abbrev pub state_after : Task → State → RingPlaces → Tally → State
state_after task state rings tally = record state { phase = phase_played task tally.course.ran; rings = rings; tally = tally }

no_stop : (register : ℕ) (was : Ran) → values_of (stop_accesses was) register ≡ []
no_stop register ran.Playing = refl
no_stop register ran.Drained = refl
no_stop register (ran.Late from to limit) = refl

pub plays_stretch : (task : Task) (state : State) (budget : ℕ) (reads : PollReads) (facts : RunFacts) → state.phase ≡ Playing → state.tally.course.ran ≡ ran.Playing → facts ≡ facts_in task state budget facts.from facts.lpib facts.to → AreNew state.rings reads
    → IsStretch task state (Some (run_of budget)) (made_in task state reads facts (stop_accesses (tally_in task state facts).course.ran)) (is_some (found_by state.rings reads))
    (state_after task state (rings_polled state.rings reads) (tally_in task state facts))
plays_stretch task state budget reads facts phase playing is new =
    let was = (tally_in task state facts).course.ran in
    let turn = Some (run_of budget) in
    let seen = seen_in task state reads facts (stop_accesses was) in
    let on = played_on task state turn reads facts (stop_accesses was) is playing new (no_stop WALCLK was) (no_stop POSITION was) in record {
      fits = on.requests
          ∙ ap (λ (tally : Tally). plays_on task state budget seen (stops tally)) (sym on.tally)
          ∙ ap (λ (phase : Phase). runs task state budget seen (tally_next task state turn seen) phase) (sym phase);
      leads = ap (λ (rings : RingPlaces). state_after task state rings (tally_in task state facts)) (sym on.rings)
          ∙ ap (λ (tally : Tally). record (after_run task state seen tally) { tally = tally }) (sym on.tally)
          ∙ ap (λ (phase : Phase). record (led task state seen (tally_next task state turn seen) phase) { tally = tally_next task state turn seen }) (sym phase);
    }

-- after the last run the stream is stopped, and then all is shut
abbrev pub stopped_last : List Event
stopped_last = Write CONTROL One 0 ∷ shut_accesses

pub closes_stretch : (task : Task) (state : State) (reads : PollReads) (facts : RunFacts) → state.phase ≡ Playing → state.tally.course.ran ≡ ran.Playing → facts ≡ facts_in task state 0 facts.from facts.lpib facts.to → AreNew state.rings reads
    → IsStretch task state None (made_in task state reads facts stopped_last) (is_some (found_by state.rings reads)) (state_after task state (rings_polled state.rings reads) (tally_in task state facts))
closes_stretch task state reads facts phase playing is new =
    let seen = seen_in task state reads facts stopped_last in
    let on = played_on task state None reads facts stopped_last is playing new refl refl in record {
      fits = on.requests ∙ ap (λ (phase : Phase). closes task state seen phase) (sym phase);
      leads = ap (λ (rings : RingPlaces). state_after task state rings (tally_in task state facts)) (sym on.rings)
          ∙ ap (λ (tally : Tally). record (after_run task state seen tally) { tally = tally }) (sym on.tally)
          ∙ ap (λ (phase : Phase). record (closed task state seen (tally_next task state None seen) phase) { tally = tally_next task state None seen }) (sym phase);
    }

-- ---- the first run

abbrev pub started_in : Task → State → (in_reset ready : ℕ) → RunFacts → List Event
started_in task state in_reset ready facts =
    start_accesses task.geometry task.blocks.list task.blocks.periods facts.from in_reset ready facts.to (run_bytes (measures task.geometry) state.tally.course facts (pcm_in task state))

-- what it reads after the stream's reset
start_reads : (register : ℕ) (task : Task) (state : State) (facts : RunFacts)
    → values_of (entry_writes task.blocks.list task.blocks.periods (period_bytes task.geometry.period)
    ++ (line_writes (period_bytes task.geometry.period) task.blocks.periods 0 (ring_bytes task.geometry.periods task.geometry.period) (run_bytes (measures task.geometry) state.tally.course facts (pcm_in task state))
    ++ (run_accesses task.blocks.list task.geometry ++ Read WALCLK Four facts.to ∷ []))) register
    ≡ values_of (run_accesses task.blocks.list task.geometry ++ Read WALCLK Four facts.to ∷ []) register
start_reads register task state facts =
    let bytes = period_bytes task.geometry.period in
    let ring = ring_bytes task.geometry.periods task.geometry.period in
    let written = run_bytes (measures task.geometry) state.tally.course facts (pcm_in task state) in
    let rest = run_accesses task.blocks.list task.geometry ++ Read WALCLK Four facts.to ∷ [] in
    writes_seen register (entry_write task.blocks.list task.blocks.periods bytes) (range_with_len 0 (length task.blocks.periods)) (line_writes bytes task.blocks.periods 0 ring written ++ rest) (λ number. refl)
    ∙ writes_seen register (piece_write bytes task.blocks.periods 0 ring written) (range_with_len (0 / bytes) (touched bytes 0 ring)) rest (λ number. refl)

line_opened : (task : Task) (state : State) (facts : RunFacts) → state.tally ≡ tally_opened
    → line_writes (period_bytes task.geometry.period) task.blocks.periods 0 (ring_bytes task.geometry.periods task.geometry.period) (run_bytes (measures task.geometry) state.tally.course facts (pcm_in task state)) ≡ writes_in task state facts
line_opened task state facts opened =
    sym (ap (λ (tally : Tally). run_writes (period_bytes task.geometry.period) task.blocks.periods (measures task.geometry) tally.course facts (pcm_in task state)) opened
    ∙ ap (λ (n : ℕ). writes_by (period_bytes task.geometry.period) task.blocks.periods n (run_sound (measures task.geometry) tally_opened.course facts) 0 (run_reach (measures task.geometry) tally_opened.course facts) (pcm_in task state)) none
    ∙ writes_first (period_bytes task.geometry.period) task.blocks.periods (run_sound (measures task.geometry) tally_opened.course facts) (run_reach (measures task.geometry) tally_opened.course facts) (pcm_in task state)
    ∙ ap (λ (n : ℕ). line_writes (period_bytes task.geometry.period) task.blocks.periods 0 n (sound_and_silence (run_sound (measures task.geometry) tally_opened.course facts) n (pcm_in task state))) same
    ∙ ap (λ (n : ℕ). line_writes (period_bytes task.geometry.period) task.blocks.periods 0 (ring_bytes task.geometry.periods task.geometry.period) (sound_and_silence (run_sound (measures task.geometry) tally_opened.course facts) n (pcm_in task state))) room
    ∙ ap (λ (tally : Tally). line_writes (period_bytes task.geometry.period) task.blocks.periods 0 (ring_bytes task.geometry.periods task.geometry.period) (run_bytes (measures task.geometry) tally.course facts (pcm_in task state))) (sym opened)) where
      none : run_start (measures task.geometry) tally_opened.course facts ≡ 0
      none = opened_start (measures task.geometry) facts

      same : run_reach (measures task.geometry) tally_opened.course facts ≡ ring_bytes task.geometry.periods task.geometry.period
      same = omega arith

      room : ring_bytes task.geometry.periods task.geometry.period ≡ run_reach (measures task.geometry) tally_opened.course facts - run_start (measures task.geometry) tally_opened.course facts
      room = let none = none in let same = same in omega (arith, none, same)

pub starts_stretch : (task : Task) (state : State) (budget in_reset ready : ℕ) (facts : RunFacts) → state.phase ≡ Ready → task.plays ≡ true → state.tally ≡ tally_opened → facts ≡ facts_in task state budget facts.from facts.lpib facts.to → facts.lpib ≡ 0
    → IsStretch task state (Some (run_of budget)) (started_in task state in_reset ready facts) false (record state { phase = Playing; tally = tally_in task state facts })
starts_stretch task state budget in_reset ready facts phase plays opened is lpib =
    let turn = Some (run_of budget) in
    let seen = seen_by (values_of (started_in task state in_reset ready facts)) false in
    let bytes = period_bytes task.geometry.period in
    let list = task.blocks.list in
    let periods = task.blocks.periods in
    let ring = ring_bytes task.geometry.periods task.geometry.period in
    let written = run_bytes (measures task.geometry) state.tally.course facts (pcm_in task state) in
    let rest = run_accesses list task.geometry ++ Read WALCLK Four facts.to ∷ [] in
    let clocks : seen.clocks ≡ facts.from ∷ facts.to ∷ [] = ap (λ (values : List ℕ). facts.from ∷ values) (start_reads WALCLK task state facts) in
    let position : slice_index seen.positions 0 ≡ facts.lpib = ap (λ (values : List ℕ). slice_index values 0) (start_reads POSITION task state facts) ∙ sym lpib in
    let playing : state.tally.course.ran ≡ ran.Playing = ap (λ (tally : Tally). tally.course.ran) opened in
    let tally = tally_by task state turn seen facts is playing clocks position in
    let appended = ap requests_of (line_opened task state facts opened) ∙ appends_by task state budget seen facts is clocks position in
    let opening = λ (later : List Request). Gets WALCLK Four ∷ Puts CONTROL One 1 ∷ Gets CONTROL One ∷ Puts CONTROL One 0 ∷ Gets CONTROL One ∷ later in record {
      fits = ap opening
          (flat_map-append requests_in (entry_writes list periods bytes) (line_writes bytes periods 0 ring written ++ rest)
          ∙ ap (λ (later : List Request). requests_of (entry_writes list periods bytes) ++ later)
          (flat_map-append requests_in (line_writes bytes periods 0 ring written) rest ∙ ap (λ (written : List Request). written ++ requests_of rest) appended))
          ∙ ap (λ (plays : Bool). if plays then starts task state budget seen else []) (sym plays)
          ∙ ap (λ (phase : Phase). runs task state budget seen (tally_next task state turn seen) phase) (sym phase);
      leads = ap (λ (tally : Tally). record state { phase = Playing; tally = tally }) (sym tally)
          ∙ ap (λ (plays : Bool). record (if plays then record state { phase = Playing } else state) { tally = tally_next task state turn seen }) (sym plays)
          ∙ ap (λ (phase : Phase). record (led task state seen (tally_next task state turn seen) phase) { tally = tally_next task state turn seen }) (sym phase);
    }

-- ---- the sound is over

over_runs : (task : Task) (state : State) (budget : ℕ) (seen : Seen) (tally : Tally) (was : Ran) → is_open was ≡ false → runs task state budget seen tally (played_as was) ≡ []
over_runs task state budget seen tally ran.Playing over = cc
over_runs task state budget seen tally ran.Drained over = refl
over_runs task state budget seen tally (ran.Late from to limit) over = refl

over_led : (task : Task) (state : State) (seen : Seen) (tally : Tally) (was : Ran) → is_open was ≡ false → led task state seen tally (played_as was) ≡ state
over_led task state seen tally ran.Playing over = cc
over_led task state seen tally ran.Drained over = refl
over_led task state seen tally (ran.Late from to limit) over = refl

pub over_stretch : (task : Task) (state : State) (budget : ℕ) (was : Ran) → state.phase ≡ played_as was → is_open was ≡ false → IsStretch task state (Some (run_of budget)) [] false state
over_stretch task state budget was phase over =
    let seen = seen_by (values_of []) false in
    let tally = tally_next task state (Some (run_of budget)) seen in record {
      fits = sym (ap (λ (phase : Phase). runs task state budget seen tally phase) phase ∙ over_runs task state budget seen tally was over);
      leads = sym (ap (λ (phase : Phase). record (led task state seen tally phase) { tally = tally }) phase
          ∙ ap (λ (after : State). record after { tally = tally }) (over_led task state seen tally was over)
          ∙ ap (λ (tally : Tally). record state { tally = tally }) (clock_unread state.tally.course.ran _ _ _ state.tally));
    }

pub over_inactive : (was : Ran) → is_open was ≡ false → is_active (played_as was) ≡ false
over_inactive ran.Playing over = cc
over_inactive ran.Drained over = refl
over_inactive (ran.Late from to limit) over = refl

pub open_active : (started : Bool) (was : Ran) → is_open was ≡ true → is_active (phase_if started Ready was) ≡ true
open_active false was more = refl
open_active true ran.Playing more = refl
open_active true ran.Drained more = cc
open_active true (ran.Late from to limit) more = cc

-- ---- the last call where the stream does not play

silent_closes : (task : Task) (state : State) (seen : Seen) (started : Bool) (was : Ran) → (started && is_open was) ≡ false → closes task state seen (phase_if started Ready was) ≡ shuts
silent_closes task state seen false was silent = refl
silent_closes task state seen true ran.Playing silent = cc
silent_closes task state seen true ran.Drained silent = refl
silent_closes task state seen true (ran.Late from to limit) silent = refl

silent_closed : (task : Task) (state : State) (seen : Seen) (tally : Tally) (started : Bool) (was : Ran) → (started && is_open was) ≡ false → closed task state seen tally (phase_if started Ready was) ≡ state
silent_closed task state seen tally false was silent = refl
silent_closed task state seen tally true ran.Playing silent = cc
silent_closed task state seen tally true ran.Drained silent = refl
silent_closed task state seen tally true (ran.Late from to limit) silent = refl

pub silent_stretch : (task : Task) (state : State) (started : Bool) (was : Ran) → state.phase ≡ phase_if started Ready was → (started && is_open was) ≡ false → IsStretch task state None shut_accesses false state
silent_stretch task state started was phase silent =
    let seen = seen_by (values_of shut_accesses) false in
    let tally = tally_next task state None seen in record {
      fits = sym (ap (λ (phase : Phase). closes task state seen phase) phase ∙ silent_closes task state seen started was silent);
      leads = sym (ap (λ (phase : Phase). record (closed task state seen tally phase) { tally = tally }) phase
          ∙ ap (λ (after : State). record after { tally = tally }) (silent_closed task state seen tally started was silent)
          ∙ ap (λ (tally : Tally). record state { tally = tally }) (clock_unread state.tally.course.ran _ _ _ state.tally));
    }
