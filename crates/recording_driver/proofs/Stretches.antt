-- The stretches of a driver that records make the accesses that its rules expect, and lead where they say.
use Rattle.std.proofs.Common.{◌≡◌, ◌+◌, ◌*◌, ◌/◌, ℕ, zero, suc, List, [], ◌∷◌, ◌++◌, length, map, Bool, true, false, if◌then◌else◌, Option, Some, None, inl, inr, refl, sym, ap, ◌∙◌}
use Rattle.std.specs.Prelude.{◌&&◌, ◌⊎◌, not, slice_index}
use Rattle.std.specs.List.{range_with_len}
use Rattle.std.proofs.lemmas.Grind.{flat_map-append}
use Rattle.verb_codes.specs.Words.{has_bit, bits_of}
use Rattle.hda_registers.specs.declared.shapes.Width.TheVariants.{One, Two, Four}
use Rattle.hda_registers.specs.declared.places.TheConstants.{WALCLK, INTSTS, RIRBWP, RIRBSTS}
use Rattle.hda_registers.specs.Fields.{entries_of}
use Rattle.hda_world.specs.Events.{Event, Read, Write}
use Rattle.command_engine.specs.declared.ring_places.RingPlaces.{RingPlaces}
use Rattle.command_engine.specs.declared.answers.Outstanding.{Outstanding}
use Rattle.command_engine.specs.Polling.{PollReads, AreNew, entry_reads, batch_accesses, poll_accesses, found_by, still_outstanding, rings_polled}
use Rattle.period_writer.specs.declared.geometry.Geometry.{Geometry}
use Rattle.period_writer.specs.Rings.{period_bytes}
use Rattle.period_writer.specs.Places.{place_in, touched, piece_start}
use Rattle.period_writer.specs.Starting.{entry_write, entry_writes}
use Rattle.hda_capture.specs.declared.course.Recorded.{Recorded}
use Rattle.hda_capture.specs.declared.course.Recorded.TheVariants.{Recording, Complete, Late}
use Rattle.hda_capture.specs.declared.registers.TheConstants.{CONTROL, POSITION}
use Rattle.hda_capture.specs.Recordings.{RecordMeasures, RecordTally, RecordFacts, facts_of, read_upto, tally_after}
use Rattle.hda_capture.specs.Reading.{pieces_read, line_reads, piece_size}
use Rattle.hda_capture.specs.Starting.{set_accesses, start_accesses}
use Rattle.hda_capture.specs.Calls.{stop_accesses}
use Rattle.driver_progress.specs.Requests.{Request, Gets, Puts, Fetches, requests_of, requests_in}
use Rattle.driver_progress.specs.Tasks.{Task, DriverLine}
use Rattle.driver_progress.specs.Seen.{value_in, values_of}
use Rattle.driver_progress.specs.Expected.{polls, shuts}
use Rattle.driver_progress.specs.Next.{outstanding_if, polled}
use Rattle.driver_progress.specs.Shutting.{shut_accesses}
use Rattle.driver_progress.proofs.Callers.{poll_fits}
use Rattle.driver_bring_up.proofs.Callers.{entry_unread, pointer_by, rings_same}
use Rattle.driver_rules.specs.Onward.{IsRuleStretch}
use Rattle.recording_driver.specs.declared.registers.TheConstants.{INPUT_STATUS}
use Rattle.recording_driver.specs.RecordStretches.{RecordStretch, record_taken_up_if}
use Rattle.recording_driver.specs.InputInterrupts.{input_clear_accesses, input_interrupt_accesses}
use Rattle.recording_driver.specs.RecordRules.{RecordState, seen_of, stretch_seen, status_in, records_on, measures_for, record_starts, piece_fetch, line_fetches, record_goes_on, record_tally_next, record_stops, record_runs, record_clears, record_interrupted_if, record_finds_none, record_next, record_rules}
use Rattle.recording_driver.specs.RecordingCalls.{last_stop}

-- ---- by the values that were read

-- a poll and a later run read these
pub record SeesRun (values : ℕ → List ℕ) (reads : PollReads) (facts : RecordFacts) : Type 0 where
  pub flag : slice_index (values RIRBSTS) 0 ≡ reads.flag
  pub pointer : has_bit reads.flag 0 ≡ true → slice_index (values RIRBWP) 0 ≡ reads.pointer
  pub clocks : values WALCLK ≡ facts.from ∷ facts.to ∷ []
  pub position : slice_index (values POSITION) 0 ≡ facts.lpib

-- one that reads the clock twice is a run while the stream records
tally_by : (task : Task) (total : ℕ) (state : RecordState) (values : ℕ → List ℕ) (facts : RecordFacts) → state.tally.course.recorded ≡ Recording
    → values WALCLK ≡ facts.from ∷ facts.to ∷ [] → slice_index (values POSITION) 0 ≡ facts.lpib → record_tally_next task total state values ≡ tally_after (measures_for task total) state.tally facts
tally_by task total state values facts recording clocks position =
    let m = measures_for task total in
    ap (λ (recorded : Recorded). record_taken_up_if recorded (values WALCLK) m (stretch_seen values) state.tally) recording
    ∙ ap (λ (clocks : List ℕ). record_taken_up_if Recording clocks m (stretch_seen values) state.tally) clocks
    ∙ ap (λ (lpib : ℕ). tally_after m state.tally (facts_of facts.from lpib facts.to)) position

-- one that does not read it is none
unread_tally : (recorded : Recorded) (m : RecordMeasures) (stretch : RecordStretch) (tally : RecordTally) → record_taken_up_if recorded [] m stretch tally ≡ tally
unread_tally Recording m stretch tally = refl
unread_tally Complete m stretch tally = refl
unread_tally (Late from to) m stretch tally = refl

tally_still : (task : Task) (total : ℕ) (state : RecordState) (values : ℕ → List ℕ) → values WALCLK ≡ [] → record_tally_next task total state values ≡ state.tally
tally_still task total state values none =
    let m = measures_for task total in
    ap (λ (clocks : List ℕ). record_taken_up_if state.tally.course.recorded clocks m (stretch_seen values) state.tally) none
    ∙ unread_tally state.tally.course.recorded m (stretch_seen values) state.tally

-- nothing was asked
nothing_asked : (outstanding : Option Outstanding) (found : Option ℕ) → outstanding ≡ None → still_outstanding outstanding found ≡ outstanding_if false outstanding
nothing_asked outstanding None idle = refl
nothing_asked None (Some word) idle = refl
nothing_asked (Some command) (Some word) idle = cc

rings_by : (rings : RingPlaces) (values : ℕ → List ℕ) (reads : PollReads) (facts : RecordFacts) → rings.outstanding ≡ None → SeesRun values reads facts → polled rings (seen_of values) ≡ rings_polled rings reads
rings_by rings values reads facts idle sees =
    rings_same rings reads (seen_of values) false sees.flag sees.pointer refl (nothing_asked rings.outstanding (found_by rings reads) idle)

-- ---- the accesses of a later run

pieces_fit : (task : Task) (from to period count : ℕ) (pieces : List (List ℕ)) → map length pieces ≡ map (piece_size (period_bytes task.geometry.period) from to) (range_with_len period count)
    → requests_of (pieces_read (period_bytes task.geometry.period) task.blocks.periods from period pieces) ≡ map (piece_fetch task from to) (range_with_len period count)
pieces_fit task from to period zero [] sizes = refl
pieces_fit task from to period zero (piece ∷ pieces) sizes = cc
pieces_fit task from to period (suc count) [] sizes = cc
pieces_fit task from to period (suc count) (piece ∷ pieces) sizes =
    let bytes = period_bytes task.geometry.period in
    let first : length piece ≡ piece_size bytes from to period = cc in
    let rest : map length pieces ≡ map (piece_size bytes from to) (range_with_len (period + 1) count) = cc in
    ap (λ (size : ℕ). Fetches (place_in bytes task.blocks.periods period (piece_start bytes from period)) size ∷ requests_of (pieces_read bytes task.blocks.periods from (period + 1) pieces)) first
    ∙ ap (λ (fetched : List Request). piece_fetch task from to period ∷ fetched) (pieces_fit task from to (period + 1) count pieces rest)

-- a poll and a later run, and what comes after its last clock
abbrev pub run_made : (rirb : ℕ) → RingPlaces → Geometry → (periods : List ℕ) → (read : ℕ) → PollReads → RecordFacts → (pieces : List (List ℕ)) → (after : List Event) → List Event
run_made rirb rings geometry periods read reads facts pieces after =
    poll_accesses rirb rings reads
    ++ (Read WALCLK Four facts.from ∷ Read POSITION Four facts.lpib ∷ (line_reads (period_bytes geometry.period) periods read pieces ++ Read WALCLK Four facts.to ∷ after))

abbrev pub made_for : Task → RecordState → PollReads → RecordFacts → (pieces : List (List ℕ)) → (after : List Event) → List Event
made_for task state reads facts pieces after = run_made task.blocks.rirb state.rings task.geometry task.blocks.periods state.tally.course.read reads facts pieces after

-- a piece for each period that is touched, with as many bytes as stand there
abbrev pub AreSized : Task → (total : ℕ) → RecordState → RecordFacts → (pieces : List (List ℕ)) → Type 0
AreSized task total state facts pieces =
    let bytes = period_bytes task.geometry.period in
    let upto = read_upto (measures_for task total) state.tally.course facts.lpib in
    map length pieces ≡ map (piece_size bytes state.tally.course.read upto) (range_with_len (state.tally.course.read / bytes) (touched bytes state.tally.course.read upto))

requests_by : (task : Task) (total : ℕ) (state : RecordState) (values : ℕ → List ℕ) (reads : PollReads) (facts : RecordFacts) (pieces : List (List ℕ)) (after : List Event) → AreNew state.rings reads → AreSized task total state facts pieces → SeesRun values reads facts
    → requests_of (made_for task state reads facts pieces after) ≡ record_goes_on task total state values (requests_of after)
requests_by task total state values reads facts pieces after new sized sees =
    let bytes = period_bytes task.geometry.period in
    let read = state.tally.course.read in
    let upto = read_upto (measures_for task total) state.tally.course facts.lpib in
    let line = line_reads bytes task.blocks.periods read pieces in
    let run = Read WALCLK Four facts.from ∷ Read POSITION Four facts.lpib ∷ (line ++ Read WALCLK Four facts.to ∷ after) in
    flat_map-append requests_in (poll_accesses task.blocks.rirb state.rings reads) run
    ∙ ap (λ (front : List Request). front ++ requests_of run) (poll_fits task.blocks.rirb state.rings reads (seen_of values) new sees.flag sees.pointer)
    ∙ ap (λ (rest : List Request). polls task.blocks.rirb state.rings (seen_of values) ++ (Gets WALCLK Four ∷ Gets POSITION Four ∷ rest))
    (flat_map-append requests_in line (Read WALCLK Four facts.to ∷ after)
    ∙ ap (λ (fetched : List Request). fetched ++ (Gets WALCLK Four ∷ requests_of after)) (pieces_fit task read upto (read / bytes) (touched bytes read upto) pieces sized)
    ∙ ap (λ (lpib : ℕ). line_fetches task read (read_upto (measures_for task total) state.tally.course lpib) ++ (Gets WALCLK Four ∷ requests_of after)) (sym sees.position))

stops_fit : (recorded : Recorded) → requests_of (stop_accesses recorded) ≡ record_stops recorded
stops_fit Recording = refl
stops_fit Complete = refl
stops_fit (Late from to) = refl

-- ---- looks for an interrupt

cleared_by : (is : Bool) (status : ℕ) (values : ℕ → List ℕ) → (is ≡ true → status_in values ≡ status)
    → requests_of (if is then Read INPUT_STATUS One status ∷ Write INPUT_STATUS One (4 * bits_of status 2 3) ∷ [] else [])
    ≡ (if is then Gets INPUT_STATUS One ∷ Puts INPUT_STATUS One (4 * bits_of (status_in values) 2 3) ∷ [] else [])
cleared_by true status values same = ap (λ (status : ℕ). Gets INPUT_STATUS One ∷ Puts INPUT_STATUS One (4 * bits_of status 2 3) ∷ []) (sym (same refl))
cleared_by false status values same = refl

clear_fits : (interrupts status : ℕ) (values : ℕ → List ℕ) → slice_index (values INTSTS) 0 ≡ interrupts → (has_bit interrupts 0 ≡ true → status_in values ≡ status)
    → requests_of (input_clear_accesses interrupts status) ≡ record_clears values
clear_fits interrupts status values is same =
    cleared_by (has_bit interrupts 0) status values same
    ∙ ap (λ (interrupts : ℕ). if has_bit interrupts 0 then Gets INPUT_STATUS One ∷ Puts INPUT_STATUS One (4 * bits_of (status_in values) 2 3) ∷ [] else []) (sym is)

looked_by : (on : Bool) (interrupts status : ℕ) (values : ℕ → List ℕ) (called : List Event) → on ≡ true → slice_index (values INTSTS) 0 ≡ interrupts → (has_bit interrupts 0 ≡ true → status_in values ≡ status)
    → requests_of ((if on then input_clear_accesses interrupts status else []) ++ called) ≡ (if on then record_clears values ++ requests_of called else [])
looked_by true interrupts status values called is_on is same =
    flat_map-append requests_in (input_clear_accesses interrupts status) called ∙ ap (λ (front : List Request). front ++ requests_of called) (clear_fits interrupts status values is same)
looked_by false interrupts status values called is_on is same = cc

-- one that found it, and then what is done
found_fits : (interrupts status : ℕ) (values : ℕ → List ℕ) (called : List Event) → has_bit interrupts 31 ≡ true → slice_index (values INTSTS) 0 ≡ interrupts → (has_bit interrupts 0 ≡ true → status_in values ≡ status)
    → requests_of (input_interrupt_accesses interrupts status ++ called) ≡ record_interrupted_if true values (requests_of called)
found_fits interrupts status values called on is same =
    ap (λ (rest : List Request). Gets INTSTS Four ∷ rest)
    (looked_by (has_bit interrupts 31) interrupts status values called on is same
    ∙ ap (λ (interrupts : ℕ). if has_bit interrupts 31 then record_clears values ++ requests_of called else []) (sym is))

-- what it leaves of what is read then: of each other register the same
clear_unread : (is : Bool) (register status : ℕ) (rest : List Event) → value_in register (Read INPUT_STATUS One status) ≡ []
    → values_of ((if is then Read INPUT_STATUS One status ∷ Write INPUT_STATUS One (4 * bits_of status 2 3) ∷ [] else []) ++ rest) register ≡ values_of rest register
clear_unread true register status rest other = ap (λ (values : List ℕ). values ++ values_of rest register) other
clear_unread false register status rest other = refl

look_by : (on : Bool) (register interrupts status : ℕ) (rest : List Event) → value_in register (Read INPUT_STATUS One status) ≡ []
    → values_of ((if on then input_clear_accesses interrupts status else []) ++ rest) register ≡ values_of rest register
look_by true register interrupts status rest other = clear_unread (has_bit interrupts 0) register status rest other
look_by false register interrupts status rest other = refl

pub look_unread : (register interrupts status : ℕ) (rest : List Event) → value_in register (Read INTSTS Four interrupts) ≡ [] → value_in register (Read INPUT_STATUS One status) ≡ []
    → values_of (input_interrupt_accesses interrupts status ++ rest) register ≡ values_of rest register
look_unread register interrupts status rest first second =
    ap (λ (values : List ℕ). values ++ values_of ((if has_bit interrupts 31 then input_clear_accesses interrupts status else []) ++ rest) register) first
    ∙ look_by (has_bit interrupts 31) register interrupts status rest second

-- and the stream's status, where it is read
status_by : (on is : Bool) (status : ℕ) (rest : List Event) → on ≡ true → is ≡ true
    → slice_index (values_of ((if on then (if is then Read INPUT_STATUS One status ∷ Write INPUT_STATUS One (4 * bits_of status 2 3) ∷ [] else []) else []) ++ rest) INPUT_STATUS) 0 ≡ status
status_by true true status rest on is = refl
status_by true false status rest on is = cc
status_by false is status rest on same = cc

pub look_status : (interrupts status : ℕ) (rest : List Event) → has_bit interrupts 31 ≡ true → has_bit interrupts 0 ≡ true
    → status_in (values_of (input_interrupt_accesses interrupts status ++ rest)) ≡ status
look_status interrupts status rest on is = status_by (has_bit interrupts 31) (has_bit interrupts 0) status rest on is

-- ---- a call: what it does beside a look for an interrupt

-- it makes these accesses, by the values that the whole stretch read, and leads there
pub record IsCalled (task : Task) (total : ℕ) (state : RecordState) (values : ℕ → List ℕ) (called : List Event) (state' : RecordState) : Type 0 where
  pub fits : requests_of called ≡ record_runs task total state values
  pub rings : state'.rings ≡ (if state.tally.course.started then polled state.rings (seen_of values) else state.rings)
  pub tally : state'.tally ≡ record_tally_next task total state values

-- a later run
pub goes_called : (task : Task) (total : ℕ) (state state' : RecordState) (values : ℕ → List ℕ) (reads : PollReads) (facts : RecordFacts) (pieces : List (List ℕ)) → state.tally.course.started ≡ true → state.tally.course.recorded ≡ Recording → state.rings.outstanding ≡ None
    → AreNew state.rings reads → AreSized task total state facts pieces → SeesRun values reads facts
    → state'.tally ≡ tally_after (measures_for task total) state.tally facts → state'.rings ≡ rings_polled state.rings reads
    → IsCalled task total state values (made_for task state reads facts pieces (stop_accesses state'.tally.course.recorded)) state'
goes_called task total state state' values reads facts pieces started recording idle new sized sees tally_is rings_are =
    let recorded = state'.tally.course.recorded in
    let tally = tally_by task total state values facts recording sees.clocks sees.position in record {
      fits = requests_by task total state values reads facts pieces (stop_accesses recorded) new sized sees
          ∙ ap (λ (after : List Request). record_goes_on task total state values after) (stops_fit recorded)
          ∙ ap (λ (tally : RecordTally). record_goes_on task total state values (record_stops tally.course.recorded)) (tally_is ∙ sym tally)
          ∙ ap (λ (started : Bool). if started then record_goes_on task total state values (record_stops (record_tally_next task total state values).course.recorded) else record_starts task) (sym started);
      rings = rings_are ∙ sym (rings_by state.rings values reads facts idle sees)
          ∙ ap (λ (started : Bool). if started then polled state.rings (seen_of values) else state.rings) (sym started);
      tally = tally_is ∙ sym tally;
    }

-- the first run
abbrev pub start_made : Task → (from in_reset ready to : ℕ) → List Event
start_made task from in_reset ready to = start_accesses task.geometry task.blocks.list task.blocks.periods from in_reset ready to

start_requests : (task : Task) (from in_reset ready to : ℕ) → requests_of (start_made task from in_reset ready to) ≡ record_starts task
start_requests task from in_reset ready to =
    ap (λ (rest : List Request). Gets WALCLK Four ∷ Puts CONTROL One 1 ∷ Gets CONTROL One ∷ Puts CONTROL One 0 ∷ Gets CONTROL One ∷ rest)
    (flat_map-append requests_in (entry_writes task.blocks.list task.blocks.periods (period_bytes task.geometry.period)) (set_accesses task.blocks.list task.geometry ++ Read WALCLK Four to ∷ []))

pub begins_called : (task : Task) (total : ℕ) (state state' : RecordState) (values : ℕ → List ℕ) (from in_reset ready to : ℕ) → state.tally.course.started ≡ false → state.tally.course.recorded ≡ Recording
    → values WALCLK ≡ from ∷ to ∷ [] → slice_index (values POSITION) 0 ≡ 0
    → state'.tally ≡ tally_after (measures_for task total) state.tally (facts_of from 0 to) → state'.rings ≡ state.rings
    → IsCalled task total state values (start_made task from in_reset ready to) state'
begins_called task total state state' values from in_reset ready to fresh recording clocks position tally_is rings_are = record {
  fits = start_requests task from in_reset ready to
      ∙ ap (λ (started : Bool). if started then record_goes_on task total state values (record_stops (record_tally_next task total state values).course.recorded) else record_starts task) (sym fresh);
  rings = rings_are ∙ ap (λ (started : Bool). if started then polled state.rings (seen_of values) else state.rings) (sym fresh);
  tally = tally_is ∙ sym (tally_by task total state values (facts_of from 0 to) recording clocks position);
}

-- ---- what they read

-- by writes no register is read
writes_seen : (register : ℕ) (write : ℕ → Event) (numbers : List ℕ) (rest : List Event) → ((number : ℕ) → value_in register (write number) ≡ [])
    → values_of (map write numbers ++ rest) register ≡ values_of rest register
writes_seen register write [] rest none = refl
writes_seen register write (number ∷ numbers) rest none =
    ap (λ (values : List ℕ). values ++ values_of (map write numbers ++ rest) register) (none number) ∙ writes_seen register write numbers rest none

entries_unread : (register list bytes : ℕ) (periods : List ℕ) (rest : List Event) → values_of (entry_writes list periods bytes ++ rest) register ≡ values_of rest register
entries_unread register list bytes periods rest = writes_seen register (entry_write list periods bytes) (range_with_len 0 (length periods)) rest (λ number. refl)

pub start_clocks : (task : Task) (from in_reset ready to : ℕ) → values_of (start_made task from in_reset ready to) WALCLK ≡ from ∷ to ∷ []
start_clocks task from in_reset ready to =
    ap (λ (values : List ℕ). from ∷ values) (entries_unread WALCLK task.blocks.list (period_bytes task.geometry.period) task.blocks.periods (set_accesses task.blocks.list task.geometry ++ Read WALCLK Four to ∷ []))

pub start_position : (task : Task) (from in_reset ready to : ℕ) → slice_index (values_of (start_made task from in_reset ready to) POSITION) 0 ≡ 0
start_position task from in_reset ready to =
    ap (λ (values : List ℕ). slice_index values 0) (entries_unread POSITION task.blocks.list (period_bytes task.geometry.period) task.blocks.periods (set_accesses task.blocks.list task.geometry ++ Read WALCLK Four to ∷ []))

-- nor by reads of the ring
pieces_unread : (register bytes : ℕ) (periods : List ℕ) (from period : ℕ) (pieces : List (List ℕ)) (rest : List Event) → values_of (pieces_read bytes periods from period pieces ++ rest) register ≡ values_of rest register
pieces_unread register bytes periods from period [] rest = refl
pieces_unread register bytes periods from period (piece ∷ pieces) rest = pieces_unread register bytes periods from (period + 1) pieces rest

-- a poll reads RIRBSTS and RIRBWP alone
batch_seen : (written : Bool) (register rirb : ℕ) (rings : RingPlaces) (reads : PollReads) (rest : List Event) → value_in register (Read RIRBWP Two reads.pointer) ≡ []
    → values_of ((if written then batch_accesses rirb rings reads.pointer reads.entries else []) ++ rest) register ≡ values_of rest register
batch_seen false register rirb rings reads rest other = refl
batch_seen true register rirb rings reads rest other =
    ap (λ (values : List ℕ). values ++ values_of (batch_rest ++ rest) register) other
    ∙ entry_unread register rirb (entries_of rings.rirb) (rings.read + 1) reads.entries rest
  where
    batch_rest : List Event
    batch_rest = entry_reads rirb (entries_of rings.rirb) (rings.read + 1) reads.entries ++ Write RIRBSTS One 1 ∷ []

-- what a poll and a later run read, where nothing of the input's and of the clock is read after them
pub run_seen : (rirb : ℕ) (rings : RingPlaces) (geometry : Geometry) (periods : List ℕ) (read : ℕ) (reads : PollReads) (facts : RecordFacts) (pieces : List (List ℕ)) (after : List Event) → values_of after WALCLK ≡ [] → values_of after POSITION ≡ []
    → SeesRun (values_of (run_made rirb rings geometry periods read reads facts pieces after)) reads facts
run_seen rirb rings geometry periods read reads facts pieces after no_clock no_position =
    let bytes = period_bytes geometry.period in
    let run = Read WALCLK Four facts.from ∷ Read POSITION Four facts.lpib ∷ (line_reads bytes periods read pieces ++ Read WALCLK Four facts.to ∷ after) in record {
      flag = refl;
      pointer = λ is. pointer_by (has_bit reads.flag 0) rirb rings reads run is;
      clocks = batch_seen (has_bit reads.flag 0) WALCLK rirb rings reads run refl
          ∙ ap (λ (values : List ℕ). facts.from ∷ values)
          (pieces_unread WALCLK bytes periods read (read / bytes) pieces (Read WALCLK Four facts.to ∷ after) ∙ ap (λ (values : List ℕ). facts.to ∷ values) no_clock);
      position = ap (λ (values : List ℕ). slice_index values 0)
          (batch_seen (has_bit reads.flag 0) POSITION rirb rings reads run refl
          ∙ ap (λ (values : List ℕ). facts.lpib ∷ values)
          (pieces_unread POSITION bytes periods read (read / bytes) pieces (Read WALCLK Four facts.to ∷ after) ∙ no_position));
    }

pub no_stop : (register : ℕ) (recorded : Recorded) → values_of (stop_accesses recorded) register ≡ []
no_stop register Recording = refl
no_stop register Complete = refl
no_stop register (Late from to) = refl

-- after a look for an interrupt they read the same
pub looked_seen : (interrupts status : ℕ) (called : List Event) (reads : PollReads) (facts : RecordFacts) → SeesRun (values_of called) reads facts → SeesRun (values_of (input_interrupt_accesses interrupts status ++ called)) reads facts
looked_seen interrupts status called reads facts sees = record {
  flag = ap (λ (values : List ℕ). slice_index values 0) (look_unread RIRBSTS interrupts status called refl refl) ∙ sees.flag;
  pointer = λ is. ap (λ (values : List ℕ). slice_index values 0) (look_unread RIRBWP interrupts status called refl refl) ∙ sees.pointer is;
  clocks = look_unread WALCLK interrupts status called refl refl ∙ sees.clocks;
  position = ap (λ (values : List ℕ). slice_index values 0) (look_unread POSITION interrupts status called refl refl) ∙ sees.position;
}

-- ---- stretches of lines

-- they go by the rules whether something was answered or not
abbrev pub IsRecordStretch : Task → (total : ℕ) → RecordState → Option DriverLine → (made : List Event) → RecordState → Type 0
IsRecordStretch task total state turn made state' = (answered : Bool) → IsRuleStretch (record_rules task total) state turn made answered state'

abbrev pub line_of : (irq : Bool) → (budget : ℕ) → DriverLine
line_of irq budget = record { irq = irq; budget = budget }

abbrev state_with : RingPlaces → RecordTally → RecordState
state_with rings tally = record { rings = rings; tally = tally }

-- RIRB is looked at before a later run, where a run comes
looks_at : (started more none : Bool) → more ≡ true → none ≡ false → (started && more && not none) ≡ started
looks_at true true false on found = refl
looks_at true true true on found = cc
looks_at true false none on found = cc
looks_at false more none on found = refl

called_leads : (task : Task) (total : ℕ) (state : RecordState) (line : DriverLine) (values : ℕ → List ℕ) (called : List Event) (state' : RecordState) → records_on state.tally.course.recorded ≡ true → record_finds_none line values ≡ false
    → IsCalled task total state values called state' → state' ≡ record_next task total state (Some line) values
called_leads task total state line values called state' more found is =
    ap (λ (rings : RingPlaces). state_with rings state'.tally) is.rings
    ∙ ap (λ (tally : RecordTally). state_with (if state.tally.course.started then polled state.rings (seen_of values) else state.rings) tally) is.tally
    ∙ ap (λ (looks : Bool). state_with (if looks then polled state.rings (seen_of values) else state.rings) (record_tally_next task total state values))
    (sym (looks_at state.tally.course.started (records_on state.tally.course.recorded) (record_finds_none line values) more found))

-- a call
pub called_stretch : (task : Task) (total : ℕ) (state : RecordState) (budget : ℕ) (called : List Event) (state' : RecordState) → records_on state.tally.course.recorded ≡ true
    → IsCalled task total state (values_of called) called state' → IsRecordStretch task total state (Some (line_of false budget)) called state'
called_stretch task total state budget called state' more is = λ answered. record {
  fits = is.fits ∙ ap (λ (more : Bool). if more then record_runs task total state (values_of called) else []) (sym more);
  leads = called_leads task total state (line_of false budget) (values_of called) called state' more refl is;
}

-- one for an interrupt that found it
pub found_stretch : (task : Task) (total : ℕ) (state : RecordState) (budget interrupts status : ℕ) (called : List Event) (state' : RecordState) → records_on state.tally.course.recorded ≡ true → has_bit interrupts 31 ≡ true
    → IsCalled task total state (values_of (input_interrupt_accesses interrupts status ++ called)) called state'
    → IsRecordStretch task total state (Some (line_of true budget)) (input_interrupt_accesses interrupts status ++ called) state'
found_stretch task total state budget interrupts status called state' more on is = λ answered.
    let values = values_of (input_interrupt_accesses interrupts status ++ called) in record {
      fits = found_fits interrupts status values called on refl (look_status interrupts status called on)
          ∙ ap (λ (requests : List Request). record_interrupted_if true values requests) is.fits
          ∙ ap (λ (more : Bool). if more then record_interrupted_if true values (record_runs task total state values) else []) (sym more);
      leads = called_leads task total state (line_of true budget) values called state' more (ap not on) is;
    }

-- one that found none
unlooked : (started more none : Bool) → none ≡ true → (started && more && not none) ≡ false
unlooked true true true is = refl
unlooked true true false is = cc
unlooked true false none is = refl
unlooked false more none is = refl

none_requests : (on : Bool) (interrupts status : ℕ) → on ≡ false → requests_of (if on then input_clear_accesses interrupts status else []) ≡ []
none_requests true interrupts status off = cc
none_requests false interrupts status off = refl

none_read : (on : Bool) (register interrupts status : ℕ) → on ≡ false → values_of (if on then input_clear_accesses interrupts status else []) register ≡ []
none_read true register interrupts status off = cc
none_read false register interrupts status off = refl

pub none_stretch : (task : Task) (total : ℕ) (state : RecordState) (budget interrupts status : ℕ) → records_on state.tally.course.recorded ≡ true → has_bit interrupts 31 ≡ false
    → IsRecordStretch task total state (Some (line_of true budget)) (input_interrupt_accesses interrupts status) state
none_stretch task total state budget interrupts status more off = λ answered.
    let values = values_of (input_interrupt_accesses interrupts status) in
    let line = line_of true budget in record {
      fits = ap (λ (rest : List Request). Gets INTSTS Four ∷ rest)
          (none_requests (has_bit interrupts 31) interrupts status off
          ∙ ap (λ (on : Bool). if on then record_clears values ++ record_runs task total state values else []) (sym off))
          ∙ ap (λ (more : Bool). if more then record_interrupted_if true values (record_runs task total state values) else []) (sym more);
      leads = ap (λ (tally : RecordTally). state_with state.rings tally) (sym (tally_still task total state values (none_read (has_bit interrupts 31) WALCLK interrupts status off)))
          ∙ ap (λ (looks : Bool). state_with (if looks then polled state.rings (seen_of values) else state.rings) (record_tally_next task total state values))
          (sym (unlooked state.tally.course.started (records_on state.tally.course.recorded) (record_finds_none line values) (ap not off)));
    }

-- once it is over
unmore : (started more none : Bool) → more ≡ false → (started && more && not none) ≡ false
unmore true true none over = cc
unmore true false none over = refl
unmore false more none over = refl

pub over_stretch : (task : Task) (total : ℕ) (state : RecordState) (irq : Bool) (budget : ℕ) → records_on state.tally.course.recorded ≡ false
    → IsRecordStretch task total state (Some (line_of irq budget)) [] state
over_stretch task total state irq budget over = λ answered.
    let values = values_of [] in
    let line = line_of irq budget in record {
      fits = ap (λ (more : Bool). if more then record_interrupted_if irq values (record_runs task total state values) else []) (sym over);
      leads = ap (λ (tally : RecordTally). state_with state.rings tally) (sym (tally_still task total state values refl))
          ∙ ap (λ (looks : Bool). state_with (if looks then polled state.rings (seen_of values) else state.rings) (record_tally_next task total state values))
          (sym (unmore state.tally.course.started (records_on state.tally.course.recorded) (record_finds_none line values) over));
    }

-- ---- the last stretch

-- the stream does not record
still_is : (started more : Bool) → (started ≡ false) ⊎ (more ≡ false) → (started && more) ≡ false
still_is true true still = by still
  where
    by : (true ≡ false) ⊎ (true ≡ false) → true ≡ false
    by (inl same) = same
    by (inr same) = same
still_is true false still = refl
still_is false more still = refl

pub shuts_stretch : (task : Task) (total : ℕ) (state : RecordState) → (state.tally.course.started ≡ false) ⊎ (records_on state.tally.course.recorded ≡ false)
    → IsRecordStretch task total state None shut_accesses state
shuts_stretch task total state still = λ answered.
    let values = values_of shut_accesses in
    let is = still_is state.tally.course.started (records_on state.tally.course.recorded) still in record {
      fits = ap (λ (records : Bool). if records then record_goes_on task total state values (Puts CONTROL One 0 ∷ shuts) else shuts) (sym is);
      leads = ap (λ (tally : RecordTally). state_with state.rings tally) (sym (tally_still task total state values refl))
          ∙ ap (λ (looks : Bool). state_with (if looks then polled state.rings (seen_of values) else state.rings) (record_tally_next task total state values)) (sym is);
    }

-- it does
pub stops_stretch : (task : Task) (total : ℕ) (state state' : RecordState) (reads : PollReads) (facts : RecordFacts) (pieces : List (List ℕ)) → state.tally.course.started ≡ true → records_on state.tally.course.recorded ≡ true → state.tally.course.recorded ≡ Recording
    → state.rings.outstanding ≡ None → AreNew state.rings reads → AreSized task total state facts pieces
    → state'.tally ≡ tally_after (measures_for task total) state.tally facts → state'.rings ≡ rings_polled state.rings reads
    → IsRecordStretch task total state None (made_for task state reads facts pieces (Write CONTROL One 0 ∷ shut_accesses)) state'
stops_stretch task total state state' reads facts pieces started more recording idle new sized tally_is rings_are = λ answered.
    let after = Write CONTROL One 0 ∷ shut_accesses in
    let values = values_of (made_for task state reads facts pieces after) in
    let sees = run_seen task.blocks.rirb state.rings task.geometry task.blocks.periods state.tally.course.read reads facts pieces after refl refl in
    let records : (state.tally.course.started && records_on state.tally.course.recorded) ≡ true = ap (λ (started : Bool). started && records_on state.tally.course.recorded) started ∙ more in record {
      fits = requests_by task total state values reads facts pieces after new sized sees
          ∙ ap (λ (records : Bool). if records then record_goes_on task total state values (Puts CONTROL One 0 ∷ shuts) else shuts) (sym records);
      leads = ap (λ (rings : RingPlaces). state_with rings state'.tally) (rings_are ∙ sym (rings_by state.rings values reads facts idle sees))
          ∙ ap (λ (tally : RecordTally). state_with (polled state.rings (seen_of values)) tally) (tally_is ∙ sym (tally_by task total state values facts recording sees.clocks sees.position))
          ∙ ap (λ (looks : Bool). state_with (if looks then polled state.rings (seen_of values) else state.rings) (record_tally_next task total state values)) (sym records);
    }

-- the stop of the last run, by itself or after it
pub stop_last : (recorded : Recorded) (after : List Event) → stop_accesses recorded ++ (last_stop recorded ++ after) ≡ Write CONTROL One 0 ∷ after
stop_last Recording after = refl
stop_last Complete after = refl
stop_last (Late from to) after = refl
