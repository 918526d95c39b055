-- The rules of a driver that records: the accesses of its stretches, and where they lead. The order of the accesses is
-- this project's own; what they do is High Definition Audio 1.0a, 3.3, 4.4 and 4.5.
use Rattle.std.specs.Prelude.{ℕ, ◌*◌, ◌/◌, Bool, true, false, ◌&&◌, not, List, [], ◌∷◌, ◌++◌, map, slice_index}
use Rattle.std.specs.Prelude.{Option, None, Some, if◌then◌else◌}
use Rattle.std.specs.List.{range_with_len}
use Rattle.verb_codes.specs.Words.{has_bit, bits_of}
use Rattle.hda_registers.specs.declared.shapes.Width.TheVariants.{One, Four}
use Rattle.hda_registers.specs.declared.places.TheConstants.{INTSTS, WALCLK}
use Rattle.command_engine.specs.declared.ring_places.RingPlaces.{RingPlaces}
use Rattle.period_writer.specs.Rings.{period_bytes}
use Rattle.period_writer.specs.Starting.{entry_writes}
use Rattle.period_writer.specs.Places.{place_in, touched, piece_start}
use Rattle.hda_capture.specs.declared.course.Recorded.{Recorded}
use Rattle.hda_capture.specs.declared.course.Recorded.TheVariants.{Recording, Complete, Late}
use Rattle.hda_capture.specs.declared.registers.TheConstants.{CONTROL, POSITION}
use Rattle.hda_capture.specs.Recordings.{RecordMeasures, RecordTally, record_measures, read_upto, tally_opened}
use Rattle.hda_capture.specs.Reading.{piece_size}
use Rattle.hda_capture.specs.Starting.{set_accesses}
use Rattle.driver_progress.specs.Requests.{Request, Gets, Puts, Fetches, requests_of}
use Rattle.driver_progress.specs.Tasks.{Task, DriverLine}
use Rattle.driver_progress.specs.Seen.{Seen, seen_by, interrupts_at}
use Rattle.driver_progress.specs.Expected.{polls, shuts}
use Rattle.driver_progress.specs.Next.{polled}
use Rattle.recording_driver.specs.declared.registers.TheConstants.{INPUT_STATUS}
use Rattle.recording_driver.specs.RecordStretches.{RecordStretch, record_taken_up}
use Rattle.driver_rules.specs.Rules.{Rules}

-- where both rings stand, and the runs that were recorded
pub record RecordState : Type 0 where
  pub rings : RingPlaces
  pub tally : RecordTally

abbrev pub record_begun : RingPlaces → RecordState
record_begun rings = record { rings = rings; tally = tally_opened }

-- a bit of INTSTS: an interrupt of the input stream is on (3.3.15)
abbrev pub input_interrupts_at : ℕ
input_interrupts_at = 0

-- what a stretch saw of the input's descriptor beside what progress sees: LPIB and the stream's status
abbrev pub lpib_in : (values : ℕ → List ℕ) → ℕ
lpib_in values = slice_index (values POSITION) 0

abbrev pub status_in : (values : ℕ → List ℕ) → ℕ
status_in values = slice_index (values INPUT_STATUS) 0

-- nothing is asked, so no answer is looked for
abbrev pub seen_of : (values : ℕ → List ℕ) → Seen
seen_of values = seen_by values false

abbrev pub stretch_seen : (values : ℕ → List ℕ) → RecordStretch
stretch_seen values = record { clocks = values WALCLK; lpibs = values POSITION }

-- whether runs come: the last one left the stream recording
abbrev pub records_on : Recorded → Bool
records_on Recording = true
records_on Complete = false
records_on (Late from to) = false

-- the stream is stopped where it records no longer
abbrev pub record_stops : Recorded → List Request
record_stops recorded = if records_on recorded then [] else Puts CONTROL One 0 ∷ []

-- of an interrupt of the input stream the status bits that are set are cleared (3.3.36)
abbrev pub record_clears : (values : ℕ → List ℕ) → List Request
record_clears values =
    if has_bit (seen_of values).interrupts input_interrupts_at
    then Gets INPUT_STATUS One ∷ Puts INPUT_STATUS One (4 * bits_of (status_in values) 2 3) ∷ [] else []

abbrev pub record_interrupted_if : (irq : Bool) → (values : ℕ → List ℕ) → List Request → List Request
record_interrupted_if true values called =
    Gets INTSTS Four
    ∷ (if has_bit (seen_of values).interrupts interrupts_at then record_clears values ++ called else [])
record_interrupted_if false values called = called

-- whether a call for an interrupt found none
abbrev pub record_finds_none : DriverLine → (values : ℕ → List ℕ) → Bool
record_finds_none line values = line.irq && not (has_bit (seen_of values).interrupts interrupts_at)

-- whether RIRB is looked at in a stretch: before each later run
abbrev pub record_looks : RecordState → Option DriverLine → (values : ℕ → List ℕ) → Bool
record_looks state None values = state.tally.course.started && records_on state.tally.course.recorded
record_looks state (Some line) values =
    state.tally.course.started && records_on state.tally.course.recorded && not (record_finds_none line values)

module _ (task : Task) where
  -- the first run: the stream is reset, the list is written, and the stream is set going (4.5.3)
  abbrev pub record_starts : List Request
  record_starts =
      Gets WALCLK Four ∷ Puts CONTROL One 1 ∷ Gets CONTROL One ∷ Puts CONTROL One 0 ∷ Gets CONTROL One
      ∷ (requests_of (entry_writes task.blocks.list task.blocks.periods (period_bytes task.geometry.period))
      ++ (requests_of (set_accesses task.blocks.list task.geometry) ++ Gets WALCLK Four ∷ []))

  -- the read of what stands in a period of the positions from one on up to another
  abbrev pub piece_fetch : (from to period : ℕ) → Request
  piece_fetch from to period =
      let bytes = period_bytes task.geometry.period in
      Fetches (place_in bytes task.blocks.periods period (piece_start bytes from period))
      (piece_size bytes from to period)

  -- a read for each period that they touch
  abbrev pub line_fetches : (from to : ℕ) → List Request
  line_fetches from to =
      let bytes = period_bytes task.geometry.period in
      map (piece_fetch from to) (range_with_len (from / bytes) (touched bytes from to))

module _ (task : Task) (total : ℕ) where
  abbrev pub measures_for : RecordMeasures
  measures_for = record_measures task.geometry total

  -- ---- the accesses

  -- a later run: the poll, the clock and LPIB, what it reads of the ring, the clock, and what comes after it (4.5.4)
  abbrev pub record_goes_on : RecordState → (values : ℕ → List ℕ) → (after : List Request) → List Request
  record_goes_on state values after =
      polls task.blocks.rirb state.rings (seen_of values)
      ++ (Gets WALCLK Four ∷ Gets POSITION Four
      ∷ (line_fetches task state.tally.course.read (read_upto measures_for state.tally.course (lpib_in values))
      ++ Gets WALCLK Four ∷ after))

  -- the tally after a stretch: one that reads the clock twice is a run, while the stream records
  abbrev pub record_tally_next : RecordState → (values : ℕ → List ℕ) → RecordTally
  record_tally_next state values = record_taken_up measures_for state.tally (stretch_seen values)

  abbrev pub record_runs : RecordState → (values : ℕ → List ℕ) → List Request
  record_runs state values =
      if state.tally.course.started
      then record_goes_on state values (record_stops (record_tally_next state values).course.recorded)
      else record_starts task

  -- the end: a stream that records is read once more, and stopped in any case
  abbrev pub record_closes : RecordState → (values : ℕ → List ℕ) → List Request
  record_closes state values =
      if state.tally.course.started && records_on state.tally.course.recorded
      then record_goes_on state values (Puts CONTROL One 0 ∷ shuts) else shuts

  -- once it is over no access is made
  abbrev pub record_expected : RecordState → Option DriverLine → (values : ℕ → List ℕ) → List Request
  record_expected state None values = record_closes state values
  record_expected state (Some line) values =
      if records_on state.tally.course.recorded
      then record_interrupted_if line.irq values (record_runs state values) else []

  -- ---- where they lead

  -- each stretch is taken up as the tally of runs says: one that reads the clock twice is a run
  abbrev pub record_next : RecordState → Option DriverLine → (values : ℕ → List ℕ) → RecordState
  record_next state turn values = record {
    rings = if record_looks state turn values then polled state.rings (seen_of values) else state.rings;
    tally = record_tally_next state values;
  }

  -- the rules of a driver with these blocks that is to record so many bytes. They ask nobody, and of what a stretch found
  -- they go by the values of registers alone
  abbrev pub record_rules : Rules RecordState
  record_rules = record {
    begin = record_begun;
    asked = λ state. None;
    expected = λ state turn findings. record_expected state turn findings.values;
    next = λ state turn findings. record_next state turn findings.values;
  }
