-- What the runs of a recorder do. This project's own.
use Rattle.std.specs.Prelude.{◌≡◌, ℕ, ◌/◌, List, [], ◌∷◌, ◌++◌, length, map, Option}
use Rattle.std.specs.List.{range_with_len, flat_map}
use Rattle.hda_registers.specs.declared.shapes.Width.TheVariants.{One, Four}
use Rattle.hda_registers.specs.declared.places.TheConstants.{WALCLK}
use Rattle.hda_world.specs.Events.{Event, Read, Write}
use Rattle.hda_world.specs.Tellings.{Telling, Between, Makes}
use Rattle.period_writer.specs.Rings.{period_bytes}
use Rattle.period_writer.specs.Places.{touched}
use Rattle.hda_capture.specs.declared.course.Recorded.{Recorded}
use Rattle.hda_capture.specs.declared.course.Recorded.TheVariants.{Recording, Complete, Late}
use Rattle.hda_capture.specs.declared.registers.TheConstants.{CONTROL, POSITION}
use Rattle.hda_capture.specs.Recordings.{RecordFacts, facts_of, tally_after, read_upto, bytes_after}
use Rattle.hda_capture.specs.Reading.{line_reads, piece_size}
use Rattle.hda_capture.specs.Starting.{start_accesses}
use Rattle.hda_capture.specs.Recorders.{RecorderState, tally_of, measures_of, periods_of}

-- the stream is stopped where it records no longer
abbrev pub stop_accesses : Recorded → List Event
stop_accesses Recording = []
stop_accesses Complete = Write CONTROL One 0 ∷ []
stop_accesses (Late from to) = Write CONTROL One 0 ∷ []

-- a later run: the clock, LPIB, what it reads of the ring, the clock, and the stop where it ends
abbrev pub record_accesses : RecorderState → RecordFacts → (pieces : List (List ℕ)) → Recorded → List Event
record_accesses recorder facts pieces answer =
    Read WALCLK Four facts.from ∷ Read POSITION Four facts.lpib
    ∷ (line_reads (period_bytes recorder.geometry.period) (periods_of recorder) recorder.course.read pieces
    ++ (Read WALCLK Four facts.to ∷ stop_accesses answer))

-- the first run
pub record StartsRecording (old new : RecorderState) (before after : Option Telling) : Type 0 where
  pub from : ℕ
  pub in_reset : ℕ
  pub ready : ℕ
  pub to : ℕ
  pub made : Between (Makes (start_accesses old.geometry old.list.address (periods_of old) from in_reset ready to))
      before after
  pub tally_is : tally_of new ≡ tally_after (measures_of old) (tally_of old) (facts_of from 0 to)
  pub bytes_is : new.bytes ≡ old.bytes

-- what a later run with this answer does after it read the clock and LPIB, up to its stop
pub record ReadsTurn (old : RecorderState) (from lpib : ℕ) (answer : Recorded) (new : RecorderState)
    (before after : Option Telling) : Type 0 where
  pub to : ℕ
  pub pieces : List (List ℕ)
  pub sizes : let bytes = period_bytes old.geometry.period in
      let upto = read_upto (measures_of old) old.course lpib in
      map length pieces ≡ map (piece_size bytes old.course.read upto)
      (range_with_len (old.course.read / bytes) (touched bytes old.course.read upto))
  pub made : Between (Makes (line_reads (period_bytes old.geometry.period) (periods_of old) old.course.read
      pieces ++ Read WALCLK Four to ∷ [])) before after
  pub tally_is : tally_of new ≡ tally_after (measures_of old) (tally_of old) (facts_of from lpib to)
  pub answer_is : answer ≡ new.course.recorded
  pub bytes_is : new.bytes ≡ bytes_after (measures_of old) old.course to old.bytes
      (flat_map (λ (piece : List ℕ). piece) pieces)

-- a later run with this answer
pub record RecordsRun (old : RecorderState) (answer : Recorded) (new : RecorderState) (before after : Option Telling)
    : Type 0 where
  pub from : ℕ
  pub lpib : ℕ
  pub to : ℕ
  pub pieces : List (List ℕ)
  -- a piece for each period that what it reads touches, with as many bytes as stand there
  pub sizes : let bytes = period_bytes old.geometry.period in
      let upto = read_upto (measures_of old) old.course lpib in
      map length pieces ≡ map (piece_size bytes old.course.read upto)
      (range_with_len (old.course.read / bytes) (touched bytes old.course.read upto))
  pub made : Between (Makes (record_accesses old (facts_of from lpib to) pieces answer)) before after
  pub tally_is : tally_of new ≡ tally_after (measures_of old) (tally_of old) (facts_of from lpib to)
  pub answer_is : answer ≡ new.course.recorded
  -- the bytes that it read are put last; a late run leaves those that were recorded
  pub bytes_is : new.bytes ≡ bytes_after (measures_of old) old.course to old.bytes
      (flat_map (λ (piece : List ℕ). piece) pieces)
