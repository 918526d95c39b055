-- The recorded runs of a journal: those of its stretches. This project's own.
use Rattle.std.specs.Prelude.{Bool, true, false, ℕ, List, [], ◌∷◌, ◌++◌, slice_index}
use Rattle.hda_registers.specs.declared.places.TheConstants.{WALCLK}
use Rattle.hda_world.specs.Events.{Event, Stepped, Begin, End, Read, Write, DmaRead, DmaWrite}
use Rattle.hda_capture.specs.declared.course.Recorded.{Recorded}
use Rattle.hda_capture.specs.declared.course.Recorded.TheVariants.{Recording, Complete, Late}
use Rattle.hda_capture.specs.declared.registers.TheConstants.{POSITION}
use Rattle.hda_capture.specs.Recordings.{RecordMeasures, RecordTally, tally_opened, tally_after, facts_of}
use Rattle.driver_progress.specs.Seen.{values_of}

-- a stretch of the driver's accesses, from Begin to End: the values that it read from WALCLK and from the input's LPIB,
-- in order
pub record RecordStretch : Type 0 where
  pub clocks : List ℕ
  pub lpibs : List ℕ

-- one that reads the clock twice is a run, while the stream records
abbrev pub record_taken_up_if : Recorded → List ℕ → RecordMeasures → RecordStretch → RecordTally → RecordTally
record_taken_up_if Recording (from ∷ to ∷ []) m stretch tally =
    tally_after m tally (facts_of from (slice_index stretch.lpibs 0) to)
record_taken_up_if Recording [] m stretch tally = tally
record_taken_up_if Recording (from ∷ []) m stretch tally = tally
record_taken_up_if Recording (from ∷ to ∷ other ∷ more) m stretch tally = tally
record_taken_up_if Complete clocks m stretch tally = tally
record_taken_up_if (Late from to) clocks m stretch tally = tally

abbrev pub record_taken_up : RecordMeasures → RecordTally → RecordStretch → RecordTally
record_taken_up m tally stretch = record_taken_up_if tally.course.recorded stretch.clocks m stretch tally

abbrev pub record_tally_on : RecordMeasures → RecordTally → List RecordStretch → RecordTally
record_tally_on m tally [] = tally
record_tally_on m tally (stretch ∷ stretches) = record_tally_on m (record_taken_up m tally stretch) stretches

-- the runs of some stretches
abbrev pub record_tally_of : RecordMeasures → List RecordStretch → RecordTally
record_tally_of m stretches = record_tally_on m tally_opened stretches

-- ---- the stretches of a journal

abbrev pub record_stretch_of : (made : List Event) → RecordStretch
record_stretch_of made = record { clocks = values_of made WALCLK; lpibs = values_of made POSITION }

abbrev pub open_record_in : (within : Bool) → (made : List Event) → List RecordStretch
open_record_in true made = record_stretch_of made ∷ []
open_record_in false made = []

-- those that end among some events, and one that is still open after them
abbrev pub record_stretches_in : (within : Bool) → (made : List Event) → List Event → List RecordStretch
record_stretches_in within made [] = open_record_in within made
record_stretches_in within made (Stepped step ∷ events) = record_stretches_in within made events
record_stretches_in within made (Begin ∷ events) = record_stretches_in true [] events
record_stretches_in within made (End ∷ events) = record_stretch_of made ∷ record_stretches_in false made events
record_stretches_in within made (Read at width value ∷ events) =
    record_stretches_in within (made ++ Read at width value ∷ []) events
record_stretches_in within made (Write at width value ∷ events) =
    record_stretches_in within (made ++ Write at width value ∷ []) events
record_stretches_in within made (DmaRead at bytes ∷ events) =
    record_stretches_in within (made ++ DmaRead at bytes ∷ []) events
record_stretches_in within made (DmaWrite at bytes ∷ events) =
    record_stretches_in within (made ++ DmaWrite at bytes ∷ []) events

abbrev pub record_stretches_of : List Event → List RecordStretch
record_stretches_of journal = record_stretches_in false [] journal
