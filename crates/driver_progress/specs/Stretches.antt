-- The stretches of a journal, as the records of a ring take them up. This project's own.
use Rattle.std.specs.Prelude.{Bool, true, false, List, [], ◌∷◌, ◌++◌, drop, slice_get, Option, None}
use Rattle.hda_registers.specs.declared.places.TheConstants.{WALCLK}
use Rattle.hda_world.specs.Events.{Event, Stepped, Begin, End, Read, Write, DmaRead, DmaWrite}
use Rattle.period_writer.specs.declared.registers.TheConstants.{POSITION}
use Rattle.period_writer.specs.Runs.{Stretch}
use Rattle.driver_progress.specs.Next.{budget_of}
use Rattle.driver_progress.specs.Seen.{values_of}
use Rattle.driver_progress.specs.Tasks.{DriverLine}

-- one of a driver line, or the closing one, in which these accesses were made
abbrev pub stretch_of : Option DriverLine → (made : List Event) → Stretch
stretch_of turn made = record {
  budget = budget_of turn;
  clocks = values_of made WALCLK;
  lpibs = values_of made POSITION;
}

-- it, where it is open
abbrev pub open_in : (within : Bool) → Option DriverLine → (made : List Event) → List Stretch
open_in true turn made = stretch_of turn made ∷ []
open_in false turn made = []

-- those that end among some events, and one that is still open after them: by whether one is open, which, the lines
-- whose stretches did not begin, and the accesses that were made since the last one began
abbrev pub stretches_in : (within : Bool) → (turn : Option DriverLine) → (left : List DriverLine) → (made : List Event)
    → List Event → List Stretch
stretches_in within turn left made [] = open_in within turn made
stretches_in within turn left made (Stepped step ∷ events) = stretches_in within turn left made events
stretches_in within turn left made (Begin ∷ events) = stretches_in true (slice_get left 0) (drop 1 left) [] events
stretches_in within turn left made (End ∷ events) = stretch_of turn made ∷ stretches_in false turn left made events
stretches_in within turn left made (Read at width value ∷ events) = stretches_in within turn left
    (made ++ Read at width value ∷ []) events
stretches_in within turn left made (Write at width value ∷ events) = stretches_in within turn left
    (made ++ Write at width value ∷ []) events
stretches_in within turn left made (DmaRead at bytes ∷ events) = stretches_in within turn left
    (made ++ DmaRead at bytes ∷ []) events
stretches_in within turn left made (DmaWrite at bytes ∷ events) = stretches_in within turn left
    (made ++ DmaWrite at bytes ∷ []) events

-- the stretches of a journal, by these lines
abbrev pub stretches_of : List DriverLine → List Event → List Stretch
stretches_of lines journal = stretches_in false None lines [] journal
