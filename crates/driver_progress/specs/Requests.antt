-- Accesses of a driver without their answers: what it asks of the device, and not what it is told. This project's own.
use Rattle.std.specs.Prelude.{ℕ, List, [], ◌∷◌, length}
use Rattle.std.specs.List.{flat_map}
use Rattle.hda_registers.specs.declared.shapes.Width.{Width}
use Rattle.hda_world.specs.Events.{Event, Stepped, Begin, End, Read, Write, DmaRead, DmaWrite}

pub data Request : Type 0 where
  -- a register is read
  Gets : (at : ℕ) (width : Width) → Request
  -- a register is written
  Puts : (at : ℕ) (width : Width) (value : ℕ) → Request
  -- so many bytes of memory are read
  Fetches : (at count : ℕ) → Request
  -- bytes of memory are written
  Stores : (at : ℕ) (bytes : List ℕ) → Request

-- the request of an event, if it is an access
abbrev pub requests_in : Event → List Request
requests_in (Stepped step) = []
requests_in Begin = []
requests_in End = []
requests_in (Read at width value) = Gets at width ∷ []
requests_in (Write at width value) = Puts at width value ∷ []
requests_in (DmaRead at bytes) = Fetches at (length bytes) ∷ []
requests_in (DmaWrite at bytes) = Stores at bytes ∷ []

-- the requests of some events, in their order
abbrev pub requests_of : List Event → List Request
requests_of events = flat_map requests_in events
