-- What the accesses of runs write. This project's own, over registers of High Definition Audio 1.0a, 3.3.14 and 3.3.35
-- to 3.3.42.
use Rattle.std.specs.Prelude.{◌≡◌, ◌≤◌, ◌<◌, ◌⊎◌, ℕ, ◌+◌, List, length, slice_index}
use Rattle.hda_registers.specs.declared.places.TheConstants.{INTCTL}
use Rattle.hda_world.specs.Events.{Event, Stepped, Begin, End, Read, Write, DmaRead, DmaWrite}
use Rattle.period_writer.specs.Rings.{list_bytes}
use Rattle.period_writer.specs.Standing.{Ring, bytes_in}

-- so many bytes from a place on lie within a block
pub record IsWithin (block size at bytes : ℕ) : Type 0 where
  pub low : block ≤ at
  pub high : at + bytes ≤ block + size

-- they lie within one period of a ring
pub record IsInPeriod (ring : Ring) (at bytes : ℕ) : Type 0 where
  pub period : ℕ
  pub exists : period < ring.geometry.periods
  pub within : IsWithin (slice_index ring.periods period) (bytes_in ring) at bytes

-- INTCTL, or a register of the output's descriptor
abbrev pub IsOutputPlace : (at : ℕ) → Type 0
IsOutputPlace at = (at ≡ INTCTL) ⊎ ((0xA0 ≤ at) × (at < 0xC0))

-- an event is one of the ring: what it writes, if it writes, is INTCTL, a register of the output's descriptor, or memory
-- within the list or within one period
abbrev pub IsOfRing : Ring → Event → Type 0
IsOfRing ring (Write at width value) = IsOutputPlace at
IsOfRing ring (DmaWrite at bytes) =
    IsWithin ring.list (list_bytes ring.geometry.periods) at (length bytes) ⊎ IsInPeriod ring at (length bytes)
IsOfRing ring (Stepped step) = Unit {0}
IsOfRing ring Begin = Unit {0}
IsOfRing ring End = Unit {0}
IsOfRing ring (Read at width value) = Unit {0}
IsOfRing ring (DmaRead at bytes) = Unit {0}
