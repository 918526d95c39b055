-- Where responses stand that were written.
use Rattle.std.specs.Prelude.{◌≡◌, ◌≤◌, ◌<◌, ℕ, ◌+◌, ◌*◌, ◌%◌, List, length, slice_index}
use Rattle.hda_registers.specs.Fields.{Fields, entries_of, rirb_address}
use Rattle.world_rings.specs.declared.response.Response.{Response}
use Rattle.world_rings.specs.declared.entries.TheConstants.{RESPONSE_BYTES}
use Rattle.world_rings.specs.Entries.{response_bytes}

-- the address of the entry of RIRB so many places after the write pointer
abbrev pub entry_after : Fields → ℕ → ℕ
entry_after fields places =
    rirb_address fields + RESPONSE_BYTES * ((fields.global.rirb_write_pointer + places) % entries_of fields.shape.rirb)

-- a response stands in the entry so many places after the write pointer, byte for byte
abbrev pub StandsAt : Fields → List ℕ → ℕ → Response → Type 0
StandsAt fields memory places response =
    (byte : ℕ) → byte < RESPONSE_BYTES → slice_index memory (entry_after fields places + byte) ≡ slice_index
    (response_bytes response) byte

-- all entries of RIRB lie in the memory
abbrev pub IsRirbInside : Fields → List ℕ → Type 0
IsRirbInside fields memory = rirb_address fields + RESPONSE_BYTES * entries_of fields.shape.rirb ≤ length memory
