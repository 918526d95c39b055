-- The memory that an input stream writes: the buffers that its list names and the one in use. High Definition Audio
-- 1.0a, 3.6.2 and 3.6.3. That the list lies outside them is what a driver sees to; this project's own.
use Rattle.std.specs.Prelude.{◌≡◌, ◌≤◌, ◌<◌, ◌⊎◌, ℕ, ◌+◌, ◌*◌, true, List, Some}
use Rattle.hda_registers.specs.Fields.{Descriptor, is_running, list_address}
use Rattle.world_rings.specs.Memory.{IsOutside}
use Rattle.world_streams.specs.declared.buffers.Buffer.{Buffer}
use Rattle.world_streams.specs.declared.buffers.TheConstants.{BUFFER_ENTRY_BYTES}
use Rattle.world_streams.specs.Lists.{buffer_of, IsInUse}
use Rattle.world_streams.specs.Streams.{Stream}
use Rattle.hda_world.specs.Worlds.{World, input_of}
use Rattle.hda_world.specs.Leaving.{IsOutsideRirb}

-- how many bytes the list has: an entry for each index up to LVI
abbrev pub list_size : Descriptor → ℕ
list_size descriptor = BUFFER_ENTRY_BYTES * (descriptor.last_index + 1)

-- an entry of the list names the buffer, or it is the one in use
abbrev pub NamesBuffer : List ℕ → Stream → Buffer → Type 0
NamesBuffer memory stream buffer =
    ((index : ℕ) × (index ≤ stream.descriptor.last_index)
    × (buffer ≡ buffer_of memory (list_address stream.descriptor) index))
    ⊎ (stream.state.list.buffer ≡ Some buffer)

-- an address lies outside all buffers that are named
abbrev pub IsOutsideBuffers : List ℕ → Stream → ℕ → Type 0
IsOutsideBuffers memory stream at = (buffer : Buffer) → NamesBuffer memory stream buffer
    → IsOutside buffer.address buffer.bytes at

-- the list lies outside them. The entry that is read next is one of the list's, of a buffer in use a byte is left, and
-- of one that is read next none was stored: so each byte that is stored lies in a buffer that is named
pub record HasListApart (memory : List ℕ) (stream : Stream) : Type 0 where
  pub in_use : IsInUse stream.state.list
  pub listed : stream.state.list.index ≤ stream.descriptor.last_index
  pub apart : (offset : ℕ) → offset < list_size stream.descriptor
      → IsOutsideBuffers memory stream (list_address stream.descriptor + offset)

-- the list lies outside the buffers that are named
abbrev pub HasListOutsideBuffers : World → Type 0
HasListOutsideBuffers world = (offset : ℕ) → offset < list_size world.registers.input
    → IsOutsideBuffers world.memory (input_of world) (list_address world.registers.input + offset)

-- while it runs
abbrev pub KeepsListApart : World → Type 0
KeepsListApart world = is_running world.registers.input ≡ true → HasListApart world.memory (input_of world)

-- and RIRB lies outside the list
abbrev pub HasListOutsideRirb : World → Type 0
HasListOutsideRirb world = is_running world.registers.input ≡ true
    → (offset : ℕ) → offset < list_size world.registers.input
    → IsOutsideRirb world.registers (list_address world.registers.input + offset)
