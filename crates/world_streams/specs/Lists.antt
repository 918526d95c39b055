-- The list of buffers that an output stream fetches from and an input stream stores into: High Definition Audio 1.0a,
-- 3.6.2 and 3.6.3. That a buffer which is empty or does not lie in the region stops the stream is this project's own.
-- What is called fetched here is of an input stream stored.
use Rattle.std.specs.Prelude.{◌≡◌, ℕ, ◌==◌, ◌&&◌, ◌<◌, ◌+◌, ◌*◌, ◌%◌, ◌^◌, Bool, not, nat_le, nat_lt, List, length}
use Rattle.std.specs.Prelude.{slice_index, Option, Some, None, unwrap_or, if◌then◌else◌}
use Rattle.world_rings.specs.Memory.{word_at}
use Rattle.world_streams.specs.declared.buffers.Buffer.{Buffer}
use Rattle.world_streams.specs.declared.buffers.ListPlace.{ListPlace}
use Rattle.world_streams.specs.declared.buffers.TheConstants.{BUFFER_ENTRY_BYTES, BUFFER_ALIGNMENT}

-- before the first byte
abbrev pub list_start : ListPlace
list_start = record { index = 0; buffer = None; fetched = 0 }

-- the buffer of an entry of the list at an address: its address in two words, the lower one first, its length, and IOC
-- in bit 0 of the last word
abbrev pub buffer_of : List ℕ → ℕ → ℕ → Buffer
buffer_of memory base index =
    let at = base + BUFFER_ENTRY_BYTES * index in
    record {
      address = word_at memory at + 2 ^ 32 * word_at memory (at + 4);
      bytes = word_at memory (at + 8);
      interrupts = word_at memory (at + 12) % 2 == 1;
    }

-- the buffer that the next byte comes from, or goes to
abbrev pub next_buffer : List ℕ → ℕ → ListPlace → Buffer
next_buffer memory base place = unwrap_or place.buffer (buffer_of memory base place.index)

-- a stream can use a buffer: its address is a multiple of 128, it has bytes, and they lie in the region
abbrev pub is_good : List ℕ → Buffer → Bool
is_good memory buffer =
    buffer.address % BUFFER_ALIGNMENT == 0 && not (buffer.bytes == 0) && nat_le (buffer.address + buffer.bytes)
    (length memory)

-- the next byte of a buffer of which some were fetched
abbrev pub byte_of : List ℕ → Buffer → ℕ → ℕ
byte_of memory buffer fetched = slice_index memory (buffer.address + fetched)

-- the next byte is the buffer's last
abbrev pub is_last_byte : Buffer → ListPlace → Bool
is_last_byte buffer place = place.fetched + 1 == buffer.bytes

-- after the last entry of the list the first one comes again
abbrev pub next_index : ℕ → ℕ → ℕ
next_index last index = if nat_lt index last then index + 1 else 0

-- the place after a byte of the buffer
abbrev pub after_byte : ℕ → Buffer → ListPlace → ListPlace
after_byte last buffer place =
    if is_last_byte buffer place then record { index = next_index last place.index; buffer = None; fetched = 0 }
    else record { index = place.index; buffer = Some buffer; fetched = place.fetched + 1 }

-- a buffer in use has a byte that was not fetched, and of one that is read next none was
abbrev pub HasMore : Option Buffer → ℕ → Type 0
HasMore None fetched = fetched ≡ 0
HasMore (Some buffer) fetched = fetched < buffer.bytes

abbrev pub IsInUse : ListPlace → Type 0
IsInUse place = HasMore place.buffer place.fetched
