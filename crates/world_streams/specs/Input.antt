-- The moves of an input stream, the mirror of an output stream's: in a link frame the blocks that are due come into the
-- FIFO, each by itself, and a byte of the FIFO is stored in the list's buffers. What comes while the FIFO has no room
-- is lost. High Definition Audio 1.0a, 3.3.36, 4.5 and 5.4. When a byte is stored is the schedule's choice; that a
-- block is taken or lost as a whole, that LPIB counts the bytes that entered the FIFO alone, and that FIFORDY is shown
-- as an output stream shows it, is this project's own.
use Rattle.std.specs.Prelude.{ℕ, zero, suc, ◌&&◌, ◌||◌, ◌+◌, ◌*◌, ◌%◌, Bool, false, not, nat_lt, nat_le, List, [], ◌∷◌}
use Rattle.std.specs.Prelude.{◌++◌, length, take, drop, map, replicate, slice_index, if◌then◌else◌}
use Rattle.std.specs.List.{list_all, range_with_len}
use Rattle.hda_registers.specs.Fields.{is_running, list_address}
use Rattle.world_rings.specs.Memory.{stored}
use Rattle.world_streams.specs.Lists.{is_good, after_byte}
use Rattle.world_streams.specs.Streams.{StreamState, Stream, is_usable, with_ready, broke}
use Rattle.world_streams.specs.Output.{next_of, completes, gap_passed}

-- ---- the blocks of a sound

-- a block of so many bytes of silence
abbrev pub silent_block : (size : ℕ) → List ℕ
silent_block size = replicate size 0

-- the block of a sound with this number, counted from 0: silence where the sound has no such whole block
abbrev pub given_block : (size : ℕ) → (sound : List ℕ) → (place : ℕ) → List ℕ
given_block size sound place =
    if nat_le ((place + 1) * size) (length sound) then take size (drop (place * size) sound) else silent_block size

-- so many blocks of a sound, from this number on
abbrev pub given_blocks : (size : ℕ) → (sound : List ℕ) → (from count : ℕ) → List (List ℕ)
given_blocks size sound from count = map (given_block size sound) (range_with_len from count)

-- ---- blocks from the link

-- a FIFO of so many bytes, which so many left and these entered, has room for all of a block
abbrev pub fits_block : (fifo left : ℕ) → (entered block : List ℕ) → Bool
fits_block fifo left entered block = nat_le (length entered + length block) (left + fifo)

-- a block enters whole or not at all
abbrev pub entered_if : (fits : Bool) → (entered block : List ℕ) → List ℕ
entered_if fits entered block = if fits then entered ++ block else entered

-- what entered once these blocks came, one after another: each that fits then enters, and each other one is dropped
abbrev pub entered_after : (fifo left : ℕ) → (entered : List ℕ) → (blocks : List (List ℕ)) → List ℕ
entered_after fifo left entered [] = entered
entered_after fifo left entered (block ∷ blocks) =
    entered_after fifo left (entered_if (fits_block fifo left entered block) entered block) blocks

-- of each of them whether it was taken
abbrev pub marks_after : (fifo left : ℕ) → (entered : List ℕ) → (blocks : List (List ℕ)) → List Bool
marks_after fifo left entered [] = []
marks_after fifo left entered (block ∷ blocks) =
    fits_block fifo left entered block
    ∷ marks_after fifo left (entered_if (fits_block fifo left entered block) entered block) blocks

-- the bytes of the blocks that have a mark, one after another
abbrev pub kept_by_marks : List Bool → List (List ℕ) → List ℕ
kept_by_marks [] blocks = []
kept_by_marks (mark ∷ marks) [] = []
kept_by_marks (mark ∷ marks) (block ∷ blocks) = (if mark then block else []) ++ kept_by_marks marks blocks

-- the marks of blocks that come to the stream's FIFO of so many bytes
abbrev pub marks_of : (fifo : ℕ) → (blocks : List (List ℕ)) → Stream → List Bool
marks_of fifo blocks stream = marks_after fifo stream.state.left stream.state.entered blocks

-- the stream after a link frame that brought these blocks: LPIB (3.3.37) is the bytes that entered, modulo CBL; FIFOE
-- (3.3.36) where one was dropped
abbrev pub blocks_came : (fifo : ℕ) → (blocks : List (List ℕ)) → Stream → Stream
blocks_came fifo blocks stream =
    let entered = entered_after fifo stream.state.left stream.state.entered blocks in
    with_ready (record {
      descriptor = record stream.descriptor {
        link_position = length entered % stream.descriptor.buffer_length;
        fifo_error = if list_all (λ taken. taken) (marks_of fifo blocks stream) then stream.descriptor.fifo_error else
            1;
      };
      state = record stream.state { frame = stream.state.frame + 1; entered = entered };
    })

-- the stream, which runs and whose registers can be used, after a link frame that brought these blocks: where none came
-- the frame is counted and no register moves
abbrev pub frame_took : (fifo : ℕ) → (blocks : List (List ℕ)) → Stream → Stream
frame_took fifo [] stream = gap_passed stream
frame_took fifo (block ∷ blocks) stream = blocks_came fifo (block ∷ blocks) stream

-- what a link frame leaves: the stream, and of each block that came whether it was taken
pub record Intake : Type 0 where
  pub stream : Stream
  pub marks : List Bool

-- what a link frame does to an input stream to which these blocks would come: nothing where it does not run, and where
-- its registers can't be used it stops
abbrev pub frame_move : (fifo : ℕ) → (blocks : List (List ℕ)) → Stream → Intake
frame_move fifo blocks stream =
    if is_running stream.descriptor
    then (if is_usable stream.descriptor
    then record { stream = frame_took fifo blocks stream; marks = marks_of fifo blocks stream }
    else record { stream = broke stream; marks = [] })
    else record { stream = stream; marks = [] }

-- ---- bytes to memory

-- the FIFO holds a byte
abbrev pub holds_byte : StreamState → Bool
holds_byte state = nat_lt state.left (length state.entered)

-- the oldest byte that it holds
abbrev pub oldest_byte : StreamState → ℕ
oldest_byte state = slice_index state.entered state.left

-- where the next byte goes, by the list at an address
abbrev pub byte_place : (memory : List ℕ) → (base : ℕ) → StreamState → ℕ
byte_place memory base state = (next_of memory base state).address + state.list.fetched

-- the memory once the oldest byte is there
abbrev pub memory_with : (memory : List ℕ) → (base : ℕ) → StreamState → List ℕ
memory_with memory base state = stored memory (byte_place memory base state) (oldest_byte state ∷ [])

-- the state once it is, of a list that ends with an entry
abbrev pub without_byte : (memory : List ℕ) → (base last : ℕ) → StreamState → StreamState
without_byte memory base last state = record state {
  left = state.left + 1;
  list = after_byte last (next_of memory base state) state.list;
}

-- the stream once its oldest byte went, by the memory before; BCIS (3.3.36) where it was the last of a buffer with IOC
abbrev pub byte_stored : (memory : List ℕ) → Stream → Stream
byte_stored memory stream = with_ready (record {
  descriptor = record stream.descriptor {
    completion = if completes memory (list_address stream.descriptor) stream.state then 1 else
        stream.descriptor.completion;
  };
  state = without_byte memory (list_address stream.descriptor) stream.descriptor.last_index stream.state;
})

-- a stream with the memory into which it stores
pub record Storage : Type 0 where
  pub memory : List ℕ
  pub stream : Stream

-- both once the oldest byte went. The entry of its buffer is found before the byte is stored
abbrev pub stored_byte : Storage → Storage
stored_byte storage = record {
  memory = memory_with storage.memory (list_address storage.stream.descriptor) storage.stream.state;
  stream = byte_stored storage.memory storage.stream;
}

-- a running stream whose registers can be used stores one byte, where its FIFO holds one: a list entry that can't be
-- used stops it
abbrev pub stored_one : Storage → Storage
stored_one storage =
    if holds_byte storage.stream.state
    then (if is_good storage.memory
    (next_of storage.memory (list_address storage.stream.descriptor) storage.stream.state)
    then stored_byte storage else record storage { stream = broke storage.stream })
    else storage

-- one byte of a fetch of the stream, or what it does instead
abbrev pub store_move : Storage → Storage
store_move storage =
    if is_running storage.stream.descriptor
    then (if is_usable storage.stream.descriptor then stored_one storage
    else record storage { stream = broke storage.stream })
    else storage

-- a fetch of at most so many bytes
abbrev pub store : (most : ℕ) → Storage → Storage
store zero storage = storage
store (suc most) storage = store most (store_move storage)

-- ---- the same of a FIFO alone, whose stream runs and whose registers can be used

-- a FIFO that is emptied into memory
pub record Emptying : Type 0 where
  pub memory : List ℕ
  pub state : StreamState

-- its next byte goes, by the list at an address: it holds one, and the buffer can be used
abbrev pub can_go : (base : ℕ) → Emptying → Bool
can_go base held = holds_byte held.state && is_good held.memory (next_of held.memory base held.state)

-- and it went
abbrev pub byte_gone : (base last : ℕ) → Emptying → Emptying
byte_gone base last held = record {
  memory = memory_with held.memory base held.state;
  state = without_byte held.memory base last held.state;
}

abbrev pub next_gone : (base last : ℕ) → Emptying → Emptying
next_gone base last held = if can_go base held then byte_gone base last held else held

-- after so many bytes at most
abbrev pub bytes_went : (most : ℕ) → (base last : ℕ) → Emptying → Emptying
bytes_went zero base last held = held
bytes_went (suc most) base last held = bytes_went most base last (next_gone base last held)

-- some of them is the last of a buffer with IOC
abbrev pub some_fills : (most : ℕ) → (base last : ℕ) → Emptying → Bool
some_fills zero base last held = false
some_fills (suc most) base last held =
    (can_go base held && completes held.memory base held.state) || some_fills most base last (next_gone base last held)

-- they come to a list entry that can't be used
abbrev pub some_jams : (most : ℕ) → (base last : ℕ) → Emptying → Bool
some_jams zero base last held = false
some_jams (suc most) base last held =
    (holds_byte held.state && not (is_good held.memory (next_of held.memory base held.state)))
    || some_jams most base last (next_gone base last held)
