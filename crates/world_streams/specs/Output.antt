-- The moves of an output stream: a byte is fetched from memory into the FIFO, and a link frame takes the blocks that
-- are due out of it. High Definition Audio 1.0a, 4.5 and 5.4. When a byte comes is the schedule's choice; that a frame
-- takes all due blocks or none is this project's own.
use Rattle.std.specs.Prelude.{ℕ, zero, suc, ◌==◌, ◌&&◌, ◌||◌, ◌+◌, ◌%◌, Bool, false, not, nat_lt, nat_le, List, [], ◌∷◌}
use Rattle.std.specs.Prelude.{◌++◌, length, take, if◌then◌else◌}
use Rattle.hda_registers.specs.Fields.{is_running, list_address}
use Rattle.world_streams.specs.declared.buffers.Buffer.{Buffer}
use Rattle.world_streams.specs.Lists.{next_buffer, is_good, byte_of, is_last_byte, after_byte}
use Rattle.world_streams.specs.Streams.{StreamState, Stream, held, held_bytes, due, is_usable, with_ready, broke}

-- ---- bytes from memory

-- the FIFO of so many bytes has room for one more
abbrev pub has_room : ℕ → StreamState → Bool
has_room fifo state = nat_lt (length state.entered) (state.left + fifo)

-- the buffer of the next byte, of the list at an address
abbrev pub next_of : List ℕ → ℕ → StreamState → Buffer
next_of memory base state = next_buffer memory base state.list

-- the next byte came, of a list that ends with an entry
abbrev pub with_byte : List ℕ → ℕ → ℕ → StreamState → StreamState
with_byte memory base last state = record state {
  entered = state.entered ++ byte_of memory (next_of memory base state) state.list.fetched ∷ [];
  list = after_byte last (next_of memory base state) state.list;
}

-- the next byte is the last of a buffer with IOC
abbrev pub completes : List ℕ → ℕ → StreamState → Bool
completes memory base state = is_last_byte (next_of memory base state) state.list &&
    (next_of memory base state).interrupts

-- a byte came; BCIS (3.3.36) where it was the last of a buffer with IOC
abbrev pub byte_came : List ℕ → Stream → Stream
byte_came memory stream = with_ready (record {
  descriptor = record stream.descriptor {
    completion = if completes memory (list_address stream.descriptor) stream.state then 1 else
        stream.descriptor.completion;
  };
  state = with_byte memory (list_address stream.descriptor) stream.descriptor.last_index stream.state;
})

-- a running stream whose registers can be used fetches one byte, where its FIFO has room: a list entry that can't be
-- used stops it
abbrev pub fetched_one : ℕ → List ℕ → Stream → Stream
fetched_one fifo memory stream =
    if has_room fifo stream.state
    then (if is_good memory (next_of memory (list_address stream.descriptor) stream.state) then byte_came memory stream
    else broke stream)
    else stream

-- one byte of a fetch of the stream, or what it does instead
abbrev pub fetch_move : ℕ → List ℕ → Stream → Stream
fetch_move fifo memory stream =
    if is_running stream.descriptor then (if is_usable stream.descriptor then fetched_one fifo memory stream else broke
    stream) else stream

-- n moves in a row
abbrev pub moves : ℕ → (Stream → Stream) → Stream → Stream
moves zero move stream = stream
moves (suc n) move stream = moves n move (move stream)

-- a fetch of at most so many bytes
abbrev pub fetch : ℕ → ℕ → List ℕ → Stream → Stream
fetch most fifo memory stream = moves most (fetch_move fifo memory) stream

-- the same of a FIFO alone, whose stream runs and whose registers can be used: its next byte comes where there is room
-- and the buffer can be used
abbrev pub can_come : ℕ → List ℕ → ℕ → StreamState → Bool
can_come fifo memory base state = has_room fifo state && is_good memory (next_of memory base state)

abbrev pub next_byte : ℕ → List ℕ → ℕ → ℕ → StreamState → StreamState
next_byte fifo memory base last state = if can_come fifo memory base state then with_byte memory base last state else
    state

-- the state after so many bytes at most
abbrev pub bytes_came : ℕ → ℕ → List ℕ → ℕ → ℕ → StreamState → StreamState
bytes_came zero fifo memory base last state = state
bytes_came (suc n) fifo memory base last state = bytes_came n fifo memory base last
    (next_byte fifo memory base last state)

-- some of them is the last of a buffer with IOC
abbrev pub some_completes : ℕ → ℕ → List ℕ → ℕ → ℕ → StreamState → Bool
some_completes zero fifo memory base last state = false
some_completes (suc n) fifo memory base last state =
    (can_come fifo memory base state && completes memory base state) || some_completes n fifo memory base last
    (next_byte fifo memory base last state)

-- they come to a list entry that can't be used
abbrev pub some_breaks : ℕ → ℕ → List ℕ → ℕ → ℕ → StreamState → Bool
some_breaks zero fifo memory base last state = false
some_breaks (suc n) fifo memory base last state =
    (has_room fifo state && not (is_good memory (next_of memory base state)))
    || some_breaks n fifo memory base last (next_byte fifo memory base last state)

-- ---- link frames

-- what a link frame finds at an output stream
pub data Frame : Type 0 where
  -- it does not run
  Stopped : Frame
  -- its registers can't be used
  Broken : Frame
  -- no block is due
  Gap : Frame
  -- the FIFO holds the bytes that are due
  Blocks : Frame
  -- it holds fewer
  Hole : Frame

abbrev pub frame_of : Stream → Frame
frame_of stream =
    if is_running stream.descriptor
    then (if is_usable stream.descriptor then
    (if due stream == 0 then Gap else (if nat_le (due stream) (held stream.state) then Blocks else Hole)) else Broken)
    else Stopped

-- the blocks that are due leave the FIFO; LPIB (3.3.37) is the bytes that left, modulo CBL
abbrev pub blocks_left : Stream → Stream
blocks_left stream = with_ready (record {
  descriptor = record stream.descriptor
      { link_position = (stream.state.left + due stream) % stream.descriptor.buffer_length };
  state = record stream.state { frame = stream.state.frame + 1; left = stream.state.left + due stream };
})

-- the frame has no block of the stream; FIFOE (3.3.36) where one was due
abbrev pub gap_passed : Stream → Stream
gap_passed stream = record stream { state = record stream.state { frame = stream.state.frame + 1 } }

abbrev pub hole_passed : Stream → Stream
hole_passed stream = record {
  descriptor = record stream.descriptor { fifo_error = 1 };
  state = record stream.state { frame = stream.state.frame + 1 };
}

-- a stream after a link frame that found this
abbrev pub after_frame : Frame → Stream → Stream
after_frame Stopped stream = stream
after_frame Broken stream = broke stream
after_frame Gap stream = gap_passed stream
after_frame Blocks stream = blocks_left stream
after_frame Hole stream = hole_passed stream

-- what a link frame carried of a running stream: bytes, none where no block was due, or nothing where they were missing
pub data Carriage : Type 0 where
  Sent : (bytes : List ℕ) → Carriage
  Missed : Carriage

abbrev pub carried_by : Frame → Stream → List Carriage
carried_by Stopped stream = []
carried_by Broken stream = []
carried_by Gap stream = Sent [] ∷ []
carried_by Blocks stream = Sent (take (due stream) (held_bytes stream.state)) ∷ []
carried_by Hole stream = Missed ∷ []
