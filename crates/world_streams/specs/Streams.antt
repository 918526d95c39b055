-- The state of a stream beside its descriptor's registers: what went through its FIFO since RUN rose, and where it is
-- in its list of buffers. High Definition Audio 1.0a, 3.3.35 to 3.3.42 and 4.5. One record serves both directions: an
-- output stream's FIFO is filled from memory and emptied on the link, an input stream's the other way.
use Rattle.std.specs.Prelude.{◌≡◌, ℕ, ◌==◌, ◌&&◌, ◌||◌, ◌-◌, Bool, false, true, not, nat_le, List, [], length, drop}
use Rattle.std.specs.Prelude.{Option, Some, None, if◌then◌else◌}
use Rattle.hda_registers.specs.Fields.{Descriptor, is_running}
use Rattle.hda_registers.specs.Access.{rose, fell}
use Rattle.hda_registers.specs.Status.{worth}
use Rattle.stream_format.specs.Layouts.{Layout, layout_of, frame_bytes, most_frame_bytes}
use Rattle.world_streams.specs.declared.buffers.ListPlace.{ListPlace}
use Rattle.world_streams.specs.Lists.{list_start}

pub record StreamState : Type 0 where
  -- the link frames since RUN rose
  pub frame : ℕ
  -- all bytes that entered the FIFO since RUN rose, oldest first, and how many of them left it
  pub entered : List ℕ
  pub left : ℕ
  pub list : ListPlace

-- a stream: the registers of its descriptor, and its state
pub record Stream : Type 0 where
  pub descriptor : Descriptor
  pub state : StreamState

-- what RUN begins with
abbrev pub begun : StreamState
begun = record { frame = 0; entered = []; left = 0; list = list_start }

-- the bytes in the FIFO, and how many they are
abbrev pub held_bytes : StreamState → List ℕ
held_bytes state = drop state.left state.entered

abbrev pub held : StreamState → ℕ
held state = length state.entered - state.left

-- ---- the format

-- the bytes due in a frame and the most bytes of a frame, 0 where the word has no format
abbrev pub due_by : Option Layout → ℕ → ℕ
due_by None frame = 0
due_by (Some layout) frame = frame_bytes layout frame

abbrev pub most_by : Option Layout → ℕ
most_by None = 0
most_by (Some layout) = most_frame_bytes layout

abbrev pub is_format : Option Layout → Bool
is_format None = false
is_format (Some layout) = true

abbrev pub has_format : Descriptor → Bool
has_format descriptor = is_format (layout_of descriptor.format)

-- the bytes due in the next frame
abbrev pub due : Stream → ℕ
due stream = due_by (layout_of stream.descriptor.format) stream.state.frame

-- the stream can run: its format has a meaning, and neither CBL nor LVI is 0 (this project's own; 3.3.38 and 3.3.39 ask
-- for both)
abbrev pub is_usable : Descriptor → Bool
is_usable descriptor = has_format descriptor && not (descriptor.buffer_length == 0) && not (descriptor.last_index == 0)

-- ---- FIFORDY

-- FIFORDY (3.3.36): the stream runs, has a format, and its FIFO holds the most bytes of a frame
abbrev pub is_ready : Stream → Bool
is_ready stream =
    is_running stream.descriptor && has_format stream.descriptor && nat_le
    (most_by (layout_of stream.descriptor.format)) (held stream.state)

abbrev pub with_ready : Stream → Stream
with_ready stream = record stream { descriptor = record stream.descriptor { fifo_ready = worth (is_ready stream) 0 } }

-- ---- RUN

-- a descriptor after a write: where RUN rose LPIB begins at 0, and where it rose or fell the FIFO is empty
abbrev pub settled : (old new : Descriptor) → Descriptor
settled old new = record new {
  link_position = if rose old new then 0 else new.link_position;
  fifo_ready = if rose old new || fell old new then 0 else new.fifo_ready;
}

-- the state after a write: it begins anew where RUN rose, and is kept where RUN fell
abbrev pub settled_state : (old new : Descriptor) → StreamState → StreamState
settled_state old new state = if rose old new then begun else state

-- what a stream that goes on playing over a write shows stays
pub record SamePlay (old new : Descriptor) : Type 0 where
  pub position : new.link_position ≡ old.link_position
  pub length : new.buffer_length ≡ old.buffer_length
  pub format : new.format ≡ old.format
  pub ready : new.fifo_ready ≡ old.fifo_ready

-- ---- a fault of the list or the registers

-- DESE (3.3.36): the stream stops; that RUN falls with it is this project's own
abbrev pub broke : Stream → Stream
broke stream = record stream { descriptor = record stream.descriptor { descriptor_error = 1; run = 0; fifo_ready = 0 } }
