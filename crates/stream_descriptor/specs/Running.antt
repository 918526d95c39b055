-- What the code of a stream is seen as, and the stream that it stands for: by what LPIB counts, that of an output
-- stream or of an input stream. High Definition Audio 1.0a, 3.3.35 to 3.3.42.
use Rattle.std.specs.Prelude.{◌≡◌, ℕ, ◌%◌, true, false, List, [], Some, length, if◌then◌else◌}
use Rattle.hda_registers.specs.Fields.{Descriptor, Fields, is_out_of_reset, is_running, stream_of}
use Rattle.hda_registers.specs.Moves.{at_stream}
use Rattle.hda_registers.specs.Status.{worth}
use Rattle.stream_format.specs.declared.format.Format.{Format}
use Rattle.stream_format.specs.Layouts.{layout, layout_of}
use Rattle.world_streams.specs.Streams.{SamePlay, StreamState, Stream, is_ready, is_usable}
use Rattle.world_streams.specs.Output.{fetch, Frame, Stopped, frame_of}
use Rattle.stream_fetch.specs.Fetching.{Fetching}
use Rattle.stream_fetch.specs.Fetching as fetching

-- after so many link frames every cadence is where it was
abbrev pub frame_cycle : ℕ
frame_cycle = 480

-- the descriptor that it has, its FIFO, and the link frames since RUN rose modulo the cycle
pub record Playing : Type 0 where
  pub index : ℕ
  pub fetch : Fetching
  pub frame : ℕ

-- the stream at a descriptor, with a state
abbrev pub stream_at : ℕ → Fields → StreamState → Stream
stream_at index fields state = record { descriptor = stream_of fields index; state = state }

-- the registers with another descriptor there
abbrev pub with_descriptor : ℕ → Descriptor → Fields → Fields
with_descriptor index descriptor fields = at_stream index (λ _. descriptor) fields

-- ---- what LPIB counts (3.3.37)

abbrev pub Counts : Type 0
Counts = StreamState → ℕ

-- of an output stream the bytes that left its FIFO
abbrev pub sent_bytes : Counts
sent_bytes state = state.left

-- of an input stream those that entered it
abbrev pub taken_bytes : Counts
taken_bytes state = length state.entered

-- ---- what the code stands for

-- while the stream runs: its FIFO holds what entered and did not leave, and the registers show where it is
pub record RunsBy (counts : Counts) (playing : Playing) (stream : Stream) : Type 0 where
  pub fetch : fetching.StandsFor playing.fetch stream.state
  pub frame : playing.frame ≡ stream.state.frame % frame_cycle
  pub position : stream.descriptor.link_position ≡ counts stream.state % stream.descriptor.buffer_length
  pub ready : stream.descriptor.fifo_ready ≡ worth (is_ready stream) 0

-- it stands for the stream of its descriptor in these registers, whose FIFO has as many bytes as its own
pub record StandsForBy (counts : Counts) (playing : Playing) (fields : Fields) (state : StreamState) : Type 0 where
  pub capacity : playing.fetch.capacity ≡ fields.shape.fifo
  pub stopped : is_running (stream_of fields playing.index) ≡ false → playing.fetch.bytes ≡ []
  pub running : is_running (stream_of fields playing.index) ≡ true
      → RunsBy counts playing (stream_at playing.index fields state)

-- the registers are the old ones with this stream's descriptor, and it stands for its state
pub record LeadsToBy (counts : Counts) (playing : Playing) (old new : Fields) (stream : Stream) : Type 0 where
  pub registers : new ≡ with_descriptor playing.index stream.descriptor old
  pub stands : StandsForBy counts playing new stream.state

-- the same of an output stream
abbrev pub Runs : Playing → Stream → Type 0
Runs = RunsBy sent_bytes

abbrev pub StandsFor : Playing → Fields → StreamState → Type 0
StandsFor = StandsForBy sent_bytes

abbrev pub LeadsTo : Playing → (old new : Fields) → Stream → Type 0
LeadsTo = LeadsToBy sent_bytes

-- a fetch of at most so many bytes, which does nothing while CRST is 0
abbrev pub fetched_at : ℕ → ℕ → List ℕ → Fields → StreamState → Stream
fetched_at index most memory fields state =
    if is_out_of_reset fields.global then fetch most fields.shape.fifo memory (stream_at index fields state) else
    stream_at index fields state

-- what a link frame finds, nothing while CRST is 0
abbrev pub found_at : ℕ → Fields → StreamState → Frame
found_at index fields state = if is_out_of_reset fields.global then frame_of (stream_at index fields state) else Stopped

-- the stream runs, its registers can be used, and they have this format
pub record CanPlay (fields : Fields) (index : ℕ) (format : Format) : Type 0 where
  pub out : is_out_of_reset fields.global ≡ true
  pub runs : is_running (stream_of fields index) ≡ true
  pub usable : is_usable (stream_of fields index) ≡ true
  pub format_is : layout_of (stream_of fields index).format ≡ Some (layout format)

-- it stood for the stream with this descriptor, before a write left the registers as they are now
pub record StoodForBy (counts : Counts) (playing : Playing) (fields : Fields) (old : Descriptor) (state : StreamState)
    : Type 0 where
  pub capacity : playing.fetch.capacity ≡ fields.shape.fifo
  pub stopped : is_running old ≡ false → playing.fetch.bytes ≡ []
  pub running : is_running old ≡ true → RunsBy counts playing (record { descriptor = old; state = state })
  pub plays : is_running old ≡ true → is_running (stream_of fields playing.index) ≡ true
      → SamePlay old (stream_of fields playing.index)

abbrev pub StoodFor : Playing → Fields → (old : Descriptor) → StreamState → Type 0
StoodFor = StoodForBy sent_bytes
