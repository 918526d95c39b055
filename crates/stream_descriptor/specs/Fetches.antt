-- What a fetch does over any registers, and what it may come to. High Definition Audio 1.0a, 3.3.35, 3.3.36 and 3.6.
use Rattle.std.specs.Prelude.{◌≡◌, ℕ, ◌&&◌, Bool, true, false, nat_lt, nat_le, List, [], length, if◌then◌else◌}
use Rattle.hda_registers.specs.Fields.{Descriptor, Fields, is_out_of_reset, is_running, list_address, stream_of}
use Rattle.hda_registers.specs.Status.{worth}
use Rattle.stream_format.specs.Layouts.{layout_of}
use Rattle.world_streams.specs.Streams.{StreamState, is_usable, most_by}
use Rattle.world_streams.specs.Output.{bytes_came, some_breaks, some_completes}
use Rattle.stream_fetch.specs.Fetching as fetching
use Rattle.stream_descriptor.specs.Running.{Playing, with_descriptor}

-- a descriptor after some bytes came, or went: BCIS where a buffer with IOC ended, and FIFORDY by what the FIFO holds
abbrev pub came_to : (done : Bool) → (held : ℕ) → Descriptor → Descriptor
came_to done held descriptor = record descriptor {
  completion = if done then 1 else descriptor.completion;
  fifo_ready = worth (nat_le (most_by (layout_of descriptor.format)) held) 0;
}

-- and where the list broke then, or the registers can't be used: DESE, and the stream stops
abbrev pub broke_at : (done : Bool) → Descriptor → Descriptor
broke_at done descriptor = record descriptor {
  completion = if done then 1 else descriptor.completion;
  descriptor_error = 1;
  run = 0;
  fifo_ready = 0;
}

-- it came to this: the FIFO is empty, and the registers are the old ones with that descriptor
pub record Broke (done : Bool) (playing : Playing) (old : Fields) (after : Playing) (new : Fields) : Type 0 where
  pub empty : after.fetch.bytes ≡ []
  pub registers : new ≡ with_descriptor playing.index (broke_at done (stream_of old playing.index)) old

-- or the FIFO stands for the state to which the bytes led
pub record Came (done : Bool) (came : StreamState) (playing : Playing) (old : Fields) (after : Playing) (new : Fields)
    : Type 0 where
  pub fetch : fetching.StandsFor after.fetch came
  pub frame : after.frame ≡ playing.frame
  pub registers : new ≡ with_descriptor playing.index
      (came_to done (length after.fetch.bytes) (stream_of old playing.index)) old

-- a stream that runs, whose registers can be used, fetched at most so many bytes: whatever state its FIFO stands for
pub record WasFilled (most : ℕ) (memory : List ℕ) (playing : Playing) (old : Fields) (after : Playing) (new : Fields)
    : Type 0 where
  pub came : (state : StreamState) → fetching.StandsFor playing.fetch state
      → some_breaks most playing.fetch.capacity memory (list_address (stream_of old playing.index))
      (stream_of old playing.index).last_index state ≡ false
      → Came (some_completes most playing.fetch.capacity memory (list_address (stream_of old playing.index))
      (stream_of old playing.index).last_index state)
      (bytes_came most playing.fetch.capacity memory (list_address (stream_of old playing.index))
      (stream_of old playing.index).last_index state) playing old after new
  pub broke : (state : StreamState) → fetching.StandsFor playing.fetch state
      → some_breaks most playing.fetch.capacity memory (list_address (stream_of old playing.index))
      (stream_of old playing.index).last_index state ≡ true
      → Broke (some_completes most playing.fetch.capacity memory (list_address (stream_of old playing.index))
      (stream_of old playing.index).last_index state)
      playing old after new

-- a fetch of at most so many bytes: nothing where none is asked for or the stream does not run, and where its registers
-- can't be used it stops
pub record WasFetched (most : ℕ) (memory : List ℕ) (playing : Playing) (old : Fields) (after : Playing) (new : Fields)
    : Type 0 where
  pub none : most ≡ 0 → (after ≡ playing) × (new ≡ old)
  pub idle : (is_out_of_reset old.global && is_running (stream_of old playing.index)) ≡ false → (after ≡ playing)
      × (new ≡ old)
  pub unusable : nat_lt 0 most ≡ true → (is_out_of_reset old.global && is_running (stream_of old playing.index)) ≡ true
      → is_usable (stream_of old playing.index) ≡ false → Broke false playing old after new
  pub filled : nat_lt 0 most ≡ true → (is_out_of_reset old.global && is_running (stream_of old playing.index)) ≡ true
      → is_usable (stream_of old playing.index) ≡ true → WasFilled most memory playing old after new
