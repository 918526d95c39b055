-- What an input stream in code stands for, and what its calls do over any registers. High Definition Audio 1.0a, 3.3.35
-- to 3.3.42. The mirror of `Frames` and `Fetches`.
use Rattle.std.specs.Prelude.{◌≡◌, ℕ, ◌+◌, ◌-◌, ◌%◌, ◌&&◌, Bool, true, false, nat_lt, nat_le, List, [], length}
use Rattle.std.specs.Prelude.{replicate}
use Rattle.std.specs.Prelude.{Option, Some, None, if◌then◌else◌, ◌++◌}
use Rattle.std.specs.List.{list_all}
use Rattle.hda_registers.specs.Fields.{Descriptor, Fields, is_out_of_reset, is_running, list_address, stream_of}
use Rattle.hda_registers.specs.Status.{worth}
use Rattle.stream_format.specs.Cadence.{blocks_of, bytes_of_block}
use Rattle.stream_format.specs.Layouts.{Layout, layout_of}
use Rattle.world_streams.specs.Streams.{StreamState, Stream, is_usable, most_by}
use Rattle.world_streams.specs.Input.{Emptying, Intake, Storage, given_blocks, entered_after, marks_after, frame_move}
use Rattle.world_streams.specs.Input.{store, bytes_went, some_fills, some_jams}
use Rattle.stream_fetch.specs.Fetching as fetching
use Rattle.stream_descriptor.specs.Running.{Playing, StandsForBy, LeadsToBy, taken_bytes, stream_at, with_descriptor}
use Rattle.stream_descriptor.specs.Running.{frame_cycle}
use Rattle.stream_descriptor.specs.Fetches.{Broke, Came}
use Rattle.stream_descriptor.specs.declared.arrived.SoundBlocks.{SoundBlocks}
use Rattle.stream_descriptor.specs.declared.arrived.Arrived.{Arrived}

-- ---- blocks

-- the bytes of some blocks of a sound
abbrev pub blocks_in : (sound : List ℕ) → SoundBlocks → List (List ℕ)
blocks_in sound blocks = given_blocks blocks.size sound blocks.from blocks.count

-- the blocks that are due in a link frame of this number, the first of which has a number in the sound: none where the
-- format word has no meaning
abbrev pub due_in : Option Layout → (from frame : ℕ) → SoundBlocks
due_in None from frame = record { from = from; size = 0; count = 0 }
due_in (Some layout) from frame = record {
  from = from;
  size = bytes_of_block layout.channels layout.bits;
  count = blocks_of layout.rate frame;
}

-- of each block that came whether it was taken
abbrev pub marks_in : Arrived → List Bool
marks_in arrived = replicate arrived.taken true ++ replicate arrived.dropped false

-- no block came
abbrev pub none_arrived : Arrived
none_arrived = record { taken = 0; dropped = 0 }

-- ---- what it stands for

abbrev pub TakesFor : Playing → Fields → StreamState → Type 0
TakesFor = StandsForBy taken_bytes

abbrev pub TakesTo : Playing → (old new : Fields) → Stream → Type 0
TakesTo = LeadsToBy taken_bytes

-- ---- what its calls lead to, nothing while CRST is 0

abbrev pub framed_at : (index : ℕ) → (blocks : List (List ℕ)) → Fields → StreamState → Intake
framed_at index blocks fields state =
    if is_out_of_reset fields.global then frame_move fields.shape.fifo blocks (stream_at index fields state) else
    record { stream = stream_at index fields state; marks = [] }

abbrev pub stored_at : (index most : ℕ) → (memory : List ℕ) → Fields → StreamState → Storage
stored_at index most memory fields state =
    if is_out_of_reset fields.global
    then store most (record { memory = memory; stream = stream_at index fields state })
    else record { memory = memory; stream = stream_at index fields state }

-- ---- what a link frame does over any registers

-- a descriptor after blocks came, of which so many bytes were taken, so that the FIFO holds so many: LPIB (3.3.37) is
-- that much further, modulo CBL, and FIFOE (3.3.36) is set where not all were taken
abbrev pub took_to : (taken held : ℕ) → (all_taken : Bool) → Descriptor → Descriptor
took_to taken held all_taken descriptor = record descriptor {
  link_position = (descriptor.link_position + taken) % descriptor.buffer_length;
  fifo_ready = worth (nat_le (most_by (layout_of descriptor.format)) held) 0;
  fifo_error = if all_taken then descriptor.fifo_error else 1;
}

-- the frame is counted
abbrev pub frame_counted : Playing → Playing
frame_counted playing = record playing { frame = (playing.frame + 1) % frame_cycle }

-- the FIFO took the blocks for which it had room, one after another
abbrev pub blocks_taken : (blocks : List (List ℕ)) → Playing → Playing
blocks_taken blocks playing = record (frame_counted playing) {
  fetch = record playing.fetch { bytes = entered_after playing.fetch.capacity 0 playing.fetch.bytes blocks };
}

-- the marks of these blocks
abbrev pub marks_at : (blocks : List (List ℕ)) → Playing → List Bool
marks_at blocks playing = marks_after playing.fetch.capacity 0 playing.fetch.bytes blocks

-- some blocks came
pub record Took (blocks : List (List ℕ)) (playing : Playing) (old : Fields) (after : Playing) (new : Fields)
    (arrived : Arrived) : Type 0 where
  pub marks : marks_in arrived ≡ marks_at blocks playing
  pub taken : after ≡ blocks_taken blocks playing
  pub registers : new ≡ with_descriptor playing.index (took_to
      (length (blocks_taken blocks playing).fetch.bytes - length playing.fetch.bytes)
      (length (blocks_taken blocks playing).fetch.bytes) (list_all (λ taken. taken) (marks_at blocks playing))
      (stream_of old playing.index)) old

-- a stream that runs, whose registers can be used, let a link frame pass
pub record WasPassed (blocks : List (List ℕ)) (playing : Playing) (old : Fields) (after : Playing) (new : Fields)
    (arrived : Arrived) : Type 0 where
  pub gap : length blocks ≡ 0 → (after ≡ frame_counted playing) × (new ≡ old) × (arrived ≡ none_arrived)
  pub took : nat_lt 0 (length blocks) ≡ true → Took blocks playing old after new arrived

-- a link frame passed: nothing happened where the stream does not run, and where its registers can't be used it stopped
pub record WasFramed (blocks : List (List ℕ)) (playing : Playing) (old : Fields) (after : Playing) (new : Fields)
    (arrived : Arrived) : Type 0 where
  pub idle : (is_out_of_reset old.global && is_running (stream_of old playing.index)) ≡ false → (after ≡ playing)
      × (new ≡ old) × (arrived ≡ none_arrived)
  pub unusable : (is_out_of_reset old.global && is_running (stream_of old playing.index)) ≡ true
      → is_usable (stream_of old playing.index) ≡ false
      → Broke false playing old after new × (arrived ≡ none_arrived)
  pub passed : (is_out_of_reset old.global && is_running (stream_of old playing.index)) ≡ true
      → is_usable (stream_of old playing.index) ≡ true → WasPassed blocks playing old after new arrived

-- ---- what a store does over any registers

-- a FIFO in this state, with memory
abbrev pub held_with : (memory : List ℕ) → StreamState → Emptying
held_with memory state = record { memory = memory; state = state }

-- a stream that runs, whose registers can be used, stored at most so many bytes: whatever state its FIFO stands for
pub record WasEmptied (most : ℕ) (memory : List ℕ) (playing : Playing) (old : Fields) (after : Playing) (new : Fields)
    (now : List ℕ) : Type 0 where
  pub went : (state : StreamState) → fetching.StandsFor playing.fetch state
      → some_jams most (list_address (stream_of old playing.index)) (stream_of old playing.index).last_index
      (held_with memory state) ≡ false
      → Came (some_fills most (list_address (stream_of old playing.index)) (stream_of old playing.index).last_index
      (held_with memory state))
      (bytes_went most (list_address (stream_of old playing.index)) (stream_of old playing.index).last_index
      (held_with memory state)).state playing old after new
  pub jammed : (state : StreamState) → fetching.StandsFor playing.fetch state
      → some_jams most (list_address (stream_of old playing.index)) (stream_of old playing.index).last_index
      (held_with memory state) ≡ true
      → Broke (some_fills most (list_address (stream_of old playing.index)) (stream_of old playing.index).last_index
      (held_with memory state)) playing old after new
  pub stored : (state : StreamState) → fetching.StandsFor playing.fetch state
      → now ≡ (bytes_went most (list_address (stream_of old playing.index)) (stream_of old playing.index).last_index
      (held_with memory state)).memory

-- a store of at most so many bytes: nothing happened where none is asked for or the stream does not run, and where its
-- registers can't be used it stopped
pub record WasStored (most : ℕ) (memory : List ℕ) (playing : Playing) (old : Fields) (after : Playing) (new : Fields)
    (now : List ℕ) : Type 0 where
  pub none : most ≡ 0 → (after ≡ playing) × (new ≡ old) × (now ≡ memory)
  pub idle : (is_out_of_reset old.global && is_running (stream_of old playing.index)) ≡ false → (after ≡ playing)
      × (new ≡ old) × (now ≡ memory)
  pub unusable : nat_lt 0 most ≡ true → (is_out_of_reset old.global && is_running (stream_of old playing.index)) ≡ true
      → is_usable (stream_of old playing.index) ≡ false → Broke false playing old after new × (now ≡ memory)
  pub emptied : nat_lt 0 most ≡ true → (is_out_of_reset old.global && is_running (stream_of old playing.index)) ≡ true
      → is_usable (stream_of old playing.index) ≡ true → WasEmptied most memory playing old after new now
