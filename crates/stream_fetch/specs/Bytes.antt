-- What the fetch of a run of bytes came to: bytes of one buffer, one after the other.
use Rattle.std.specs.Prelude.{◌≡◌, ◌==◌, ◌≤◌, ◌+◌, ◌++◌, true, false, ℕ, List, take, drop, Some, None, if◌then◌else◌}
use Rattle.world_streams.specs.declared.buffers.Buffer.{Buffer}
use Rattle.world_streams.specs.declared.buffers.ListPlace.{ListPlace}
use Rattle.world_streams.specs.Lists.{is_good, next_index}
use Rattle.world_streams.specs.Streams.{StreamState}
use Rattle.world_streams.specs.Output.{has_room, next_of, some_completes, some_breaks}
use Rattle.stream_fetch.specs.declared.fetch.Bytes.{Bytes}
use Rattle.stream_fetch.specs.declared.fetch.Bytes.TheVariants.{Full, Broken, Came}

-- the place in a list that ends with an entry, after so many bytes of a buffer that has as many left
abbrev pub after_bytes : ℕ → ℕ → Buffer → ListPlace → ListPlace
after_bytes count last buffer place =
    if place.fetched + count == buffer.bytes then record {
      index = next_index last place.index;
      buffer = None;
      fetched = 0;
    }
    else record { index = place.index; buffer = Some buffer; fetched = place.fetched + count }

-- they came
abbrev pub with_bytes : ℕ → List ℕ → ℕ → ℕ → StreamState → StreamState
with_bytes count memory base last state =
    let buffer = next_of memory base state in
    record state {
      entered = state.entered ++ take count (drop (buffer.address + state.list.fetched) memory);
      list = after_bytes count last buffer state.list;
    }

-- it says whether there was room, whether the buffer can be used, and whether the bytes end one with IOC
abbrev pub AreBytes : (fifo : ℕ) → (memory : List ℕ) → (base last : ℕ) → StreamState → Bytes → Type 0
AreBytes fifo memory base last state Full = has_room fifo state ≡ false
AreBytes fifo memory base last state Broken = (has_room fifo state ≡ true)
    × (is_good memory (next_of memory base state) ≡ false)
AreBytes fifo memory base last state (Came count ends) =
    (some_completes count fifo memory base last state ≡ ends) × (some_breaks count fifo memory base last state ≡ false)

-- how many bytes came
abbrev pub count_of : Bytes → ℕ
count_of Full = 0
count_of Broken = 0
count_of (Came count ends) = count

-- where some came, at most so many
abbrev pub AreAtMost : ℕ → Bytes → Type 0
AreAtMost most Full = Unit {0}
AreAtMost most Broken = Unit {0}
AreAtMost most (Came count ends) = (1 ≤ count) × (count ≤ most)
