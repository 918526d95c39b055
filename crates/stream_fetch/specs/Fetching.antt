-- What a FIFO that is filled from a list of buffers, or emptied into one, is seen as, and the state of a stream that it
-- stands for. High Definition Audio 1.0a, 3.6.2 and 4.5.
use Rattle.std.specs.Prelude.{◌≡◌, ◌≤◌, ℕ, List, length}
use Rattle.world_streams.specs.declared.buffers.ListPlace.{ListPlace}
use Rattle.world_streams.specs.Streams.{StreamState, held_bytes}

-- how many bytes it can hold, those that it holds, oldest first, and where it is in the list
pub record Fetching : Type 0 where
  pub capacity : ℕ
  pub bytes : List ℕ
  pub list : ListPlace

-- it holds the bytes that entered and did not leave, and is where the stream is
pub record StandsFor (fetch : Fetching) (state : StreamState) : Type 0 where
  pub bytes : fetch.bytes ≡ held_bytes state
  pub list : fetch.list ≡ state.list
  pub behind : state.left ≤ length state.entered
