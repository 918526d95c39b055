-- What every place in a list of buffers keeps.
use Rattle.std.specs.Prelude.{◌<◌, ◌≤◌, ◌^◌, ℕ, length}
use Rattle.circular_buffer.specs.Buffer.{Buffer as Fifo}
use Rattle.world_streams.specs.declared.buffers.ListPlace.{ListPlace}
use Rattle.world_streams.specs.Lists.{IsInUse}

-- a FIFO holds what it can, at most 65,535 bytes
pub record IsKept (fifo : Fifo ℕ) (place : ListPlace) : Type 0 where
  pub small : fifo.capacity < 2 ^ 16
  pub fits : length fifo.items ≤ fifo.capacity
  pub in_use : IsInUse place
