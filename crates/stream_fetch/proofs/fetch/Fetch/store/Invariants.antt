use Rattle.std.proofs.Common.{◌≡◌, ◌≤◌, ◌+◌, ◌-◌, false, length, ℕ}
use Rattle.world_streams.specs.Streams.{StreamState}
use Rattle.stream_fetch.specs.Fetching.{StandsFor}
use Rattle.stream_fetch.proofs.Remaining.{Remains}
use Rattle.stream_fetch.proofs.fetch.Fetch.store.Given as goal

abbrev pub invariant-loop-stored : goal.invariant-loop-stored
invariant-loop-stored l = record {
  rest : (left : ℕ) → l.stored.bytes + left ≡ l.most → (start : StreamState) → StandsFor l.fn.self start
      → Remains l.list.address l.list.last l.most left l.stored.done l.self l.memory (record { memory = l.fn.memory; state = start });
  unbroken : l.stored.broken ≡ false;
  count : length l.self.bytes + l.stored.bytes ≡ length l.fn.self.bytes;
  few : l.stored.bytes ≤ l.most;
  capacity : l.self.capacity ≡ l.fn.self.capacity;
  size : length l.memory ≡ length l.fn.memory;
}

abbrev pub decreases-loop-stored : goal.decreases-loop-stored
decreases-loop-stored l = l.most - l.stored.bytes
