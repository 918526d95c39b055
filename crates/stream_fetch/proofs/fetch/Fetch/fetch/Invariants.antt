use Rattle.std.proofs.Common.{◌≡◌, ◌≤◌, ◌+◌, ◌-◌, false, length, ℕ}
use Rattle.world_streams.specs.Streams.{StreamState}
use Rattle.stream_fetch.specs.Fetching.{StandsFor}
use Rattle.stream_fetch.proofs.Rest.{Left}
use Rattle.stream_fetch.proofs.fetch.Fetch.fetch.Given as goal

abbrev pub invariant-loop-fetched : goal.invariant-loop-fetched
invariant-loop-fetched l = record {
  rest : (left : ℕ) → l.fetched.bytes + left ≡ l.most → (start : StreamState) → StandsFor l.fn.self start
      → Left l.fn.self.capacity l.list.address l.list.last l.memory l.most left l.fetched.done l.self start;
  unbroken : l.fetched.broken ≡ false;
  count : length l.fn.self.bytes + l.fetched.bytes ≡ length l.self.bytes;
  few : l.fetched.bytes ≤ l.most;
  capacity : l.self.capacity ≡ l.fn.self.capacity;
}

abbrev pub decreases-loop-fetched : goal.decreases-loop-fetched
decreases-loop-fetched l = l.most - l.fetched.bytes
