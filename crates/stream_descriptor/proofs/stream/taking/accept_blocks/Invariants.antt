use Rattle.std.proofs.Common.{◌≡◌}
use Rattle.stream_descriptor.proofs.Accepting.{Accepted}
use Rattle.stream_descriptor.proofs.stream.taking.accept_blocks.Given as goal

abbrev pub invariant-loop-place : goal.invariant-loop-place
invariant-loop-place l = record {
  accepted : Accepted l.blocks.size l.sound l.blocks.from l.blocks.count l.fn.fetch.capacity l.fn.fetch.bytes l.fetch.bytes l.place;
  kept : l.fetch ≡ record l.fn.fetch { bytes = l.fetch.bytes };
}
