use Rattle.std.proofs.Common.{◌≡◌, ◌++◌, length}
use Rattle.wav_reader.specs.Readers.{ring_part}
use Rattle.wav_reader.proofs.ring_parts.put_groups.Given as goal

-- What is held and what the ring gets for the rest are all that it gets.
abbrev pub invariant-loop-rest : goal.invariant-loop-rest
invariant-loop-rest l =
    record {
      put : l.held.items ++ ring_part l.mono l.bits l.rest ≡ l.initial.held.items ++ ring_part l.mono l.bits l.samples;
      capacity : l.held.capacity ≡ l.initial.held.capacity;
    }

abbrev pub decreases-loop-rest : goal.decreases-loop-rest
decreases-loop-rest l = length l.rest
