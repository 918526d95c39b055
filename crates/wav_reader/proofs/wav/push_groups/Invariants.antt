use Rattle.std.proofs.Common.{◌≡◌, ◌++◌, length}
use Rattle.wav_reader.specs.Readers.{ring_part}
use Rattle.wav_reader.proofs.wav.push_groups.Given as goal

-- What was put and what the ring gets for the rest are all that it gets.
abbrev pub invariant-loop-rest : goal.invariant-loop-rest
invariant-loop-rest l = l.ring.items ++ ring_part l.mono l.bits l.rest ≡ l.initial.ring.items ++ ring_part l.mono l.bits l.samples

abbrev pub decreases-loop-rest : goal.decreases-loop-rest
decreases-loop-rest l = length l.rest
