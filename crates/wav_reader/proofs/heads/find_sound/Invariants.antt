use Rattle.std.proofs.Common.{◌≡◌, ◌-◌, length}
use Rattle.wav_reader.specs.Heads.{head_in}
use Rattle.wav_reader.proofs.HeadLemmas.{head_after}
use Rattle.wav_reader.proofs.heads.find_sound.Given as goal

abbrev pub invariant-loop-at : goal.invariant-loop-at
invariant-loop-at l = head_after l.bytes l.found l.at ≡ head_in l.bytes

abbrev pub decreases-loop-at : goal.decreases-loop-at
decreases-loop-at l = length l.bytes - l.at
