use Rattle.std.proofs.Common.{◌≡◌, ◌*◌, ◌/◌, take}
use Rattle.wav_reader.specs.Readers.{slot_length, slots}
use Rattle.wav_reader.proofs.slots.groups_of.Given as goal

-- The first groups stand in their bytes.
abbrev pub invariant-loop-i : goal.invariant-loop-i
invariant-loop-i l = take (l.i * 16) l.part ≡ slots l.mono l.bits l.samples (l.i * (16 / slot_length l.mono l.bits))
