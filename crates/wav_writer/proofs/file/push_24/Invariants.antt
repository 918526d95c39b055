use Rattle.std.proofs.Common.{◌≡◌, ◌++◌}
use Rattle.std.specs.List.{flat_map}
use Rattle.stream_format.specs.declared.format.Bits.TheVariants.{B24}
use Rattle.wav_reader.specs.Wavs.{pieces_of}
use Rattle.wav_reader.specs.Written.{file_sample}
use Rattle.wav_writer.proofs.file.push_24.Given as goal

abbrev pub invariant-loop-number : goal.invariant-loop-number
invariant-loop-number l =
    l.file.items ≡ l.initial.file.items ++ flat_map (file_sample B24) (pieces_of 4 l.ring l.number)
