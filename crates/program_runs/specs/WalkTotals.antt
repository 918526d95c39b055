-- How many commands the walks over a machine's codecs have. This project's own.
use Rattle.std.specs.Prelude.{ℕ, List, length, sum_by}
use Rattle.codec_walk.specs.Commands.{walk_commands}
use Rattle.hda_files.specs.declared.machine.CodecFile.{CodecFile}

abbrev pub walk_size : CodecFile → ℕ
walk_size codec = length (walk_commands codec.graph)

abbrev pub walk_total : List CodecFile → ℕ
walk_total codecs = sum_by walk_size codecs
