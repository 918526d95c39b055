-- What stands in a WAV file before its samples.
use Rattle.std.specs.Prelude.{ℕ, ◌+◌, ◌*◌, ◌/◌, List, ◌++◌, codes}
use Rattle.byteorder.specs.Endian.{little_bytes}
use Rattle.stream_format.specs.declared.format.Bits.{Bits}
use Rattle.stream_format.specs.declared.format.Format.{Format}
use Rattle.stream_format.specs.Cadence.{container_bytes}
use Rattle.wav_reader.specs.Formats.{sample_length}
use Rattle.wav_reader.specs.Written.{block_format}

-- the size of what follows, the chunk `fmt ` for blocks of this format, and the head of a chunk `data` of so many bytes
abbrev pub block_head : Format → ℕ → List ℕ
block_head format bytes =
    (codes "RIFF" ++ (little_bytes 4 (36 + bytes) ++ codes "WAVE"))
    ++ ((codes "fmt " ++ (little_bytes 4 16 ++ block_format format)) ++ (codes "data" ++ little_bytes 4 bytes))

-- how many bytes the samples of so many bytes of containers have
abbrev pub samples_length : Bits → ℕ → ℕ
samples_length bits ring = ring / container_bytes bits * sample_length bits
