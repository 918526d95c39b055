-- The samples of a block: signed numbers in two's complement, lowest byte first (High Definition Audio 1.0a, 4.5.1). A
-- container of a sample of 24 bits has it in its upper three bytes.
use Rattle.std.specs.Prelude.{ℕ, ℤ, ◌*◌, List, drop}
use Rattle.std.specs.Int.{cast_signed, w16, w32}
use Rattle.byteorder.specs.Endian.{little_number}
use Rattle.stream_format.specs.declared.format.Bits.{Bits}
use Rattle.stream_format.specs.declared.format.Bits.TheVariants.{B16, B24, B32}
use Rattle.stream_format.specs.declared.format.Format.{Format}
use Rattle.stream_format.specs.Cadence.{container_bytes}

-- the number in the container at the front of some bytes
abbrev pub container_number : Bits → List ℕ → ℤ
container_number B16 bytes = cast_signed w16 (little_number 2 bytes)
container_number B24 bytes = cast_signed w32 (little_number 4 bytes)
container_number B32 bytes = cast_signed w32 (little_number 4 bytes)

-- the number in a channel's container of a block
abbrev pub sample_of : Format → List ℕ → ℕ → ℤ
sample_of format block channel = container_number format.bits (drop (channel * container_bytes format.bits) block)
