-- The text of what a pin heard, by its stretches and the bytes of its sound. What private functions promise one
-- another; this project's own.
use Rattle.std.specs.Prelude.{ℕ, ◌+◌, ◌-◌, ◌*◌, ◌/◌, List, [], ◌∷◌, ◌++◌, length, map, take, drop, codes}
use Rattle.std.specs.List.{flat_map, range_with_len}
use Rattle.std.specs.Fork.{slice_chunk}
use Rattle.hex.specs.Hex.{encode_lower}
use Rattle.stream_format.specs.declared.format.Bits.{Bits}
use Rattle.stream_format.specs.Cadence.{container_bytes}
use Rattle.heard_lists.specs.declared.stretches.Kind.{Kind}
use Rattle.heard_lists.specs.declared.stretches.Kind.TheVariants as kind
use Rattle.heard_lists.specs.declared.stretches.Stretch.{Stretch}
use Rattle.sound_report.specs.PlanLines.{newline}
use Rattle.sound_report.specs.PinParts.{count_line, line_blocks}

-- how many bytes the two samples of a block have
abbrev pub block_len : Bits → ℕ
block_len bits = 2 * container_bytes bits

-- and those of the blocks of a line
abbrev pub line_len : Bits → ℕ
line_len bits = line_blocks * block_len bits

-- a line of sound with these samples
abbrev pub samples_line : List ℕ → List ℕ
samples_line samples = codes "sound " ++ encode_lower samples ++ newline

-- the samples of the lines of some sound
abbrev pub lines_of : ℕ → List ℕ → List (List ℕ)
lines_of len samples = map (slice_chunk samples len) (range_with_len 0 ((length samples + len - 1) / len))

-- sound with these samples in lines
abbrev pub samples_lines : Bits → List ℕ → List ℕ
samples_lines bits samples = flat_map samples_line (lines_of (line_len bits) samples)

-- how many bytes the samples of a stretch have
abbrev pub samples_len : Bits → Kind → ℕ → ℕ
samples_len bits kind.Sound items = items * block_len bits
samples_len bits kind.Quiet items = 0
samples_len bits kind.Hole items = 0
samples_len bits kind.Altered items = 0

-- the lines of a stretch with these samples
abbrev pub stretch_text : Bits → Kind → ℕ → List ℕ → List ℕ
stretch_text bits kind.Sound items samples = samples_lines bits samples
stretch_text bits kind.Quiet items samples = count_line (codes "quiet") items
stretch_text bits kind.Hole items samples = count_line (codes "hole") items
stretch_text bits kind.Altered items samples = count_line (codes "altered") items

-- the lines of stretches whose samples follow one another
abbrev pub stretches_text : Bits → List Stretch → List ℕ → List ℕ
stretches_text bits [] samples = []
stretches_text bits (stretch ∷ stretches) samples =
    stretch_text bits stretch.kind stretch.items (take (samples_len bits stretch.kind stretch.items) samples)
    ++ stretches_text bits stretches (drop (samples_len bits stretch.kind stretch.items) samples)
