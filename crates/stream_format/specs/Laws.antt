-- What holds of every format.
use Rattle.std.specs.Prelude.{◌≡◌, ◌≤◌, ℕ, ◌*◌, map, sum, Some}
use Rattle.std.specs.List.{range_with_len}
use Rattle.stream_format.specs.declared.format.Rate.{Rate}
use Rattle.stream_format.specs.declared.format.Rate.TheVariants.{R44}
use Rattle.stream_format.specs.declared.format.Format.{Format}
use Rattle.stream_format.specs.Words.{format_word}
use Rattle.stream_format.specs.Cadence.{blocks_of, block_bytes, most_bytes}
use Rattle.stream_format.specs.Layouts.{layout, layout_of}

-- a word is that of one format at most
abbrev pub HaveOneFormat : Type 0
HaveOneFormat = (one other : Format) → format_word one ≡ format_word other
    → (one.rate ≡ other.rate) × (one.bits ≡ other.bits) × (one.channels ≡ other.channels)

-- the word of a format says what the format says
abbrev pub AreReadBack : Type 0
AreReadBack = (format : Format) → layout_of (format_word format) ≡ Some (layout format)

-- no frame has more bytes than `most_bytes`
abbrev pub IsBoundedByMost : Type 0
IsBoundedByMost = (format : Format) (frame : ℕ) → blocks_of format.rate frame * block_bytes format ≤ most_bytes format

-- the blocks of so many frames from one on
abbrev pub blocks_in : Rate → ℕ → ℕ → ℕ
blocks_in rate from frames = sum (map (blocks_of rate) (range_with_len from frames))

-- at 44.1 kHz any 160 frames in a row have 147 blocks
abbrev pub Has147In160 : Type 0
Has147In160 = (from : ℕ) → blocks_in R44 from 160 ≡ 147
