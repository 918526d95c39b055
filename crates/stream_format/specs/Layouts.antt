-- What a format word says, for any word: the rate, the sample size and the channels, or that it is no format's. High
-- Definition Audio 1.0a, 3.7.1.
use Rattle.std.specs.Prelude.{ℕ, ◌==◌, ◌||◌, ◌+◌, ◌*◌, ◌/◌, ◌%◌, Bool, [], ◌∷◌, Option, Some, None, if◌then◌else◌}
use Rattle.std.specs.List.{find}
use Rattle.stream_format.specs.declared.format.Rate.{Rate}
use Rattle.stream_format.specs.declared.format.Rate.TheVariants.{R8, R16, R44, R48, R96, R192}
use Rattle.stream_format.specs.declared.format.Bits.{Bits}
use Rattle.stream_format.specs.declared.format.Bits.TheVariants.{B16, B24, B32}
use Rattle.stream_format.specs.declared.format.Format.{Format}
use Rattle.stream_format.specs.Words.{rate_bits, rate_code, size_code}
use Rattle.stream_format.specs.Cadence.{blocks_of, most_blocks, bytes_of_block}

-- what a format says, without the rule of its type
pub record Layout : Type 0 where
  pub rate : Rate
  pub bits : Bits
  pub channels : ℕ

abbrev pub layout : Format → Layout
layout format = record { rate = format.rate; bits = format.bits; channels = format.channels }

-- the rate that bits 15:8 name
abbrev pub rate_named : ℕ → Option Rate
rate_named upper = find (λ rate. rate_bits (rate_code rate) == 256 * upper) (R8 ∷ R16 ∷ R44 ∷ R48 ∷ R96 ∷ R192 ∷ [])

-- the sample size that bits 7:4 name
abbrev pub size_named : ℕ → Option Bits
size_named code = find (λ bits. size_code bits == code) (B16 ∷ B24 ∷ B32 ∷ [])

-- how many channels a format can have
abbrev pub is_channel_count : ℕ → Bool
is_channel_count channels = channels == 2 || channels == 4 || channels == 6 || channels == 8

abbrev pub with_channels : Rate → Bits → ℕ → Option Layout
with_channels rate bits channels = if is_channel_count channels then Some
    (record { rate = rate; bits = bits; channels = channels }) else None

abbrev pub with_size : Rate → Option Bits → ℕ → Option Layout
with_size rate None channels = None
with_size rate (Some bits) channels = with_channels rate bits channels

abbrev pub with_rate : Option Rate → Option Bits → ℕ → Option Layout
with_rate None bits channels = None
with_rate (Some rate) bits channels = with_size rate bits channels

-- what a word says: bits 3:0 are the channels less one
unfoldable pub layout_of : ℕ → Option Layout
layout_of word = with_rate (rate_named (word / 256)) (size_named (word / 16 % 16)) (word % 16 + 1)

-- the bytes due in a frame, and the most of a frame
abbrev pub frame_bytes : Layout → ℕ → ℕ
frame_bytes l frame = blocks_of l.rate frame * bytes_of_block l.channels l.bits

abbrev pub most_frame_bytes : Layout → ℕ
most_frame_bytes l = most_blocks l.rate * bytes_of_block l.channels l.bits
