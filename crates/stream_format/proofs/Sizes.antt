-- How wide format words are, and that blocks and frames are not empty.
use Rattle.std.proofs.Common.{◌≤◌, ◌<◌, ◌+◌, ◌-◌, ◌*◌, ◌^◌, ℕ, arith, lit≤, lit<}
use Rattle.std.proofs.lemmas.Nat.{mul-le}
use Rattle.stream_format.specs.declared.format.Format.{Format}
use Rattle.stream_format.specs.declared.format.Rate.{Rate}
use Rattle.stream_format.specs.declared.format.Rate.TheVariants.{R8, R16, R44, R48, R96, R192}
use Rattle.stream_format.specs.declared.format.Bits.{Bits}
use Rattle.stream_format.specs.declared.format.Bits.TheVariants.{B16, B24, B32}
use Rattle.stream_format.specs.Cadence.{block_bytes, container_bytes, most_blocks, most_bytes}
use Rattle.stream_format.specs.Words.{format_word, rate_bits, rate_code, size_code}

rate_small : (rate : Rate) → rate_bits (rate_code rate) < 2 ^ 15
rate_small R8 = lit< tt
rate_small R16 = lit< tt
rate_small R44 = lit< tt
rate_small R48 = lit< tt
rate_small R96 = lit< tt
rate_small R192 = lit< tt

size_small : (bits : Bits) → size_code bits ≤ 4
size_small B16 = lit≤ tt
size_small B24 = lit≤ tt
size_small B32 = lit≤ tt

-- a format word has 16 bits
pub word_small : (format : Format) → format_word format < 2 ^ 16
word_small format = by_numbers (rate_bits (rate_code format.rate)) (size_code format.bits) format.channels (rate_small format.rate) (size_small format.bits) format.few
  where
    by_numbers : (rate size channels : ℕ) → rate < 2 ^ 15 → size ≤ 4 → channels ≤ 8 → rate + 2 ^ 4 * size + (channels - 1) < 2 ^ 16
    by_numbers rate size channels a b c = omega (arith, a, b, c)

some_container : (bits : Bits) → 1 ≤ container_bytes bits
some_container B16 = lit≤ tt
some_container B24 = lit≤ tt
some_container B32 = lit≤ tt

-- a block has a byte
pub some_block : (format : Format) → 1 ≤ block_bytes format
some_block format = let wide = mul-le 2 1 format.channels (container_bytes format.bits) format.some (some_container format.bits) in omega (arith, wide)

some_rate : (rate : Rate) → 1 ≤ most_blocks rate
some_rate R8 = lit≤ tt
some_rate R16 = lit≤ tt
some_rate R44 = lit≤ tt
some_rate R48 = lit≤ tt
some_rate R96 = lit≤ tt
some_rate R192 = lit≤ tt

-- and so has the longest frame
pub some_most : (format : Format) → 1 ≤ most_bytes format
some_most format = let wide = mul-le 1 1 (most_blocks format.rate) (block_bytes format) (some_rate format.rate) (some_block format) in omega (arith, wide)
