-- The format word of a stream or a converter: High Definition Audio 1.0a, 3.7.1. Bit 15 and bit 7 are 0.
use Rattle.std.specs.Prelude.{◌≡◌, ℕ, ◌+◌, ◌*◌, ◌-◌, ◌^◌}
use Rattle.stream_format.specs.declared.format.Rate.{Rate}
use Rattle.stream_format.specs.declared.format.Rate.TheVariants.{R8, R16, R44, R48, R96, R192}
use Rattle.stream_format.specs.declared.format.Bits.{Bits}
use Rattle.stream_format.specs.declared.format.Bits.TheVariants.{B16, B24, B32}
use Rattle.stream_format.specs.declared.format.Format.{Format}

-- a rate is a base rate, times a multiple, by a divisor
pub record RateCode : Type 0 where
  -- 0 for 48 kHz, 1 for 44.1 kHz
  pub base : ℕ
  pub multiple : ℕ
  pub divisor : ℕ

abbrev pub rate_code : Rate → RateCode
rate_code R8 = record { base = 0; multiple = 1; divisor = 6 }
rate_code R16 = record { base = 0; multiple = 1; divisor = 3 }
rate_code R44 = record { base = 1; multiple = 1; divisor = 1 }
rate_code R48 = record { base = 0; multiple = 1; divisor = 1 }
rate_code R96 = record { base = 0; multiple = 2; divisor = 1 }
rate_code R192 = record { base = 0; multiple = 4; divisor = 1 }

-- the code of a sample size
abbrev pub size_code : Bits → ℕ
size_code B16 = 1
size_code B24 = 3
size_code B32 = 4

-- bit 14 is the base rate, bits 13:11 the multiple less one, bits 10:8 the divisor less one
abbrev pub rate_bits : RateCode → ℕ
rate_bits code = 2 ^ 14 * code.base + 2 ^ 11 * (code.multiple - 1) + 2 ^ 8 * (code.divisor - 1)

-- below them, bits 6:4 are the sample size and bits 3:0 the channels less one
abbrev pub format_word : Format → ℕ
format_word format = rate_bits (rate_code format.rate) + 2 ^ 4 * size_code format.bits + (format.channels - 1)

-- no format has this word
abbrev pub HasNoFormat : ℕ → Type 0
HasNoFormat word = (format : Format) → format_word format ≡ word → ⊥
