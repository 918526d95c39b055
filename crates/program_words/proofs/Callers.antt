-- What proofs of the layers above cite: rates and sample sizes of the same number are one, and words behind `play` or
-- `walk` ask for no made run, and for none where there are none.
pub use Rattle.program_words.proofs.RunLemmas.{nothing_asked, run_is_no_make}
use Rattle.std.proofs.Common.{◌≡◌, ◌∙◌, ℕ, refl, sym, ap}
use Rattle.std.specs.Prelude.{◌==◌, if◌then◌else◌}
use Rattle.stream_format.specs.declared.format.Rate.{Rate}
use Rattle.stream_format.specs.declared.format.Rate.TheVariants.{R8, R16, R44, R48, R96, R192}
use Rattle.stream_format.specs.declared.format.Bits.{Bits}
use Rattle.stream_format.specs.declared.format.Bits.TheVariants.{B16, B24, B32}
use Rattle.stream_format.specs.Cadence.{hertz}
use Rattle.program_words.specs.Asked.{bits_of}

-- a rate by its blocks in a second, and a sample size by its bits
abbrev rate_with : ℕ → Rate
rate_with n = if n == 8000 then R8 else (if n == 16000 then R16 else (if n == 44100 then R44 else (if n == 48000 then R48 else (if n == 96000 then R96 else R192))))

abbrev bits_with : ℕ → Bits
bits_with n = if n == 16 then B16 else (if n == 24 then B24 else B32)

rate_again : (rate : Rate) → rate_with (hertz rate) ≡ rate
rate_again R8 = refl
rate_again R16 = refl
rate_again R44 = refl
rate_again R48 = refl
rate_again R96 = refl
rate_again R192 = refl

bits_again : (bits : Bits) → bits_with (bits_of bits) ≡ bits
bits_again B16 = refl
bits_again B24 = refl
bits_again B32 = refl

-- two rates with the same blocks in a second are one
pub hertz-same : (a b : Rate) → hertz a ≡ hertz b → a ≡ b
hertz-same a b e = sym (rate_again a) ∙ (ap rate_with e ∙ rate_again b)

-- two sample sizes of the same bits are one
pub bits_of-same : (a b : Bits) → bits_of a ≡ bits_of b → a ≡ b
bits_of-same a b e = sym (bits_again a) ∙ (ap bits_with e ∙ bits_again b)
