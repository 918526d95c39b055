-- The word of a format is read as that format.
use Rattle.std.proofs.Common.{◌≡◌, ℕ, zero, suc, ◌+◌, ◌-◌, ◌*◌, ◌%◌, ◌^◌, ◌≤◌, Some, refl, arith}
use Rattle.stream_format.specs.declared.format.Rate.{Rate}
use Rattle.stream_format.specs.declared.format.Rate.TheVariants.{R8, R16, R44, R48, R96, R192}
use Rattle.stream_format.specs.declared.format.Bits.{Bits}
use Rattle.stream_format.specs.declared.format.Bits.TheVariants.{B16, B24, B32}
use Rattle.stream_format.specs.Words.{rate_bits, rate_code, size_code}
use Rattle.stream_format.specs.Layouts.{layout_of}
use Rattle.stream_format.specs.Laws.{AreReadBack}

-- what holds at two, four, six and eight channels holds of every format's channels
at_count : (P : ℕ → Type 0) → P 2 → P 4 → P 6 → P 8 → (channels : ℕ) → channels % 2 ≡ 0 → 2 ≤ channels → channels ≤ 8 → P channels
at_count P two four six eight zero even some few = absurd (omega (arith, some))
at_count P two four six eight (suc zero) even some few = absurd (omega (arith, some))
at_count P two four six eight (suc (suc zero)) even some few = two
at_count P two four six eight (suc (suc (suc zero))) even some few = absurd (omega (arith, even))
at_count P two four six eight (suc (suc (suc (suc zero)))) even some few = four
at_count P two four six eight (suc (suc (suc (suc (suc zero))))) even some few = absurd (omega (arith, even))
at_count P two four six eight (suc (suc (suc (suc (suc (suc zero)))))) even some few = six
at_count P two four six eight (suc (suc (suc (suc (suc (suc (suc zero))))))) even some few = absurd (omega (arith, even))
at_count P two four six eight (suc (suc (suc (suc (suc (suc (suc (suc zero)))))))) even some few = eight
at_count P two four six eight (suc (suc (suc (suc (suc (suc (suc (suc (suc n))))))))) even some few = absurd (omega (arith, few))

IsRead : Rate → Bits → ℕ → Type 0
IsRead rate bits channels =
    layout_of (rate_bits (rate_code rate) + 2 ^ 4 * size_code bits + (channels - 1)) ≡ Some (record { rate = rate; bits = bits; channels = channels })

is_read : (rate : Rate) (bits : Bits) (channels : ℕ) → channels % 2 ≡ 0 → 2 ≤ channels → channels ≤ 8 → IsRead rate bits channels
unfolding IsRead layout_of
is_read R8 B16 = at_count (IsRead R8 B16) refl refl refl refl
is_read R8 B24 = at_count (IsRead R8 B24) refl refl refl refl
is_read R8 B32 = at_count (IsRead R8 B32) refl refl refl refl
is_read R16 B16 = at_count (IsRead R16 B16) refl refl refl refl
is_read R16 B24 = at_count (IsRead R16 B24) refl refl refl refl
is_read R16 B32 = at_count (IsRead R16 B32) refl refl refl refl
is_read R44 B16 = at_count (IsRead R44 B16) refl refl refl refl
is_read R44 B24 = at_count (IsRead R44 B24) refl refl refl refl
is_read R44 B32 = at_count (IsRead R44 B32) refl refl refl refl
is_read R48 B16 = at_count (IsRead R48 B16) refl refl refl refl
is_read R48 B24 = at_count (IsRead R48 B24) refl refl refl refl
is_read R48 B32 = at_count (IsRead R48 B32) refl refl refl refl
is_read R96 B16 = at_count (IsRead R96 B16) refl refl refl refl
is_read R96 B24 = at_count (IsRead R96 B24) refl refl refl refl
is_read R96 B32 = at_count (IsRead R96 B32) refl refl refl refl
is_read R192 B16 = at_count (IsRead R192 B16) refl refl refl refl
is_read R192 B24 = at_count (IsRead R192 B24) refl refl refl refl
is_read R192 B32 = at_count (IsRead R192 B32) refl refl refl refl

pub read_back : AreReadBack
unfolding IsRead
read_back format = is_read format.rate format.bits format.channels format.even format.some format.few
