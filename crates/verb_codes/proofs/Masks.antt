-- The test of a bit by its mask.
use Rattle.std.proofs.Common.{◌≡◌, ◌<◌, ◌*◌, ◌^◌, ◌==◌, ℕ, zero, suc, ap, ◌∙◌, arith}
use Rattle.std.specs.Prelude.{bit_and}
use Rattle.std.proofs.lemmas.Nat.{pow_pos}
use Rattle.std.proofs.lemmas.Nat.Bits.{and_pow}
use Rattle.std.proofs.lemmas.Bool.{ne_eqb, eq-eqb}
use Rattle.verb_codes.specs.Words.{bits_of, has_bit}

bit-test : (p q : ℕ) → p < 2 → 0 < q → (p * q == q) ≡ (p == 1)
bit-test zero q h k = ne_eqb (zero * q) q (λ e. absurd (omega arith))
bit-test (suc zero) q h k = eq-eqb (suc zero * q) q (omega arith)
bit-test (suc (suc p)) q h k = absurd (omega arith)

pub contains_bit : (word at : ℕ) → (bit_and word (2 ^ at) == 2 ^ at) ≡ has_bit word at
contains_bit word at =
    let e : bit_and word (2 ^ at) ≡ bits_of word at 1 * 2 ^ at = and_pow word at in
    let small : bits_of word at 1 < 2 = omega arith in
    ap (λ z. z == 2 ^ at) e ∙ bit-test (bits_of word at 1) (2 ^ at) small (pow_pos at)
