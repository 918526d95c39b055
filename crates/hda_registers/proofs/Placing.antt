-- Where an access stands in its word, and what a write leaves of the parts of a word.
use Rattle.std.proofs.Common.{◌≡◌, ◌<◌, ◌+◌, ◌-◌, ◌*◌, ◌%◌, ◌^◌, ℕ, zero, suc, ap, ◌∙◌, arith, lit<}
use Rattle.std.specs.Prelude.{bit_and}
use Rattle.std.proofs.lemmas.Nat.{pow_pos, and_mask, and_block, mod_below}
use Rattle.std.proofs.Math.Nat.{mod-eq_of_lt}
use Rattle.hda_registers.specs.declared.shapes.Width.{Width}
use Rattle.hda_registers.specs.declared.shapes.Width.TheVariants.{One, Two, Four}
use Rattle.hda_registers.specs.Access.{bytes_of, covered_bits}

-- a value of the width fits into the word, at the place of the access
fits-byte : (r x : ℕ) → r < 4 → x < 2 ^ 8 → x * 2 ^ (8 * r) < 2 ^ 32
fits-byte zero x h k = omega arith
fits-byte (suc zero) x h k = omega arith
fits-byte (suc (suc zero)) x h k = omega arith
fits-byte (suc (suc (suc zero))) x h k = omega arith
fits-byte (suc (suc (suc (suc r)))) x h k = absurd (omega arith)

fits-two : (r x : ℕ) → r < 4 → r % 2 ≡ 0 → x < 2 ^ 16 → x * 2 ^ (8 * r) < 2 ^ 32
fits-two zero x h e k = omega arith
fits-two (suc zero) x h e k = absurd (omega arith)
fits-two (suc (suc zero)) x h e k = omega arith
fits-two (suc (suc (suc zero))) x h e k = absurd (omega arith)
fits-two (suc (suc (suc (suc r)))) x h e k = absurd (omega arith)

fits-four : (r x : ℕ) → r ≡ 0 → x < 2 ^ 32 → x * 2 ^ (8 * r) < 2 ^ 32
fits-four r x e k = rw e (omega arith)

pub fits : (w : Width) (at x : ℕ) → at % bytes_of w ≡ 0 → x < 2 ^ (8 * bytes_of w) → x * 2 ^ (8 * (at % 4)) < 2 ^ 32
fits One at x e k = fits-byte (at % 4) x (mod_below at 4 (lit< tt)) k
fits Two at x e k = fits-two (at % 4) x (mod_below at 4 (lit< tt)) (omega arith) k
fits Four at x e k = fits-four (at % 4) x e k

pub whole : (w : Width) (at x : ℕ) → at % bytes_of w ≡ 0 → x < 2 ^ (8 * bytes_of w) → x * 2 ^ (8 * (at % 4)) % 2 ^ 32 ≡ x * 2 ^ (8 * (at % 4))
whole w at x e k = mod-eq_of_lt (fits w at x e k)

-- all ones of the width, and a value of it
pub ones-lt : (w : Width) → 2 ^ (8 * bytes_of w) - 1 < 2 ^ (8 * bytes_of w)
ones-lt One = lit< tt
ones-lt Two = lit< tt
ones-lt Four = lit< tt

pub cut : (w : Width) (value : ℕ) → bit_and value (2 ^ (8 * bytes_of w) - 1) ≡ value % 2 ^ (8 * bytes_of w)
cut w value = and_mask value (8 * bytes_of w)

pub covered-whole : (w : Width) (at : ℕ) → at % bytes_of w ≡ 0 → (2 ^ (8 * bytes_of w) - 1) * 2 ^ (8 * (at % 4)) % 2 ^ 32 ≡ covered_bits at (bytes_of w)
covered-whole w at e = whole w at (2 ^ (8 * bytes_of w) - 1) e (ones-lt w)

pub written-whole : (w : Width) (at value : ℕ) → at % bytes_of w ≡ 0
    → bit_and value (2 ^ (8 * bytes_of w) - 1) * 2 ^ (8 * (at % 4)) % 2 ^ 32 ≡ value % 2 ^ (8 * bytes_of w) * 2 ^ (8 * (at % 4))
written-whole w at value e =
    rw (cut w value) (whole w at (value % 2 ^ (8 * bytes_of w)) e (mod_below value (2 ^ (8 * bytes_of w)) (pow_pos (8 * bytes_of w))))

-- what is written lies in what is covered
and-shifted : (x m s : ℕ) → bit_and (x * 2 ^ s) (m * 2 ^ s) ≡ bit_and x m * 2 ^ s
and-shifted x m s =
    let e : bit_and (x * 2 ^ s + 0) (m * 2 ^ s + 0) ≡ bit_and x m * 2 ^ s + bit_and 0 0 = and_block s x m 0 0 (pow_pos s) (pow_pos s) in
    let p : x * 2 ^ s + 0 ≡ x * 2 ^ s = omega arith in
    let q : m * 2 ^ s + 0 ≡ m * 2 ^ s = omega arith in
    let r : bit_and (x * 2 ^ s) (m * 2 ^ s) ≡ bit_and x m * 2 ^ s + 0 = rw (p, q) at e in
    r ∙ (omega arith)

pub written-inside : (w : Width) (at value : ℕ)
    → bit_and (value % 2 ^ (8 * bytes_of w) * 2 ^ (8 * (at % 4))) (covered_bits at (bytes_of w)) ≡ value % 2 ^ (8 * bytes_of w) * 2 ^ (8 * (at % 4))
written-inside w at value =
    let n = 8 * bytes_of w in
    let x = value % 2 ^ n in
    let small : x < 2 ^ n = mod_below value (2 ^ n) (pow_pos n) in
    let same : x % 2 ^ n ≡ x = mod-eq_of_lt small in
    let e : bit_and x (2 ^ n - 1) ≡ x = and_mask x n ∙ same in
    and-shifted x (2 ^ n - 1) (8 * (at % 4)) ∙ ap (λ z. z * 2 ^ (8 * (at % 4))) e
