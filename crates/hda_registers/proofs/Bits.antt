-- Parts of words, bit by bit.
use Rattle.std.proofs.Common.{◌≡◌, ◌<◌, ◌-◌, ◌/◌, ◌%◌, ◌^◌, ℕ, ap, sym, ◌∙◌, arith, min}
use Rattle.std.specs.Prelude.{bit_and, bit_or, bit_xor}
use Rattle.std.specs.Int.{bit_at}
use Rattle.std.specs.Int.Bits.{xor_add_and}
use Rattle.std.proofs.lemmas.Nat.{pow_pos, and_mask, and_le_l, and_le_r, and_comm, or_comm, and-not, or_disjoint, mod_below, and_shr, and_mod, or_shr, or_mod, xor_shr, xor_mod}
use Rattle.std.proofs.lemmas.Nat.Bits.{bit_at_and, bit_at_xor, bit_at-lt, same_from_bits}
use Rattle.std.proofs.Math.Nat.{mod-eq_of_lt}
use Rattle.std.proofs.lemmas.Bool.Decides.{nat_tests}
use Rattle.hda_registers.specs.Access.{part, mixed}

pub part-lt : (f b x : ℕ) → part f b x < 2 ^ b
part-lt f b x = mod_below (x / 2 ^ f) (2 ^ b) (pow_pos b)

-- `&` and `|` go into a part
pub part-and : (f b x y : ℕ) → part f b (bit_and x y) ≡ bit_and (part f b x) (part f b y)
part-and f b x y = ap (λ z. z % 2 ^ b) (and_shr x y f) ∙ and_mod (x / 2 ^ f) (y / 2 ^ f) b

pub part-or : (f b x y : ℕ) → part f b (bit_or x y) ≡ bit_or (part f b x) (part f b y)
part-or f b x y = ap (λ z. z % 2 ^ b) (or_shr x y f) ∙ or_mod (x / 2 ^ f) (y / 2 ^ f) b

-- `n` without the bits of `m`
and-and : (n m : ℕ) → bit_and n (bit_and n m) ≡ bit_and n m
and-and n m = same_from_bits _ _ (λ i. rw (bit_at_and n (bit_and n m) i, bit_at_and n m i) (omega arith))

without-xor : (n m : ℕ) → n - bit_and n m ≡ bit_xor n (bit_and n m)
without-xor n m = omega (arith, xor_add_and n (bit_and n m), and-and n m, and_le_l n m)

pub bit_at-without : (n m i : ℕ) → bit_at (n - bit_and n m) i ≡ min (bit_at n i) (1 - bit_at m i)
bit_at-without n m i =
    rw (without-xor n m, bit_at_xor n (bit_and n m) i, bit_at_and n m i) (omega (arith, bit_at-lt n i, bit_at-lt m i))

pub part-without : (f b n m : ℕ) → part f b (n - bit_and n m) ≡ part f b n - bit_and (part f b n) (part f b m)
part-without f b n m =
    ap (part f b) (without-xor n m) ∙ ap (λ z. z % 2 ^ b) (xor_shr n (bit_and n m) f) ∙ xor_mod (n / 2 ^ f) (bit_and n m / 2 ^ f) b
    ∙ ap (λ z. bit_xor (part f b n) z) (part-and f b n m) ∙ sym (without-xor (part f b n) (part f b m))

-- the three forms of the mixture are one
pub and-zero : (n : ℕ) → bit_and n 0 ≡ 0
and-zero n = omega (arith, and_le_r n 0)

pub or-zero : (n : ℕ) → bit_or n 0 ≡ n
or-zero n = or_disjoint n 0 (and-zero n) ∙ (omega arith)

pub zero-or : (n : ℕ) → bit_or 0 n ≡ n
zero-or n = or_comm 0 n ∙ or-zero n

none-mixed : (m o g : ℕ) → bit_and g m ≡ g → m ≡ 0 → bit_or (o - bit_and o m) g ≡ o
none-mixed m o g inside none =
    let given : g ≡ 0 = sym inside ∙ ap (bit_and g) none ∙ and-zero g in
    let gone : bit_and o m ≡ 0 = ap (bit_and o) none ∙ and-zero o in
    let same : o - bit_and o m ≡ o = omega arith in
    rw (same, given) (or-zero o)

all-mixed : (b m o g : ℕ) → o < 2 ^ b → m ≡ 2 ^ b - 1 → bit_or (o - bit_and o m) g ≡ g
all-mixed b m o g small all =
    let gone : bit_and o m ≡ o % 2 ^ b = ap (bit_and o) all ∙ and_mask o b in
    let same : o % 2 ^ b ≡ o = mod-eq_of_lt small in
    let none : o - bit_and o m ≡ 0 = omega arith in
    rw none (zero-or g)

pub mixed-is : (b m o g : ℕ) → o < 2 ^ b → bit_and g m ≡ g → mixed b m o g ≡ bit_or (o - bit_and o m) g
mixed-is b m o g small inside =
    let e0 : m ≡ 0 → bit_or (o - bit_and o m) g ≡ o = none-mixed m o g inside in
    let e1 : m ≡ 2 ^ b - 1 → bit_or (o - bit_and o m) g ≡ g = all-mixed b m o g small in
    grind (arith, nat_tests)

-- `&` with a complement, at a width of 32
pub and-complement : (n m : ℕ) → n < 2 ^ 32 → m < 2 ^ 32 → bit_and n (2 ^ 32 - 1 - m) ≡ n - bit_and n m
and-complement n m hn hm =
    let turned : bit_and n (2 ^ 32 - 1 - m) ≡ bit_and (2 ^ 32 - 1 - m) n = and_comm n (2 ^ 32 - 1 - m) in
    let same : bit_and n m ≡ bit_and m n = and_comm n m in
    omega (arith, and-not 32 m n hm hn)
