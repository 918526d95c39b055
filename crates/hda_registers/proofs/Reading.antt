-- The groups of a word, added up, are the word.
use Rattle.std.proofs.Common.{◌≡◌, ◌<◌, ◌+◌, ◌-◌, ◌*◌, ◌%◌, ◌^◌, ◌==◌, ℕ, Bool, true, false, ◌&&◌, List, [], ◌∷◌, refl, ap, sym, ◌∙◌, arith, min, if◌then◌else◌}
use Rattle.std.specs.Prelude.{bit_and, bit_or, fold, filter}
use Rattle.std.specs.Int.{bit_at}
use Rattle.std.proofs.lemmas.Nat.{pow_pos, and_mask, and_comm, and_assoc, or_disjoint, and_le_l}
use Rattle.std.proofs.lemmas.Nat.Bits.{bit_at_and, bit_at_or, bit_at-zero, same_from_bits, and_high, and_pow}
use Rattle.std.proofs.Math.Nat.{mod-eq_of_lt}
use Rattle.std.proofs.lemmas.Bool.{eqb-true, and_parts}
use Rattle.std.proofs.lemmas.Bool.Decides.{nat_tests}
use Rattle.hda_registers.specs.declared.accesses.Access.{Access}
use Rattle.hda_registers.specs.declared.shapes.RingSize.{RingSize}
use Rattle.hda_registers.specs.declared.shapes.RingSize.TheVariants.{Two, Sixteen, Full}
use Rattle.hda_registers.specs.Table.{Row, size_code}
use Rattle.hda_registers.specs.Access.{part, shown, first_bit}
use Rattle.hda_registers.proofs.Bits.{part-lt, part-and, part-or, and-zero, or-zero, zero-or}
use Rattle.hda_registers.proofs.Groups.{and-ones, two-test, masked_whole, masked_away}

-- what an access sees of a group
seen-of : (f b word m : ℕ) → (if m == 0 then 0 else (if m == 2 ^ b - 1 then part f b word else bit_and (part f b word) m)) ≡ bit_and (part f b word) m
seen-of f b word m =
    let o = part f b word in
    let none : m ≡ 0 → bit_and o m ≡ 0 = λ e. ap (bit_and o) e ∙ and-zero o in
    let all : m ≡ 2 ^ b - 1 → bit_and o m ≡ o = λ e. ap (bit_and o) e ∙ and-ones f b word in
    grind (arith, nat_tests)

pub shown-value : (a : Access) (row : Row) (value word : ℕ) → value ≡ part (first_bit row) row.bits word
    → shown a row value ≡ part (first_bit row) row.bits (bit_and word a.covered) * 2 ^ first_bit row
shown-value a row value word h =
    let f = first_bit row in
    let b = row.bits in
    rw h (ap (λ z. z * 2 ^ f) (seen-of f b word (part f b a.covered) ∙ sym (part-and f b word a.covered)))

-- the bits of a part, and the sum of parts that have no bit in common
abbrev ones_of : (ℕ × ℕ) → ℕ
ones_of place = 2 ^ (place.1 + place.0) - 2 ^ place.0

abbrev pub part_at : ℕ → (ℕ × ℕ) → ℕ
part_at word place = part place.0 place.1 word * 2 ^ place.0

abbrev pub named_bits : ℕ → List (ℕ × ℕ) → ℕ
named_bits named [] = named
named_bits named (place ∷ places) = named_bits (named + ones_of place) places

abbrev pub are_apart : ℕ → List (ℕ × ℕ) → Bool
are_apart named [] = true
are_apart named (place ∷ places) = (bit_and named (ones_of place) == 0) && are_apart (named + ones_of place) places

and_or : (x m n : ℕ) → bit_and x (bit_or m n) ≡ bit_or (bit_and x m) (bit_and x n)
and_or x m n =
    same_from_bits _ _ (λ i. rw (bit_at_and x (bit_or m n) i, bit_at_or m n i, bit_at_or (bit_and x m) (bit_and x n) i, bit_at_and x m i, bit_at_and x n i) (omega arith))

and-apart : (x m n : ℕ) → bit_and m n ≡ 0 → bit_and (bit_and x m) (bit_and x n) ≡ 0
and-apart x m n h =
    same_from_bits _ _ (λ i. (
    let e : bit_at (bit_and m n) i ≡ min (bit_at m i) (bit_at n i) = bit_at_and m n i in
    let z : bit_at (bit_and m n) i ≡ bit_at 0 i = ap (λ k. bit_at k i) h in
    let none : bit_at 0 i ≡ 0 = bit_at-zero i in
    let apart : min (bit_at m i) (bit_at n i) ≡ 0 = sym e ∙ z ∙ none in
    rw (bit_at_and (bit_and x m) (bit_and x n) i, bit_at_and x m i, bit_at_and x n i, none) (omega arith)))

pub and_plus : (x m n : ℕ) → bit_and m n ≡ 0 → bit_and x (m + n) ≡ bit_and x m + bit_and x n
and_plus x m n h =
    ap (bit_and x) (sym (or_disjoint m n h)) ∙ and_or x m n ∙ or_disjoint (bit_and x m) (bit_and x n) (and-apart x m n h)

summed : (places : List (ℕ × ℕ)) (x named sum : ℕ) → sum ≡ bit_and x named → are_apart named places ≡ true
    → fold (λ (s : ℕ) (p : ℕ × ℕ). s + part_at x p) sum places ≡ bit_and x (named_bits named places)
summed [] x named sum e apart = e
summed (place ∷ places) x named sum e apart =
    let split = and_parts (bit_and named (ones_of place) == 0) (are_apart (named + ones_of place) places) apart in
    let none : bit_and named (ones_of place) ≡ 0 = eqb-true (bit_and named (ones_of place)) 0 split.0 in
    let more : sum + part_at x place ≡ bit_and x (named + ones_of place) =
    ap (λ z. z + part_at x place) e ∙ ap (λ z. bit_and x named + z) (sym (and_high x place.1 place.0)) ∙ sym (and_plus x named (ones_of place) none) in
    summed places x (named + ones_of place) (sum + part_at x place) more split.1

-- the parts of the covered bits of a word
pub all_parts : (places : List (ℕ × ℕ)) (word covered : ℕ) → are_apart 0 places ≡ true
    → fold (λ (s : ℕ) (p : ℕ × ℕ). s + part_at (bit_and word covered) p) 0 places ≡ bit_and (bit_and word covered) (named_bits 0 places)
all_parts places word covered apart = summed places (bit_and word covered) 0 0 (sym (and-zero (bit_and word covered))) apart

pub named_parts : (word covered mask : ℕ) → bit_and word mask ≡ word → bit_and (bit_and word covered) mask ≡ bit_and word covered
named_parts word covered mask named =
    and_assoc mask word covered ∙ ap (bit_and word) (and_comm covered mask) ∙ sym (and_assoc covered word mask) ∙ ap (λ z. bit_and z covered) named

-- a list of which no element passes
pub none_pass : {X : Type 0} (p : X → Bool) → ((x : X) → p x ≡ false) → (xs : List X) → filter p xs ≡ []
none_pass p h [] = refl
none_pass p h (x ∷ xs) = rw (h x) (none_pass p h xs)

pub nothing : (covered : ℕ) → 0 ≡ bit_and 0 covered
nothing covered = omega (arith, and_le_l 0 covered)

-- a word of named bits
pub named-masked : (word mask : ℕ) → bit_and mask mask ≡ mask → bit_and (bit_and word mask) mask ≡ bit_and word mask
named-masked word mask e = and_assoc mask word mask ∙ ap (bit_and word) e

-- a word of named bits with the code of a size in bits 23:16
abbrev pub with_size : ℕ → ℕ → RingSize → ℕ
with_size word mask size = bit_or (bit_and word mask) (size_code size * 2 ^ 16)

-- a part of the size's code, which is one of three numbers
size-part : (f b : ℕ) (size : RingSize) → part f b 0x100000 ≡ 0 → part f b 0x210000 ≡ 0 → part f b 0x420000 ≡ 0 → part f b (size_code size * 2 ^ 16) ≡ 0
size-part f b Two h0 h1 h2 = h0
size-part f b Sixteen h0 h1 h2 = h1
size-part f b Full h0 h1 h2 = h2

pub flag-with_size : (f b word mask : ℕ) (size : RingSize) → part f b mask ≡ 2 ^ b - 1
    → part f b 0x100000 ≡ 0 → part f b 0x210000 ≡ 0 → part f b 0x420000 ≡ 0
    → part f b word ≡ part f b (with_size word mask size)
flag-with_size f b word mask size all h0 h1 h2 =
    sym (part-or f b (bit_and word mask) (size_code size * 2 ^ 16) ∙ ap (bit_or (part f b (bit_and word mask))) (size-part f b size h0 h1 h2)
    ∙ or-zero (part f b (bit_and word mask)) ∙ masked_whole f b word mask all)

size-alone : (size : RingSize) → part 16 8 (size_code size * 2 ^ 16) ≡ size_code size
size-alone Two = refl
size-alone Sixteen = refl
size-alone Full = refl

pub size-with_size : (word mask : ℕ) (size : RingSize) → part 16 8 mask ≡ 0 → size_code size ≡ part 16 8 (with_size word mask size)
size-with_size word mask size none =
    sym (part-or 16 8 (bit_and word mask) (size_code size * 2 ^ 16) ∙ ap (λ z. bit_or z (part 16 8 (size_code size * 2 ^ 16))) (masked_away 16 8 word mask none)
    ∙ zero-or (part 16 8 (size_code size * 2 ^ 16)) ∙ size-alone size)

or_and : (x y n : ℕ) → bit_and (bit_or x y) n ≡ bit_or (bit_and x n) (bit_and y n)
or_and x y n =
    same_from_bits _ _ (λ i. rw (bit_at_and (bit_or x y) n i, bit_at_or x y i, bit_at_or (bit_and x n) (bit_and y n) i, bit_at_and x n i, bit_at_and y n i) (omega arith))

size-named : (named : ℕ) (size : RingSize) → bit_and 0x100000 named ≡ 0x100000 → bit_and 0x210000 named ≡ 0x210000 → bit_and 0x420000 named ≡ 0x420000
    → bit_and (size_code size * 2 ^ 16) named ≡ size_code size * 2 ^ 16
size-named named Two h0 h1 h2 = h0
size-named named Sixteen h0 h1 h2 = h1
size-named named Full h0 h1 h2 = h2

pub named-with_size : (word mask named : ℕ) (size : RingSize) → bit_and mask named ≡ mask
    → bit_and 0x100000 named ≡ 0x100000 → bit_and 0x210000 named ≡ 0x210000 → bit_and 0x420000 named ≡ 0x420000
    → bit_and (with_size word mask size) named ≡ with_size word mask size
named-with_size word mask named size e h0 h1 h2 =
    or_and (bit_and word mask) (size_code size * 2 ^ 16) named ∙ ap (bit_or (bit_and (bit_and word mask) named)) (size-named named size h0 h1 h2)
    ∙ ap (λ z. bit_or z (size_code size * 2 ^ 16)) (and_assoc named word mask ∙ ap (bit_and word) e)

-- a whole word
pub whole_word : (word : ℕ) → word < 2 ^ 32 → bit_and word 0xFFFFFFFF ≡ word
whole_word word h =
    let e : bit_and word 0xFFFFFFFF ≡ word % 2 ^ 32 = and_mask word 32 in
    e ∙ mod-eq_of_lt h

pub whole_part : (word : ℕ) → word < 2 ^ 32 → word ≡ part 0 32 word
whole_part word h = omega arith

-- two bits of a word, tested at once
pub has_bits : (n i j : ℕ) → bit_and (2 ^ i) (2 ^ j) ≡ 0 → (bit_and n (2 ^ i + 2 ^ j) == 2 ^ i + 2 ^ j) ≡ ((part i 1 n == 1) && (part j 1 n == 1))
has_bits n i j apart =
    let e : bit_and n (2 ^ i + 2 ^ j) ≡ part i 1 n * 2 ^ i + part j 1 n * 2 ^ j =
    and_plus n (2 ^ i) (2 ^ j) apart ∙ ap (λ z. z + bit_and n (2 ^ j)) (and_pow n i) ∙ ap (λ z. part i 1 n * 2 ^ i + z) (and_pow n j) in
    ap (λ z. z == 2 ^ i + 2 ^ j) e ∙ two-test (part i 1 n) (part j 1 n) (2 ^ i) (2 ^ j) (part-lt i 1 n) (part-lt j 1 n) (pow_pos i) (pow_pos j)
