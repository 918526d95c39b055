-- What a write by masks leaves of a part of a word, against the rule of the group that stands there.
use Rattle.std.proofs.Common.{◌≡◌, ◌≢◌, ◌<◌, ◌≤◌, ◌+◌, ◌-◌, ◌*◌, ◌/◌, ◌%◌, ◌^◌, ◌==◌, ◌&&◌, ℕ, Bool, zero, suc, refl, ap, sym, ◌∙◌, subst, arith, true, false, if◌then◌else◌, lit<}
use Rattle.std.specs.Prelude.{bit_and, bit_or}
use Rattle.std.proofs.lemmas.Nat.{pow_pos, and_mask}
use Rattle.std.proofs.lemmas.Nat.Bits.{and_pow, and_high}
use Rattle.std.proofs.lemmas.Bool.{ne_eqb, eq-eqb}
use Rattle.std.proofs.Math.Nat.{mod-eq_of_lt, div-eq_of_lt, mod-le, pow-le-pow_right}
use Rattle.std.proofs.lemmas.Bool.Decides.{nat_tests}
use Rattle.hda_registers.specs.declared.accesses.Access.{Access}
use Rattle.hda_registers.specs.Access.{part, mixed, writes_one}
use Rattle.hda_registers.specs.Words.{left_by}
use Rattle.hda_registers.proofs.Bits.{part-lt, part-and, part-or, part-without, mixed-is, and-zero, or-zero, zero-or}

-- a fact of an access of a known word
pub at_word : (P : Access → Type 0) (a : Access) (n : ℕ) → a.word ≡ n → P (record { word = n; covered = a.covered; written = a.written }) → P a
at_word P a n e p = subst (λ (m : ℕ). P (record { word = m; covered = a.covered; written = a.written })) (sym e) p

-- a word that is another one
pub other : (n w : ℕ) → w ≢ n → (n == w) ≡ false
other n w h = ne_eqb n w (λ e. h (sym e))

pub same-if : (b : Bool) (n : ℕ) → (if b then n else n) ≡ n
same-if true n = refl
same-if false n = refl

-- the parts of an access, and what it leaves of a part by the parts of the masks
abbrev left_part : (c v kept cleared old : ℕ) → ℕ
left_part c v kept cleared old =
    let stays = old - bit_and old (bit_and c kept) in
    bit_or (stays - bit_and stays (bit_and v cleared)) (bit_and v kept)

part-left_by : (f b : ℕ) (a : Access) (kept cleared old : ℕ)
    → part f b (left_by a kept cleared old) ≡ left_part (part f b a.covered) (part f b a.written) (part f b kept) (part f b cleared) (part f b old)
part-left_by f b a kept cleared old =
    let covered = bit_and a.covered kept in
    let stays = old - bit_and old covered in
    let ones = bit_and a.written cleared in
    rw (part-or f b (stays - bit_and stays ones) (bit_and a.written kept), part-without f b stays ones, part-without f b old covered, part-and f b a.covered kept, part-and f b a.written cleared, part-and f b a.written kept)

part-inside : (f b : ℕ) (a : Access) → bit_and a.written a.covered ≡ a.written → bit_and (part f b a.written) (part f b a.covered) ≡ part f b a.written
part-inside f b a inside = sym (part-and f b a.written a.covered) ∙ ap (part f b) inside

pub and-ones : (f b x : ℕ) → bit_and (part f b x) (2 ^ b - 1) ≡ part f b x
and-ones f b x =
    let small : part f b x < 2 ^ b = part-lt f b x in
    and_mask (part f b x) b ∙ mod-eq_of_lt small

-- a part that is kept as written
pub written_part : (f b : ℕ) (a : Access) → bit_and a.written a.covered ≡ a.written → (kept cleared old : ℕ)
    → part f b kept ≡ 2 ^ b - 1 → part f b cleared ≡ 0
    → part f b (left_by a kept cleared old) ≡ mixed b (part f b a.covered) (part f b old) (part f b a.written)
written_part f b a inside kept cleared old all none =
    let o = part f b old in
    let m = part f b a.covered in
    let g = part f b a.written in
    let masked : bit_and m (2 ^ b - 1) ≡ m = and-ones f b a.covered in
    let given : bit_and g (2 ^ b - 1) ≡ g = and-ones f b a.written in
    let zero_given : bit_and g 0 ≡ 0 = and-zero g in
    let rest = o - bit_and o m in
    let zero_rest : bit_and rest 0 ≡ 0 = and-zero rest in
    let same : rest - 0 ≡ rest = omega arith in
    rw (part-left_by f b a kept cleared old, all, none, masked, given, zero_given, zero_rest, same, mixed-is b m o g (part-lt f b old) (part-inside f b a inside))

-- a part that no mask names stays
pub kept_part : (f b : ℕ) (a : Access) (kept cleared old : ℕ) → part f b kept ≡ 0 → part f b cleared ≡ 0
    → part f b (left_by a kept cleared old) ≡ part f b old
kept_part f b a kept cleared old none none' =
    let o = part f b old in
    let m = part f b a.covered in
    let g = part f b a.written in
    let zero_mask : bit_and m 0 ≡ 0 = and-zero m in
    let zero_given : bit_and g 0 ≡ 0 = and-zero g in
    let zero_old : bit_and o 0 ≡ 0 = and-zero o in
    let same : o - 0 ≡ o = omega arith in
    rw (part-left_by f b a kept cleared old, none, none', zero_mask, zero_given, zero_old, same, zero_old, same) (or-zero o)

-- a part whose bits fall where they are written 1
pub cleared_part : (f b : ℕ) (a : Access) → bit_and a.written a.covered ≡ a.written → (kept cleared old : ℕ)
    → part f b kept ≡ 0 → part f b cleared ≡ 2 ^ b - 1
    → part f b (left_by a kept cleared old) ≡ (if part f b a.covered == 0 then part f b old else part f b old - bit_and (part f b old) (part f b a.written))
cleared_part f b a inside kept cleared old none all =
    let o = part f b old in
    let m = part f b a.covered in
    let g = part f b a.written in
    let zero_mask : bit_and m 0 ≡ 0 = and-zero m in
    let zero_given : bit_and g 0 ≡ 0 = and-zero g in
    let zero_old : bit_and o 0 ≡ 0 = and-zero o in
    let given : bit_and g (2 ^ b - 1) ≡ g = and-ones f b a.written in
    let same : o - 0 ≡ o = omega arith in
    let left : part f b (left_by a kept cleared old) ≡ o - bit_and o g =
    rw (part-left_by f b a kept cleared old, none, all, zero_mask, given, zero_given, zero_old, same) (or-zero (o - bit_and o g)) in
    let lies : bit_and g m ≡ g = part-inside f b a inside in
    let untouched : m ≡ 0 → o - bit_and o g ≡ o = λ e. (
    let nothing : g ≡ 0 = sym lies ∙ ap (bit_and g) e ∙ and-zero g in
    rw (nothing, zero_old) same) in
    grind (arith, nat_tests)

-- single bits
pub bit_one : (n k : ℕ) → bit_and n (2 ^ k) ≢ 0 → part k 1 n ≡ 1
bit_one n k h =
    let e : bit_and n (2 ^ k) ≡ part k 1 n * 2 ^ k = and_pow n k in
    let small : part k 1 n < 2 = part-lt k 1 n in
    let no : part k 1 n ≢ 0 = λ z. h (e ∙ ap (λ x. x * 2 ^ k) z ∙ (omega arith)) in
    omega arith

pub bit_zero : (n k : ℕ) → bit_and n (2 ^ k) ≡ 0 → part k 1 n ≡ 0
bit_zero n k h =
    let e : part k 1 n * 2 ^ k ≡ 0 = sym (and_pow n k) ∙ h in
    let p : 0 < 2 ^ k = pow_pos k in
    let small : part k 1 n < 2 = part-lt k 1 n in
    let one : part k 1 n ≡ 1 → 2 ^ k ≡ 0 = λ z. (sym (omega arith) ∙ ap (λ x. x * 2 ^ k) (sym z) ∙ e) in
    grind (arith)

-- a part of a masked word
pub masked_whole : (f b word mask : ℕ) → part f b mask ≡ 2 ^ b - 1 → part f b (bit_and word mask) ≡ part f b word
masked_whole f b word mask all = part-and f b word mask ∙ ap (bit_and (part f b word)) all ∙ and-ones f b word

pub masked_away : (f b word mask : ℕ) → part f b mask ≡ 0 → part f b (bit_and word mask) ≡ 0
masked_away f b word mask none = part-and f b word mask ∙ ap (bit_and (part f b word)) none ∙ and-zero (part f b word)

and_false : (b : Bool) → (b && false) ≡ false
and_false true = refl
and_false false = refl

-- a group that a bit sets to 0
pub not_zeroed : (a : Access) (k old : ℕ) → bit_and a.written (2 ^ k) ≡ 0 → (if writes_one a k then 0 else old) ≡ old
not_zeroed a k old h =
    let e : part k 1 a.written ≡ 0 = bit_zero a.written k h in
    grind (arith, nat_tests)

pub not-writes-one : (a : Access) (k : ℕ) → bit_and a.written (2 ^ k) ≡ 0 → writes_one a k ≡ false
not-writes-one a k h =
    let e : part k 1 a.written ≡ 0 = bit_zero a.written k h in
    rw e (and_false (part k 1 a.covered == 1))

pub writes-one : (a : Access) (k : ℕ) → bit_and a.written a.covered ≡ a.written → bit_and a.written (2 ^ k) ≢ 0 → writes_one a k ≡ true
writes-one a k inside h =
    let e : part k 1 a.written ≡ 1 = bit_one a.written k h in
    let lies : bit_and (part k 1 a.written) (part k 1 a.covered) ≡ part k 1 a.written = part-inside k 1 a inside in
    let small : part k 1 a.covered < 2 = part-lt k 1 a.covered in
    let no : part k 1 a.covered ≢ 0 = λ z. (
    let gone : part k 1 a.written ≡ 0 = sym lies ∙ ap (bit_and (part k 1 a.written)) z ∙ and-zero (part k 1 a.written) in
    absurd (omega arith)) in
    let c : part k 1 a.covered ≡ 1 = omega arith in
    rw (e, c) refl

pub zeroed : (a : Access) (k old : ℕ) → bit_and a.written a.covered ≡ a.written → bit_and a.written (2 ^ k) ≢ 0
    → (if writes_one a k then 0 else old) ≡ 0
zeroed a k old inside h = rw (writes-one a k inside h) refl

-- a number below 2^f has no part from bit f on; the lowest part is the number
pub part_above : (f b n : ℕ) → n < 2 ^ f → part f b n ≡ 0
part_above f b n h =
    let e : n / 2 ^ f ≡ 0 = div-eq_of_lt h in
    let p : 0 < 2 ^ b = pow_pos b in
    rw e (mod-eq_of_lt p)

-- the lowest eight bits of a word, taken modulo a number
pub lowest : (n : ℕ) → bit_and n 0xFF ≡ part 0 8 n
lowest n =
    let e : bit_and n 0xFF ≡ n % 2 ^ 8 = and_mask n 8 in
    omega arith

abbrev reduced : ℕ → ℕ → ℕ
reduced word size = bit_or (bit_and word 0xFFFFFF00) (bit_and word 0xFF % size)

reduced-small : (word size : ℕ) → bit_and word 0xFF % size < 2 ^ 8
reduced-small word size =
    let e : bit_and word 0xFF ≡ part 0 8 word = lowest word in
    let small : part 0 8 word < 2 ^ 8 = part-lt 0 8 word in
    let le : bit_and word 0xFF % size ≤ bit_and word 0xFF = mod-le (bit_and word 0xFF) size in
    omega arith

pub reduced_low : (word size : ℕ) → part 0 8 (reduced word size) ≡ part 0 8 word % size
reduced_low word size =
    let rest = bit_and word 0xFF % size in
    let small : rest < 2 ^ 8 = reduced-small word size in
    let same : part 0 8 rest ≡ rest = omega arith in
    part-or 0 8 (bit_and word 0xFFFFFF00) rest ∙ ap (λ z. bit_or z (part 0 8 rest)) (masked_away 0 8 word 0xFFFFFF00 refl)
    ∙ zero-or (part 0 8 rest) ∙ same ∙ ap (λ z. z % size) (lowest word)

pub reduced_high : (f b word size : ℕ) → 8 ≤ f → part f b 0xFFFFFF00 ≡ 2 ^ b - 1 → part f b (reduced word size) ≡ part f b word
reduced_high f b word size above all =
    let rest = bit_and word 0xFF % size in
    let small : rest < 2 ^ 8 = reduced-small word size in
    let wide : 2 ^ 8 ≤ 2 ^ f = pow-le-pow_right (lit< tt) above in
    let lower : rest < 2 ^ f = omega arith in
    part-or f b (bit_and word 0xFFFFFF00) rest ∙ ap (bit_or (part f b (bit_and word 0xFFFFFF00))) (part_above f b rest lower)
    ∙ or-zero (part f b (bit_and word 0xFFFFFF00)) ∙ masked_whole f b word 0xFFFFFF00 all

-- the test of a bit by its mask
bit-test : (p q : ℕ) → p < 2 → 0 < q → (p * q == q) ≡ (p == 1)
bit-test zero q h k = ne_eqb (zero * q) q (λ e. absurd (omega arith))
bit-test (suc zero) q h k = eq-eqb (suc zero * q) q (omega arith)
bit-test (suc (suc p)) q h k = absurd (omega arith)

pub has_bit : (n k : ℕ) → (bit_and n (2 ^ k) == 2 ^ k) ≡ (part k 1 n == 1)
has_bit n k =
    let e : bit_and n (2 ^ k) ≡ part k 1 n * 2 ^ k = and_pow n k in
    ap (λ z. z == 2 ^ k) e ∙ bit-test (part k 1 n) (2 ^ k) (part-lt k 1 n) (pow_pos k)

-- bits that are set
pub set_part : (f b word mask : ℕ) → part f b mask ≡ 0 → part f b (bit_or word mask) ≡ part f b word
set_part f b word mask none = part-or f b word mask ∙ ap (bit_or (part f b word)) none ∙ or-zero (part f b word)

or-one : (p : ℕ) → p < 2 → bit_or p 1 ≡ 1
or-one zero h = refl
or-one (suc zero) h = refl
or-one (suc (suc p)) h = absurd (omega arith)

pub set_bit : (f word mask : ℕ) → part f 1 mask ≡ 1 → part f 1 (bit_or word mask) ≡ 1
set_bit f word mask one = part-or f 1 word mask ∙ ap (bit_or (part f 1 word)) one ∙ or-one (part f 1 word) (part-lt f 1 word)

-- a part that is replaced in a masked word
pub put_as : (f b word mask value n : ℕ) → part f b mask ≡ 0 → part f b value ≡ n → part f b (bit_or (bit_and word mask) value) ≡ n
put_as f b word mask value n none same =
    part-or f b (bit_and word mask) value ∙ ap (λ z. bit_or z (part f b value)) (masked_away f b word mask none) ∙ zero-or (part f b value) ∙ same

pub put_part : (f b word mask value : ℕ) → part f b mask ≡ 0 → part f b value ≡ value → part f b (bit_or (bit_and word mask) value) ≡ value
put_part f b word mask value none same = put_as f b word mask value value none same

pub beside_put : (f b word mask value : ℕ) → part f b mask ≡ 2 ^ b - 1 → part f b value ≡ 0 → part f b (bit_or (bit_and word mask) value) ≡ part f b word
beside_put f b word mask value all none =
    part-or f b (bit_and word mask) value ∙ ap (bit_or (part f b (bit_and word mask))) none ∙ or-zero (part f b (bit_and word mask))
    ∙ masked_whole f b word mask all

-- the bit of a codec in STATESTS
pub state_low : (codec : ℕ) → codec ≤ 14 → part 0 15 (1 * 2 ^ (16 + codec) % 2 ^ 32) ≡ 0
state_low zero h = refl
state_low (suc zero) h = refl
state_low (suc (suc zero)) h = refl
state_low (suc (suc (suc zero))) h = refl
state_low (suc (suc (suc (suc zero)))) h = refl
state_low (suc (suc (suc (suc (suc zero))))) h = refl
state_low (suc (suc (suc (suc (suc (suc zero)))))) h = refl
state_low (suc (suc (suc (suc (suc (suc (suc zero))))))) h = refl
state_low (suc (suc (suc (suc (suc (suc (suc (suc zero)))))))) h = refl
state_low (suc (suc (suc (suc (suc (suc (suc (suc (suc zero))))))))) h = refl
state_low (suc (suc (suc (suc (suc (suc (suc (suc (suc (suc zero)))))))))) h = refl
state_low (suc (suc (suc (suc (suc (suc (suc (suc (suc (suc (suc zero))))))))))) h = refl
state_low (suc (suc (suc (suc (suc (suc (suc (suc (suc (suc (suc (suc zero)))))))))))) h = refl
state_low (suc (suc (suc (suc (suc (suc (suc (suc (suc (suc (suc (suc (suc zero))))))))))))) h = refl
state_low (suc (suc (suc (suc (suc (suc (suc (suc (suc (suc (suc (suc (suc (suc zero)))))))))))))) h = refl
state_low (suc (suc (suc (suc (suc (suc (suc (suc (suc (suc (suc (suc (suc (suc (suc n))))))))))))))) h = absurd (omega arith)

pub state_high : (codec : ℕ) → codec ≤ 14 → part 16 15 (1 * 2 ^ (16 + codec) % 2 ^ 32) ≡ 2 ^ codec
state_high zero h = refl
state_high (suc zero) h = refl
state_high (suc (suc zero)) h = refl
state_high (suc (suc (suc zero))) h = refl
state_high (suc (suc (suc (suc zero)))) h = refl
state_high (suc (suc (suc (suc (suc zero))))) h = refl
state_high (suc (suc (suc (suc (suc (suc zero)))))) h = refl
state_high (suc (suc (suc (suc (suc (suc (suc zero))))))) h = refl
state_high (suc (suc (suc (suc (suc (suc (suc (suc zero)))))))) h = refl
state_high (suc (suc (suc (suc (suc (suc (suc (suc (suc zero))))))))) h = refl
state_high (suc (suc (suc (suc (suc (suc (suc (suc (suc (suc zero)))))))))) h = refl
state_high (suc (suc (suc (suc (suc (suc (suc (suc (suc (suc (suc zero))))))))))) h = refl
state_high (suc (suc (suc (suc (suc (suc (suc (suc (suc (suc (suc (suc zero)))))))))))) h = refl
state_high (suc (suc (suc (suc (suc (suc (suc (suc (suc (suc (suc (suc (suc zero))))))))))))) h = refl
state_high (suc (suc (suc (suc (suc (suc (suc (suc (suc (suc (suc (suc (suc (suc zero)))))))))))))) h = refl
state_high (suc (suc (suc (suc (suc (suc (suc (suc (suc (suc (suc (suc (suc (suc (suc n))))))))))))))) h = absurd (omega arith)

-- the test of two bits by one mask
pub two-test : (p q m n : ℕ) → p < 2 → q < 2 → 0 < m → 0 < n → (p * m + q * n == m + n) ≡ ((p == 1) && (q == 1))
two-test zero zero m n hp hq hm hn = ne_eqb (zero * m + zero * n) (m + n) (λ e. absurd (omega arith))
two-test zero (suc zero) m n hp hq hm hn = ne_eqb (zero * m + suc zero * n) (m + n) (λ e. absurd (omega arith))
two-test (suc zero) zero m n hp hq hm hn = ne_eqb (suc zero * m + zero * n) (m + n) (λ e. absurd (omega arith))
two-test (suc zero) (suc zero) m n hp hq hm hn = eq-eqb (suc zero * m + suc zero * n) (m + n) (omega arith)
two-test (suc (suc p)) q m n hp hq hm hn = absurd (omega arith)
two-test zero (suc (suc q)) m n hp hq hm hn = absurd (omega arith)
two-test (suc zero) (suc (suc q)) m n hp hq hm hn = absurd (omega arith)

-- an address from its base
pub address_of : (word : ℕ) → bit_and word 0xFFFFFF80 ≡ 128 * part 7 25 word
address_of word =
    let e : bit_and word 0xFFFFFF80 ≡ part 7 25 word * 2 ^ 7 = and_high word 25 7 in
    omega arith
