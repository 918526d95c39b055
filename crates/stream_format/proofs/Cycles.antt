-- The cadence of 44.1 kHz by its gaps, and that all frames in a row that are as many as a cycle have as many blocks.
use Rattle.std.proofs.Common.{◌≡◌, ℕ, zero, suc, ◌+◌, ◌<◌, Bool, true, nat_eq, if◌then◌else◌, List, [], ◌∷◌, slice_index, refl, ap, arith}
use Rattle.std.proofs.lemmas.Bool.{agree_below_at, eqb-true}
use Rattle.std.specs.List.{list_any, range_with_len, sum_by}
use Rattle.std.proofs.lemmas.List.Sums.{sum_by-cons}
use Rattle.stream_format.specs.Cadence.{cadence_44}

-- the frames of 160 without a block
abbrev pub gaps : List ℕ
gaps = 12 ∷ 24 ∷ 36 ∷ 49 ∷ 61 ∷ 73 ∷ 86 ∷ 98 ∷ 110 ∷ 123 ∷ 135 ∷ 147 ∷ 159 ∷ []

abbrev pub due : ℕ → ℕ
due k = if list_any (λ y. nat_eq y k) gaps then 0 else 1

unfoldable is_due : ℕ → Bool
is_due k = nat_eq (due k) (slice_index cadence_44 k)

pub due-is : (k : ℕ) → k < 160 → due k ≡ slice_index cadence_44 k
unfolding is_due cadence_44
due-is k less = eqb-true _ _ (agree_below_at is_due (λ _. true) 160 k refl less)

-- one block, and then none
unfoldable is_one_of_3 : ℕ → Bool
is_one_of_3 k = nat_eq (if nat_eq k 0 then 1 else 0) (slice_index (1 ∷ 0 ∷ 0 ∷ []) k)

pub one_of_3 : (k : ℕ) → k < 3 → (if nat_eq k 0 then 1 else 0) ≡ slice_index (1 ∷ 0 ∷ 0 ∷ []) k
unfolding is_one_of_3
one_of_3 k less = eqb-true _ _ (agree_below_at is_one_of_3 (λ _. true) 3 k refl less)

unfoldable is_one_of_6 : ℕ → Bool
is_one_of_6 k = nat_eq (if nat_eq k 0 then 1 else 0) (slice_index (1 ∷ 0 ∷ 0 ∷ 0 ∷ 0 ∷ 0 ∷ []) k)

pub one_of_6 : (k : ℕ) → k < 6 → (if nat_eq k 0 then 1 else 0) ≡ slice_index (1 ∷ 0 ∷ 0 ∷ 0 ∷ 0 ∷ 0 ∷ []) k
unfolding is_one_of_6
one_of_6 k less = eqb-true _ _ (agree_below_at is_one_of_6 (λ _. true) 6 k refl less)

-- the sum of n values from a on
abbrev pub over : (ℕ → ℕ) → ℕ → ℕ → ℕ
over f a n = sum_by f (range_with_len a n)

first : (f : ℕ → ℕ) (a n : ℕ) → over f a (suc n) ≡ f a + over f (a + 1) n
first f a n = sum_by-cons f a (range_with_len (a + 1) n)

last : (f : ℕ → ℕ) (n a : ℕ) → over f a (suc n) ≡ over f a n + f (a + n)
last f zero a =
    let same : f (a + 0) ≡ f a = ap f (omega arith) in
    let one = first f a 0 in
    omega (arith, one, same)
last f (suc n) a =
    let whole = first f a (suc n) in
    let rest = last f n (a + 1) in
    let shorter = first f a n in
    let same : f (a + 1 + n) ≡ f (a + suc n) = ap f (omega arith) in
    omega (arith, whole, rest, shorter, same)

-- values that come again after n have the same sum from each place on
pub over-turns : (f : ℕ → ℕ) (n : ℕ) → ((k : ℕ) → f (k + n) ≡ f k) → (a : ℕ) → over f a n ≡ over f 0 n
over-turns f n again zero = refl
over-turns f n again (suc a) =
    let one : suc a ≡ a + 1 = omega arith in
    let front : over f a (suc n) ≡ f a + over f (suc a) n = rw one (first f a n) in
    let back = last f n a in
    let same = again a in
    let before = over-turns f n again a in
    omega (arith, front, back, same, before)
