-- Entries in words: where each stands, and words filled one after another.
use Rattle.std.proofs.Common.{◌≡◌, ◌<◌, ◌≤◌, ◌+◌, ◌-◌, ◌*◌, ◌/◌, ◌%◌, ◌^◌, ℕ, zero, suc, Bool, true, false, List, [], ◌∷◌, ◌++◌, length, get_or, refl, ap, arith, length-append}
use Rattle.std.specs.Prelude.{replicate}
use Rattle.std.specs.List.{range_with_len}
use Rattle.std.proofs.lemmas.List.{length-replicate}
use Rattle.verb_codes.specs.Lists.{entries_of_words, entries_per_word}

-- one more number at the end of a range
pub range_more : (a n : ℕ) → range_with_len a (n + 1) ≡ range_with_len a n ++ (a + n) ∷ []
range_more a zero = let e : a + 0 ≡ a = omega arith in rw e refl
range_more a (suc n) =
    let e : suc n + 1 ≡ suc (n + 1) = omega arith in
    let f : a + suc n ≡ a + 1 + n = omega arith in
    rw (e, f) (ap (λ xs. a ∷ xs) (range_more (a + 1) n))

pub length-entries : (long : Bool) (words : List ℕ) → length (entries_of_words long words) ≡ length words * entries_per_word long
length-entries true [] = refl
length-entries false [] = refl
length-entries true (w ∷ ws) = let more = length-entries true ws in omega arith
length-entries false (w ∷ ws) = let more = length-entries false ws in omega arith

pub long_entry : (words : List ℕ) (k : ℕ) → k < length words * 2 → get_or (entries_of_words true words) k 0 ≡ get_or words (k / 2) 0 / 2 ^ (16 * (k % 2)) % 2 ^ 16
long_entry [] k h = absurd (omega arith)
long_entry (w ∷ ws) zero h = omega arith
long_entry (w ∷ ws) (suc zero) h = refl
long_entry (w ∷ ws) (suc (suc k)) h =
    let half : suc (suc k) / 2 ≡ suc (k / 2) = omega arith in
    let odd : suc (suc k) % 2 ≡ k % 2 = omega arith in
    rw (half, odd) (long_entry ws k (omega arith))

pub short_entry : (words : List ℕ) (k : ℕ) → k < length words * 4 → get_or (entries_of_words false words) k 0 ≡ get_or words (k / 4) 0 / 2 ^ (8 * (k % 4)) % 2 ^ 8
short_entry [] k h = absurd (omega arith)
short_entry (w ∷ ws) zero h = omega arith
short_entry (w ∷ ws) (suc zero) h = refl
short_entry (w ∷ ws) (suc (suc zero)) h = refl
short_entry (w ∷ ws) (suc (suc (suc zero))) h = refl
short_entry (w ∷ ws) (suc (suc (suc (suc k)))) h =
    let part : suc (suc (suc (suc k))) / 4 ≡ suc (k / 4) = omega arith in
    let left : suc (suc (suc (suc k))) % 4 ≡ k % 4 = omega arith in
    rw (part, left) (short_entry ws k (omega arith))

-- the entries and then zeros, so many in all
abbrev pub padded : List ℕ → ℕ → List ℕ
padded entries total = entries ++ replicate (total - length entries) 0

pub length-padded : (entries : List ℕ) (total : ℕ) → length entries ≤ total → length (padded entries total) ≡ total
length-padded entries total h = omega (arith, length-append entries (replicate (total - length entries) 0), length-replicate {A = ℕ} (total - length entries) 0)
