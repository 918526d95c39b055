-- A file's length between two bounds.
use Rattle.std.proofs.Common.{◌≡◌, ◌≤◌, ◌<◌, ◌+◌, ◌-◌, ◌*◌, ◌/◌, ◌^◌, ◌∙◌, ℕ, suc, Bool, true, false, nat_lt, List, length, Option, Some, sym, ap, subst, arith, rules}
use Rattle.std.proofs.Math.Nat.{pow-suc, one-le-pow}
use Rattle.std.specs.Prelude.{IfSome, IsSomeAnd}
use Rattle.hda_outside.specs.Shelf.{Files, file_of}

-- where the shelf tells and the file is there, it lies there
abbrev pub LiesIn : Option Files → (name : List ℕ) → (low high : ℕ) → Type 0
LiesIn told name low high = (files : Files) → told ≡ Some files → (file : List ℕ) → file_of files name ≡ Some file → (low ≤ length file) × (length file ≤ high)

-- whether there is a byte at a place, where the shelf tells
abbrev pub TellsByte : Option Files → (name : List ℕ) → (at : ℕ) → Bool → Type 0
TellsByte told name at has = IfSome told (λ files. IsSomeAnd (file_of files name) (λ file. has ≡ nat_lt at (length file)))

told_byte : (told : Option Files) (name : List ℕ) (at : ℕ) (has : Bool) → TellsByte told name at has → (files : Files) → told ≡ Some files → (file : List ℕ) → file_of files name ≡ Some file → has ≡ nat_lt at (length file)
told_byte told name at has tells files is file there =
    subst (λ (found : Option (List ℕ)). IsSomeAnd found (λ file. has ≡ nat_lt at (length file))) there
    (subst (λ (told : Option Files). IfSome told (λ files. IsSomeAnd (file_of files name) (λ file. has ≡ nat_lt at (length file)))) is tells)

pub lies_first : (told : Option Files) (name : List ℕ) (most : ℕ) (has : Bool) → has ≡ false → TellsByte told name most has → LiesIn told name 0 most
lies_first told name most has none tells = λ files is file there.
    let short : nat_lt most (length file) ≡ false = sym (told_byte told name most has tells files is file there) ∙ none in
    (omega arith, at_most most (length file) short) where
      at_most : (most long : ℕ) → nat_lt most long ≡ false → long ≤ most
      at_most most long short = search (rules, short)

pub lies_above : (told told' : Option Files) (name : List ℕ) (low high middle : ℕ) (has : Bool) → told ≡ told' → has ≡ true → TellsByte told name middle has → LiesIn told' name low high → LiesIn told' name (middle + 1) high
lies_above told told' name low high middle has same some tells lies = λ files is file there.
    let long : nat_lt middle (length file) ≡ true = sym (told_byte told name middle has tells files (same ∙ is) file there) ∙ some in
    (more middle (length file) long, (lies files is file there).1) where
      more : (middle long : ℕ) → nat_lt middle long ≡ true → middle + 1 ≤ long
      more middle long is = search (rules, is)

pub lies_below : (told told' : Option Files) (name : List ℕ) (low high middle : ℕ) (has : Bool) → told ≡ told' → has ≡ false → TellsByte told name middle has → LiesIn told' name low high → LiesIn told' name low middle
lies_below told told' name low high middle has same none tells lies = λ files is file there.
    let short : nat_lt middle (length file) ≡ false = sym (told_byte told name middle has tells files (same ∙ is) file there) ∙ none in
    ((lies files is file there).0, at_most middle (length file) short) where
      at_most : (most long : ℕ) → nat_lt most long ≡ false → long ≤ most
      at_most most long short = search (rules, short)

-- ---- halving

pub halves_above : (low high middle turn : ℕ) → low < high → middle ≡ low + (high - low) / 2 → turn < 64 → high - low < 2 ^ (64 - turn) → high - (middle + 1) < 2 ^ (64 - (turn + 1))
halves_above low high middle turn less is early near = by (64 - (turn + 1)) (omega (arith, early)) where
  by : (left : ℕ) → 64 - turn ≡ suc left → high - (middle + 1) < 2 ^ left
  by left same =
      let near' : high - low < 2 ^ left * 2 = subst (λ (n : ℕ). high - low < n) (ap (λ (n : ℕ). 2 ^ n) same ∙ pow-suc 2 left) near in omega (arith, near', is, less)

pub halves_below : (low high middle turn : ℕ) → low < high → middle ≡ low + (high - low) / 2 → turn < 64 → high - low < 2 ^ (64 - turn) → middle - low < 2 ^ (64 - (turn + 1))
halves_below low high middle turn less is early near = by (64 - (turn + 1)) (omega (arith, early)) where
  by : (left : ℕ) → 64 - turn ≡ suc left → middle - low < 2 ^ left
  by left same =
      let near' : high - low < 2 ^ left * 2 = subst (λ (n : ℕ). high - low < n) (ap (λ (n : ℕ). 2 ^ n) same ∙ pow-suc 2 left) near in omega (arith, near', is, less)

pub still_near : (low high turn low' high' : ℕ) → low' ≡ low → high' ≡ high → high ≤ low → high' - low' < 2 ^ (64 - (turn + 1))
still_near low high turn low' high' a b none = let some = pow_pos (64 - (turn + 1)) in omega (arith, a, b, none, some) where
  pow_pos : (n : ℕ) → 1 ≤ 2 ^ n
  pow_pos n = one-le-pow n 2 (search rules)
