-- Settings as lists of entries.
use Rattle.std.proofs.Common.{◌≡◌, ◌<◌, ◌≤◌, ◌+◌, ℕ, zero, suc, Bool, true, false, cond, List, [], ◌∷◌, ◌++◌, Some, None, map, length, get_or, set, take, drop, refl, sym, ap, subst, arith}
use Rattle.std.specs.Prelude.{All}
use Rattle.std.proofs.lemmas.List.{take_more_set}
use Rattle.std.proofs.lemmas.List.Elements.{All-nil, All-cons, All-append}
use Rattle.std.specs.Map.{lookup, set_value}
use Rattle.std.proofs.lemmas.Option.{none-some}

-- a number put at a key that is not there changes nothing
pub set_value-absent : {K X : Type 0} (test : K → Bool) (entries : List (K × X)) (value : X) → lookup test entries ≡ None → set_value test entries value ≡ entries
set_value-absent test [] value e = refl
set_value-absent test (entry ∷ entries) value e = by (test entry.0) e (set_value-absent test entries value)
  where
    by : (b : Bool) → cond b (Some entry.1) (lookup test entries) ≡ None → (lookup test entries ≡ None → set_value test entries value ≡ entries) → cond b ((entry.0, value) ∷ entries) (entry ∷ set_value test entries value) ≡ entry ∷ entries
    by true h rest = absurd (none-some entry.1 (sym h))
    by false h rest = ap (λ es. entry ∷ es) (rest h)

-- a fact of the elements so far, one more of which is changed to another that has it
pub all_set_more : {X : Type 0} (P : X → Type 0) (xs : List X) (i : ℕ) (y : X) → i < length xs → All P (take i xs) → P y → All P (take (i + 1) (set xs i y))
all_set_more P xs i y within all is =
    subst (All P) (sym (take_more_set xs i y within)) (All-append P (take i xs) (y ∷ []) all (All-cons P y [] is (All-nil P)))

-- the element after those that were changed is the one that stood there
pub get_or-changed : {X : Type 0} (f : X → X) (xs : List X) (i : ℕ) (d : X) → i < length xs → get_or (map f (take i xs) ++ drop i xs) i d ≡ get_or xs i d
get_or-changed f [] i d h = absurd (omega arith)
get_or-changed f (x ∷ xs) zero d h = refl
get_or-changed f (x ∷ xs) (suc i) d h = get_or-changed f xs i d (omega arith)

pub all_changed : {X : Type 0} (f : X → X) (xs : List X) (i : ℕ) → length xs ≤ i → map f (take i xs) ++ drop i xs ≡ map f xs
all_changed f [] zero h = refl
all_changed f [] (suc i) h = refl
all_changed f (x ∷ xs) zero h = absurd (omega arith)
all_changed f (x ∷ xs) (suc i) h = ap (λ ys. f x ∷ ys) (all_changed f xs i (omega arith))
