-- The first of some values that a test holds of: found, and changed.
use Rattle.std.proofs.Common.{◌≡◌, ◌<◌, ℕ, zero, suc, Bool, true, false, List, [], ◌∷◌, length, set, get_or, Option, None, Some, All, refl, ap, subst, ◌∙◌, arith}
use Rattle.std.specs.Option.{option_map}
use Rattle.std.specs.Prelude.{cond, find}
use Rattle.std.proofs.lemmas.List.Elements.{All-head, All-tail, All-cons, All-nil}
use Rattle.jack_rules.specs.Switching.{with_first}

module _ {X : Type 0} (test : X → Bool) (change : X → X) where
  pub first_none : (xs : List X) → ((k : ℕ) (d : X) → k < length xs → test (get_or xs k d) ≡ false) → (find test xs ≡ None) × (with_first test change xs ≡ xs)
  first_none [] none = (refl, refl)
  first_none (x ∷ xs) none =
      let here : test x ≡ false = none zero x (omega arith) in
      let rest = first_none xs (λ k d within. none (suc k) d (omega (arith, within))) in (
        ap (λ (is : Bool). cond is (Some x) (find test xs)) here ∙ rest.0,
        ap (λ (is : Bool). cond is (change x ∷ xs) (x ∷ with_first test change xs)) here ∙ ap (λ (ys : List X). x ∷ ys) rest.1,
      )

  pub first_some : (xs : List X) (i : ℕ) (d : X) → i < length xs → ((k : ℕ) (d : X) → k < i → test (get_or xs k d) ≡ false) → test (get_or xs i d) ≡ true
      → (find test xs ≡ Some (get_or xs i d)) × (with_first test change xs ≡ set xs i (change (get_or xs i d)))
  first_some [] i d within before here = absurd (omega (arith, within))
  first_some (x ∷ xs) zero d within before here = (ap (λ (is : Bool). cond is (Some x) (find test xs)) here, ap (λ (is : Bool). cond is (change x ∷ xs) (x ∷ with_first test change xs)) here)
  first_some (x ∷ xs) (suc i) d within before here =
      let not_here : test x ≡ false = before zero x (omega arith) in
      let rest = first_some xs i d (omega (arith, within)) (λ k d less. before (suc k) d (omega (arith, less))) here in (
        ap (λ (is : Bool). cond is (Some x) (find test xs)) not_here ∙ rest.0,
        ap (λ (is : Bool). cond is (change x ∷ xs) (x ∷ with_first test change xs)) not_here ∙ ap (λ (ys : List X). x ∷ ys) rest.1,
      )

  all_by : (P : X → Type 0) (x : X) (xs : List X) (is : Bool) → P x → (P x → P (change x)) → All P xs → All P (with_first test change xs) → All P (cond is (change x ∷ xs) (x ∷ with_first test change xs))
  all_by P x xs true here changed all rest = All-cons P (change x) xs (changed here) all
  all_by P x xs false here changed all rest = All-cons P x (with_first test change xs) here rest

  -- what all have, all have after it
  pub first_all : (P : X → Type 0) (xs : List X) → ((x : X) → P x → P (change x)) → All P xs → All P (with_first test change xs)
  first_all P [] changed all = all
  first_all P (x ∷ xs) changed all =
      all_by P x xs (test x) (All-head P x xs all) (changed x) (All-tail P x xs all) (first_all P xs changed (All-tail P x xs all))

  found_by : (P : X → Type 0) (x y : X) (rest : Option X) (is : Bool) → cond is (Some x) rest ≡ Some y → P x → (rest ≡ Some y → P y) → P y
  found_by P x y rest true found here later = some_is P x y found here
    where
      some_is : (P : X → Type 0) (x y : X) → Some x ≡ Some y → P x → P y
      some_is P x y same here = let e : x ≡ y = cc in subst P e here
  found_by P x y rest false found here later = later found

  -- what all have, the first has
  pub find_all : (P : X → Type 0) (xs : List X) (y : X) → find test xs ≡ Some y → All P xs → P y
  find_all P [] y found all = cc
  find_all P (x ∷ xs) y found all = found_by P x y (find test xs) (test x) found (All-head P x xs all) (λ later. find_all P xs y later (All-tail P x xs all))

  same_by : (x : X) (xs : List X) (is : Bool) → cond is (Some x) (find test xs) ≡ None → (find test xs ≡ None → with_first test change xs ≡ xs) → cond is (change x ∷ xs) (x ∷ with_first test change xs) ≡ x ∷ xs
  same_by x xs true none rest = cc
  same_by x xs false none rest = ap (λ (ys : List X). x ∷ ys) (rest none)

  -- where none is found nothing changes
  pub first_same : (xs : List X) → find test xs ≡ None → with_first test change xs ≡ xs
  first_same [] none = refl
  first_same (x ∷ xs) none = same_by x xs (test x) none (first_same xs)

-- a value that was made of what was found
pub none_mapped : {X Y : Type 0} (f : X → Y) (found : Option X) → None ≡ option_map f found → found ≡ None
none_mapped f None is = refl
none_mapped f (Some x) is = cc

pub some_mapped : {X Y : Type 0} (f : X → Y) (found : Option X) (y : Y) (Q : Y → Type 0) → Some y ≡ option_map f found → ((x : X) → found ≡ Some x → Q (f x)) → Q y
some_mapped f None y Q is each = cc
some_mapped {X} {Y} f (Some x) y Q is each = let same : f x ≡ y = cc in subst Q same (each x refl)
