-- Counts that are held at the greatest number of 64 bits.
use Rattle.std.proofs.Common.{◌≡◌, ℕ, ◌+◌, ◌-◌, ◌*◌, ◌^◌, ◌<◌, ◌≤◌, zero, suc, List, [], ◌∷◌, length, take, get_or, replicate, sum_by, refl, sym, ap, ◌∙◌, inl, inr, arith}
use Rattle.std.specs.List.{flat_map}
use Rattle.std.proofs.lemmas.List.Sums.{sum_by_more, sum_by-append, sum_by-cons}
use Rattle.std.proofs.lemmas.List.Folds.{sum_by-replicate}
use Rattle.std.proofs.lemmas.Bool.{cases_lt}
use Rattle.std.proofs.Math.Nat.{zero-mul, suc-mul}
use Rattle.schedule_reader.specs.Left.{held}

-- a sum of held counts, held, is the held sum
pub held-add : (a b : ℕ) → held (held a + held b) ≡ held (a + b)
unfolding held
held-add a b = omega arith

pub held-small : (a : ℕ) → a < 2 ^ 64 → held a ≡ a
unfolding held
held-small a small = omega arith

-- one element more
pub held_more : {X : Type 0} (f : X → ℕ) (xs : List X) (i : ℕ) (d : X) (so_far own : ℕ) → i < length xs → so_far ≡ held (sum_by f (take i xs)) → own ≡ held (f (get_or xs i d)) → held (so_far + own) ≡ held (sum_by f (take (i + 1) xs))
held_more f xs i d so_far own inside e1 e2 =
    ap (λ n. held (n + own)) e1 ∙ ap (λ n. held (held (sum_by f (take i xs)) + n)) e2
    ∙ held-add (sum_by f (take i xs)) (f (get_or xs i d)) ∙ ap held (sym (sum_by_more f xs i d inside))

held-most : (a : ℕ) → 2 ^ 64 - 1 ≤ a → held a ≡ 2 ^ 64 - 1
unfolding held
held-most a large = omega arith

-- the same count so often
pub held-times : (k a : ℕ) → held (k * held a) ≡ held (k * a)
held-times zero a = ap held (zero-mul (held a) ∙ sym (zero-mul a))
held-times (suc k) a =
    elim (cases_lt a (2 ^ 64)) [
      | inl small ↦ ap (λ n. held (suc k * n)) (held-small a small)
      | inr large ↦
          let most : 2 ^ 64 - 1 ≤ a = omega arith in
          ap (λ n. held (suc k * n)) (held-most a most) ∙ held-most (suc k * (2 ^ 64 - 1)) (omega arith) ∙ sym (held-most (suc k * a) (omega (arith, suc-mul k a)))
    ]

-- a sum over lists joined end to end
pub sum_by-flat_map : {X Y : Type 0} (f : Y → ℕ) (g : X → List Y) (xs : List X) → sum_by f (flat_map g xs) ≡ sum_by (λ x. sum_by f (g x)) xs
sum_by-flat_map f g [] = refl
sum_by-flat_map f g (x ∷ xs) =
    sum_by-append f (g x) (flat_map g xs) ∙ ap (λ n. sum_by f (g x) + n) (sum_by-flat_map f g xs) ∙ sym (sum_by-cons (λ x. sum_by f (g x)) x xs)

-- what comes so often
pub sum_by-again : {X : Type 0} (f : X → ℕ) (k : ℕ) (xs : List X) → sum_by f (flat_map (λ ys. ys) (replicate k xs)) ≡ k * sum_by f xs
sum_by-again f k xs = sum_by-flat_map f (λ ys. ys) (replicate k xs) ∙ sum_by-replicate (sum_by f) k xs
