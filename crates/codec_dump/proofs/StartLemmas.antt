-- The settings and the plugs with which a codec starts.
use Rattle.std.proofs.Common.{◌≡◌, ◌+◌, ◌<◌, ℕ, List, [], ◌∷◌, ◌++◌, length, get_or, take, fold, sym, ap, ◌∙◌, Option, None, Some, MatchOption, IsSomeAnd}
use Rattle.std.specs.Option.{option_map}
use Rattle.std.proofs.lemmas.Grind.{take_at_read, fold-append}

-- what `map` gives by cases is the mapped option
pub mapped : {A B : Type 0} (f : A → B) (o : Option A) (r : Option B) → MatchOption o (r ≡ None) (λ x. IsSomeAnd r (λ y. y ≡ f x)) → r ≡ option_map f o
mapped f None r none = none
mapped f (Some x) None some = absurd some
mapped f (Some x) (Some y) some = ap Some some

-- the same, of a function that ensures more of its result
pub mapped_by : {A B : Type 0} (f : A → B) (Q : A → B → Type 0) → ((x : A) (y : B) → Q x y → y ≡ f x) → (o : Option A) (r : Option B) → MatchOption o (r ≡ None) (λ x. IsSomeAnd r (Q x)) → r ≡ option_map f o
mapped_by f Q same None r none = none
mapped_by f Q same (Some x) None some = absurd some
mapped_by f Q same (Some x) (Some y) some = ap Some (same x y some)

-- one more of what is gone through
pub fold-next : {A B : Type 0} (f : B → A → B) (start b : B) (xs : List A) (i : ℕ) (x : A) → i < length xs → x ≡ get_or xs i x → b ≡ fold f start (take i xs) → f b x ≡ fold f start (take (i + 1) xs)
fold-next f start b xs i x inside at is =
    let more : take (i + 1) xs ≡ take i xs ++ x ∷ [] = (take_at_read xs i x inside).1 ∙ ap (λ y. take i xs ++ y ∷ []) (sym at) in
    rw (more, fold-append) (ap (λ y. f y x) is)
