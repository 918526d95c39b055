-- The gains that stay, one after another.
use Rattle.std.proofs.Common.{◌≡◌, ◌+◌, ◌<◌, ◌≤◌, ℕ, Bool, true, false, List, [], ◌∷◌, ◌++◌, suc, zero, length, drop, get_or, refl, ap, ◌∙◌, arith, add-one, drop-cons, length-drop}
use Rattle.std.specs.Prelude.{slice_get, if◌then◌else◌}
use Rattle.std.proofs.lemmas.List.{nil_from_length}
use Rattle.dump_reader.specs.declared.facts.Gain.{Gain}
use Rattle.codec_dump.specs.Mending.{stays, stays_at, kept_one, kept_gains}

by_test : (b : Bool) (gain : Gain) (rest : List Gain) → (if b then gain ∷ rest else rest) ≡ kept_one b gain ++ rest
by_test true gain rest = refl
by_test false gain rest = refl

kept_first : (group : ℕ) (list : List ℕ) (gain : Gain) (gains : List Gain) → kept_gains group list (gain ∷ gains) ≡ kept_one (stays_at group (slice_get list 0)) gain ++ kept_gains group (drop 1 list) gains
kept_first group [] gain gains = refl
kept_first group (nid ∷ list) gain gains = by_test (stays group nid) gain (kept_gains group list gains)

pub kept_none : (group : ℕ) (list : List ℕ) → kept_gains group list [] ≡ []
kept_none group [] = refl
kept_none group (nid ∷ list) = refl

slice_get-drop : (xs : List ℕ) (n : ℕ) → slice_get (drop n xs) 0 ≡ slice_get xs n
slice_get-drop xs zero = refl
slice_get-drop [] (suc n) = refl
slice_get-drop (x ∷ xs) (suc n) = slice_get-drop xs n

drop-suc : (xs : List ℕ) (n : ℕ) → drop 1 (drop n xs) ≡ drop (suc n) xs
drop-suc xs zero = refl
drop-suc [] (suc n) = refl
drop-suc (x ∷ xs) (suc n) = drop-suc xs n

drop-more : (xs : List ℕ) (n : ℕ) → drop 1 (drop n xs) ≡ drop (n + 1) xs
drop-more xs n =
    let next : suc n ≡ n + 1 = omega arith in
    drop-suc xs n ∙ ap (λ k. drop k xs) next

-- one gain more
pub kept_step : (group : ℕ) (list : List ℕ) (gains : List Gain) (i : ℕ) (d : Gain) → i < length gains → kept_gains group (drop i list) (drop i gains) ≡ kept_one (stays_at group (slice_get list i)) (get_or gains i d) ++ kept_gains group (drop (i + 1) list) (drop (i + 1) gains)
kept_step group list gains i d inside =
    let front : drop i gains ≡ get_or gains i d ∷ drop (i + 1) gains = rw (add-one, drop-cons gains i d) refl in
    ap (kept_gains group (drop i list)) front
    ∙ kept_first group (drop i list) (get_or gains i d) (drop (i + 1) gains)
    ∙ ap (λ o. kept_one (stays_at group o) (get_or gains i d) ++ kept_gains group (drop 1 (drop i list)) (drop (i + 1) gains)) (slice_get-drop list i)
    ∙ ap (λ l. kept_one (stays_at group (slice_get list i)) (get_or gains i d) ++ kept_gains group l (drop (i + 1) gains)) (drop-more list i)

-- behind the last gain
pub kept_end : (group : ℕ) (list : List ℕ) (gains : List Gain) (i : ℕ) → length gains ≤ i → kept_gains group (drop i list) (drop i gains) ≡ []
kept_end group list gains i past =
    let none : drop i gains ≡ [] = nil_from_length (drop i gains) (omega (arith, length-drop i gains)) in
    ap (kept_gains group (drop i list)) none ∙ kept_none group (drop i list)
