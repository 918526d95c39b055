-- Shapes of items, one item after another.
use Rattle.std.proofs.Common.{◌≡◌, ◌∙◌, ℕ, ◌+◌, ◌<◌, ◌≤◌, List, ◌∷◌, ◌++◌, append_assoc, append-nil, ap, sym, refl, drop, get_or, length, add-one, drop-cons}
use Rattle.std.proofs.lemmas.List.{drop_all}
use Rattle.codec_picture.specs.Repeats.{numbered}

next : {A X : Type 0} (of : ℕ → A → List X) (number : ℕ) (items : List A) (i : ℕ) (d : A) → i < length items
    → numbered of number (drop i items) ≡ of number (get_or items i d) ++ numbered of (number + 1) (drop (i + 1) items)
next of number items i d within =
    let cons : drop i items ≡ get_or items i d ∷ drop (i + 1) items = rw (add-one, drop-cons items i d) refl in
    ap (λ l. numbered of number l) cons

-- one item more
pub numbered_step : {A X : Type 0} (of : ℕ → A → List X) (number : ℕ) (items : List A) (i : ℕ) (item : A) (whole shapes shapes' : List X)
    → i < length items → item ≡ get_or items i item → whole ≡ shapes ++ numbered of number (drop i items) → shapes' ≡ shapes ++ of number item
    → whole ≡ shapes' ++ numbered of (number + 1) (drop (i + 1) items)
numbered_step of number items i item whole shapes shapes' within is left more =
    left ∙ ap (λ l. shapes ++ l) (next of number items i item within ∙ ap (λ x. of number x ++ numbered of (number + 1) (drop (i + 1) items)) (sym is))
    ∙ sym (append_assoc shapes (of number item) (numbered of (number + 1) (drop (i + 1) items)))
    ∙ ap (λ s. s ++ numbered of (number + 1) (drop (i + 1) items)) (sym more)

-- no item is left
pub numbered_end : {A X : Type 0} (of : ℕ → A → List X) (number : ℕ) (items : List A) (i : ℕ) (whole shapes : List X) → length items ≤ i
    → whole ≡ shapes ++ numbered of number (drop i items) → whole ≡ shapes
numbered_end of number items i whole shapes past left =
    left ∙ ap (λ l. shapes ++ numbered of number l) (drop_all i items past) ∙ append-nil shapes

-- ---- pieces that are pushed one after another

pub pieces_5 : {X : Type 0} (out a b c d e : List X) → ((((out ++ a) ++ b) ++ c) ++ d) ++ e ≡ out ++ ((((a ++ b) ++ c) ++ d) ++ e)
pieces_5 out a b c d e = simp append_assoc

pub pieces_6 : {X : Type 0} (out a b c d e f : List X) → (((((out ++ a) ++ b) ++ c) ++ d) ++ e) ++ f ≡ out ++ (((((a ++ b) ++ c) ++ d) ++ e) ++ f)
pieces_6 out a b c d e f = simp append_assoc
