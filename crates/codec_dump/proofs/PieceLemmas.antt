-- Texts that grow by pieces.
use Rattle.std.proofs.Common.{◌≡◌, ◌≢◌, Bool, true, refl, ◌^◌, ◌+◌, ◌-◌, ◌<◌, ◌≤◌, ℕ, List, [], ◌∷◌, ◌++◌, suc, length, slice_index, replicate, take, drop, get_or, false, sym, ap, ◌∙◌, arith, add-one, drop-cons}
use Rattle.std.specs.Fmt.{padded_integral, format_spec, char_count}
use Rattle.std.specs.List.{flat_map, range_with_len}
use Rattle.std.specs.Prelude.{◌==◌, if◌then◌else◌, OnOk, Result, Ok, Err}
use Rattle.std.proofs.lemmas.List.{drop_all}
use Rattle.std.proofs.lemmas.Grind.{common_steps}
use Rattle.codec_dump.specs.Pieces.{each_from}
use Rattle.codec_dump.specs.Comments.{without_colon}

-- a number with zeros in front
pub zero_padded : (width : ℕ) (ds : List ℕ) → padded_integral (format_spec 32 0 4 width (2 ^ 64 - 1)) false [] ds ≡ replicate (width - length ds) 48 ++ ds
unfolding padded_integral char_count
zero_padded width ds = grind (arith, common_steps)

-- a list from a place on
from_place : {A : Type 0} (xs : List A) (i : ℕ) (x : A) → i < length xs → x ≡ get_or xs i x → drop i xs ≡ x ∷ drop (i + 1) xs
from_place xs i x inside at = rw (add-one, drop-cons xs i x) (ap (λ y. y ∷ drop (suc i) xs) (sym at))

-- one piece more
pub each_next : {A : Type 0} (f : ℕ → A → List ℕ) (xs : List A) (i : ℕ) (x : A) (before after whole : List ℕ) → i < length xs → x ≡ get_or xs i x → after ≡ before ++ f i x → before ++ each_from f i (drop i xs) ≡ whole → after ++ each_from f (i + 1) (drop (i + 1) xs) ≡ whole
each_next f xs i x before after whole inside at more so =
    let left : List ℕ = each_from f (i + 1) (drop (i + 1) xs) in
    let joined : after ++ left ≡ before ++ (f i x ++ left) = grind (arith, common_steps) in
    joined ∙ ap (λ ys. before ++ each_from f i ys) (sym (from_place xs i x inside at)) ∙ so

-- all pieces
pub each_done : {A : Type 0} (f : ℕ → A → List ℕ) (xs : List A) (i : ℕ) (before whole : List ℕ) → length xs ≤ i → before ++ each_from f i (drop i xs) ≡ whole → before ≡ whole
each_done f xs i before whole past so =
    let none : drop i xs ≡ [] = drop_all i xs past in
    let all : before ++ each_from f i (drop i xs) ≡ before = ap (λ ys. before ++ each_from f i ys) none ∙ grind (arith, common_steps) in
    sym all ∙ so

-- one piece more of those at numbers from one on, below another
pub lines_next : (f : ℕ → List ℕ) (place count : ℕ) (before after whole : List ℕ) → place < count → after ≡ before ++ f place → before ++ flat_map f (range_with_len place (count - place)) ≡ whole → after ++ flat_map f (range_with_len (place + 1) (count - (place + 1))) ≡ whole
lines_next f place count before after whole inside more so =
    let left : List ℕ = flat_map f (range_with_len (place + 1) (count - (place + 1))) in
    let more_left : count - place ≡ suc (count - (place + 1)) = omega arith in
    let first : flat_map f (range_with_len place (count - place)) ≡ f place ++ left =
    ap (λ n. flat_map f (range_with_len place n)) more_left ∙ refl in
    let joined : after ++ left ≡ before ++ (f place ++ left) = grind (arith, common_steps) in
    joined ∙ ap (λ ys. before ++ ys) (sym first) ∙ so

-- all of them
pub lines_done : (f : ℕ → List ℕ) (place count : ℕ) (before whole : List ℕ) → count ≤ place → before ++ flat_map f (range_with_len place (count - place)) ≡ whole → before ≡ whole
lines_done f place count before whole past so =
    let none : count - place ≡ 0 = omega arith in
    let all : before ++ flat_map f (range_with_len place (count - place)) ≡ before = ap (λ n. before ++ flat_map f (range_with_len place n)) none ∙ grind (arith, common_steps) in
    sym all ∙ so

-- a text that does not end with a colon
pub no_colon : (s : List ℕ) → ((front : List ℕ) → s ≢ front ++ (58 ∷ [])) → s ≡ without_colon s
no_colon s none = by_test (slice_index s (length s - 1) == 58) refl
  where
    last : (slice_index s (length s - 1) == 58) ≡ true → s ≡ take (length s - 1) s ++ (58 ∷ [])
    last e = grind (arith, common_steps)

    by_test : (b : Bool) → (slice_index s (length s - 1) == 58) ≡ b → s ≡ (if b then take (length s - 1) s else s)
    by_test false e = refl
    by_test true e = absurd (none (take (length s - 1) s) (last e))

-- two pieces in a row, three and four
pub two_pieces : {A E : Type 0} (r : Result A E) (before one after a b : List ℕ) → one ≡ before ++ a → OnOk r (after ≡ one ++ b) → OnOk r (after ≡ before ++ (a ++ b))
two_pieces (Ok x) before one after a b first second = grind (arith, common_steps)
two_pieces (Err e) before one after a b first second = tt

pub three_pieces : {A E : Type 0} (r : Result A E) (before one two after a b c : List ℕ) → one ≡ before ++ a → two ≡ one ++ b → OnOk r (after ≡ two ++ c) → OnOk r (after ≡ before ++ (a ++ (b ++ c)))
three_pieces (Ok x) before one two after a b c first second third = grind (arith, common_steps)
three_pieces (Err e) before one two after a b c first second third = tt

pub four_pieces : {A E : Type 0} (r : Result A E) (before one two three after a b c d : List ℕ) → one ≡ before ++ a → two ≡ one ++ b → three ≡ two ++ c → OnOk r (after ≡ three ++ d) → OnOk r (after ≡ before ++ (a ++ (b ++ (c ++ d))))
four_pieces (Ok x) before one two three after a b c d first second third fourth = grind (arith, common_steps)
four_pieces (Err e) before one two three after a b c d first second third fourth = tt
