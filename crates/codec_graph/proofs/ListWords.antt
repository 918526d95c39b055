-- The entries of a word of a connection list are those of the list.
use Rattle.std.proofs.Common.{◌≡◌, ◌<◌, ◌+◌, ◌*◌, ◌/◌, ◌%◌, ◌^◌, ℕ, Bool, true, false, List, [], ◌∷◌, map, get_or, sym, ap, ◌∙◌, arith, lit<, add-zero}
use Rattle.std.specs.Prelude.{All, slice_index}
use Rattle.std.specs.List.{range_with_len}
use Rattle.codec_graph.specs.VerbMeaning.{list_word}
use Rattle.codec_graph.proofs.Narrow.{entry_narrow}
use Rattle.verb_codes.specs.Lists.{entry_width, entries_per_word, entries_of_word}

two : (a b : ℕ) → a < 2 ^ 16 → b < 2 ^ 16 → entries_of_word true (a + b * 2 ^ 16) ≡ a ∷ b ∷ []
two a b x y =
    let p : (a + b * 2 ^ 16) % 2 ^ 16 ≡ a = omega arith in
    let q : (a + b * 2 ^ 16) / 2 ^ 16 % 2 ^ 16 ≡ b = omega arith in
    λ i. p i ∷ q i ∷ []

four : (a b c d : ℕ) → a < 2 ^ 8 → b < 2 ^ 8 → c < 2 ^ 8 → d < 2 ^ 8 → entries_of_word false (a + b * 2 ^ 8 + c * 2 ^ 16 + d * 2 ^ 24) ≡ a ∷ b ∷ c ∷ d ∷ []
four a b c d x y z w =
    let p : (a + b * 2 ^ 8 + c * 2 ^ 16 + d * 2 ^ 24) % 2 ^ 8 ≡ a = omega arith in
    let q : (a + b * 2 ^ 8 + c * 2 ^ 16 + d * 2 ^ 24) / 2 ^ 8 % 2 ^ 8 ≡ b = omega arith in
    let r : (a + b * 2 ^ 8 + c * 2 ^ 16 + d * 2 ^ 24) / 2 ^ 16 % 2 ^ 8 ≡ c = omega arith in
    let s : (a + b * 2 ^ 8 + c * 2 ^ 16 + d * 2 ^ 24) / 2 ^ 24 % 2 ^ 8 ≡ d = omega arith in
    λ i. p i ∷ q i ∷ r i ∷ s i ∷ []

pub entries_of-list_word : (long : Bool) (entries : List ℕ) (place : ℕ) → All (λ entry. entry < 2 ^ entry_width long) entries
    → entries_of_word long (list_word long entries place) ≡ map (λ i. slice_index entries (place + i)) (range_with_len 0 (entries_per_word long))
entries_of-list_word true entries place all =
    two _ _ (entry_narrow entries place (2 ^ 16) (lit< tt) all) (entry_narrow entries (place + 1) (2 ^ 16) (lit< tt) all)
    ∙ ap (λ n. get_or entries n 0 ∷ get_or entries (place + 1) 0 ∷ []) (sym (add-zero place))
entries_of-list_word false entries place all =
    four _ _ _ _ (entry_narrow entries place (2 ^ 8) (lit< tt) all) (entry_narrow entries (place + 1) (2 ^ 8) (lit< tt) all) (entry_narrow entries (place + 2) (2 ^ 8) (lit< tt) all) (entry_narrow entries (place + 3) (2 ^ 8) (lit< tt) all)
    ∙ ap (λ n. get_or entries n 0 ∷ get_or entries (place + 1) 0 ∷ get_or entries (place + 2) 0 ∷ get_or entries (place + 3) 0 ∷ []) (sym (add-zero place))
