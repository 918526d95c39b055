-- The bytes of a piece, between places that are cut at the end of all bytes.
use Rattle.std.proofs.Common.{◌≡◌, ◌∙◌, ℕ, ◌+◌, ◌-◌, ◌≤◌, ◌<◌, Bool, true, false, List, [], take, drop, length, min, refl, sym, ap, rules, arith, length-drop}
use Rattle.std.specs.Prelude.{nat_le, slice_range}
use Rattle.std.proofs.lemmas.List.{drop_all, take_all}

min_left : (a b : ℕ) → a ≤ b → min a b ≡ a
min_left a b le = grind (arith, le)

min_right : (a b : ℕ) → b ≤ a → min a b ≡ b
min_right a b le = grind (arith, le)

-- nothing stands past the end
none_past : (bytes : List ℕ) (from to : ℕ) → length bytes ≤ from → slice_range bytes from to ≡ []
none_past bytes from to past =
    ap (λ (rest : List ℕ). take (to - from) rest) (drop_all from bytes past) ∙ take_all (to - from) [] (omega arith)

-- the end can be cut at the length
end_cut : (bytes : List ℕ) (from to : ℕ) → length bytes ≤ to → slice_range bytes from (length bytes) ≡ slice_range bytes from to
end_cut bytes from to past =
    take_all (length bytes - from) (drop from bytes) (omega (arith, length-drop from bytes))
    ∙ sym (take_all (to - from) (drop from bytes) (omega (arith, past, length-drop from bytes)))

-- a piece from a place on up to another, where both are cut
cut_end : (bytes : List ℕ) (from to : ℕ) (past : Bool) → nat_le (length bytes) to ≡ past → slice_range bytes from (min to (length bytes)) ≡ slice_range bytes from to
cut_end bytes from to true e =
    let le : length bytes ≤ to = search (rules, e) in
    ap (λ (end : ℕ). slice_range bytes from end) (min_right to (length bytes) le) ∙ end_cut bytes from to le
cut_end bytes from to false e =
    let lt : to < length bytes = search (rules, e) in
    ap (λ (end : ℕ). slice_range bytes from end) (min_left to (length bytes) (omega (arith, lt)))

cut_both : (bytes : List ℕ) (from to : ℕ) (past : Bool) → nat_le (length bytes) from ≡ past
    → slice_range bytes (min from (length bytes)) (min to (length bytes)) ≡ slice_range bytes from to
cut_both bytes from to true e =
    let le : length bytes ≤ from = search (rules, e) in
    ap (λ (first : ℕ). slice_range bytes first (min to (length bytes))) (min_right from (length bytes) le)
    ∙ none_past bytes (length bytes) (min to (length bytes)) (omega arith) ∙ sym (none_past bytes from to le)
cut_both bytes from to false e =
    let lt : from < length bytes = search (rules, e) in
    ap (λ (first : ℕ). slice_range bytes first (min to (length bytes))) (min_left from (length bytes) (omega (arith, lt)))
    ∙ cut_end bytes from to (nat_le (length bytes) to) refl

-- a piece of so many bytes between places that are both cut
pub cut_piece : (bytes : List ℕ) (from len first last : ℕ) → first ≡ min from (length bytes) → last ≡ min (from + len) (length bytes)
    → slice_range bytes first last ≡ slice_range bytes from (from + len)
cut_piece bytes from len first last first_is last_is =
    ap (λ (f : ℕ). slice_range bytes f last) first_is
    ∙ (ap (λ (l : ℕ). slice_range bytes (min from (length bytes)) l) last_is
    ∙ cut_both bytes from (from + len) (nat_le (length bytes) from) refl)
