-- The value of decimal digits, one after another.
use Rattle.std.proofs.Common.{◌≡◌, ℕ, ◌+◌, ◌-◌, ◌*◌, ◌<◌, ◌≤◌, Bool, true, false, List, length, take, get_or, refl, sym, ap, ◌∙◌, arith}
use Rattle.std.specs.List.{list_all}
use Rattle.std.specs.Char.{is_ascii_digit, digit_value}
use Rattle.std.specs.Str.Parse.{digits_value}
use Rattle.std.proofs.lemmas.Bool.{false≢true}
use Rattle.std.proofs.lemmas.Bool.Decides.{nat_tests}
use Rattle.std.proofs.lemmas.List.Folds.{list_all_at}
use Rattle.std.proofs.lemmas.Int.Digits.{digits_value_more}

range_of : (b : ℕ) → is_ascii_digit b ≡ true → (48 ≤ b) × (b ≤ 57)
range_of b e = (grind (arith, nat_tests), grind (arith, nat_tests))

-- the byte at a place of a word of digits
pub digit_at : (word : List ℕ) (i : ℕ) → list_all is_ascii_digit word ≡ true → i < length word → (48 ≤ get_or word i 0) × (get_or word i 0 ≤ 57)
digit_at word i all inside = range_of (get_or word i 0) (is_digit (is_ascii_digit (get_or word i 0)) (λ e. list_all_at is_ascii_digit word i 0 inside e))
  where
    is_digit : (b : Bool) → (b ≡ false → list_all is_ascii_digit word ≡ false) → b ≡ true
    is_digit true h = refl
    is_digit false h = absurd (false≢true (sym (h refl) ∙ all))

value_of : (b : ℕ) → 48 ≤ b → b ≤ 57 → digit_value b ≡ b - 48
value_of b low high = grind (arith, nat_tests)

-- the value of one digit more
pub value_more : (word : List ℕ) (i : ℕ) → list_all is_ascii_digit word ≡ true → i < length word → digits_value 10 (take (i + 1) word) ≡ digits_value 10 (take i word) * 10 + (get_or word i 0 - 48)
value_more word i all inside =
    let digit = digit_at word i all inside in
    digits_value_more 10 word i inside ∙ ap (λ d. digits_value 10 (take i word) * 10 + d) (value_of (get_or word i 0) digit.0 digit.1)
