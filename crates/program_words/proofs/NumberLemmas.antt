-- Numbers that are read from words.
use Rattle.std.proofs.Common.{◌≡◌, ◌∙◌, ◌<◌, ◌≤◌, ◌^◌, ℕ, Bool, true, List, Option, Some, None, Result, Ok, sym, ap, rules, arith, length}
use Rattle.std.specs.Prelude.{if◌then◌else◌, nat_le}
use Rattle.std.specs.Result.{result_ok}
use Rattle.std.specs.Char.{is_ascii_digit}
use Rattle.std.specs.List.{list_all}
use Rattle.std.specs.Str.Parse.{ParsesUnsigned, digits_value}
use Rattle.std.proofs.lemmas.Bool.{leb-true, and_parts}
use Rattle.std.proofs.lemmas.Str.Parse.{IsNumeralModel, digits_value_short, numerals_by_value, parse_gives}
use Rattle.program_words.specs.Numbers.{is_numeral, number_written}

own : IsNumeralModel (λ ds. list_all is_ascii_digit ds ≡ true) (digits_value 10)
own = numerals_by_value _ (search rules)

-- `parse` reads a number of ten digits at most
numeral_read : {E : Type 0} (text : List ℕ) (r : Result ℕ E) → ParsesUnsigned 64 10 text r → is_numeral text ≡ true → r ≡ Ok (digits_value 10 text)
numeral_read text r h e =
    let parts = and_parts (nat_le 1 (length text)) _ e in
    let more = and_parts (nat_le (length text) 10) (list_all is_ascii_digit text) parts.1 in
    let some : 1 ≤ length text = leb-true 1 (length text) parts.0 in
    let few : length text ≤ 10 = leb-true (length text) 10 more.0 in
    let small : digits_value 10 text < 10 ^ 10 = digits_value_short own text 10 more.1 few in
    parse_gives own 64 text r h more.1 (omega arith) (omega arith)

pub written : {E : Type 0} (text : List ℕ) (r : Result ℕ E) (o : Option ℕ) → o ≡ result_ok r → ParsesUnsigned 64 10 text r → is_numeral text ≡ true → o ≡ number_written text
written text r o is h e =
    is ∙ (ap result_ok (numeral_read text r h e) ∙ sym (ap (λ (b : Bool). if b then Some (digits_value 10 text) else None) e))
