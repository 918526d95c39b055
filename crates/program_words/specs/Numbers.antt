-- The numbers of the program's words: this project's own.
use Rattle.std.specs.Prelude.{ℕ, Bool, List, Option, Some, None, ◌&&◌, ◌==◌, length, nat_le, if◌then◌else◌}
use Rattle.std.specs.Prelude.{option_and_then}
use Rattle.std.specs.List.{list_all, list_any}
use Rattle.std.specs.Str.Parse.{digits_value}
use Rattle.std.specs.Char.{is_ascii_digit}

-- the numbers that an option takes: some that are listed, or all from one to another
pub data Numbers : Type 0 where
  listed : List ℕ → Numbers
  between : ℕ → ℕ → Numbers

abbrev pub is_taken : Numbers → ℕ → Bool
is_taken (listed numbers) number = list_any (λ n. n == number) numbers
is_taken (between least most) number = nat_le least number && nat_le number most

-- a number is one to ten digits, of which the first may be zeros
abbrev pub is_numeral : List ℕ → Bool
is_numeral text = nat_le 1 (length text) && (nat_le (length text) 10 && list_all is_ascii_digit text)

-- the number that a word writes
abbrev pub number_written : List ℕ → Option ℕ
number_written text = if is_numeral text then Some (digits_value 10 text) else None

abbrev pub if_taken : Numbers → ℕ → Option ℕ
if_taken numbers number = if is_taken numbers number then Some number else None

-- the same, where it is one that is taken
abbrev pub number_in : Numbers → List ℕ → Option ℕ
number_in numbers text = option_and_then (if_taken numbers) (number_written text)
