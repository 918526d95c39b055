-- The numbers and words of a line. This project's own.
use Rattle.std.specs.Prelude.{ℕ, ◌+◌, ◌-◌, ◌*◌, Bool, ◌&&◌, List, [], ◌∷◌, length, drop, nat_le, Option, Some, None}
use Rattle.std.specs.Prelude.{if◌then◌else◌, option_and_then, bytes_eq, codes, slice_get}
use Rattle.std.specs.List.{list_any, filter_map}
use Rattle.std.specs.Int.{is_in_range}
use Rattle.dump_reader.specs.Cuts.{words, begins_with}

infixl 10 ◌>>=◌
-- one part after another: where one has no reading, the whole has none
abbrev pub ◌>>=◌ : {A B : Type 0} → Option A → (A → Option B) → Option B
part >>= next = option_and_then next part

-- the greatest 32-bit number
abbrev pub most_word : ℕ
most_word = 4294967295

-- the number, where it is one from `least` to `most`
abbrev pub within : ℕ → ℕ → ℕ → Option ℕ
within least most number = if nat_le least number && nat_le number most then Some number else None

-- what a digit stands for: 0 to 9 from 30h on, A to F from 41h on, a to f from 61h on
abbrev pub digit : ℕ → Option ℕ
digit b = if is_in_range 48 57 b then Some (b - 48) else
    (if is_in_range 65 70 b then Some (b - 55) else (if is_in_range 97 102 b then Some (b - 87) else None))

-- the digit of this radix
abbrev pub digit_of : ℕ → ℕ → Option ℕ
digit_of radix b = do
  value ← digit b
  within 0 (radix - 1) value

-- a number of at most 32 bits with one digit more
abbrev pub with_digit : ℕ → ℕ → ℕ → Option ℕ
with_digit radix number b = do
  value ← digit_of radix b
  within 0 most_word (number * radix + value)

-- the number that digits write behind those of another
abbrev pub number_from : ℕ → ℕ → List ℕ → Option ℕ
number_from radix number [] = Some number
number_from radix number (b ∷ digits) = do
  more ← with_digit radix number b
  number_from radix more digits

-- the number of 32 bits that one digit or more of this radix write
unfoldable pub number_in : ℕ → List ℕ → Option ℕ
number_in radix digits = if nat_le 1 (length digits) then number_from radix 0 digits else None

-- the number that a word writes: hexadecimal behind `0x`, else decimal
unfoldable pub number_of : List ℕ → Option ℕ
number_of word = if begins_with (codes "0x") word then number_in 16 (drop 2 word) else number_in 10 word

-- the numbers of a text in order; its other words are passed over
unfoldable pub numbers : List ℕ → List ℕ
numbers text = filter_map number_of (words text)

-- whether a word stands in a text
unfoldable pub has_word : List ℕ → List ℕ → Bool
has_word text word = list_any (λ other. bytes_eq other word) (words text)

-- what a word is worth in a text: this where it stands there, else nothing
abbrev pub worth : List ℕ → List ℕ → ℕ → ℕ
worth text word value = if has_word text word then value else 0

-- the number at a place, from `least` to `most`
abbrev pub number_at : List ℕ → ℕ → ℕ → ℕ → Option ℕ
number_at numbers place least most = do
  number ← slice_get numbers place
  within least most number
