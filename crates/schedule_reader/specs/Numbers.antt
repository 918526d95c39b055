-- Numbers and node identifiers of a schedule. This project's own format.
use Rattle.std.specs.Prelude.{ℕ, ◌+◌, ◌-◌, ◌*◌, Bool, ◌&&◌, List, [], ◌∷◌, length, nat_le, Option, Some, None}
use Rattle.std.specs.Prelude.{if◌then◌else◌, option_and_then}
use Rattle.std.specs.List.{list_all}
use Rattle.std.specs.Char.{is_ascii_digit}
use Rattle.std.specs.Int.{is_in_range}
use Rattle.std.specs.Str.Parse.{digits_value}

infixl 10 ◌>>=◌
-- one part after another: where one has no reading, the whole has none
abbrev pub ◌>>=◌ : {A B : Type 0} → Option A → (A → Option B) → Option B
part >>= next = option_and_then next part

-- the number, where it is one from `least` to `most`
abbrev pub within : ℕ → ℕ → ℕ → Option ℕ
within least most number = if nat_le least number && nat_le number most then Some number else None

-- one to ten decimal digits
unfoldable pub is_decimal : List ℕ → Bool
is_decimal word = (nat_le 1 (length word) && nat_le (length word) 10) && list_all is_ascii_digit word

-- the number that a word of one to ten decimal digits writes
unfoldable pub decimal : List ℕ → Option ℕ
decimal word = if is_decimal word then Some (digits_value 10 word) else None

-- the number from `least` to `most` that a word of one to ten decimal digits writes
abbrev pub number : ℕ → ℕ → List ℕ → Option ℕ
number least most word = do
  value ← decimal word
  within least most value

-- what a hexadecimal digit of either case stands for: 0 to 9 from 30h on, A to F from 41h on, a to f from 61h on
abbrev pub hex_digit : ℕ → Option ℕ
hex_digit b = if is_in_range 48 57 b then Some (b - 48) else
    (if is_in_range 65 70 b then Some (b - 55) else (if is_in_range 97 102 b then Some (b - 87) else None))

-- the node identifier from 01h to 7Fh that a word of two hexadecimal digits writes
unfoldable pub nid_of : List ℕ → Option ℕ
nid_of (high ∷ low ∷ []) = do
  sixteens ← hex_digit high
  ones ← hex_digit low
  within 1 127 (16 * sixteens + ones)
nid_of _ = None
