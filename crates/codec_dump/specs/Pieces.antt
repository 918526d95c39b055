-- Pieces of a codec file's text as it is written for people: keys with hexadecimal numbers, a line each. This project's
-- own form of TOML.
use Rattle.std.specs.Prelude.{ℕ, ◌+◌, ◌-◌, false, List, [], ◌∷◌, ◌++◌, length, replicate, Option, None, Some, codes}
use Rattle.std.specs.List.{flat_map}
use Rattle.std.specs.Fmt.{digits}

abbrev pub newline : List ℕ
newline = 10 ∷ []

-- hexadecimal digits, behind zeros up to so many digits
abbrev pub hex_digits : (width n : ℕ) → List ℕ
hex_digits width n = replicate (width - length (digits 16 false n)) 48 ++ digits 16 false n

-- a number of two digits at least, and a word of eight
unfoldable pub byte_text : ℕ → List ℕ
byte_text n = codes "0x" ++ hex_digits 2 n

unfoldable pub word_text : ℕ → List ℕ
word_text n = codes "0x" ++ hex_digits 8 n

-- a key's line
abbrev pub key_line : (key value : List ℕ) → List ℕ
key_line key value = key ++ (codes " = " ++ (value ++ newline))

abbrev pub byte_line : (key : List ℕ) → ℕ → List ℕ
byte_line key n = key_line key (byte_text n)

abbrev pub word_line : (key : List ℕ) → ℕ → List ℕ
word_line key n = key_line key (word_text n)

-- a key's line, where its number is given
abbrev pub byte_given : (key : List ℕ) → Option ℕ → List ℕ
byte_given key None = []
byte_given key (Some n) = byte_line key n

abbrev pub word_given : (key : List ℕ) → Option ℕ → List ℕ
word_given key None = []
word_given key (Some n) = word_line key n

-- numbers in brackets
abbrev pub further_byte : ℕ → List ℕ
further_byte n = codes ", " ++ byte_text n

abbrev pub bytes_text : List ℕ → List ℕ
bytes_text [] = codes "[]"
bytes_text (n ∷ numbers) = codes "[" ++ (byte_text n ++ (flat_map further_byte numbers ++ codes "]"))

-- a key's line, where there are numbers
abbrev pub bytes_given : (key : List ℕ) → List ℕ → List ℕ
bytes_given key [] = []
bytes_given key (n ∷ numbers) = key_line key (bytes_text (n ∷ numbers))

-- the texts of elements with their places, from a place on
abbrev pub each_from : {A : Type 0} → (ℕ → A → List ℕ) → ℕ → List A → List ℕ
each_from text place [] = []
each_from text place (x ∷ xs) = text place x ++ each_from text (place + 1) xs
