-- What the words after a command's name are: this project's own.
use Rattle.std.specs.Prelude.{ℕ, Bool, true, false, List, [], ◌∷◌, Option, Some, None, ◌==◌, map, option_map}
use Rattle.std.specs.Prelude.{if◌then◌else◌}
use Rattle.std.specs.List.{list_any, before_first, after_first}
use Rattle.std.specs.Str.{bytes_eq}

-- a word that stands before any `--`
pub data Word : Type 0 where
  -- it begins with no hyphen
  plain : Word
  -- a hyphen alone, or a hyphen and then something else
  single : Word
  -- `--`
  ending : Word
  -- `--name`, or `--name=value`
  option : List ℕ → Option (List ℕ) → Word

-- what follows a hyphen (45) at the front
abbrev pub after_hyphen : List ℕ → Option (List ℕ)
after_hyphen [] = None
after_hyphen (byte ∷ rest) = if byte == 45 then Some rest else None

abbrev pub is_equals : ℕ → Bool
is_equals byte = byte == 61

-- what stands after two hyphens, split at its first `=` (61)
abbrev pub option_word : List ℕ → Word
option_word text = option (before_first is_equals text)
    (if list_any is_equals text then Some (after_first is_equals text) else None)

abbrev pub word_after_two : List ℕ → Word
word_after_two [] = ending
word_after_two (byte ∷ rest) = option_word (byte ∷ rest)

abbrev pub word_after_one : Option (List ℕ) → Word
word_after_one None = single
word_after_one (Some rest) = word_after_two rest

abbrev pub word_from : Option (List ℕ) → Word
word_from None = plain
word_from (Some rest) = word_after_one (after_hyphen rest)

abbrev pub word_of : List ℕ → Word
word_of text = word_from (after_hyphen text)

-- a word before any `--` has one hyphen at its front
abbrev pub single_at : Word → Bool → Bool
single_at single later = true
single_at ending later = false
single_at _ later = later

abbrev pub is_single : Word → Bool
is_single single = true
is_single _ = false

abbrev pub has_single : List (List ℕ) → Bool
has_single [] = false
has_single (word ∷ rest) = single_at (word_of word) (has_single rest)

-- the words are operands and options with a value
pub data Part : Type 0 where
  operand : List ℕ → Part
  given : List ℕ → List ℕ → Part

abbrev pub is_among : List (List ℕ) → List ℕ → Bool
is_among names name = list_any (λ known. bytes_eq known name) names

-- the part goes before the others, where those have a meaning
abbrev pub with_part : Part → Option (List Part) → Option (List Part)
with_part part = option_map (λ parts. part ∷ parts)

-- a word is met, where an option waits for its value or none does. `next` is what the words after it are.
abbrev pub part_met : List (List ℕ) → Option (List ℕ) → Word → List ℕ → List (List ℕ)
    → (Option (List ℕ) → Option (List Part))
    → Option (List Part)
part_met names (Some name) plain word rest next = with_part (given name word) (next None)
part_met names (Some name) _ word rest next = None
part_met names None plain word rest next = with_part (operand word) (next None)
part_met names None single word rest next = None
part_met names None ending word rest next = Some (map operand rest)
part_met names None (option name (Some value)) word rest next =
    if is_among names name then with_part (given name value) (next None) else None
part_met names None (option name None) word rest next = if is_among names name then next (Some name) else None

-- the parts of the words, at a command with options of these names, where an option waits for its value or none does
abbrev pub parts_from : List (List ℕ) → List (List ℕ) → Option (List ℕ) → Option (List Part)
parts_from names [] None = Some []
parts_from names [] (Some name) = None
parts_from names (word ∷ rest) waiting = part_met names waiting (word_of word) word rest (parts_from names rest)

abbrev pub parts_of : List (List ℕ) → List (List ℕ) → Option (List Part)
parts_of names words = parts_from names words None

abbrev pub operands_of : List Part → List (List ℕ)
operands_of [] = []
operands_of (operand text ∷ rest) = text ∷ operands_of rest
operands_of (given name value ∷ rest) = operands_of rest

-- the values that are given to the option of this name
abbrev pub values_of : List ℕ → List Part → List (List ℕ)
values_of name [] = []
values_of name (operand text ∷ rest) = values_of name rest
values_of name (given other value ∷ rest) = if bytes_eq other name then value ∷ values_of name rest else values_of name
    rest
