-- What the words after a command's name say, by the grammar of the command: this project's own.
use Rattle.std.specs.Prelude.{◌≡◌, ⊤, true, ℕ, List, [], ◌∷◌, Option, Some, None, ◌==◌, length, if◌then◌else◌}
use Rattle.std.specs.Prelude.{option_map, option_and_then}
use Rattle.program_words.specs.Numbers.{is_taken, number_in}
use Rattle.program_words.specs.Commands.{CommandGrammar, OptionGrammar, option_names}
use Rattle.program_words.specs.Words.{Part, operands_of, parts_of, values_of}

-- the operands, and a number for each option of the command
pub record CommandLine : Type 0 where
  pub operands : List (List ℕ)
  pub numbers : List ℕ

-- the number of an option: it is given once at most
abbrev pub number_once : OptionGrammar → List (List ℕ) → Option ℕ
number_once option [] = Some option.default
number_once option (value ∷ []) = number_in option.numbers value
number_once option (value ∷ other ∷ rest) = None

abbrev pub number_of : OptionGrammar → List Part → Option ℕ
number_of option parts = number_once option (values_of option.name parts)

abbrev pub with_number : Option ℕ → Option (List ℕ) → Option (List ℕ)
with_number number numbers = option_and_then (λ n. option_map (λ ns. n ∷ ns) numbers) number

abbrev pub numbers_of : List OptionGrammar → List Part → Option (List ℕ)
numbers_of [] parts = Some []
numbers_of (option ∷ rest) parts = with_number (number_of option parts) (numbers_of rest parts)

abbrev pub line_with : CommandGrammar → List (List ℕ) → Option (List ℕ) → Option CommandLine
line_with grammar operands numbers =
    if length operands == grammar.operands then option_map (λ ns. record { operands = operands; numbers = ns }) numbers
    else None

-- the parts as a line, where the operands are as many as the command has, and each option has its number
abbrev pub line_of_parts : CommandGrammar → List Part → Option CommandLine
line_of_parts grammar parts = line_with grammar (operands_of parts) (numbers_of grammar.options parts)

-- the words after the command's name as a line
abbrev pub command_line_of : CommandGrammar → List (List ℕ) → Option CommandLine
command_line_of grammar words = option_and_then (line_of_parts grammar) (parts_of (option_names grammar) words)

-- each option has a number that it takes
abbrev pub AllTaken : List OptionGrammar → List ℕ → Type 0
AllTaken [] [] = ⊤
AllTaken [] (number ∷ numbers) = ⊥
AllTaken (option ∷ options) [] = ⊥
AllTaken (option ∷ options) (number ∷ numbers) = (is_taken option.numbers number ≡ true) × AllTaken options numbers

-- a line of the command
pub record IsLineOf (grammar : CommandGrammar) (line : CommandLine) : Type 0 where
  pub operands : length line.operands ≡ grammar.operands
  pub numbers : AllTaken grammar.options line.numbers
