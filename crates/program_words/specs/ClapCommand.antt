-- What `clap` knows of a command of the table: its options by name and its operands, each any number of times. The
-- rules on how often and how many are this project's own, and `clap` sees none of them.
use Rattle.std.specs.Prelude.{◌≡◌, ℕ, List, [], ◌∷◌, ◌++◌, Option, Some, None, codes, map, option_map, unwrap_or, true}
use Rattle.clap.specs.Words.{App, Rule, Shape, found_of, matched_of, new_rule, raw_values}
use Rattle.clap.specs.Simple.{new_shape}
use Rattle.clap.specs.declared.builder.action.ArgAction.TheVariants.{Append}
use Rattle.clap.specs.declared.parser.matches.ArgMatches.{ArgMatches}
use Rattle.program_words.specs.Commands.{OptionGrammar}
use Rattle.program_words.specs.Lines.{number_once, with_number}
use Rattle.program_words.specs.Words.{Part, is_among, operands_of, values_of}

-- by this the operands are known to `clap`: no option has the name
abbrev pub operands_id : List ℕ
operands_id = codes "FILE"

abbrev pub option_rule : List ℕ → Rule
option_rule name = record (new_rule name) { long = Some name; action = Some Append }

abbrev pub operand_rule : Rule
operand_rule = record (new_rule operands_id) { action = Some Append }

abbrev pub command_shape : List ℕ → List Rule → Shape
command_shape name rules = record (new_shape name) { rules = rules; disable_help_flag = true }

abbrev pub command_app : List ℕ → List (List ℕ) → App
command_app name options = record { top = command_shape name (map option_rule options ++ operand_rule ∷ []); subs = [] }

-- the values that `clap` found
abbrev pub values_found : ArgMatches → List ℕ → List (List ℕ)
values_found matches id = unwrap_or (option_map raw_values (matched_of (found_of matches) id)) []

-- what `clap` found are these parts
pub record HoldsParts (names : List (List ℕ)) (parts : List Part) (matches : ArgMatches) : Type 0 where
  pub operands : values_found matches operands_id ≡ operands_of parts
  pub options : (name : List ℕ) → is_among names name ≡ true → values_found matches name ≡ values_of name parts

-- the words have parts, and `clap` found them
abbrev pub FindsParts : List (List ℕ) → Option (List Part) → ArgMatches → Type 0
FindsParts names None matches = ⊥
FindsParts names (Some parts) matches = HoldsParts names parts matches

-- the numbers of the options, by what `clap` found
abbrev pub numbers_found : List OptionGrammar → ArgMatches → Option (List ℕ)
numbers_found [] matches = Some []
numbers_found (option ∷ rest) matches = with_number (number_once option (values_found matches option.name))
    (numbers_found rest matches)
