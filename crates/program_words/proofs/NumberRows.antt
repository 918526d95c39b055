-- The numbers of a row's options, one after another.
use Rattle.std.proofs.Common.{ℕ, List, ◌++◌, map, drop, Option, option_map}
use Rattle.clap.specs.declared.parser.matches.ArgMatches.{ArgMatches}
use Rattle.program_words.specs.Tables.{option_of}
use Rattle.program_words.specs.declared.table.OptionRow.{OptionRow}
use Rattle.program_words.specs.ClapCommand.{numbers_found}

-- the numbers so far, before others
abbrev pub after_numbers : List ℕ → Option (List ℕ) → Option (List ℕ)
after_numbers numbers = option_map (λ rest. numbers ++ rest)

-- the numbers of the options from one on
abbrev pub numbers_from : List OptionRow → ℕ → ArgMatches → Option (List ℕ)
numbers_from rows i matches = numbers_found (map option_of (drop i rows)) matches
