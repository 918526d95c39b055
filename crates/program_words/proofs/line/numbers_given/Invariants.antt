use Rattle.std.proofs.Common.{◌≡◌, map}
use Rattle.program_words.specs.ClapCommand.{numbers_found}
use Rattle.program_words.specs.Tables.{option_of}
use Rattle.program_words.proofs.NumberRows.{after_numbers, numbers_from}
use Rattle.program_words.proofs.line.numbers_given.Given as goal

-- the numbers so far stand before those of the options that are left
abbrev pub invariant-loop-option : goal.invariant-loop-option
invariant-loop-option l = numbers_found (map option_of l.options) l.matches ≡ after_numbers l.numbers.items (numbers_from l.options l.option-index l.matches)
