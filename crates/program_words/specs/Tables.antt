-- The rows of the program's table as grammars.
use Rattle.std.specs.Prelude.{map}
use Rattle.program_words.specs.Numbers as spec
use Rattle.program_words.specs.Commands.{CommandGrammar, OptionGrammar}
use Rattle.program_words.specs.declared.table.Numbers.{Numbers}
use Rattle.program_words.specs.declared.table.Numbers.TheVariants.{Listed, Between}
use Rattle.program_words.specs.declared.table.OptionRow.{OptionRow}
use Rattle.program_words.specs.declared.table.CommandRow.{CommandRow}

abbrev pub numbers_in : Numbers → spec.Numbers
numbers_in (Listed numbers) = spec.listed numbers.now
numbers_in (Between least most) = spec.between least most

abbrev pub option_of : OptionRow → OptionGrammar
option_of row = record { name = row.name.now; numbers = numbers_in row.numbers; default = row.default }

abbrev pub grammar_of : CommandRow → CommandGrammar
grammar_of row = record {
  command = row.command;
  name = row.name.now;
  operands = row.operands;
  options = map option_of row.options.now;
}
