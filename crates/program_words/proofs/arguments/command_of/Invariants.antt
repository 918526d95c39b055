use Rattle.std.proofs.Common.{◌≡◌, take}
use Rattle.clap.specs.Words.{app_of}
use Rattle.program_words.proofs.RowLemmas.{app_with, names_of_rows}
use Rattle.program_words.proofs.arguments.command_of.Given as goal

-- the command has the options that were passed over
abbrev pub invariant-loop-option : goal.invariant-loop-option
invariant-loop-option l = app_of l.command ≡ app_with l.fn.row.name.now (names_of_rows (take l.option-index l.option-items))
