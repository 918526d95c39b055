-- What was read of the words as a line of the grammar.
use Rattle.std.specs.Prelude.{map}
use Rattle.program_words.specs.Lines.{CommandLine}
use Rattle.program_words.specs.declared.line.Line.{Line}

abbrev pub line_seen : Line → CommandLine
line_seen line = record { operands = map (λ s. s.now) line.operands.items; numbers = line.numbers.items }
