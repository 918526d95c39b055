-- The rows of the tables of names as the definitions have them.
use Rattle.std.specs.Prelude.{ℕ, List}
use Rattle.trace_lines.specs.declared.bits.BitName.{BitName}
use Rattle.trace_lines.specs.declared.names.RegisterName.{RegisterName}
use Rattle.trace_lines.specs.Registers.{NamedBit, Register, bit_text}

abbrev pub register_of : RegisterName → Register
register_of row = record { place = row.0; word = row.1.now }

abbrev pub bit_of : BitName → NamedBit
bit_of row = record { place = row.0; bit = row.1; word = row.2.now }

-- the name of a row's bit, where it is set in an access
abbrev pub row_text : (at bytes value : ℕ) → BitName → List ℕ
row_text at bytes value row = bit_text at bytes value (bit_of row)
