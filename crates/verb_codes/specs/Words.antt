-- Bits and numbers inside a word, in the standard's counting: bit 0 is worth 1.
use Rattle.std.specs.Prelude.{ℕ, Bool, ◌^◌, ◌/◌, ◌%◌, ◌==◌}

-- the number in the `width` bits of the word from bit `low` up
abbrev pub bits_of : ℕ → ℕ → ℕ → ℕ
bits_of word low width = word / 2 ^ low % 2 ^ width

-- whether bit `at` of the word is 1
abbrev pub has_bit : ℕ → ℕ → Bool
has_bit word at = bits_of word at 1 == 1
