-- The words of `hda_trace`. This project's own.
use Rattle.std.specs.Prelude.{ℕ, Bool, false, List, [], ◌∷◌, codes, if◌then◌else◌}
use Rattle.std.specs.Str.{bytes_eq}
use Rattle.program_words.specs.RunWords.{run_words}
use Rattle.trace_lines.specs.declared.whole.Form.{Form}
use Rattle.trace_lines.specs.declared.whole.Form.TheVariants as form

-- the word that asks for lines of JSON
abbrev pub raw_word : List ℕ
raw_word = codes "--raw"

-- whether it is the first of the words after the program's name
abbrev pub is_raw : List (List ℕ) → Bool
is_raw [] = false
is_raw (word ∷ rest) = bytes_eq word raw_word

-- the words behind it where it is the first, and else all of them
abbrev pub operands_of : List (List ℕ) → List (List ℕ)
operands_of [] = []
operands_of (word ∷ rest) = if bytes_eq word raw_word then rest else word ∷ rest

-- the form for which they ask
abbrev pub form_of : List (List ℕ) → Form
form_of words = if is_raw words then form.Raw else form.Lines

-- the words with which `hda_play` makes the same run
abbrev pub played_words : List (List ℕ) → List (List ℕ)
played_words words = run_words (operands_of words)

-- the line for words that ask for no run
abbrev pub usage_line : List ℕ
usage_line = codes "usage: hda_trace [--raw] CODEC WAV SCHEDULE [--periods K] [--period M] | CODEC SCHEDULE\n"
