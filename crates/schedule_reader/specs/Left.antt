-- What the cursors over a text have left, and what private functions promise one another.
use Rattle.std.specs.Prelude.{◌≡◌, ◌⊎◌, ℕ, ◌^◌, ◌-◌, min, List, [], filter, map, Option, Some, None, Result, Ok, Err}
use Rattle.std.specs.Borrow.{Bor}
use Rattle.std.specs.Str.Lines.{lines}
use Rattle.schedule_reader.specs.declared.cuts.Lines.{Lines}
use Rattle.schedule_reader.specs.declared.cuts.Pieces.{Pieces}
use Rattle.schedule_reader.specs.declared.cuts.Words.{Words}
use Rattle.schedule_reader.specs.declared.rows.Row.{Row}
use Rattle.schedule_reader.specs.declared.fault.SchedFault.{SchedFault}
use Rattle.schedule_reader.specs.declared.fault.SchedFault.TheVariants.{OutOfMemory}
use Rattle.schedule_reader.specs.Cuts.{pieces, is_word}
use Rattle.schedule_reader.specs.Rows.{row_on}

-- the lines that are left
abbrev pub lines_left : Lines → List (List ℕ)
lines_left cursor = lines cursor.rest.now

-- what the lines that are left say
abbrev pub rows_left : Lines → List (Option Row)
rows_left cursor = map row_on (lines_left cursor)

-- the pieces of what is left, if anything is
abbrev pub pieces_of_rest : ℕ → Option (Bor (List ℕ)) → List (List ℕ)
pieces_of_rest separator None = []
pieces_of_rest separator (Some text) = pieces separator text.now

-- the pieces that are left
abbrev pub pieces_left : Pieces → List (List ℕ)
pieces_left cursor = pieces_of_rest cursor.separator cursor.rest

-- the words that are left
abbrev pub words_left : Words → List (List ℕ)
words_left cursor = filter is_word (pieces_left cursor.pieces)

-- two texts behind references
abbrev pub texts_at : Bor (List ℕ) × Bor (List ℕ) → List ℕ × List ℕ
texts_at both = (both.0.now, both.1.now)

-- the check's result says whether the lines have this first fault, or memory was wanting
abbrev pub IsCheckFor : Option SchedFault → Result (Unit {0}) SchedFault → Type 0
IsCheckFor fault (Ok _) = fault ≡ None
IsCheckFor fault (Err found) = (found ≡ OutOfMemory) ⊎ (fault ≡ Some found)

-- a count, held at the greatest number of 64 bits
unfoldable pub held : ℕ → ℕ
held count = min count (2 ^ 64 - 1)
