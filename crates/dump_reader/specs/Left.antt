-- What the cursors over a text have left.
use Rattle.std.specs.Prelude.{ℕ, List, [], Option, Some, None}
use Rattle.std.specs.Borrow.{Bor}
use Rattle.std.specs.Str.Lines.{lines}
use Rattle.dump_reader.specs.declared.cuts.Lines.{Lines}
use Rattle.dump_reader.specs.declared.cuts.Pieces.{Pieces}
use Rattle.dump_reader.specs.declared.cuts.Mark.{Mark}
use Rattle.dump_reader.specs.Cuts.{pieces}

-- the lines that are left
abbrev pub lines_left : Lines → List (List ℕ)
lines_left cursor = lines cursor.rest.now

-- the pieces of what is left, if anything is
abbrev pub pieces_of_rest : Mark → Option (Bor (List ℕ)) → List (List ℕ)
pieces_of_rest mark None = []
pieces_of_rest mark (Some text) = pieces mark text.now

-- the pieces that are left
abbrev pub pieces_left : Pieces → List (List ℕ)
pieces_left cursor = pieces_of_rest cursor.mark cursor.rest
