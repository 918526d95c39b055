-- How a text is cut. Lines are those of std's `lines`: they end at a line feed or at the text's end, and one carriage
-- return directly before a line feed is dropped. This project's own format.
use Rattle.std.specs.Prelude.{ℕ, Bool, not, List, [], ◌∷◌, ◌==◌, length, filter, Option, Some, None}
use Rattle.std.specs.List.{slice_split}

-- the pieces between the bytes of this value: one more than there are such bytes, and some may be empty
abbrev pub pieces : ℕ → List ℕ → List (List ℕ)
pieces separator text = slice_split (λ b. b == separator) text

abbrev pub is_word : List ℕ → Bool
is_word piece = not (length piece == 0)

-- the words of a text: its longest stretches without a space, 20h
abbrev pub words : List ℕ → List (List ℕ)
words text = filter is_word (pieces 32 text)

-- the one text of the list, if there is one and no other
abbrev pub one : List (List ℕ) → Option (List ℕ)
one (text ∷ []) = Some text
one _ = None

-- the two texts of the list, if there are just two
abbrev pub two : List (List ℕ) → Option (List ℕ × List ℕ)
two (first ∷ second ∷ []) = Some (first, second)
two _ = None
