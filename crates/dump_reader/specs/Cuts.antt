-- How a text is cut. Lines are those of std's `lines`: they end at a line feed or at the text's end, and one carriage
-- return directly before a line feed is dropped. This project's own.
use Rattle.std.specs.Prelude.{ℕ, Bool, not, List, ◌==◌, ◌&&◌, ◌||◌, length, drop, take, position, unwrap_or}
use Rattle.std.specs.Prelude.{nat_le}
use Rattle.std.specs.Prelude.{bytes_eq}
use Rattle.std.specs.List.{slice_split}
use Rattle.dump_reader.specs.declared.cuts.Mark.{Mark}
use Rattle.dump_reader.specs.declared.cuts.Mark.TheVariants.{Feed, Bracket, Star, Between}

-- the bytes that stand between the words of a line: space , : = [ ] ( ) *
abbrev pub is_separator : ℕ → Bool
is_separator b = (((b == 32 || b == 44) || b == 58) || b == 61) || ((((b == 91 || b == 93) || b == 40) || b == 41)
    || b == 42)

-- where a text is cut: at line feeds, at closing brackets, at stars, or between words
abbrev pub is_mark : Mark → ℕ → Bool
is_mark Feed b = b == 10
is_mark Bracket b = b == 93
is_mark Star b = b == 42
is_mark Between b = is_separator b

-- the pieces between such bytes: one more than there are of them, and some may be empty
abbrev pub pieces : Mark → List ℕ → List (List ℕ)
pieces mark text = slice_split (is_mark mark) text

-- the words of a line
abbrev pub words : List ℕ → List (List ℕ)
words text = pieces Between text

-- the text without the spaces at its front
abbrev pub unindented : List ℕ → List ℕ
unindented text = drop (unwrap_or (position (λ b. not (b == 32)) text) (length text)) text

-- whether a text begins with another
abbrev pub begins_with : List ℕ → List ℕ → Bool
begins_with front text = nat_le (length front) (length text) && bytes_eq (take (length front) text) front
