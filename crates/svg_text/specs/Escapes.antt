-- A text as it stands in an element or in an attribute of XML 1.0. This project's own.
use Rattle.std.specs.Prelude.{ℕ, Bool, List, [], ◌∷◌, ◌==◌, nat_le, ◌&&◌, codes, if◌then◌else◌}
use Rattle.std.specs.List.{flat_map}

-- a byte that stands for itself in a text: one of ASCII that can be printed
abbrev pub is_printed : ℕ → Bool
is_printed byte = nat_le 32 byte && nat_le byte 126

-- a byte: what XML takes for marks stands as a reference, and what cannot be printed as a question mark
abbrev pub byte_text : ℕ → List ℕ
byte_text byte =
    if byte == 60 then codes "&lt;"
    else (if byte == 62 then codes "&gt;"
    else (if byte == 38 then codes "&amp;"
    else (if byte == 34 then codes "&quot;"
    else (if is_printed byte then byte ∷ [] else codes "?"))))

-- a text
abbrev pub escaped : List ℕ → List ℕ
escaped text = flat_map byte_text text
