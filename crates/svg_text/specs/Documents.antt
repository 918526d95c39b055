-- Well-formed texts: a small grammar of elements of XML 1.0 with ASCII alone, and no entity, comment or processing
-- instruction. This project's own.
use Rattle.std.specs.Prelude.{◌≡◌, ℕ, Bool, true, false, ◌==◌, ◌&&◌, ◌||◌, not, nat_le, List, [], ◌∷◌, ◌++◌, codes}
use Rattle.std.specs.Prelude.{Contains}
use Rattle.std.specs.List.{list_all, list_any}
use Rattle.std.specs.Str.{bytes_eq}
use Rattle.svg_text.specs.Escapes.{is_printed}

-- ---- characters

-- a byte that stands in a text as it is: a line feed, or one that is printed and is no mark
abbrev pub is_plain : ℕ → Bool
is_plain byte =
    (not (byte == 60) && not (byte == 62) && not (byte == 38) && not (byte == 34) && is_printed byte) || byte == 10

-- the references to characters that are marks
abbrev pub references : List (List ℕ)
references = codes "&lt;" ∷ codes "&gt;" ∷ codes "&amp;" ∷ codes "&quot;" ∷ []

-- a text in which every mark stands as a reference
pub data IsText : List ℕ → Type 0 where
  ended : IsText []
  plain : (byte : ℕ) (rest : List ℕ) → is_plain byte ≡ true → IsText rest → IsText (byte ∷ rest)
  reference : (mark rest : List ℕ) → Contains references mark → IsText rest → IsText (mark ++ rest)

-- ---- attributes

-- a name: letters, digits and hyphens, and at least one
abbrev pub is_name_byte : ℕ → Bool
is_name_byte byte =
    (nat_le 97 byte && nat_le byte 122) || (nat_le 65 byte && nat_le byte 90) || (nat_le 48 byte && nat_le byte 57)
    || byte == 45

abbrev pub is_name : List ℕ → Bool
is_name [] = false
is_name (first ∷ rest) = nat_le 97 first && nat_le first 122 && list_all is_name_byte rest

-- whether a name is one of these
abbrev pub is_among : List (List ℕ) → (name : List ℕ) → Bool
is_among names name = list_any (bytes_eq name) names

-- attributes with these names, of which none is given twice
pub data AreAttributes : List (List ℕ) → List ℕ → Type 0 where
  none : AreAttributes [] []
  more : (names : List (List ℕ)) (name value rest : List ℕ) → is_name name ≡ true → is_among names name ≡ false
      → IsText value → AreAttributes names rest
      → AreAttributes (name ∷ names) (codes " " ++ name ++ codes "=\"" ++ value ++ codes "\"" ++ rest)

-- ---- elements

-- texts and elements in any order
pub data IsContent : List ℕ → Type 0 where
  nothing : IsContent []
  text : (words rest : List ℕ) → IsText words → IsContent rest → IsContent (words ++ rest)
  element : (names : List (List ℕ)) (name attributes content rest : List ℕ) → is_name name ≡ true
      → AreAttributes names attributes → IsContent content → IsContent rest
      → IsContent (codes "<" ++ name ++ attributes ++ codes ">" ++ content ++ codes "</" ++ name ++ codes ">" ++ rest)
  empty : (names : List (List ℕ)) (name attributes rest : List ℕ) → is_name name ≡ true
      → AreAttributes names attributes → IsContent rest
      → IsContent (codes "<" ++ name ++ attributes ++ codes "/>" ++ rest)

-- one element, and a line feed
pub record IsDocument (bytes : List ℕ) : Type 0 where
  pub names : List (List ℕ)
  pub name : List ℕ
  pub attributes : List ℕ
  pub content : List ℕ
  pub named : is_name name ≡ true
  pub attributed : AreAttributes names attributes
  pub contains : IsContent content
  pub is : bytes ≡ codes "<" ++ name ++ attributes ++ codes ">" ++ content ++ codes "</" ++ name ++ codes ">\n"
