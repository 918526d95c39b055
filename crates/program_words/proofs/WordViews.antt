-- What `clap` makes of a word, by what the word is.
use Rattle.std.proofs.Common.{◌≡◌, ℕ, Bool, true, false, List, [], ◌∷◌, Option, Some, None, refl, sym, ap, subst, eqb-true}
use Rattle.std.specs.Prelude.{◌==◌, ◌&&◌, if◌then◌else◌, option_and_then}
use Rattle.std.specs.List.{list_any, before_first, after_first}
use Rattle.std.specs.Str.{bytes_eq}
use Rattle.clap.specs.Lexer.{long_of, long_of_rest, short_of, short_of_rest, strip_byte}
use Rattle.program_words.specs.Words.{plain, single, ending, option, word_of, word_from, word_after_one, is_equals}

abbrev pub two_hyphens : List ℕ
two_hyphens = 45 ∷ 45 ∷ []

-- a word is one of four
pub data WordView (word : List ℕ) : Type 0 where
  is_plain : word_of word ≡ plain → bytes_eq word two_hyphens ≡ false → long_of word ≡ None → short_of word ≡ None → WordView word
  is_single : word_of word ≡ single → WordView word
  is_ending : word_of word ≡ ending → bytes_eq word two_hyphens ≡ true → WordView word
  is_option : (name : List ℕ) (value : Option (List ℕ)) → word_of word ≡ option name value → bytes_eq word two_hyphens ≡ false
      → long_of word ≡ Some (name, value) → WordView word

view_two : (rest : List ℕ) → WordView (45 ∷ 45 ∷ rest)
view_two [] = is_ending refl refl
view_two (byte ∷ rest) = is_option (before_first is_equals (byte ∷ rest))
    (if list_any is_equals (byte ∷ rest) then Some (after_first is_equals (byte ∷ rest)) else None) refl refl refl

view_rest : (byte : ℕ) (rest : List ℕ) (b : Bool) → (byte == 45) ≡ b → WordView (45 ∷ byte ∷ rest)
view_rest byte rest true e =
    let is_hyphen : byte ≡ 45 = eqb-true byte 45 e in
    subst (λ x. WordView (45 ∷ x ∷ rest)) (sym is_hyphen) (view_two rest)
view_rest byte rest false e =
    is_single (ap (λ b. word_after_one (if b then Some rest else None)) e)

view_one : (rest : List ℕ) → WordView (45 ∷ rest)
view_one [] = is_single refl
view_one (byte ∷ rest) = view_rest byte rest (byte == 45) refl

view_at : (byte : ℕ) (rest : List ℕ) (b : Bool) → (byte == 45) ≡ b → WordView (byte ∷ rest)
view_at byte rest true e =
    let is_hyphen : byte ≡ 45 = eqb-true byte 45 e in
    subst (λ x. WordView (x ∷ rest)) (sym is_hyphen) (view_one rest)
view_at byte rest false e = is_plain
    (ap (λ b. word_from (if b then Some rest else None)) e)
    (ap (λ b. b && bytes_eq rest (45 ∷ [])) e)
    (ap (λ b. option_and_then long_of_rest (option_and_then (strip_byte 45) (if b then Some rest else None))) e)
    (ap (λ b. option_and_then short_of_rest (if b then Some rest else None)) e)

pub view_of : (word : List ℕ) → WordView word
view_of [] = is_plain refl refl refl refl
view_of (byte ∷ rest) = view_at byte rest (byte == 45) refl
