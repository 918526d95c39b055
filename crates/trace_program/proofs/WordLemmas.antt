-- The words before the operands.
use Rattle.std.proofs.Common.{◌≡◌, ℕ, true, false, List, [], ◌∷◌, drop, length, map, refl, true≢false, sym, arith}
use Rattle.trace_program.specs.Words.{is_raw, operands_of}

-- where the first word asks for lines of JSON the operands stand behind it
pub operands_raw : {X : Type 0} (text : X → List ℕ) (words : List X) → is_raw (drop 1 (map text words)) ≡ true → drop 1 (map text (drop 1 words)) ≡ operands_of (drop 1 (map text words))
operands_raw text [] raw = absurd (true≢false (sym raw))
operands_raw text (name ∷ []) raw = absurd (true≢false (sym raw))
operands_raw text (name ∷ (word ∷ rest)) raw = rw raw refl

-- and else behind the program's name
pub operands_plain : {X : Type 0} (text : X → List ℕ) (words : List X) → is_raw (drop 1 (map text words)) ≡ false → drop 1 (map text words) ≡ operands_of (drop 1 (map text words))
operands_plain text [] raw = refl
operands_plain text (name ∷ []) raw = refl
operands_plain text (name ∷ (word ∷ rest)) raw = rw raw refl

-- where there are no words, there are none behind the program's name
pub no_words : {X : Type 0} (text : X → List ℕ) (words : List X) → length words ≡ 0 → drop 1 (map text words) ≡ []
no_words text [] none = refl
no_words text (word ∷ rest) none = absurd (omega (arith, none))
