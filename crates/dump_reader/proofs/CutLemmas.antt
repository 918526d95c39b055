-- What the cursors over a text take off, and what they leave.
use Rattle.std.proofs.Common.{◌≡◌, ℕ, ◌+◌, ◌<◌, ◌≤◌, Bool, true, false, cond, eqb, List, [], ◌∷◌, length, take, drop, Some, None, refl, ap, ◌∙◌, lit≤, arith}
use Rattle.std.specs.Prelude.{position}
use Rattle.std.specs.List.{slice_split, position_or_len}
use Rattle.std.specs.Str.Lines.{lines, lines_of_parts, strip_carriage_return}
use Rattle.std.proofs.lemmas.List.Splits.{slice_split_first, slice_split_none, length-slice_split}
use Rattle.std.proofs.lemmas.List.Sums.{position_or_len_is, fails_before_first, count_by-le-length}
use Rattle.std.proofs.lemmas.List.Quantifiers.{position-Some}
use Rattle.std.proofs.lemmas.Bool.{cond-false}
use Rattle.std.proofs.lemmas.Bool.Decides.{nat_tests}
use Rattle.dump_reader.specs.declared.cuts.Mark.{Mark}
use Rattle.dump_reader.specs.declared.cuts.Mark.TheVariants.{Feed}
use Rattle.dump_reader.specs.Cuts.{is_mark, pieces}

-- the first piece ends at the first such byte
pub pieces_at : (mark : Mark) (text : List ℕ) (n : ℕ) → position (is_mark mark) text ≡ Some n → pieces mark text ≡ take n text ∷ pieces mark (drop (n + 1) text)
pieces_at mark text n e =
    let p : ℕ → Bool = is_mark mark in
    let at = position-Some p text n 0 e in
    let place : position_or_len p text ≡ n = position_or_len_is p text n 0 (omega (arith, at.0)) at.2 (λ _. at.1) in
    let inside : position_or_len p text < length text = omega (arith, at.0, place) in
    slice_split_first p text 0 inside ∙ ap (λ k. take k text ∷ pieces mark (drop (k + 1) text)) place

not_found : (p : ℕ → Bool) (text : List ℕ) → position p text ≡ None → length text ≤ position_or_len p text
not_found p text e = grind (arith, nat_tests)

pub pieces_whole : (mark : Mark) (text : List ℕ) → position (is_mark mark) text ≡ None → pieces mark text ≡ text ∷ []
pieces_whole mark text e =
    let p : ℕ → Bool = is_mark mark in
    slice_split_none p text (λ k d inside. fails_before_first p text k d (omega (arith, not_found p text e)))

pub some_pieces : (mark : Mark) (text : List ℕ) → 0 < length (pieces mark text)
some_pieces mark text = omega (arith, length-slice_split (is_mark mark) text)

pos-eqb : (n : ℕ) → 0 < n → eqb n 0 ≡ false
pos-eqb n some = grind (arith, nat_tests)

lines_of_parts-first : (line : List ℕ) (parts : List (List ℕ)) → 0 < length parts → lines_of_parts (line ∷ parts) ≡ strip_carriage_return line ∷ lines_of_parts parts
lines_of_parts-first line [] some = absurd (omega arith)
lines_of_parts-first line (part ∷ parts) some = refl

-- a line that a line feed ends
pub lines_first : (text line rest : List ℕ) → pieces Feed text ≡ line ∷ pieces Feed rest → lines text ≡ strip_carriage_return line ∷ lines rest
lines_first text line rest e = ap lines_of_parts e ∙ lines_of_parts-first line (pieces Feed rest) (some_pieces Feed rest)

-- the last line, which no line feed ends
pub lines_last : (text : List ℕ) → pieces Feed text ≡ text ∷ [] → 0 < length text → lines text ≡ text ∷ []
lines_last text e some = ap lines_of_parts e ∙ cond-false _ _ _ (pos-eqb (length text) some)

length-lines_of_parts : (parts : List (List ℕ)) → length (lines_of_parts parts) ≤ length parts
length-lines_of_parts [] = lit≤ tt
length-lines_of_parts (part ∷ []) = by_test (eqb (length part) 0)
  where
    by_test : (b : Bool) → length (cond b [] (part ∷ [])) ≤ 1
    by_test true = lit≤ tt
    by_test false = lit≤ tt
length-lines_of_parts (part ∷ next ∷ parts) = let shorter : length (lines_of_parts (next ∷ parts)) ≤ length (next ∷ parts) = length-lines_of_parts (next ∷ parts) in omega arith

-- a text has at most one line more than bytes
pub length-lines : (text : List ℕ) → length (lines text) ≤ length text + 1
length-lines text =
    let p : ℕ → Bool = λ b. eqb b 10 in
    omega (arith, length-lines_of_parts (slice_split p text), length-slice_split p text, count_by-le-length p text)
