-- The file cut into the bytes of its lines.
use Rattle.std.proofs.Common.{◌≡◌, ℕ, zero, suc, ◌+◌, ◌*◌, ◌-◌, ◌/◌, ◌<◌, ◌≤◌, min, List, [], ◌∷◌, ◌++◌, length, map, take, drop, get_or, append-nil, take_all, length-take, refl, sym, ap, subst, ◌∙◌, arith}
use Rattle.std.specs.Prelude.{All}
use Rattle.std.specs.List.{flat_map, range_with_len}
use Rattle.std.specs.Fork.{slice_chunk}
use Rattle.std.proofs.Math.Nat.{suc-mul, mul-add-div_right}
use Rattle.std.proofs.lemmas.Nat.{div-mul-add}
use Rattle.std.proofs.lemmas.List.{length-append, length-drop, nil_from_length, take-append-drop}
use Rattle.std.proofs.lemmas.List.Elements.{All-cons}
use Rattle.std.proofs.Math.Seq.{take-append_seam, drop-append-add}
use Rattle.capture_report.specs.WavLines.{line_bytes, pieces_joined, wav_line, wav_lines, wav_pieces}

-- ---- lists cut into chunks

-- no list has none
none_count : (n : ℕ) → 0 < n → (0 + n - 1) / n ≡ 0
none_count n some =
    let e : 0 + n - 1 ≡ 0 * n + (n - 1) = omega (arith, some) in ap (λ (m : ℕ). m / n) e ∙ div-mul-add 0 n (n - 1) (omega (arith, some))

module _ {X : Type 0} (n : ℕ) (some : 0 < n) where
  -- the chunks of a list
  abbrev pub chunks : List X → List (List X)
  chunks xs = map (slice_chunk xs n) (range_with_len 0 ((length xs + n - 1) / n))

  chunks_later : (line left : List X) (k count : ℕ) → length line ≡ n
      → map (slice_chunk (line ++ left) n) (range_with_len (k + 1) count) ≡ map (slice_chunk left n) (range_with_len k count)
  chunks_later line left k zero full = refl
  chunks_later line left k (suc count) full =
      let times : (k + 1) * n ≡ k * n + n = (let e : k + 1 ≡ suc k = omega arith in ap (λ (m : ℕ). m * n) e ∙ suc-mul k n) in
      let place : (k + 1) * n ≡ length line + k * n = omega (arith, full, times) in
      let here : slice_chunk (line ++ left) n (k + 1) ≡ slice_chunk left n k =
      ap (λ (p : ℕ). take n (drop p (line ++ left))) place ∙ ap (take n) (drop-append-add line left (k * n)) in
      ap (λ (c : List X). c ∷ map (slice_chunk (line ++ left) n) (range_with_len (k + 1 + 1) count)) here
      ∙ ap (λ (m : List (List X)). slice_chunk left n k ∷ m) (chunks_later line left (k + 1) count full)

  -- the first chunk is a front that is as long as a chunk, or all
  first_chunk : (line left : List X) → length line ≡ min n (length (line ++ left)) → take n (line ++ left) ≡ line
  first_chunk line [] long = rw (append-nil line) (take_all n line (let l = length-append line [] in omega (arith, long, l)))
  first_chunk line (x ∷ xs) long =
      let l = length-append line (x ∷ xs) in
      let full : n ≡ length line = omega (arith, long, l) in
      ap (λ (m : ℕ). take m (line ++ x ∷ xs)) full ∙ take-append_seam line (x ∷ xs)

  pub chunks-none : chunks [] ≡ []
  chunks-none = ap (λ (count : ℕ). map (slice_chunk {X = X} [] n) (range_with_len 0 count)) (none_count n some)

  -- the first chunk begins at the front
  at_front : (line left : List X) → slice_chunk (line ++ left) n 0 ≡ take n (line ++ left)
  at_front line left = ap (λ (place : ℕ). take n (drop place (line ++ left))) (let none : 0 * n ≡ 0 = omega arith in none)

  other_chunks : (line left : List X) → length line ≡ min n (length (line ++ left))
      → map (slice_chunk (line ++ left) n) (range_with_len 1 ((length left + n - 1) / n)) ≡ chunks left
  other_chunks line [] long =
      ap (λ (count : ℕ). map (slice_chunk (line ++ []) n) (range_with_len 1 count)) (none_count n some) ∙ sym chunks-none
  other_chunks line (x ∷ xs) long =
      let full : length line ≡ n = (let l = length-append line (x ∷ xs) in omega (arith, long, l)) in
      chunks_later line (x ∷ xs) 0 ((length (x ∷ xs) + n - 1) / n) full

  more_count : (line left : List X) → length line ≡ min n (length (line ++ left)) → 0 < length (line ++ left)
      → (length (line ++ left) + n - 1) / n ≡ suc ((length left + n - 1) / n)
  more_count line [] long more =
      let l = length-append line [] in
      let e : length (line ++ []) + n - 1 ≡ 1 * n + (length line - 1) = omega (arith, l, long, more, some) in
      ap (λ (m : ℕ). m / n) e ∙ (div-mul-add 1 n (length line - 1) (omega (arith, l, long, more, some)) ∙ sym (ap suc (none_count n some)))
  more_count line (x ∷ xs) long more =
      let l = length-append line (x ∷ xs) in
      let e : length (line ++ x ∷ xs) + n - 1 ≡ 1 * n + (length (x ∷ xs) + n - 1) = omega (arith, l, long, some) in
      let f : 1 + (length (x ∷ xs) + n - 1) / n ≡ suc ((length (x ∷ xs) + n - 1) / n) = omega arith in
      ap (λ (m : ℕ). m / n) e ∙ (mul-add-div_right some 1 (length (x ∷ xs) + n - 1) ∙ f)

  -- the chunks of a list are the one at its front, and those of what is left
  pub chunks-front : (line left : List X) → length line ≡ min n (length (line ++ left)) → 0 < length (line ++ left) → chunks (line ++ left) ≡ line ∷ chunks left
  chunks-front line left long more =
      ap (λ (count : ℕ). map (slice_chunk (line ++ left) n) (range_with_len 0 count)) (more_count line left long more)
      ∙ (ap (λ (first : List X). first ∷ map (slice_chunk (line ++ left) n) (range_with_len 1 ((length left + n - 1) / n))) (at_front line left ∙ first_chunk line left long)
      ∙ ap (λ (later : List (List X)). line ∷ later) (other_chunks line left long))

-- ---- a loop over the file

pub lines_front : (file line left : List ℕ) (n : ℕ) → n ≡ 48 → file ≡ line ++ left → length line ≡ min n (length file) → 0 < length file
    → wav_lines file ≡ wav_line line ++ wav_lines left
lines_front file line left n size cut long some =
    ap wav_lines cut
    ∙ ap (flat_map wav_line)
    (chunks-front 48 (omega arith) line left (long ∙ (ap (λ (m : ℕ). min m (length file)) size ∙ ap (λ (b : List ℕ). min 48 (length b)) cut)) (let e = ap length cut in omega (arith, e, some)))

pub lines_none : (file : List ℕ) → length file ≡ 0 → wav_lines file ≡ []
lines_none file none = ap wav_lines (nil_from_length file none) ∙ ap (flat_map wav_line) (chunks-none 48 (omega arith))

-- ---- laws

abbrev pub Some : List ℕ → Type 0
Some piece = 0 < length piece

abbrev pub Few : List ℕ → Type 0
Few piece = length piece ≤ line_bytes

abbrev pub AreFull : List (List ℕ) → Type 0
AreFull pieces = (place : ℕ) → place + 1 < length pieces → length (get_or pieces place []) ≡ line_bytes

-- what is said of the pieces of a file
pub record ArePieces (file : List ℕ) (pieces : List (List ℕ)) : Type 0 where
  pub joined : pieces_joined pieces ≡ file
  pub some : All Some pieces
  pub few : All Few pieces
  pub full : AreFull pieces

none_at_all : ArePieces [] []
none_at_all =
    record {
      joined = refl;
      some = λ k d within. absurd (omega (arith, within));
      few = λ k d within. absurd (omega (arith, within));
      full = λ place within. absurd (omega (arith, within));
    }

-- where bytes are left the line before them is full
full_front : (line left : List ℕ) (pieces : List (List ℕ)) → ArePieces left pieces → length line ≡ min 48 (length (line ++ left)) → AreFull (line ∷ pieces)
full_front line [] [] on long place within = absurd (omega (arith, within))
full_front line (x ∷ xs) [] on long place within = absurd (omega (arith, within))
full_front line [] (piece ∷ pieces) on long place within =
    absurd (let s = on.some 0 [] (omega arith) in let e = ap length on.joined in let l = length-append piece (pieces_joined pieces) in omega (arith, s, e, l))
full_front line (x ∷ xs) (piece ∷ pieces) on long zero within = (let l = length-append line (x ∷ xs) in omega (arith, long, l))
full_front line (x ∷ xs) (piece ∷ pieces) on long (suc place) within = on.full place (omega (arith, within))

pieces_of : (most : ℕ) (file : List ℕ) → length file ≤ most → ArePieces file (wav_pieces file)
pieces_of most [] few = subst (ArePieces []) (sym (chunks-none 48 (omega arith))) none_at_all
pieces_of zero (x ∷ xs) few = absurd (omega (arith, few))
pieces_of (suc most) (x ∷ xs) few =
    let file : List ℕ = x ∷ xs in
    let line : List ℕ = take 48 file in
    let left : List ℕ = drop 48 file in
    let cut : line ++ left ≡ file = take-append-drop 48 file in
    let size : length line ≡ min 48 (length file) = length-take 48 file in
    let rest : length left ≡ length file - 48 = length-drop 48 file in
    let long : length line ≡ min 48 (length (line ++ left)) = size ∙ ap (λ (b : List ℕ). min 48 (length b)) (sym cut) in
    let on : ArePieces left (wav_pieces left) = pieces_of most left (omega (arith, rest, few)) in
    let front : wav_pieces file ≡ line ∷ wav_pieces left =
    ap wav_pieces (sym cut) ∙ chunks-front 48 (omega arith) line left long (let e = ap length cut in omega (arith, e)) in
    subst (ArePieces file) (sym front)
    (record {
      joined = ap (λ (b : List ℕ). line ++ b) on.joined ∙ cut;
      some = All-cons Some line (wav_pieces left) (omega (arith, size)) on.some;
      few = All-cons Few line (wav_pieces left) (omega (arith, size)) on.few;
      full = full_front line left (wav_pieces left) on long;
    })

pub file_pieces : (file : List ℕ) → ArePieces file (wav_pieces file)
file_pieces file = pieces_of (length file) file (omega arith)
