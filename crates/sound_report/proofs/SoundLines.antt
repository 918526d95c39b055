-- Lists cut into chunks, and sound in lines.
use Rattle.std.proofs.Common.{◌≡◌, ℕ, zero, suc, ◌+◌, ◌*◌, ◌-◌, ◌/◌, ◌<◌, ◌≤◌, min, List, [], ◌∷◌, ◌++◌, length, map, take, drop, append-nil, take_all, length-take, refl, sym, ap, subst, ◌∙◌, arith}
use Rattle.std.specs.Prelude.{All}
use Rattle.std.specs.List.{flat_map, range_with_len}
use Rattle.std.specs.Fork.{slice_chunk}
use Rattle.std.proofs.Math.Nat.{suc-mul, mul-add-div_right}
use Rattle.std.proofs.lemmas.Nat.{div-mul-add}
use Rattle.std.proofs.lemmas.List.{length-append, length-drop, nil_from_length, take-append-drop}
use Rattle.std.proofs.lemmas.List.Elements.{All-cons, All-head, All-tail}
use Rattle.std.proofs.lemmas.Grind.{flat_map-append}
use Rattle.std.proofs.Math.Seq.{take-append_seam, drop-append-add}
use Rattle.heard_frames.specs.declared.heard.Heard.{Heard}
use Rattle.heard_frames.specs.declared.heard.Heard.TheVariants as heard
use Rattle.stream_format.specs.declared.format.Bits.{Bits}
use Rattle.stream_format.specs.declared.format.Bits.TheVariants.{B16, B24, B32}
use Rattle.heard_lists.specs.declared.stretches.Kind.TheVariants as kind
use Rattle.heard_lists.specs.Stretches.{kind_of, sound_bytes}
use Rattle.sound_report.specs.PinParts.{sound_line, sound_lines}
use Rattle.sound_report.specs.StretchTexts.{block_len, line_len, samples_line, samples_lines}

-- ---- chunks

-- no list has none
none_count : (n : ℕ) → 0 < n → (0 + n - 1) / n ≡ 0
none_count n some =
    let e : 0 + n - 1 ≡ 0 * n + (n - 1) = omega (arith, some) in ap (λ (m : ℕ). m / n) e ∙ div-mul-add 0 n (n - 1) (omega (arith, some))

module _ {X : Type 0} (n : ℕ) (some : 0 < n) where
  -- the chunks of a list
  abbrev pub chunks : List X → List (List X)
  chunks xs = map (slice_chunk xs n) (range_with_len 0 ((length xs + n - 1) / n))

  chunks_later : (line left : List X) (k count : ℕ) → length line ≡ n
      → map (slice_chunk (line ++ left) n) (range_with_len (k + 1) count) ≡ map (slice_chunk left n) (range_with_len k count)
  chunks_later line left k zero full = refl
  chunks_later line left k (suc count) full =
      let times : (k + 1) * n ≡ k * n + n = (let e : k + 1 ≡ suc k = omega arith in ap (λ (m : ℕ). m * n) e ∙ suc-mul k n) in
      let place : (k + 1) * n ≡ length line + k * n = omega (arith, full, times) in
      let here : slice_chunk (line ++ left) n (k + 1) ≡ slice_chunk left n k =
      ap (λ (p : ℕ). take n (drop p (line ++ left))) place ∙ ap (take n) (drop-append-add line left (k * n)) in
      ap (λ (c : List X). c ∷ map (slice_chunk (line ++ left) n) (range_with_len (k + 1 + 1) count)) here
      ∙ ap (λ (m : List (List X)). slice_chunk left n k ∷ m) (chunks_later line left (k + 1) count full)

  -- the first chunk is a front that is as long as a chunk, or all
  first_chunk : (line left : List X) → length line ≡ min n (length (line ++ left)) → take n (line ++ left) ≡ line
  first_chunk line [] long = rw (append-nil line) (take_all n line (let l = length-append line [] in omega (arith, long, l)))
  first_chunk line (x ∷ xs) long =
      let l = length-append line (x ∷ xs) in
      let full : n ≡ length line = omega (arith, long, l) in
      ap (λ (m : ℕ). take m (line ++ x ∷ xs)) full ∙ take-append_seam line (x ∷ xs)

  pub chunks-none : chunks [] ≡ []
  chunks-none = ap (λ (count : ℕ). map (slice_chunk {X = X} [] n) (range_with_len 0 count)) (none_count n some)

  -- the first chunk begins at the front
  at_front : (line left : List X) → slice_chunk (line ++ left) n 0 ≡ take n (line ++ left)
  at_front line left = ap (λ (place : ℕ). take n (drop place (line ++ left))) (let none : 0 * n ≡ 0 = omega arith in none)

  other_chunks : (line left : List X) → length line ≡ min n (length (line ++ left))
      → map (slice_chunk (line ++ left) n) (range_with_len 1 ((length left + n - 1) / n)) ≡ chunks left
  other_chunks line [] long =
      ap (λ (count : ℕ). map (slice_chunk (line ++ []) n) (range_with_len 1 count)) (none_count n some) ∙ sym chunks-none
  other_chunks line (x ∷ xs) long =
      let full : length line ≡ n = (let l = length-append line (x ∷ xs) in omega (arith, long, l)) in
      chunks_later line (x ∷ xs) 0 ((length (x ∷ xs) + n - 1) / n) full

  more_count : (line left : List X) → length line ≡ min n (length (line ++ left)) → 0 < length (line ++ left)
      → (length (line ++ left) + n - 1) / n ≡ suc ((length left + n - 1) / n)
  more_count line [] long more =
      let l = length-append line [] in
      let e : length (line ++ []) + n - 1 ≡ 1 * n + (length line - 1) = omega (arith, l, long, more, some) in
      ap (λ (m : ℕ). m / n) e ∙ (div-mul-add 1 n (length line - 1) (omega (arith, l, long, more, some)) ∙ sym (ap suc (none_count n some)))
  more_count line (x ∷ xs) long more =
      let l = length-append line (x ∷ xs) in
      let e : length (line ++ x ∷ xs) + n - 1 ≡ 1 * n + (length (x ∷ xs) + n - 1) = omega (arith, l, long, some) in
      let f : 1 + (length (x ∷ xs) + n - 1) / n ≡ suc ((length (x ∷ xs) + n - 1) / n) = omega arith in
      ap (λ (m : ℕ). m / n) e ∙ (mul-add-div_right some 1 (length (x ∷ xs) + n - 1) ∙ f)

  -- the chunks of a list are the one at its front, and those of what is left
  pub chunks-front : (line left : List X) → length line ≡ min n (length (line ++ left)) → 0 < length (line ++ left) → chunks (line ++ left) ≡ line ∷ chunks left
  chunks-front line left long more =
      ap (λ (count : ℕ). map (slice_chunk (line ++ left) n) (range_with_len 0 count)) (more_count line left long more)
      ∙ (ap (λ (first : List X). first ∷ map (slice_chunk (line ++ left) n) (range_with_len 1 ((length left + n - 1) / n))) (at_front line left ∙ first_chunk line left long)
      ∙ ap (λ (later : List (List X)). line ∷ later) (other_chunks line left long))

-- ---- the samples of sound

abbrev IsSound : Heard → Type 0
IsSound item = kind_of item ≡ kind.Sound

length-item : (bits : Bits) (item : Heard) → IsSound item → length (sound_bytes bits item) ≡ block_len bits
length-item B16 (heard.Sound left right) is = refl
length-item B24 (heard.Sound left right) is = refl
length-item B32 (heard.Sound left right) is = refl
length-item bits heard.Quiet is = cc
length-item bits heard.Hole is = cc
length-item bits heard.Altered is = cc

pub length-sound : (bits : Bits) (blocks : List Heard) → All IsSound blocks → length (flat_map (sound_bytes bits) blocks) ≡ length blocks * block_len bits
length-sound bits [] all = let e : 0 ≡ 0 * block_len bits = omega arith in e
length-sound bits (block ∷ blocks) all =
    let here = length-item bits block (All-head IsSound block blocks all) in
    let later = length-sound bits blocks (All-tail IsSound block blocks all) in
    let both = length-append (sound_bytes bits block) (flat_map (sound_bytes bits) blocks) in
    let times : length (block ∷ blocks) * block_len bits ≡ length blocks * block_len bits + block_len bits =
    (let e : length (block ∷ blocks) ≡ suc (length blocks) = omega arith in ap (λ (m : ℕ). m * block_len bits) e ∙ suc-mul (length blocks) (block_len bits)) in
    omega (arith, here, later, both, times)

some_len : (bits : Bits) → 0 < line_len bits
some_len B16 = omega arith
some_len B24 = omega arith
some_len B32 = omega arith

-- a line's blocks have a line's bytes, or all
line_bytes : (bits : Bits) (blocks front whole all : ℕ) → front ≡ min 16 blocks → whole ≡ front * block_len bits → all ≡ blocks * block_len bits → whole ≡ min (line_len bits) all
line_bytes B16 blocks front whole all is bytes sum = omega (arith, is, bytes, sum)
line_bytes B24 blocks front whole all is bytes sum = omega (arith, is, bytes, sum)
line_bytes B32 blocks front whole all is bytes sum = omega (arith, is, bytes, sum)

some_bytes : (bits : Bits) (blocks all : ℕ) → 0 < blocks → all ≡ blocks * block_len bits → 0 < all
some_bytes B16 blocks all some sum = omega (arith, some, sum)
some_bytes B24 blocks all some sum = omega (arith, some, sum)
some_bytes B32 blocks all some sum = omega (arith, some, sum)

part_sound : (front back : List Heard) → All IsSound (front ++ back) → All IsSound front × All IsSound back
part_sound [] back all = ((λ k d within. absurd (omega (arith, within))), all)
part_sound (block ∷ front) back all =
    let on = part_sound front back (All-tail IsSound block (front ++ back) all) in
    (All-cons IsSound block front (All-head IsSound block (front ++ back) all) on.0, on.1)

-- lines by blocks are lines by their samples
same_lines : (bits : Bits) (most : ℕ) (blocks : List Heard) → length blocks ≤ most → All IsSound blocks
    → flat_map (sound_line bits) (chunks 16 (omega arith) blocks) ≡ flat_map samples_line (chunks (line_len bits) (some_len bits) (flat_map (sound_bytes bits) blocks))
same_lines bits most [] few all =
    ap (flat_map (sound_line bits)) (chunks-none 16 (omega arith)) ∙ sym (ap (flat_map samples_line) (chunks-none (line_len bits) (some_len bits)))
same_lines bits zero (block ∷ blocks) few all = absurd (omega (arith, few))
same_lines bits (suc most) (block ∷ blocks) few all =
    let whole : List Heard = block ∷ blocks in
    let line : List Heard = take 16 whole in
    let left : List Heard = drop 16 whole in
    let cut : line ++ left ≡ whole = take-append-drop 16 whole in
    let long : length line ≡ min 16 (length whole) = length-take 16 whole in
    let rest : length left ≡ length whole - 16 = length-drop 16 whole in
    let parts = part_sound line left (subst (All IsSound) (sym cut) all) in
    let samples : List ℕ = flat_map (sound_bytes bits) line in
    let later : List ℕ = flat_map (sound_bytes bits) left in
    let both : flat_map (sound_bytes bits) whole ≡ samples ++ later =
    ap (flat_map (sound_bytes bits)) (sym cut) ∙ flat_map-append (sound_bytes bits) line left in
    let sum : length (samples ++ later) ≡ length whole * block_len bits = ap length (sym both) ∙ length-sound bits whole all in
    let size : length samples ≡ min (line_len bits) (length (samples ++ later)) =
    line_bytes bits (length whole) (length line) (length samples) (length (samples ++ later)) long (length-sound bits line parts.0) sum in
    let by_blocks : chunks 16 (omega arith) whole ≡ line ∷ chunks 16 (omega arith) left =
    ap (chunks 16 (omega arith)) (sym cut)
    ∙ chunks-front 16 (omega arith) line left (long ∙ ap (λ (b : List Heard). min 16 (length b)) (sym cut)) (let e = ap length cut in omega (arith, e)) in
    let by_bytes : chunks (line_len bits) (some_len bits) (flat_map (sound_bytes bits) whole) ≡ samples ∷ chunks (line_len bits) (some_len bits) later =
    ap (chunks (line_len bits) (some_len bits)) both
    ∙ chunks-front (line_len bits) (some_len bits) samples later size (some_bytes bits (length whole) (length (samples ++ later)) (omega arith) sum) in
    ap (flat_map (sound_line bits)) by_blocks
    ∙ (ap (λ (lines : List ℕ). sound_line bits line ++ lines) (same_lines bits most left (omega (arith, rest, few)) parts.1)
    ∙ sym (ap (flat_map samples_line) by_bytes))

pub sound-samples : (bits : Bits) (blocks : List Heard) → All IsSound blocks → sound_lines bits blocks ≡ samples_lines bits (flat_map (sound_bytes bits) blocks)
sound-samples bits blocks all = same_lines bits (length blocks) blocks (omega arith) all

-- ---- a loop over chunks

-- the lines of samples are the line at their front, and the lines of those after it
pub samples_lines-front : (bits : Bits) (samples line left : List ℕ) (n : ℕ) → n ≡ line_len bits → samples ≡ line ++ left → length line ≡ min n (length samples) → 0 < length samples
    → samples_lines bits samples ≡ samples_line line ++ samples_lines bits left
samples_lines-front bits samples line left n size cut long some =
    ap (samples_lines bits) cut
    ∙ ap (flat_map samples_line)
    (chunks-front (line_len bits) (some_len bits) line left (long ∙ (ap (λ (m : ℕ). min m (length samples)) size ∙ ap (λ (b : List ℕ). min (line_len bits) (length b)) cut)) (let e = ap length cut in omega (arith, e, some)))

pub samples_lines-none : (bits : Bits) (samples : List ℕ) → length samples ≡ 0 → samples_lines bits samples ≡ []
samples_lines-none bits samples none =
    ap (samples_lines bits) (nil_from_length samples none) ∙ ap (flat_map samples_line) (chunks-none (line_len bits) (some_len bits))
