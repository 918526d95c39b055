-- A piece of a file that is read part by part.
use Rattle.std.proofs.Common.{◌≡◌, ℕ, ◌+◌, ◌≤◌, List, ◌++◌, take, drop, length, Option, Some, None, sym, ap, subst, ◌∙◌, arith, length-take}
use Rattle.std.specs.Prelude.{IsSomeAnd}
use Rattle.std.proofs.Math.Seq.{take-add, take-append-add}
use Rattle.std.proofs.lemmas.List.{drop-drop, take-append-le}
use Rattle.std.proofs.lemmas.Slice.{take-put_mid_below}
use borrow.Rule.Slice.PartMut.{put_mid, post_of}
use Rattle.hda_outside.specs.Shelf.{Files, file_of, IsPiece}
use Rattle.hda_outside.specs.Pieces.{HoldsFront}
use Rattle.hda_outside.proofs.PieceLemmas.{GivesPiece, piece_in, piece_of}

-- where the files are told and hold one of that name, a buffer begins with so many bytes of it
abbrev pub Gained : Option Files → (name : List ℕ) → (from : ℕ) → (buffer : List ℕ) → (count : ℕ) → Type 0
Gained told name from buffer count =
    (files : Files) → told ≡ Some files → (file : List ℕ) → file_of files name ≡ Some file → HoldsFront file from buffer count

-- what was written behind the first bytes left them as they are
pub gained_kept : (told : Option Files) (name : List ℕ) (from count rest : ℕ) (buffer part : List ℕ) → count ≤ length buffer
    → Gained told name from buffer count → Gained told name from (put_mid count rest buffer part) count
gained_kept told name from count rest buffer part within gained files here file there =
    let before = gained files here file there in
    record { front = take-put_mid_below count rest buffer part count (omega arith) within ∙ before.front; left = before.left }

-- the first bytes of a part are put behind them
joined : (count n : ℕ) (buffer part after : List ℕ) → count ≤ length buffer → n ≤ length part
    → take (count + n) (take count buffer ++ (part ++ after)) ≡ take count buffer ++ take n part
joined count n buffer part after within inside =
    let long : length (take count buffer) ≡ count = omega (arith, length-take count buffer) in
    ap (λ (at : ℕ). take (at + n) (take count buffer ++ (part ++ after))) (sym long)
    ∙ take-append-add (take count buffer) (part ++ after) n ∙ ap (λ (more : List ℕ). take count buffer ++ more) (take-append-le n part after inside)

-- one part more
pub gained_more : (before then : Option Files) (name : List ℕ) (from count rest n at : ℕ) (buffer part : List ℕ) → then ≡ before
    → at ≡ from + count → count ≤ length buffer → n ≤ length part → Gained before name from buffer count → GivesPiece then name at part n
    → Gained before name from (put_mid count rest buffer part) (count + n)
gained_more before then name from count rest n at buffer part same place within inside gained gives files here file there =
    let piece = piece_of then name part at n files (same ∙ here) file there gives in
    let front = gained files here file there in
    record {
      front =
          joined count n buffer part (post_of count rest buffer) within inside ∙ ap (λ (first : List ℕ). first ++ take n part) front.front
          ∙ ap (λ (more : List ℕ). take count (drop from file) ++ more) (piece.front ∙ ap (λ (bytes : List ℕ). take n bytes) (turned at place file))
          ∙ sym (take-add count n (drop from file));
      left = (let held = front.left in let more = piece.left in omega (arith, place, held, more));
    }
  where
    turned : (at : ℕ) → at ≡ from + count → (file : List ℕ) → drop at file ≡ drop count (drop from file)
    turned at place file = ap (λ (at : ℕ). drop at file) place ∙ sym (drop-drop count from file)

-- where the file is not there no part of it is given
pub nothing_there : (before then : Option Files) (name : List ℕ) (at n : ℕ) (part : List ℕ) → then ≡ before → GivesPiece then name at part n
    → (files : Files) → before ≡ Some files → file_of files name ≡ None → ⊥
nothing_there before then name at n part same gives files told none =
    let At : Option (List ℕ) → Type 0 = λ o. IsSomeAnd o (λ file. IsPiece file at part n) in
    subst At none (piece_in then name part at n files (same ∙ told) gives)
