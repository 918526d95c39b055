-- The chunks of a file one by one.
use Rattle.std.proofs.Common.{◌≡◌, ◌≤◌, ◌<◌, ℕ, zero, suc, ◌+◌, ◌-◌, Bool, true, false, if◌then◌else◌, List, [], ◌∷◌, length, Option, Some, None, refl, sym, ap, ◌∙◌, arith}
use Rattle.std.proofs.lemmas.Bool.Decides.{nat_tests}
use Rattle.wav_reader.specs.declared.chunks.Chunk.{Chunk}
use Rattle.wav_reader.specs.Chunks.{chunk_at, chunk_from, chunks_from, chunks_after, followed_by, end_of, is_whole}

whole_by : (bytes : List ℕ) (at : ℕ) (whole : Bool) (chunk : Chunk) → whole ≡ is_whole bytes at
    → (if whole then Some (chunk_from bytes at) else None) ≡ Some chunk → (at < length bytes) × (at < end_of chunk)
whole_by bytes at true chunk w e =
    let same : chunk_from bytes at ≡ chunk = cc in
    let fits : at + 8 ≤ length bytes = grind (arith, nat_tests) in
    (omega arith, let later : at < end_of (chunk_from bytes at) = omega arith in rw (← same) later)
whole_by bytes at false chunk w e = absurd (cc)

-- a whole chunk begins before the file's end, and the next one begins after it
pub whole_is_inside : (bytes : List ℕ) (at : ℕ) (chunk : Chunk) → chunk_at bytes at ≡ Some chunk → (at < length bytes) × (at < end_of chunk)
unfolding chunk_at
whole_is_inside bytes at chunk e = whole_by bytes at (is_whole bytes at) chunk refl e

-- and it ends in the file
ends_by : (bytes : List ℕ) (at : ℕ) (whole : Bool) (chunk : Chunk) → whole ≡ is_whole bytes at
    → (if whole then Some (chunk_from bytes at) else None) ≡ Some chunk → chunk.from + chunk.len ≤ length bytes
ends_by bytes at true chunk w e =
    let same : chunk_from bytes at ≡ chunk = cc in
    let fits : at + 8 + (chunk_from bytes at).len ≤ length bytes = grind (arith, nat_tests) in
    rw (← same) fits
ends_by bytes at false chunk w e = absurd (cc)

pub whole_ends : (bytes : List ℕ) (at : ℕ) (chunk : Chunk) → chunk_at bytes at ≡ Some chunk → chunk.from + chunk.len ≤ length bytes
unfolding chunk_at
whole_ends bytes at chunk e = ends_by bytes at (is_whole bytes at) chunk refl e

-- from the end on no chunk is whole
none_by : (bytes : List ℕ) (at : ℕ) (found : Option Chunk) → found ≡ chunk_at bytes at → length bytes ≤ at → chunk_at bytes at ≡ None
none_by bytes at None e past = sym e
none_by bytes at (Some chunk) e past = let inside = whole_is_inside bytes at chunk (sym e) in absurd (omega arith)

pub none_past_end : (bytes : List ℕ) (at : ℕ) → length bytes ≤ at → chunk_at bytes at ≡ None
none_past_end bytes at past = none_by bytes at (chunk_at bytes at) refl past

-- the first of them
pub one_whole : (most : ℕ) (bytes : List ℕ) (at : ℕ) (chunk : Chunk) → chunk_at bytes at ≡ Some chunk
    → chunks_from (suc most) bytes at ≡ chunk ∷ chunks_from most bytes (end_of chunk)
unfolding chunks_from
one_whole most bytes at chunk e = ap (followed_by (λ chunk. chunks_from most bytes (end_of chunk))) e

pub none_whole : (most : ℕ) (bytes : List ℕ) (at : ℕ) → chunk_at bytes at ≡ None → chunks_from most bytes at ≡ []
unfolding chunks_from
none_whole zero bytes at e = refl
none_whole (suc most) bytes at e = ap (followed_by (λ chunk. chunks_from most bytes (end_of chunk))) e

-- no more are found where there may be one more than bytes are left
enough : (most : ℕ) (bytes : List ℕ) (at : ℕ) (found : Option Chunk) → found ≡ chunk_at bytes at → length bytes ≤ at + most
    → chunks_from (suc most) bytes at ≡ chunks_from most bytes at
enough most bytes at None e all = none_whole (suc most) bytes at (sym e) ∙ sym (none_whole most bytes at (sym e))
enough zero bytes at (Some chunk) e all = let inside = whole_is_inside bytes at chunk (sym e) in absurd (omega arith)
enough (suc most) bytes at (Some chunk) e all =
    let inside = whole_is_inside bytes at chunk (sym e) in
    let rest = enough most bytes (end_of chunk) (chunk_at bytes (end_of chunk)) refl (omega arith) in
    one_whole (suc most) bytes at chunk (sym e) ∙ (ap (λ chunks. chunk ∷ chunks) rest ∙ sym (one_whole most bytes at chunk (sym e)))

after_by : (count : ℕ) (bytes : List ℕ) (at : ℕ) (chunk : Chunk) → length bytes ≡ count → chunk_at bytes at ≡ Some chunk
    → chunks_from count bytes at ≡ chunk ∷ chunks_from count bytes (end_of chunk)
after_by zero bytes at chunk n e = let inside = whole_is_inside bytes at chunk e in absurd (omega arith)
after_by (suc most) bytes at chunk n e =
    let inside = whole_is_inside bytes at chunk e in
    let rest = enough most bytes (end_of chunk) (chunk_at bytes (end_of chunk)) refl (omega arith) in
    one_whole most bytes at chunk e ∙ ap (λ chunks. chunk ∷ chunks) (sym rest)

-- the chunks from a place on: the one there and those after it
pub chunks_after-whole : (bytes : List ℕ) (at : ℕ) (chunk : Chunk) → chunk_at bytes at ≡ Some chunk
    → chunks_after bytes at ≡ chunk ∷ chunks_after bytes (end_of chunk)
chunks_after-whole bytes at chunk e = after_by (length bytes) bytes at chunk refl e

-- where none is whole there are none
pub chunks_after-none : (bytes : List ℕ) (at : ℕ) → chunk_at bytes at ≡ None → chunks_after bytes at ≡ []
chunks_after-none bytes at e = none_whole (length bytes) bytes at e

-- as many as there are bytes are all
all_by : (more : ℕ) (bytes : List ℕ) (at : ℕ) → chunks_from (length bytes + more) bytes at ≡ chunks_after bytes at
all_by zero bytes at = let none : length bytes + 0 ≡ length bytes = omega arith in rw none refl
all_by (suc more) bytes at =
    let next : length bytes + suc more ≡ suc (length bytes + more) = omega arith in
    rw next (enough (length bytes + more) bytes at (chunk_at bytes at) refl (omega arith) ∙ all_by more bytes at)

pub chunks_from-all : (most : ℕ) (bytes : List ℕ) (at : ℕ) → length bytes ≤ most → chunks_from most bytes at ≡ chunks_after bytes at
chunks_from-all most bytes at enough =
    let sum : length bytes + (most - length bytes) ≡ most = omega arith in
    ap (λ count. chunks_from count bytes at) (sym sum) ∙ all_by (most - length bytes) bytes at
