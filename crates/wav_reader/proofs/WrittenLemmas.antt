-- A file that is written chunk by chunk is read as these chunks.
use Rattle.std.proofs.Common.{◌≡◌, ◌≤◌, ◌<◌, ℕ, suc, ◌+◌, ◌-◌, ◌%◌, ◌==◌, true, false, if◌then◌else◌, nat_eq, nat_le, List, [], ◌∷◌, ◌++◌, length, take, drop, replicate, codes, Some, None, All, refl, sym, ap, ◌∙◌, append_assoc, length-append, subst, arith}
use Rattle.std.proofs.lemmas.Bool.Decides.{nat_tests}
use Rattle.std.proofs.lemmas.List.{drop_at, take-append-le, length-replicate}
use Rattle.std.specs.List.{flat_map, starts_with}
use Rattle.std.specs.Cmp.Lexicographic.{pointwise}
use Rattle.byteorder.specs.Endian.{little_number, little_bytes}
use Rattle.byteorder.specs.Numbers.{little_number-reads_back}
use Rattle.wav_reader.specs.declared.chunks.Kind.{Kind}
use Rattle.wav_reader.specs.declared.chunks.Kind.TheVariants.{Format, Data, Other}
use Rattle.wav_reader.specs.declared.chunks.Chunk.{Chunk}
use Rattle.wav_reader.specs.Chunks.{is_riff, kind_at, size_at, body_length, chunk_from, is_whole, chunk_at, end_of, chunks_after, place_after}
use Rattle.wav_reader.specs.Written.{Part, IsPart, part_bytes, file_bytes, chunk_of, placed}
use Rattle.wav_reader.specs.Laws.{IsReadBack}
use Rattle.wav_reader.proofs.ChunkLemmas.{chunks_after-whole, chunks_after-none, none_past_end}

-- what a name of four bytes says
abbrev named : List ℕ → Kind
named name = if pointwise nat_eq (codes "fmt ") name then Format else (if pointwise nat_eq (codes "data") name then Data else Other)

kind_at-front : (front name rest : List ℕ) → length name ≡ 4 → kind_at (front ++ (name ++ rest)) (length front) ≡ kind_at name 0
kind_at-front front name rest four =
    let there = drop_at front (name ++ rest) (length front) refl in
    let few : 4 ≤ length name = omega arith in
    ap (λ bytes. named (take 4 bytes)) there ∙ ap named (take-append-le 4 name rest few)

-- the size behind a name
size_at-front : (front name : List ℕ) (size : ℕ) (rest : List ℕ) → length name ≡ 4 → size < 0xFFFF_FFFF
    → size_at (front ++ (name ++ (little_bytes 4 size ++ rest))) (length front) ≡ size
size_at-front front name size rest four small =
    let place : length (front ++ name) ≡ length front + 4 = simp length-append (omega arith) in
    ap (λ bytes. little_number 4 (drop (length front + 4) bytes)) (sym (append_assoc front name (little_bytes 4 size ++ rest)))
    ∙ (ap (little_number 4) (drop_at (front ++ name) (little_bytes 4 size ++ rest) (length front + 4) place)
    ∙ little_number-reads_back 4 size rest (omega arith))

-- a size that is not FFFFFFFFh is the length of the body
body_length-size : (kind : Kind) (size left : ℕ) → size < 0xFFFF_FFFF → body_length kind size left ≡ size
body_length-size Format size left small = refl
body_length-size Data size left small = let other : (size == 0xFFFF_FFFF) ≡ false = grind (arith, nat_tests) in rw other refl
body_length-size Other size left small = refl

part_length : (part : Part) → IsPart part → length (part_bytes part) ≡ 8 + length part.body + length part.body % 2
part_length part good = simp (length-append, length-replicate) (omega (arith, good.name))

-- a part is its name, its size, and the rest
part_bytes-rest : (part : Part) (rest : List ℕ)
    → part_bytes part ++ rest
    ≡ part.name ++ (little_bytes 4 (length part.body) ++ ((part.body ++ replicate (length part.body % 2) 0) ++ rest))
part_bytes-rest part rest =
    append_assoc part.name (little_bytes 4 (length part.body) ++ (part.body ++ replicate (length part.body % 2) 0)) rest
    ∙ ap (λ more. part.name ++ more) (append_assoc (little_bytes 4 (length part.body)) (part.body ++ replicate (length part.body % 2) 0) rest)

chunk_with : Kind → ℕ → ℕ → Chunk
chunk_with kind from len = record { kind = kind; from = from; len = len }

-- the chunk that stands behind some bytes
chunk_from-front : (front : List ℕ) (part : Part) (rest : List ℕ) → IsPart part
    → chunk_from (front ++ (part_bytes part ++ rest)) (length front) ≡ chunk_of (length front) part
unfolding chunk_with
chunk_from-front front part rest good =
    let at = length front in
    let file = front ++ (part_bytes part ++ rest) in
    let pad = replicate (length part.body % 2) 0 in
    let parts = ap (λ more. front ++ more) (part_bytes-rest part rest) in
    let kind : kind_at file at ≡ kind_at part.name 0 =
    ap (λ bytes. kind_at bytes at) parts
    ∙ kind_at-front front part.name (little_bytes 4 (length part.body) ++ ((part.body ++ pad) ++ rest)) good.name in
    let size : size_at file at ≡ length part.body =
    ap (λ bytes. size_at bytes at) parts
    ∙ size_at-front front part.name (length part.body) ((part.body ++ pad) ++ rest) good.name good.size in
    let len : body_length (kind_at file at) (size_at file at) (length file - (at + 8)) ≡ length part.body =
    ap (λ size. body_length (kind_at file at) size (length file - (at + 8))) size
    ∙ body_length-size (kind_at file at) (length part.body) (length file - (at + 8)) good.size in
    ap (λ kind. chunk_with kind (at + 8) (body_length (kind_at file at) (size_at file at) (length file - (at + 8)))) kind
    ∙ ap (chunk_with (kind_at part.name 0) (at + 8)) len

-- and it is whole
is_whole-front : (front : List ℕ) (part : Part) (rest : List ℕ) → IsPart part
    → is_whole (front ++ (part_bytes part ++ rest)) (length front) ≡ true
is_whole-front front part rest good =
    let at = length front in
    let file = front ++ (part_bytes part ++ rest) in
    let total : length file ≡ at + ((8 + length part.body + length part.body % 2) + length rest) =
    length-append front (part_bytes part ++ rest)
    ∙ ap (λ more. at + more) (length-append (part_bytes part) rest ∙ ap (λ more. more + length rest) (part_length part good)) in
    let len : (chunk_from file at).len ≡ length part.body = ap (λ (chunk : Chunk). chunk.len) (chunk_from-front front part rest good) in
    let head : nat_le (at + 8) (length file) ≡ true = grind (arith, nat_tests) in
    let body : nat_le (at + 8 + length part.body) (length file) ≡ true = grind (arith, nat_tests) in
    rw (len, head, body) refl

chunk_at-front : (front : List ℕ) (part : Part) (rest : List ℕ) → IsPart part
    → chunk_at (front ++ (part_bytes part ++ rest)) (length front) ≡ Some (chunk_of (length front) part)
unfolding chunk_at
chunk_at-front front part rest good =
    ap (λ whole. if whole then Some (chunk_from (front ++ (part_bytes part ++ rest)) (length front)) else None) (is_whole-front front part rest good)
    ∙ ap (λ chunk. Some chunk) (chunk_from-front front part rest good)

-- the chunks behind some bytes, and that nothing is left behind them
record IsRead (file : List ℕ) (at : ℕ) (parts : List Part) : Type 0 where
  chunks : chunks_after file at ≡ placed at parts
  end : place_after at (placed at parts) ≡ length file

append-none : (xs : List ℕ) → xs ++ [] ≡ xs
append-none [] = refl
append-none (x ∷ xs) = ap (λ rest. x ∷ rest) (append-none xs)

read_behind : (parts : List Part) (front : List ℕ) → All IsPart parts
    → IsRead (front ++ flat_map part_bytes parts) (length front) parts
read_behind [] front all =
    let none = append-none front in
    let past : length (front ++ []) ≤ length front = rw none (omega arith) in
    record {
      chunks = chunks_after-none (front ++ []) (length front) (none_past_end (front ++ []) (length front) past);
      end = ap length (sym none);
    }
read_behind (part ∷ parts) front all =
    let good : IsPart part = all 0 part (omega arith) in
    let others : All IsPart parts = λ k d inside. all (suc k) d (omega arith) in
    let rest = flat_map part_bytes parts in
    let file = front ++ (part_bytes part ++ rest) in
    let next = read_behind parts (front ++ part_bytes part) others in
    let same : (front ++ part_bytes part) ++ rest ≡ file = append_assoc front (part_bytes part) rest in
    let place : length (front ++ part_bytes part) ≡ end_of (chunk_of (length front) part) =
    length-append front (part_bytes part) ∙ ap (λ more. length front + more) (part_length part good) ∙ omega arith in
    let there : IsRead file (end_of (chunk_of (length front) part)) parts =
    subst (λ at. IsRead file at parts) place (subst (λ bytes. IsRead bytes (length (front ++ part_bytes part)) parts) same next) in
    record {
      chunks = chunks_after-whole file (length front) (chunk_of (length front) part) (chunk_at-front front part rest good)
          ∙ ap (λ chunks. chunk_of (length front) part ∷ chunks) there.chunks;
      end = there.end;
    }

-- the bytes before the first chunk
abbrev begin : List ℕ → List ℕ
begin size = codes "RIFF" ++ (size ++ codes "WAVE")

begin-length : (size : List ℕ) → length size ≡ 4 → length (begin size) ≡ 12
begin-length size four = let more = length-append size (codes "WAVE") in omega (arith, more, four)

is_riff-file : (size : List ℕ) (parts : List Part) → length size ≡ 4 → is_riff (file_bytes size parts) ≡ true
is_riff-file size parts four =
    let rest = flat_map part_bytes parts in
    let behind : drop 8 (file_bytes size parts) ≡ codes "WAVE" ++ rest =
    ap (drop 4) (append_assoc size (codes "WAVE") rest) ∙ drop_at size (codes "WAVE" ++ rest) 4 four in
    ap (λ bytes. starts_with nat_eq bytes (codes "WAVE")) behind

pub read_back : (size : List ℕ) (parts : List Part) → length size ≡ 4 → All IsPart parts → IsReadBack size parts
read_back size parts four all =
    let file = file_bytes size parts in
    let place = begin-length size four in
    let read : IsRead file 12 parts = subst (λ at. IsRead file at parts) place (read_behind parts (begin size) all) in
    let end : place_after 12 (chunks_after file 12) ≡ length file = ap (place_after 12) read.chunks ∙ read.end in
    record {
      riff = is_riff-file size parts four;
      chunks = read.chunks;
      whole = rw end (grind (arith, nat_tests));
    }
