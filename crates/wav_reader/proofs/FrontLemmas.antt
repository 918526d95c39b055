-- A part of a file says as much as the file does there.
use Rattle.std.proofs.Common.{◌≡◌, ◌≤◌, ◌<◌, ◌&&◌, ◌==◌, Bool, min, ℕ, ◌+◌, ◌-◌, true, false, nat_le, nat_eq, if◌then◌else◌, List, length, length-drop, take, drop, codes, Some, None, Result, refl, sym, ap, ◌∙◌, arith}
use Rattle.std.proofs.lemmas.Bool.Decides.{nat_tests}
use Rattle.std.proofs.lemmas.List.{take-take, drop-drop, take-append-drop, drop-append-le, length-take-le, drop-take}
use Rattle.std.proofs.Math.Seq.{take-length}
use Rattle.std.specs.Cmp.Lexicographic.{pointwise}
use Rattle.byteorder.specs.Endian.{little_number}
use Rattle.byteorder.specs.Numbers.{little_from-append}
use Rattle.wav_reader.specs.declared.chunks.Kind.{Kind}
use Rattle.wav_reader.specs.declared.chunks.Kind.TheVariants.{Format, Data, Other}
use Rattle.wav_reader.specs.declared.chunks.Chunk.{Chunk}
use Rattle.wav_reader.specs.Chunks.{is_riff, kind_at, size_at, body_length, chunk_at, chunk_from, body_of}
use Rattle.wav_reader.specs.declared.fault.WavFault.{WavFault}
use Rattle.wav_reader.specs.declared.fault.WavFault.TheVariants.{NoFormat}
use Rattle.wav_reader.specs.declared.formats.Fields.{Fields}
use Rattle.wav_reader.specs.declared.formats.Sound.{Sound}
use Rattle.wav_reader.specs.Formats.{◌>>=◌, checked, extensible_tag, fields_of, least_length, pcm_subformat, sound_of, sound_with}
use Rattle.wav_reader.specs.Readers.{chunk_by, chunk_with}

-- a number that stands in the first bytes
pub number_front : (count place few : ℕ) (bytes : List ℕ) → few ≤ length bytes → place + count ≤ few
    → little_number count (drop place (take few bytes)) ≡ little_number count (drop place bytes)
number_front count place few bytes inside within =
    let long : length (take few bytes) ≡ few = length-take-le few bytes inside in
    let front : length (drop place (take few bytes)) ≡ few - place = simp length-drop (omega (arith, long)) in
    sym (little_from-append count (drop place (take few bytes)) (drop few bytes) (omega (arith, front, within)))
    ∙ ap (λ (rest : List ℕ). little_number count rest)
    (sym (drop-append-le place (take few bytes) (drop few bytes) (omega (arith, long, within))) ∙ ap (drop place) (take-append-drop few bytes))

-- the kind of a chunk by its head
kind_named : List ℕ → Kind
kind_named name = if pointwise nat_eq (codes "fmt ") name then Format else (if pointwise nat_eq (codes "data") name then Data else Other)

pub kind_front : (bytes : List ℕ) (at : ℕ) → kind_at (take 8 (drop at bytes)) 0 ≡ kind_at bytes at
unfolding kind_named
kind_front bytes at = ap kind_named (take-take 4 8 (drop at bytes) (omega arith))

pub size_front : (bytes : List ℕ) (at : ℕ) → at + 8 ≤ length bytes → size_at (take 8 (drop at bytes)) 0 ≡ size_at bytes at
size_front bytes at inside =
    let long : 8 ≤ length (drop at bytes) = simp length-drop (omega (arith, inside)) in
    number_front 4 4 8 (drop at bytes) long (omega arith) ∙ ap (λ (rest : List ℕ). little_number 4 rest) (drop-drop 4 at bytes)

-- the chunk at a place by its head
chunk_made : Kind → ℕ → ℕ → Chunk
chunk_made kind from len = record { kind = kind; from = from; len = len }

chunk_front : (bytes : List ℕ) (at : ℕ) → at + 8 ≤ length bytes → chunk_by (take 8 (drop at bytes)) at (length bytes) ≡ chunk_from bytes at
unfolding chunk_made
chunk_front bytes at inside =
    ap (λ (kind : Kind). chunk_made kind (at + 8) (body_length kind (size_at (take 8 (drop at bytes)) 0) (length bytes - (at + 8)))) (kind_front bytes at)
    ∙ ap (λ (size : ℕ). chunk_made (kind_at bytes at) (at + 8) (body_length (kind_at bytes at) size (length bytes - (at + 8)))) (size_front bytes at inside)

pub chunk_at-head : (bytes : List ℕ) (at : ℕ) → at + 8 ≤ length bytes → chunk_at bytes at ≡ chunk_with (take 8 (drop at bytes)) at (length bytes)
unfolding chunk_at
chunk_at-head bytes at inside =
    let whole : nat_le (at + 8) (length bytes) ≡ true = grind (arith, nat_tests) in
    rw whole (ap (λ (chunk : Chunk). if nat_le (at + 8 + chunk.len) (length bytes) then Some chunk else None) (sym (chunk_front bytes at inside)))

pub chunk_at-short : (bytes : List ℕ) (at : ℕ) → length bytes < at + 8 → chunk_at bytes at ≡ None
unfolding chunk_at
chunk_at-short bytes at short =
    let cut : nat_le (at + 8) (length bytes) ≡ false = grind (arith, nat_tests) in rw cut refl

-- the first bytes of a file, or all of it
part_front : (place few : ℕ) (bytes : List ℕ) → take few (drop place (take (place + few) bytes)) ≡ take few (drop place bytes)
part_front place few bytes =
    ap (λ (rest : List ℕ). take few rest) (drop-take place few bytes) ∙ take-take few few (drop place bytes) (omega arith)

riff_by : List ℕ → List ℕ → Bool
riff_by first third = pointwise nat_eq (codes "RIFF") first && pointwise nat_eq (codes "WAVE") third

is_riff-twelve : (bytes : List ℕ) → is_riff (take 12 bytes) ≡ is_riff bytes
unfolding riff_by
is_riff-twelve bytes =
    ap (λ (first : List ℕ). riff_by first (take 4 (drop 8 (take 12 bytes)))) (take-take 4 12 bytes (omega arith))
    ∙ ap (λ (third : List ℕ). riff_by (take 4 bytes) third) (part_front 8 4 bytes)

pub is_riff-front : (count : ℕ) (bytes : List ℕ) → count ≡ min 12 (length bytes) → is_riff (take count bytes) ≡ is_riff bytes
is_riff-front count bytes all = by (nat_le 12 (length bytes)) refl where
  by : (long : Bool) → long ≡ nat_le 12 (length bytes) → is_riff (take count bytes) ≡ is_riff bytes
  by true is = let twelve : count ≡ 12 = grind (arith, nat_tests) in ap (λ (count : ℕ). is_riff (take count bytes)) twelve ∙ is_riff-twelve bytes
  by false is = let whole : length bytes ≡ count = grind (arith, nat_tests) in ap is_riff (ap (λ (count : ℕ). take count bytes) (sym whole) ∙ take-length bytes)

-- the body of a chunk `fmt `
unfoldable pub fields_made : (tag channels hertz block bits : ℕ) (pcm : Bool) → Fields
fields_made tag channels hertz block bits pcm = record { tag = tag; channels = channels; hertz = hertz; block = block; bits = bits; has_pcm_subformat = pcm }

unfoldable pub is_pcm_part : List ℕ → Bool
is_pcm_part part = pointwise nat_eq pcm_subformat part

pub fields_so : (body : List ℕ) → fields_of body
    ≡ fields_made (little_number 2 body) (little_number 2 (drop 2 body)) (little_number 4 (drop 4 body)) (little_number 2 (drop 12 body)) (little_number 2 (drop 14 body)) (is_pcm_part (take 16 (drop 24 body)))
unfolding fields_made is_pcm_part
fields_so body = refl

pub fields_same : (tag tag' channels channels' hertz hertz' block block' bits bits' : ℕ) (pcm pcm' : Bool) → tag ≡ tag' → channels ≡ channels' → hertz ≡ hertz' → block ≡ block'
    → bits ≡ bits' → pcm ≡ pcm' → fields_made tag channels hertz block bits pcm ≡ fields_made tag' channels' hertz' block' bits' pcm'
fields_same tag tag' channels channels' hertz hertz' block block' bits bits' pcm pcm' one two three four five six = cc

fields_front : (body : List ℕ) → 40 ≤ length body → fields_of (take 40 body) ≡ fields_of body
fields_front body long =
    let tag = number_front 2 0 40 body long (omega arith) in
    let channels = number_front 2 2 40 body long (omega arith) in
    let hertz = number_front 4 4 40 body long (omega arith) in
    let block = number_front 2 12 40 body long (omega arith) in
    let bits = number_front 2 14 40 body long (omega arith) in
    let pcm = ap is_pcm_part (part_front 24 16 body) in
    fields_so (take 40 body) ∙ fields_same _ _ _ _ _ _ _ _ _ _ _ _ tag channels hertz block bits pcm ∙ sym (fields_so body)

-- how many bytes a body has at least
pub enough : (tag len : ℕ) → 40 ≤ len → nat_le (least_length tag) len ≡ true
enough tag len long = by (tag == extensible_tag) where
  by : (extensible : Bool) → nat_le (if extensible then 40 else 16) len ≡ true
  by true = grind (arith, nat_tests)
  by false = grind (arith, nat_tests)

pub too_short : (tag len : ℕ) → len < 16 → nat_le (least_length tag) len ≡ false
too_short tag len short = by (tag == extensible_tag) where
  by : (extensible : Bool) → nat_le (if extensible then 40 else 16) len ≡ false
  by true = grind (arith, nat_tests)
  by false = grind (arith, nat_tests)

-- a body says what its first bytes say
sound_made : Bool → Fields → Result Sound WavFault
sound_made long fields = checked long NoFormat >>= (λ _. sound_with fields)

sound_so : (body : List ℕ) → sound_of body ≡ sound_made (nat_le (least_length (fields_of body).tag) (length body)) (fields_of body)
unfolding sound_of sound_made
sound_so body = refl

-- a body by its fields
pub sound_by_fields : (body : List ℕ) (fields : Fields) → fields_of body ≡ fields → nat_le (least_length fields.tag) (length body) ≡ true → sound_of body ≡ sound_with fields
unfolding sound_made
sound_by_fields body fields is long =
    sound_so body ∙ ap (λ (fields : Fields). sound_made (nat_le (least_length fields.tag) (length body)) fields) is ∙ ap (λ (long : Bool). sound_made long fields) long

sound_of-body : (body : List ℕ) → 40 ≤ length body → sound_of (take 40 body) ≡ sound_of body
sound_of-body body long =
    let all = length-take-le 40 body long in
    let few = enough (fields_of (take 40 body)).tag (length (take 40 body)) (omega (arith, all)) in
    let many = enough (fields_of body).tag (length body) long in
    sound_so (take 40 body)
    ∙ ap (λ (long : Bool). sound_made long (fields_of (take 40 body))) (few ∙ sym many)
    ∙ ap (λ (fields : Fields). sound_made (nat_le (least_length (fields_of body).tag) (length body)) fields) (fields_front body long)
    ∙ sym (sound_so body)

pub sound_of-front : (bytes : List ℕ) (chunk : Chunk) (count : ℕ) → count ≡ min chunk.len 40 → chunk.from + chunk.len ≤ length bytes
    → sound_of (take count (drop chunk.from bytes)) ≡ sound_of (body_of bytes chunk)
sound_of-front bytes chunk count few inside = by (nat_le 40 chunk.len) refl where
  by : (long : Bool) → long ≡ nat_le 40 chunk.len → sound_of (take count (drop chunk.from bytes)) ≡ sound_of (body_of bytes chunk)
  by true is =
      let long : 40 ≤ chunk.len = grind (arith, nat_tests) in
      let first : count ≡ 40 = omega (arith, few, long) in
      let rest : chunk.len ≤ length (drop chunk.from bytes) = simp length-drop (omega (arith, inside)) in
      let body = length-take-le chunk.len (drop chunk.from bytes) rest in
      ap (λ (n : ℕ). sound_of (take n (drop chunk.from bytes))) first
      ∙ ap sound_of (sym (take-take 40 chunk.len (drop chunk.from bytes) long)) ∙ sound_of-body (body_of bytes chunk) (omega (arith, body, long))
  by false is =
      let short : chunk.len < 40 = grind (arith, nat_tests) in
      let all : count ≡ chunk.len = omega (arith, few, short) in
      ap (λ (n : ℕ). sound_of (take n (drop chunk.from bytes))) all
