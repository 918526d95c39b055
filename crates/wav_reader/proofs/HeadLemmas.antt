-- Where the sound stands, chunk by chunk.
use Rattle.std.proofs.Common.{◌≡◌, ◌≤◌, ◌<◌, ℕ, zero, suc, ◌+◌, Bool, true, false, nat_lt, List, [], ◌∷◌, length, Option, Some, None, Result, Ok, Err, refl, sym, ap, ◌∙◌, arith}
use Rattle.std.proofs.lemmas.Bool.Decides.{nat_tests}
use Rattle.std.specs.List.{find, before_first, position_or_len}
use Rattle.wav_reader.specs.declared.fault.WavFault.{WavFault}
use Rattle.wav_reader.specs.declared.fault.WavFault.TheVariants.{NotRiff, NoData, Truncated}
use Rattle.wav_reader.specs.declared.chunks.Kind.{Kind}
use Rattle.wav_reader.specs.declared.chunks.Kind.TheVariants.{Format, Data, Other}
use Rattle.wav_reader.specs.declared.chunks.Chunk.{Chunk}
use Rattle.wav_reader.specs.declared.formats.Sound.{Sound}
use Rattle.wav_reader.specs.Chunks.{is_riff, chunk_at, chunks_from, chunks_after, place_after, end_of, body_of}
use Rattle.wav_reader.specs.Formats.{◌>>=◌, sound_of}
use Rattle.wav_reader.specs.Heads.{Head, EndsWithin, is_mono, ring_format, frame_length, head_with, head_in, head_of, sound_by, sound_at, sound_in, is_data, is_format}
use Rattle.wav_reader.specs.Readers.{known_after}
use Rattle.wav_reader.proofs.CountLemmas.{whole-ends}
use Rattle.wav_reader.proofs.ChunkLemmas.{chunks_after-whole, chunks_after-none, none_past_end, none_whole, one_whole, whole_ends}

-- the sound that was found, or else the one that the chunks to come say
abbrev pub found_or : List ℕ → Option Sound → List Chunk → Result (Option Sound) WavFault
found_or bytes None chunks = sound_by bytes (find is_format (before_first is_data chunks))
found_or bytes (Some sound) chunks = Ok (Some sound)

-- what chunks from a place on say, after the sound that was found
abbrev pub head_from : List ℕ → Option Sound → ℕ → List Chunk → Result Head WavFault
head_from bytes found at chunks =
    found_or bytes found chunks >>= (λ sound. sound_at bytes (nat_lt (place_after at chunks) (length bytes)) sound (find is_data chunks))

-- what the rest of the file from a place on says
abbrev pub head_after : List ℕ → Option Sound → ℕ → Result Head WavFault
head_after bytes found at = head_from bytes found at (chunks_after bytes at)

head_from-none : (bytes : List ℕ) (found : Option Sound) (at : ℕ)
    → head_from bytes found at [] ≡ sound_at bytes (nat_lt at (length bytes)) found None
head_from-none bytes None at = refl
head_from-none bytes (Some sound) at = refl

head_from-data : (bytes : List ℕ) (found : Option Sound) (at : ℕ) (chunk : Chunk) (chunks : List Chunk) → is_data chunk ≡ true
    → head_from bytes found at (chunk ∷ chunks) ≡ sound_in found chunk
head_from-data bytes None at chunk chunks e = rw e refl
head_from-data bytes (Some sound) at chunk chunks e = rw e refl

-- what stands before the first `data` goes on past a chunk of another kind
before-other : (chunk : Chunk) (chunks : List Chunk) → is_data chunk ≡ false
    → before_first is_data (chunk ∷ chunks) ≡ chunk ∷ before_first is_data chunks
before-other chunk chunks e =
    let next : 1 + position_or_len is_data chunks ≡ suc (position_or_len is_data chunks) = omega arith in rw (e, next) refl

-- a sound that was read, and then the rest
read_first : (bytes : List ℕ) (read : Result Sound WavFault) (at : ℕ) (chunks : List Chunk)
    → ((read >>= (λ sound. Ok (Some sound))) >>= (λ sound. sound_at bytes (nat_lt (place_after at chunks) (length bytes)) sound (find is_data chunks)))
    ≡ ((read >>= (λ sound. Ok (Some sound))) >>= (λ known. head_from bytes known at chunks))
read_first bytes (Ok sound) at chunks = refl
read_first bytes (Err fault) at chunks = refl

head_from-other : (kind : Kind) (bytes : List ℕ) (found : Option Sound) (at : ℕ) (chunk : Chunk) (chunks : List Chunk) → chunk.kind ≡ kind
    → is_data chunk ≡ false
    → head_from bytes found at (chunk ∷ chunks) ≡ (known_after bytes found chunk >>= (λ known. head_from bytes known (end_of chunk) chunks))
head_from-other Data bytes found at chunk chunks k e = absurd (let sound : is_data chunk ≡ true = rw k refl in cc)
head_from-other Format bytes None at chunk chunks k e =
    let before = before-other chunk chunks e in
    rw (before, k) (read_first bytes (sound_of (body_of bytes chunk)) (end_of chunk) chunks)
head_from-other Other bytes None at chunk chunks k e =
    let before = before-other chunk chunks e in
    rw (before, k) refl
head_from-other Format bytes (Some sound) at chunk chunks k e = rw k refl
head_from-other Other bytes (Some sound) at chunk chunks k e = rw k refl

-- a chunk that is not whole
pub at_cut : (bytes : List ℕ) (at : ℕ) (found : Option Sound) → at < length bytes → chunk_at bytes at ≡ None
    → head_after bytes found at ≡ Err (Truncated (length bytes))
at_cut bytes at found inside e =
    let test : nat_lt at (length bytes) ≡ true = grind (arith, nat_tests) in
    let none = chunks_after-none bytes at e in
    rw none (head_from-none bytes found at ∙ rw test refl)

-- the end
pub at_end : (bytes : List ℕ) (at : ℕ) (found : Option Sound) → length bytes ≤ at → head_after bytes found at ≡ Err NoData
at_end bytes at found past =
    let test : nat_lt at (length bytes) ≡ false = grind (arith, nat_tests) in
    let none = chunks_after-none bytes at (none_past_end bytes at past) in
    rw none (head_from-none bytes found at ∙ rw test refl)

-- a chunk with the sound
pub at_data : (bytes : List ℕ) (at : ℕ) (found : Option Sound) (chunk : Chunk) → chunk_at bytes at ≡ Some chunk
    → is_data chunk ≡ true → head_after bytes found at ≡ sound_in found chunk
at_data bytes at found chunk e sound =
    let more = chunks_after-whole bytes at chunk e in
    rw more (head_from-data bytes found at chunk (chunks_after bytes (end_of chunk)) sound)

-- another chunk, at which the reading goes on or ends
at_other : (bytes : List ℕ) (at : ℕ) (found : Option Sound) (chunk : Chunk) → chunk_at bytes at ≡ Some chunk → is_data chunk ≡ false
    → head_after bytes found at ≡ (known_after bytes found chunk >>= (λ known. head_after bytes known (end_of chunk)))
at_other bytes at found chunk e other =
    let more = chunks_after-whole bytes at chunk e in
    rw more (head_from-other chunk.kind bytes found at chunk (chunks_after bytes (end_of chunk)) refl other)

pub at_known : (bytes : List ℕ) (at : ℕ) (found known : Option Sound) (chunk : Chunk) → chunk_at bytes at ≡ Some chunk
    → is_data chunk ≡ false → known_after bytes found chunk ≡ Ok known → head_after bytes found at ≡ head_after bytes known (end_of chunk)
at_known bytes at found known chunk e other after =
    at_other bytes at found chunk e other ∙ ap (λ step. step >>= (λ known. head_after bytes known (end_of chunk))) after

pub at_fault : (bytes : List ℕ) (at : ℕ) (found : Option Sound) (fault : WavFault) (chunk : Chunk) → chunk_at bytes at ≡ Some chunk
    → is_data chunk ≡ false → known_after bytes found chunk ≡ Err fault → head_after bytes found at ≡ Err fault
at_fault bytes at found fault chunk e other after =
    at_other bytes at found chunk e other ∙ ap (λ step. step >>= (λ known. head_after bytes known (end_of chunk))) after

-- a file that is no WAV file, and one that is
pub head_of-other : (bytes : List ℕ) → is_riff bytes ≡ false → head_of bytes ≡ Err NotRiff
unfolding head_of
head_of-other bytes e = rw e refl

pub head_of-riff : (bytes : List ℕ) → is_riff bytes ≡ true → head_of bytes ≡ head_in bytes
unfolding head_of
head_of-riff bytes e = rw e refl

-- ---- the frames end in the file

sound_ends : (bytes : List ℕ) (found : Option Sound) (chunk : Chunk) (head : Head) → chunk.from + chunk.len ≤ length bytes
    → sound_in found chunk ≡ Ok head → EndsWithin bytes head
sound_ends bytes None chunk head inside is = absurd (cc)
sound_ends bytes (Some sound) chunk head inside is =
    let same : head_with sound chunk ≡ head = cc in
    let here : EndsWithin bytes (head_with sound chunk) = whole-ends chunk.from chunk.len (frame_length (is_mono sound.channels) (ring_format sound)) (length bytes) inside in
    rw (← same) here

none_ends : (bytes : List ℕ) (found : Option Sound) (at : ℕ) (head : Head) → head_from bytes found at [] ≡ Ok head → EndsWithin bytes head
none_ends bytes found at head is = absurd (let none = head_from-none bytes found at in cc)

head_ends : (most : ℕ) (bytes : List ℕ) (found : Option Sound) (at : ℕ) (head : Head)
    → head_from bytes found at (chunks_from most bytes at) ≡ Ok head → EndsWithin bytes head
unfolding chunks_from
head_ends zero bytes found at head is = none_ends bytes found at head is
head_ends (suc most) bytes found at head is =
    by (chunk_at bytes at) refl (λ (known : Option Sound) (next : ℕ) (rest : head_from bytes known next (chunks_from most bytes next) ≡ Ok head).
    head_ends most bytes known next head rest) where
      go_on : (chunk : Chunk) (known : Result (Option Sound) WavFault)
          → ((known : Option Sound) (next : ℕ) → head_from bytes known next (chunks_from most bytes next) ≡ Ok head → EndsWithin bytes head)
          → (known >>= (λ known. head_from bytes known (end_of chunk) (chunks_from most bytes (end_of chunk)))) ≡ Ok head → EndsWithin bytes head
      go_on chunk (Ok known) again rest = again known (end_of chunk) rest
      go_on chunk (Err fault) again rest = absurd (cc)

      at_chunk : (chunk : Chunk) (sound : Bool) → chunk_at bytes at ≡ Some chunk → is_data chunk ≡ sound
          → ((known : Option Sound) (next : ℕ) → head_from bytes known next (chunks_from most bytes next) ≡ Ok head → EndsWithin bytes head)
          → head_from bytes found at (chunk ∷ chunks_from most bytes (end_of chunk)) ≡ Ok head → EndsWithin bytes head
      at_chunk chunk true here sound again rest =
          sound_ends bytes found chunk head (whole_ends bytes at chunk here) (sym (head_from-data bytes found at chunk (chunks_from most bytes (end_of chunk)) sound) ∙ rest)
      at_chunk chunk false here sound again rest =
          go_on chunk (known_after bytes found chunk) again (sym (head_from-other chunk.kind bytes found at chunk (chunks_from most bytes (end_of chunk)) refl sound) ∙ rest)

      by : (chunk : Option Chunk) → chunk ≡ chunk_at bytes at
          → ((known : Option Sound) (next : ℕ) → head_from bytes known next (chunks_from most bytes next) ≡ Ok head → EndsWithin bytes head)
          → EndsWithin bytes head
      by None here again = none_ends bytes found at head (ap (head_from bytes found at) (sym (none_whole (suc most) bytes at (sym here))) ∙ is)
      by (Some chunk) here again =
          at_chunk chunk (is_data chunk) (sym here) refl again (ap (head_from bytes found at) (sym (one_whole most bytes at chunk (sym here))) ∙ is)

-- what a file says of its frames is so
pub head_of-within : (bytes : List ℕ) (head : Head) → head_of bytes ≡ Ok head → EndsWithin bytes head
head_of-within bytes head is = by (is_riff bytes) refl where
  by : (riff : Bool) → is_riff bytes ≡ riff → EndsWithin bytes head
  by true riff = head_ends (length bytes) bytes None 12 head (sym (head_of-riff bytes riff) ∙ is)
  by false riff = absurd (let other = head_of-other bytes riff in cc)
