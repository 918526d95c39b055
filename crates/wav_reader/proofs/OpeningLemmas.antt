-- What is read of a file on a shelf is what the file says.
use Rattle.std.proofs.Common.{◌≡◌, ◌≤◌, ◌<◌, ℕ, ◌+◌, Bool, List, length, take, drop, Option, Some, None, Result, Ok, Err, refl, inl, inr, sym, ap, subst, ◌∙◌, length-take, arith}
use Rattle.std.specs.Prelude.{IfSome, IsSomeAnd}
use Rattle.hda_outside.specs.Shelf.{Files, file_of}
use Rattle.hda_outside.specs.declared.reading.ReadAll.{ReadAll}
use Rattle.hda_outside.specs.declared.reading.ReadAll.TheVariants as lengths
use Rattle.wav_reader.specs.declared.fault.WavFault.{WavFault}
use Rattle.wav_reader.specs.declared.fault.WavFault.TheVariants as faults
use Rattle.wav_reader.specs.declared.fault.WavFault.TheVariants.{NotRiff, NoFormat, NoData, Truncated, Tag, Channels, Rate, Bits, BlockAlign}
use Rattle.wav_reader.specs.declared.opened.WavHead.{WavHead}
use Rattle.wav_reader.specs.declared.opened.WavOpen.{WavOpen}
use Rattle.wav_reader.specs.declared.opened.WavOpen.TheVariants.{Failed, TooLong, Wav, OutOfMemory}
use Rattle.wav_reader.specs.declared.chunks.Kind.TheVariants.{Format}
use Rattle.wav_reader.specs.declared.chunks.Chunk.{Chunk}
use Rattle.wav_reader.specs.declared.formats.Sound.{Sound}
use Rattle.wav_reader.specs.Chunks.{chunk_at, body_of}
use Rattle.wav_reader.specs.Formats.{◌>>=◌, checked, sound_of, sound_with, fields_of}
use Rattle.wav_reader.specs.Heads.{head_of}
use Rattle.wav_reader.specs.Opening.{IsOpened, IsOpenedBy, most_wav_bytes}
use Rattle.wav_reader.specs.Readers.{IsAnswer, chunk_or_cut, chunk_with, known_after, open_of_fault, open_of_length}
use Rattle.wav_reader.specs.Shelves.{Tells}
use Rattle.wav_reader.proofs.FrontLemmas.{chunk_at-head, too_short}
use Rattle.wav_reader.proofs.HeadLemmas.{head_after, at_cut}

-- a shelf that tells goes on telling
pub still_tells : (before after : Option Files) (name file : List ℕ) → after ≡ before → Tells before name file → Tells after name file
still_tells before after name file same tells = subst (λ (told : Option Files). Tells told name file) (sym same) tells

-- ---- chunks

pub cut_none : (file : List ℕ) (at len : ℕ) → chunk_at file at ≡ None → length file ≡ len → chunk_or_cut file at ≡ Err (Truncated len)
cut_none file at len none same = rw none (ap (λ (len : ℕ). Err (Truncated len)) same)

pub cut_some : (file : List ℕ) (at : ℕ) (chunk : Chunk) → chunk_at file at ≡ Some chunk → chunk_or_cut file at ≡ Ok chunk
cut_some file at chunk some = rw some refl

-- the head that was read
pub head_read : (file head : List ℕ) (at len : ℕ) → at + 8 ≤ len → length file ≡ len → length head ≡ 8
    → head ≡ take (length head) (drop at file) → chunk_at file at ≡ chunk_with head at len
head_read file head at len inside same eight read =
    let front : head ≡ take 8 (drop at file) = read ∙ ap (λ (count : ℕ). take count (drop at file)) eight in
    let here : chunk_at file at ≡ chunk_with (take 8 (drop at file)) at (length file) = chunk_at-head file at (omega (arith, inside, same)) in
    here ∙ ap (λ (head : List ℕ). chunk_with head at (length file)) (sym front) ∙ ap (λ (len : ℕ). chunk_with head at len) same

-- a chunk that was found, and one that is cut
pub chunk_found : (file : List ℕ) (at : ℕ) (chunk : Chunk) → chunk_or_cut file at ≡ Ok chunk → chunk_at file at ≡ Some chunk
chunk_found file at chunk read = by (chunk_at file at) refl where
  by : (found : Option Chunk) → found ≡ chunk_at file at → chunk_at file at ≡ Some chunk
  by None is = absurd (let none : chunk_or_cut file at ≡ Err (Truncated (length file)) = rw (← is) refl in cc)
  by (Some other) is = let some : chunk_or_cut file at ≡ Ok other = rw (← is) refl in cc

pub chunk_cut : (file : List ℕ) (found : Option Sound) (at : ℕ) (fault : WavFault) → at < length file → chunk_or_cut file at ≡ Err fault
    → head_after file found at ≡ Err fault
chunk_cut file found at fault inside read = by (chunk_at file at) refl where
  by : (chunk : Option Chunk) → chunk ≡ chunk_at file at → head_after file found at ≡ Err fault
  by None is =
      let none : chunk_or_cut file at ≡ Err (Truncated (length file)) = rw (← is) refl in
      let cut = at_cut file at found inside (sym is) in cc
  by (Some chunk) is = absurd (let some : chunk_or_cut file at ≡ Ok chunk = rw (← is) refl in cc)

-- ---- the chunk `fmt `

pub known_format : (file : List ℕ) (found : Option Sound) (chunk : Chunk) → chunk.kind ≡ Format → found ≡ None
    → known_after file found chunk ≡ (sound_of (body_of file chunk) >>= (λ sound. Ok (Some sound)))
known_format file found chunk format none = rw (format, none) refl

pub known_short : (file : List ℕ) (found : Option Sound) (chunk : Chunk) → chunk.kind ≡ Format → found ≡ None → chunk.len < 16
    → known_after file found chunk ≡ Err NoFormat
unfolding sound_of
known_short file found chunk format none few =
    let long = length-take chunk.len (drop chunk.from file) in
    let short = too_short (fields_of (body_of file chunk)).tag (length (body_of file chunk)) (omega (arith, long, few)) in
    known_format file found chunk format none
    ∙ ap (λ (long : Bool). (checked long NoFormat >>= (λ _. sound_with (fields_of (body_of file chunk)))) >>= (λ sound. Ok (Some sound))) short

pub known_by : (file : List ℕ) (found : Option Sound) (chunk : Chunk) (read : Result Sound WavFault) → chunk.kind ≡ Format → found ≡ None
    → sound_of (body_of file chunk) ≡ read → known_after file found chunk ≡ (read >>= (λ sound. Ok (Some sound)))
known_by file found chunk read format none is =
    known_format file found chunk format none ∙ ap (λ (read : Result Sound WavFault). read >>= (λ sound. Ok (Some sound))) is

-- ---- answers

-- the file's fault
pub answer_fault : {A B : Type 0} (as_said : A → B) (said : Result B WavFault) (fault : WavFault) → said ≡ Err fault
    → IsAnswer as_said said (Err (open_of_fault fault))
answer_fault as_said said NotRiff is = is
answer_fault as_said said NoFormat is = is
answer_fault as_said said NoData is = is
answer_fault as_said said (Truncated place) is = is
answer_fault as_said said (Tag tag) is = is
answer_fault as_said said (Channels channels) is = is
answer_fault as_said said (Rate rate) is = is
answer_fault as_said said (Bits bits) is = is
answer_fault as_said said BlockAlign is = is
answer_fault as_said said faults.OutOfMemory is = tt

-- a fault of a part is one of the whole
pub answer_part : {A B C D : Type 0} (as_part : A → B) (as_said : C → D) (part : Result B WavFault) (said : Result D WavFault) (fault : WavOpen)
    → ((fault : WavFault) → part ≡ Err fault → said ≡ Err fault) → IsAnswer as_part part (Err fault) → IsAnswer as_said said (Err fault)
answer_part as_part as_said part said Failed turn answer = tt
answer_part as_part as_said part said TooLong turn answer = answer
answer_part as_part as_said part said (Wav fault) turn answer = turn fault answer
answer_part as_part as_said part said OutOfMemory turn answer = tt

-- ---- the file

-- what is answered of a file that was measured
pub opened_measured : (told : Option Files) (name : List ℕ) (len : ℕ) (result : Result WavHead WavOpen)
    → IfSome told (λ files. IsSomeAnd (file_of files name) (λ file. len ≡ length file))
    → ((file : List ℕ) → Tells told name file → length file ≡ len → IsOpened file result)
    → IfSome told (λ files. IsOpenedBy (file_of files name) result)
opened_measured None name len result measured opened = tt
opened_measured (Some files) name len result measured opened = by (file_of files name) refl measured where
  by : (found : Option (List ℕ)) → file_of files name ≡ found → IsSomeAnd found (λ file. len ≡ length file) → IsOpenedBy found result
  by None is here = absurd here
  by (Some file) is here = opened file (record { files = files; told_is = refl; file_is = is }) (sym here)

-- and of one that was not
pub opened_unmeasured : (told : Option Files) (name : List ℕ) (measured : Result ℕ ReadAll) (fault : ReadAll) → measured ≡ Err fault
    → IfSome told (λ files. measured ≡ Err lengths.TooLong → IsSomeAnd (file_of files name) (λ file. most_wav_bytes < length file))
    → IfSome told (λ files. IsOpenedBy (file_of files name) (Err (open_of_length fault)))
opened_unmeasured None name measured fault was long = tt
opened_unmeasured (Some files) name measured fault was long = by fault (file_of files name) was long where
  by : (fault : ReadAll) (found : Option (List ℕ)) → measured ≡ Err fault
      → (measured ≡ Err lengths.TooLong → IsSomeAnd found (λ file. most_wav_bytes < length file)) → IsOpenedBy found (Err (open_of_length fault))
  by lengths.Failed None was long = inl refl
  by lengths.Failed (Some file) was long = tt
  by lengths.TooLong None was long = absurd (long was)
  by lengths.TooLong (Some file) was long = long was
  by lengths.OutOfMemory None was long = inr refl
  by lengths.OutOfMemory (Some file) was long = tt

-- a fault of a reader
pub opened_fault : {A B : Type 0} (as_said : A → B) (file : List ℕ) (said : Result B WavFault) (fault : WavOpen) → length file ≤ most_wav_bytes
    → ((fault : WavFault) → said ≡ Err fault → head_of file ≡ Err fault) → IsAnswer as_said said (Err fault) → IsOpened file (Err fault)
opened_fault as_said file said Failed short turn answer = tt
opened_fault as_said file said TooLong short turn answer = absurd answer
opened_fault as_said file said (Wav fault) short turn answer = (short, turn fault answer)
opened_fault as_said file said OutOfMemory short turn answer = tt
