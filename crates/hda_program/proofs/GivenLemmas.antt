-- A WAV file that was read whole, as the sound that input pins are given.
use Rattle.std.proofs.Common.{◌≡◌, ◌≢◌, ◌≤◌, ◌∙◌, ℕ, zero, suc, ◌*◌, ◌/◌, ◌%◌, Bool, true, false, if◌then◌else◌, List, [], length, inl, inr, Option, Some, None, Result, Ok, Err, refl, sym, ap, subst, arith}
use Rattle.std.specs.List.{find, before_first}
use Rattle.std.proofs.lemmas.Bool.Decides.{nat_tests}
use Rattle.std.proofs.lemmas.Nat.{div-add-mod'}
use Rattle.stream_format.specs.Cadence.{block_bytes}
use Rattle.stream_format.specs.Layouts.{Layout, layout}
use Rattle.stream_format.proofs.Callers.{one_format}
use Rattle.hda_outside.specs.Shelf.{Files}
use Rattle.wav_reader.specs.declared.fault.WavFault.{WavFault}
use Rattle.wav_reader.specs.declared.fault.WavFault.TheVariants as faults
use Rattle.wav_reader.specs.declared.wav.Wav.{Wav}
use Rattle.wav_reader.specs.Chunks.{chunk_at, chunk_from, chunks_from, chunks_of, end_of, followed_by, is_cut, is_riff, is_whole}
use Rattle.wav_reader.specs.FaultText.{wav_fault_text}
use Rattle.wav_reader.specs.Formats.{◌>>=◌, checked}
use Rattle.wav_reader.specs.Heads.{Head, IsRingFormat, frame_length, head_in, head_of, head_with, is_data, is_format, is_mono, ring_format, sound_at, sound_by}
use Rattle.wav_reader.specs.Opening.{most_wav_bytes}
use Rattle.wav_reader.specs.Supplies.{block_of}
use Rattle.wav_reader.specs.Wavs.{Meaning, Reads, meaning, meaning_by, ring_bytes, wav_of}
use Rattle.wav_reader.proofs.Callers.{ring_length, sound_most}
use Rattle.hda_program.specs.declared.message.Message.{Message}
use Rattle.hda_program.specs.Files.{IsFile}
use Rattle.hda_program.specs.Given.{AreGivenBytesRead, IsGivenFault, IsGivenOf, IsGivenRead, IsGivenRefused, IsStereo}
use Rattle.hda_program.proofs.OneReading.{not_longer, one_file}

-- ---- the frames of a file are no more than its bytes

-- a chunk, and a sound that was found or was not
abbrev Item : {X : Type 0} → List X → Type 0
Item {X} items = X

abbrev Good : {X : Type 0} → Result X WavFault → Type 0
Good {X} result = X

abbrev Chunk : Type 0
Chunk = Item (chunks_of [])

abbrev Known : Type 0
Known = Good (sound_by [] None)

chunk_within : (bytes : List ℕ) (at : ℕ) (whole : Bool) (chunk : Chunk) → whole ≡ is_whole bytes at → (if whole then Some (chunk_from bytes at) else None) ≡ Some chunk → chunk.len ≤ length bytes
chunk_within bytes at true chunk w e =
    let same : chunk_from bytes at ≡ chunk = cc in
    let fits : (chunk_from bytes at).len ≤ length bytes = grind (arith, nat_tests) in
    rw (← same) fits
chunk_within bytes at false chunk w e = absurd (cc)

chunk_ends : (bytes : List ℕ) (at : ℕ) (chunk : Chunk) → chunk_at bytes at ≡ Some chunk → chunk.len ≤ length bytes
unfolding chunk_at
chunk_ends bytes at chunk e = chunk_within bytes at (is_whole bytes at) chunk refl e

module _ (bytes : List ℕ) (chunk : Chunk) where
  abbrev IsWithin : Type 0
  IsWithin = chunk.len ≤ length bytes

  found_first : (most at : ℕ) (first : Chunk) (is : Bool) → chunk_at bytes at ≡ Some first → (find is_data (chunks_from most bytes (end_of first)) ≡ Some chunk → IsWithin)
      → (if is then Some first else find is_data (chunks_from most bytes (end_of first))) ≡ Some chunk → IsWithin
  found_first most at first true here again e = let same : first ≡ chunk = cc in subst (λ (c : Chunk). c.len ≤ length bytes) same (chunk_ends bytes at first here)
  found_first most at first false here again e = again e

  found_next : (most at : ℕ) (next : Option Chunk) → chunk_at bytes at ≡ next → ((place : ℕ) → find is_data (chunks_from most bytes place) ≡ Some chunk → IsWithin)
      → find is_data (followed_by (λ chunk. chunks_from most bytes (end_of chunk)) next) ≡ Some chunk → IsWithin
  found_next most at None here again e = absurd (let bad : None ≡ Some chunk = e in cc)
  found_next most at (Some first) here again e = found_first most at first (is_data first) here (again (end_of first)) e

  found_within : (most at : ℕ) → find is_data (chunks_from most bytes at) ≡ Some chunk → IsWithin
  unfolding chunks_from
  found_within zero at e = absurd (let bad : None ≡ Some chunk = e in cc)
  found_within (suc most) at e = found_next most at (chunk_at bytes at) refl (λ place found. found_within most place found) e

whole_frames : (bytes size : ℕ) → bytes / size * size ≤ bytes
whole_frames bytes size = let all = div-add-mod' bytes size in omega (arith, all)

module _ (bytes : List ℕ) (head : Head) where
  abbrev FitFrames : Type 0
  FitFrames = head.frames * frame_length head.mono head.format ≤ length bytes

  frames_in : (sound : Known) (chunk : Chunk) → chunk.len ≤ length bytes → sound_at bytes (is_cut bytes) sound (Some chunk) ≡ Ok head → FitFrames
  frames_in None chunk within is = absurd (let bad : Err faults.NoFormat ≡ Ok head = is in cc)
  frames_in (Some sound) chunk within is =
      let same : head_with sound chunk ≡ head = cc in
      let less = whole_frames chunk.len (frame_length (is_mono sound.channels) (ring_format sound)) in
      let here : (head_with sound chunk).frames * frame_length (is_mono sound.channels) (ring_format sound) ≤ length bytes = omega (arith, less, within) in
      subst (λ (h : Head). h.frames * frame_length h.mono h.format ≤ length bytes) same here

  frames_at : (sound : Result Known WavFault) (found : Option Chunk) → find is_data (chunks_of bytes) ≡ found → (sound >>= (λ sound. sound_at bytes (is_cut bytes) sound found)) ≡ Ok head → FitFrames
  frames_at (Err fault) found here is = absurd (let bad : Err fault ≡ Ok head = is in cc)
  frames_at (Ok sound) None here is = absurd (cc)
  frames_at (Ok sound) (Some chunk) here is = frames_in sound chunk (found_within bytes chunk (length bytes) 12 here) is

  frames_fit : head_of bytes ≡ Ok head → FitFrames
  unfolding head_of
  frames_fit is = by (is_riff bytes) refl is where
    by : (riff : Bool) → is_riff bytes ≡ riff → (checked riff faults.NotRiff >>= (λ _. head_in bytes)) ≡ Ok head → FitFrames
    by false other e = absurd (cc)
    by true riff e = frames_at (sound_by bytes (find is_format (before_first is_data (chunks_of bytes)))) (find is_data (chunks_of bytes)) refl e

-- ---- a sound of two channels

-- three bytes of its file become eight at most
short_pcm : (bytes : List ℕ) (head : Head) (wav : Wav) → wav.format.channels ≡ 2 → length bytes ≤ most_wav_bytes → head_of bytes ≡ Ok head → meaning_by bytes head ≡ meaning wav → 3 * length wav.pcm ≤ 8 * most_wav_bytes
short_pcm bytes head wav stereo few is same =
    let format_is : head.format ≡ layout wav.format = ap (λ (m : Meaning). m.format) same in
    let pcm_is : ring_bytes bytes head ≡ wav.pcm = ap (λ (m : Meaning). m.pcm) same in
    let two : head.format.channels ≡ 2 = ap (λ (l : Layout). l.channels) format_is ∙ stereo in
    let form : IsRingFormat head.mono head.format = record {
      even = ap (λ (n : ℕ). n % 2) two;
      some = omega (arith, two);
      few = omega (arith, two);
      doubled = λ mono. two;
    } in
    let long : length wav.pcm ≡ head.frames * block_of head = sym (ap length pcm_is) ∙ ring_length bytes head form is in
    let most = sound_most head form in
    let fit = frames_fit bytes head is in
    omega (arith, long, most, fit, few)

short_by : (bytes : List ℕ) (wav : Wav) (found : Result Head WavFault) → head_of bytes ≡ found → wav.format.channels ≡ 2 → length bytes ≤ most_wav_bytes
    → (found >>= (λ head. Ok (meaning_by bytes head))) ≡ Ok (meaning wav) → 3 * length wav.pcm ≤ 8 * most_wav_bytes
short_by bytes wav (Err fault) found stereo few is = absurd (let bad : Err fault ≡ Ok (meaning wav) = is in cc)
short_by bytes wav (Ok head) found stereo few is = let same : meaning_by bytes head ≡ meaning wav = cc in short_pcm bytes head wav stereo few found same

-- what was read is what the bytes mean
wav_read : (bytes : List ℕ) (wav : Wav) → Reads bytes (Ok wav) → wav_of bytes ≡ Ok (meaning wav)
wav_read bytes wav (inl memory) = let bad : Ok wav ≡ Err faults.OutOfMemory = memory in cc
wav_read bytes wav (inr is) = sym is

fault_read : (bytes : List ℕ) (fault : WavFault) → fault ≢ faults.OutOfMemory → Reads bytes (Err fault) → wav_of bytes ≡ Err fault
fault_read bytes fault known (inl memory) = let same : fault ≡ faults.OutOfMemory = cc in absurd (known same)
fault_read bytes fault known (inr is) = sym is

pub sound_given : (bytes : List ℕ) (wav : Wav) (result : Result Wav Message) → length bytes ≤ most_wav_bytes → Reads bytes (Ok wav) → length wav.pcm ≡ wav.frames * block_bytes wav.format → IsStereo wav result
    → AreGivenBytesRead bytes result
sound_given bytes wav (Ok sound) few reads whole (same, stereo) =
    let P : Wav → Type 0 = λ w. AreGivenBytesRead bytes (Ok w) in
    let is = wav_read bytes wav reads in
    subst P (sym same) (is, stereo, record { whole = whole; short = short_by bytes wav (head_of bytes) refl stereo few is })
sound_given bytes wav (Err message) few reads whole (apart, says) = (wav_fault_text (faults.Channels wav.format.channels), inr (meaning wav, wav_read bytes wav reads, apart, refl), says)

pub fault_given : (bytes : List ℕ) (fault : WavFault) → fault ≢ faults.OutOfMemory → Reads bytes (Err fault) → IsGivenFault bytes (wav_fault_text fault)
fault_given bytes fault known reads = inl (fault, known, fault_read bytes fault known reads, refl)

-- bytes of a WAV file that were read
pub given_read : (told : Option Files) (failed : List ℕ → Type 0) (name bytes : List ℕ) (read : Result Wav Message) → IsFile told name bytes → length bytes ≤ most_wav_bytes → AreGivenBytesRead bytes read
    → IsGivenRead told failed name read
given_read told failed name bytes (Ok wav) file short (reads, stereo, whole) =
    (record { bytes = bytes; file = record { file = file; short = short }; reads = reads; stereo = stereo }, whole)
given_read told failed name bytes (Err message) file short (text, faulty, says) = inr (text, inr (bytes, record { file = file; short = short }, faulty), says)

-- ---- where a shelf tells its files, a name has one sound

wav_layout : (bytes : List ℕ) (one other : Wav) → wav_of bytes ≡ Ok (meaning one) → wav_of bytes ≡ Ok (meaning other) → layout other.format ≡ layout one.format
wav_layout bytes one other h k =
    let both : Ok (meaning other) ≡ Ok (meaning one) = sym k ∙ h in
    let same : meaning other ≡ meaning one = cc in ap (λ (m : Meaning). m.format) same

pub one_given : (files : Files) (name : List ℕ) (one other : Wav) → IsGivenOf (Some files) name one → IsGivenOf (Some files) name other → other.format ≡ one.format
one_given files name one other h k =
    let same : k.bytes ≡ h.bytes = one_file files name k.bytes h.bytes k.file.file h.file.file in
    one_format one.format other.format (wav_layout h.bytes one other h.reads (ap wav_of (sym same) ∙ k.reads))

unfaulty : (bytes text : List ℕ) (wav : Wav) → wav_of bytes ≡ Ok (meaning wav) → wav.format.channels ≡ 2 → IsGivenFault bytes text → ⊥
unfaulty bytes text wav reads stereo (inl (fault, known, is, says)) = let bad : Err fault ≡ Ok (meaning wav) = sym is ∙ reads in cc
unfaulty bytes text wav reads stereo (inr (sound, is, apart, says)) =
    let both : Ok sound ≡ Ok (meaning wav) = sym is ∙ reads in
    let same : sound ≡ meaning wav = cc in apart (ap (λ (m : Meaning). m.format.channels) same ∙ stereo)

pub given_unrefused : (files : Files) (name text : List ℕ) (wav : Wav) → IsGivenOf (Some files) name wav → IsGivenRefused (Some files) name text → ⊥
given_unrefused files name text wav h (inl long) = not_longer files name most_wav_bytes h.bytes h.file long.0
given_unrefused files name text wav h (inr (bytes, short, faulty)) =
    let same : h.bytes ≡ bytes = one_file files name h.bytes bytes h.file.file short.file in
    unfaulty bytes text wav (ap wav_of (sym same) ∙ h.reads) h.stereo faulty
