-- Where in the file ring bytes are read from.
use Rattle.std.proofs.Common.{◌≡◌, ◌≤◌, ◌<◌, ℕ, zero, suc, ◌+◌, ◌-◌, ◌*◌, ◌/◌, ◌%◌, ◌==◌, Bool, true, false, if◌then◌else◌, List, [], ◌∷◌, ◌++◌, length, take, drop, refl, sym, ap, ◌∙◌, inl, inr, length-append, length-drop, arith}
use Rattle.std.specs.Prelude.{◌⊎◌}
use Rattle.std.proofs.Math.Seq.{take-add, take-length}
use Rattle.std.proofs.lemmas.List.{drop-drop, drop-take, take-take, drop_at, take_at, take-append-le, drop-append-le, length-take-le}
use Rattle.std.proofs.lemmas.Nat.{div-add-mod', div_below, mod_below, mul-le}
use Rattle.stream_format.specs.declared.format.Bits.{Bits}
use Rattle.stream_format.specs.declared.format.Bits.TheVariants.{B16, B24, B32}
use Rattle.stream_format.specs.Cadence.{container_bytes}
use Rattle.hda_outside.specs.Pieces.{HoldsFront}
use Rattle.wav_reader.specs.Formats.{sample_length}
use Rattle.wav_reader.specs.Heads.{Head, EndsWithin, IsRingFormat, frame_length}
use Rattle.wav_reader.specs.Fills.{IsInFrame, end_of_sound}
use Rattle.wav_reader.specs.Supplies.{block_of}
use Rattle.wav_reader.specs.Wavs.{container, piece_at, ring_bytes}
use Rattle.wav_reader.specs.Readers.{IsNext, in_sample, is_pad, place_of, ring_part, slot, slot_length, slots, total}
use Rattle.wav_reader.proofs.CountLemmas.{mul-div, mul-less, mul-few, one-more, whole-less, whole-next, whole-all, div-add, div-div}
use Rattle.wav_reader.proofs.PieceLemmas.{pieces-byte, piece-length}
use Rattle.wav_reader.proofs.RingLemmas.{samples_in, slot-length, slots-add, slots-front, slots-length, ring_bytes-slots}

-- ---- bytes of blocks, frames, slots and samples

pub slot_some : (mono : Bool) (bits : Bits) → 1 ≤ slot_length mono bits
slot_some true B16 = omega arith
slot_some true B24 = omega arith
slot_some true B32 = omega arith
slot_some false B16 = omega arith
slot_some false B24 = omega arith
slot_some false B32 = omega arith

pub sample_some : (bits : Bits) → 1 ≤ sample_length bits
sample_some B16 = omega arith
sample_some B24 = omega arith
sample_some B32 = omega arith

pub samples_some : (head : Head) → IsRingFormat head.mono head.format → 1 ≤ samples_in head
samples_some head form = by head.mono refl where
  by : (mono : Bool) → head.mono ≡ mono → 1 ≤ samples_in head
  by true mono = rw mono (omega arith)
  by false mono = rw mono (let some = form.some in omega (arith, some))

-- a block is the slots of a frame
pub block_is : (head : Head) → IsRingFormat head.mono head.format → block_of head ≡ samples_in head * slot_length head.mono head.format.bits
block_is head form = by head.mono refl where
  by : (mono : Bool) → head.mono ≡ mono → block_of head ≡ samples_in head * slot_length head.mono head.format.bits
  by true mono =
      let two : head.format.channels ≡ 2 = form.doubled mono in
      rw (mono, two) (omega arith)
  by false mono = rw mono refl

pub block_some : (head : Head) → IsRingFormat head.mono head.format → 1 ≤ block_of head
block_some head form =
    let is = block_is head form in
    let some = mul-few 1 (samples_in head) (slot_length head.mono head.format.bits) (samples_some head form) in
    let slot = slot_some head.mono head.format.bits in
    omega (arith, is, some, slot)

pub frame_some : (head : Head) → IsRingFormat head.mono head.format → 1 ≤ frame_length head.mono head.format
frame_some head form =
    let some = mul-few 1 (samples_in head) (sample_length head.format.bits) (samples_some head form) in
    let sample = sample_some head.format.bits in
    omega (arith, some, sample)

container_few : (bits : Bits) → container_bytes bits ≤ 4
container_few B16 = omega arith
container_few B24 = omega arith
container_few B32 = omega arith

pub block_few : (head : Head) → IsRingFormat head.mono head.format → block_of head ≤ 32
block_few head form = mul-le head.format.channels (container_bytes head.format.bits) 8 4 form.few (container_few head.format.bits)

-- three bytes of samples have slots of eight bytes at most
slot_most : (mono : Bool) (bits : Bits) → 3 * slot_length mono bits ≤ 8 * sample_length bits
slot_most true B16 = omega arith
slot_most true B24 = omega arith
slot_most true B32 = omega arith
slot_most false B16 = omega arith
slot_most false B24 = omega arith
slot_most false B32 = omega arith

-- all of them
pub total_is : (head : Head) → IsRingFormat head.mono head.format → total head ≡ samples_in head * head.frames * slot_length head.mono head.format.bits
total_is head form =
    let turned : head.frames * (samples_in head * slot_length head.mono head.format.bits) ≡ samples_in head * head.frames * slot_length head.mono head.format.bits = omega arith in
    ap (λ (block : ℕ). head.frames * block) (block_is head form) ∙ turned

pub end_is : (head : Head) → end_of_sound head ≡ head.from + samples_in head * head.frames * sample_length head.format.bits
end_is head =
    let turned : head.frames * (samples_in head * sample_length head.format.bits) ≡ samples_in head * head.frames * sample_length head.format.bits = omega arith in
    ap (λ (bytes : ℕ). head.from + bytes) turned

pub sound_most : (head : Head) → IsRingFormat head.mono head.format → 3 * (head.frames * block_of head) ≤ 8 * (head.frames * frame_length head.mono head.format)
sound_most head form =
    let count = samples_in head * head.frames in
    let few = mul-le (samples_in head * head.frames) (3 * slot_length head.mono head.format.bits) (samples_in head * head.frames) (8 * sample_length head.format.bits) (omega arith)
    (slot_most head.mono head.format.bits) in
    let all = total_is head form in
    let turned : head.frames * (samples_in head * sample_length head.format.bits) ≡ samples_in head * head.frames * sample_length head.format.bits = omega arith in
    omega (arith, few, all, turned)

-- no sound has more ring bytes than this
pub total_few : (head : Head) (len : ℕ) → IsRingFormat head.mono head.format → head.from + head.frames * frame_length head.mono head.format ≤ len → len ≤ 67108864
    → total head ≤ 178956970
total_few head len form within short = let most = sound_most head form in omega (arith, most, within, short)

-- next bytes put behind held ones
pub next_more : (pcm : List ℕ) (taken : ℕ) (held part : List ℕ) → IsNext pcm taken held
    → part ≡ take (length part) (drop (taken + length held) pcm) → IsNext pcm taken (held ++ part)
next_more pcm taken held part next more =
    ap (λ (first : List ℕ). first ++ part) next
    ∙ ap (λ (last : List ℕ). take (length held) (drop taken pcm) ++ last)
    (more ∙ ap (λ (rest : List ℕ). take (length part) rest) (sym (drop-drop (length held) taken pcm)))
    ∙ sym (take-add (length held) (length part) (drop taken pcm))
    ∙ ap (λ (count : ℕ). take count (drop taken pcm)) (sym (length-append held part))

-- ---- one byte

-- what stands at a place of a sample's slot, by the bytes of the sample
abbrev byte_at : Bits → List ℕ → ℕ → List ℕ
byte_at B16 sample at = take 1 (drop (at % 2) sample)
byte_at B24 sample at = if at % 4 == 0 then 0 ∷ [] else take 1 (drop (at % 4 - 1) sample)
byte_at B32 sample at = take 1 (drop (at % 4) sample)

byte_same : (bits : Bits) (sample : List ℕ) (at at' : ℕ) → at % container_bytes bits ≡ at' % container_bytes bits → byte_at bits sample at ≡ byte_at bits sample at'
byte_same B16 sample at at' same = ap (λ (n : ℕ). take 1 (drop n sample)) same
byte_same B24 sample at at' same = ap (λ (n : ℕ). if n == 0 then 0 ∷ [] else take 1 (drop (n - 1) sample)) same
byte_same B32 sample at at' same = ap (λ (n : ℕ). take 1 (drop n sample)) same

container-length : (bits : Bits) (sample : List ℕ) → length sample ≡ sample_length bits → length (container bits sample) ≡ container_bytes bits
container-length B16 sample long = long
container-length B24 sample long = omega (arith, long)
container-length B32 sample long = long

container-byte : (bits : Bits) (sample : List ℕ) (at : ℕ) → at < container_bytes bits → take 1 (drop at (container bits sample)) ≡ byte_at bits sample at
container-byte B16 sample at within = let same : at ≡ at % 2 = omega (arith, within) in ap (λ (n : ℕ). take 1 (drop n sample)) same
container-byte B24 sample zero within = refl
container-byte B24 sample (suc zero) within = refl
container-byte B24 sample (suc (suc zero)) within = refl
container-byte B24 sample (suc (suc (suc zero))) within = refl
container-byte B24 sample (suc (suc (suc (suc at)))) within = absurd (omega (arith, within))
container-byte B32 sample at within = let same : at ≡ at % 4 = omega (arith, within) in ap (λ (n : ℕ). take 1 (drop n sample)) same

container_again : (bits : Bits) (at : ℕ) → container_bytes bits ≤ at → (at - container_bytes bits) % container_bytes bits ≡ at % container_bytes bits
container_again B16 at past = omega (arith, past)
container_again B24 at past = omega (arith, past)
container_again B32 at past = omega (arith, past)

slot-byte : (mono : Bool) (bits : Bits) (sample : List ℕ) (at : ℕ) → length sample ≡ sample_length bits → at < slot_length mono bits
    → take 1 (drop at (slot mono bits sample)) ≡ byte_at bits sample at
slot-byte false bits sample at long within = container-byte bits sample at within
slot-byte true bits sample at long within = by (before at (container_bytes bits)) where
  before : (at bytes : ℕ) → (at < bytes) ⊎ (bytes ≤ at)
  before at bytes = grind arith

  size : length (container bits sample) ≡ container_bytes bits
  size = container-length bits sample long

  by : (at < container_bytes bits) ⊎ (container_bytes bits ≤ at) → take 1 (drop at (container bits sample ++ container bits sample)) ≡ byte_at bits sample at
  by (inl first) =
      let rest = length-drop at (container bits sample) in
      ap (take 1) (drop-append-le at (container bits sample) (container bits sample) (omega (arith, size, first)))
      ∙ take-append-le 1 (drop at (container bits sample)) (container bits sample) (omega (arith, rest, size, first))
      ∙ container-byte bits sample at first
  by (inr second) =
      let back : at ≡ container_bytes bits + (at - container_bytes bits) = omega (arith, second) in
      ap (λ (n : ℕ). take 1 (drop n (container bits sample ++ container bits sample))) back
      ∙ ap (take 1) (sym (drop-drop (at - container_bytes bits) (container_bytes bits) (container bits sample ++ container bits sample)))
      ∙ ap (λ (rest : List ℕ). take 1 (drop (at - container_bytes bits) rest)) (drop_at (container bits sample) (container bits sample) (container_bytes bits) size)
      ∙ container-byte bits sample (at - container_bytes bits) (omega (arith, second, within))
      ∙ byte_same bits sample (at - container_bytes bits) at (container_again bits at second)

slots-byte : (mono : Bool) (bits : Bits) (bytes : List ℕ) (number count place : ℕ) → number < count → sample_length bits * count ≤ length bytes → place < slot_length mono bits
    → take 1 (drop (number * slot_length mono bits + place) (slots mono bits bytes count)) ≡ byte_at bits (piece_at (sample_length bits) bytes number) place
unfolding slots
slots-byte mono bits bytes number count place early inside within =
    let size = sample_length bits in
    let more = one-more number count (sample_length bits) early in
    let turned : sample_length bits * number + sample_length bits ≡ number * sample_length bits + sample_length bits = omega arith in
    let turned' : sample_length bits * count ≡ count * sample_length bits = omega arith in
    pieces-byte (slot mono bits) size (slot_length mono bits) bytes number count place
    (λ (sample : List ℕ) (long : length sample ≡ sample_length bits). slot-length mono bits sample long) early inside within
    ∙ slot-byte mono bits (piece_at size bytes number) place (piece-length size bytes number (omega (arith, more, turned, turned', inside))) within

-- a byte of a sample stands in the file
in_file : (size : ℕ) (file : List ℕ) (from number place : ℕ) → place < size
    → take 1 (drop place (take size (drop (size * number) (drop from file)))) ≡ take 1 (drop (from + number * size + place) file)
in_file size file from number place within =
    let all : size ≡ place + (size - place) = omega (arith, within) in
    let rest = drop (size * number) (drop from file) in
    let there : from + size * number + place ≡ from + number * size + place = omega arith in
    ap (λ (n : ℕ). take 1 (drop place (take n rest))) all
    ∙ ap (take 1) (drop-take place (size - place) rest)
    ∙ take-take 1 (size - place) (drop place rest) (omega (arith, within))
    ∙ ap (λ (bytes : List ℕ). take 1 (drop place bytes)) (drop-drop (size * number) from file)
    ∙ ap (take 1) (drop-drop place (from + size * number) file)
    ∙ ap (λ (n : ℕ). take 1 (drop n file)) there

-- what stands at a place of the ring bytes: a byte of the file, or the 0 before a sample
abbrev file_byte : Bits → List ℕ → (from number at : ℕ) → List ℕ
file_byte bits file from number at = if is_pad bits at then 0 ∷ [] else take 1 (drop (from + number * sample_length bits + in_sample bits at) file)

byte_in_file : (bits : Bits) (file : List ℕ) (from number at : ℕ) → byte_at bits (piece_at (sample_length bits) (drop from file) number) at ≡ file_byte bits file from number at
byte_in_file B16 file from number at = in_file 2 file from number (at % 2) (omega arith)
byte_in_file B24 file from number at = by (at % 4 == 0) where
  by : (test : Bool) → (if test then 0 ∷ [] else take 1 (drop (at % 4 - 1) (take 3 (drop (3 * number) (drop from file))))) ≡ (if test then 0 ∷ [] else take 1 (drop (from + number * 3 + (at % 4 - 1)) file))
  by true = refl
  by false = in_file 3 file from number (at % 4 - 1) (omega arith)
byte_in_file B32 file from number at = in_file 4 file from number (at % 4) (omega arith)

slot_again : (mono : Bool) (bits : Bits) (at : ℕ) → at % slot_length mono bits % container_bytes bits ≡ at % container_bytes bits
slot_again true B16 at = omega arith
slot_again true B24 at = omega arith
slot_again true B32 at = omega arith
slot_again false B16 at = omega arith
slot_again false B24 at = omega arith
slot_again false B32 at = omega arith

-- the number of the sample of a byte
early_sample : (head : Head) (at : ℕ) → IsRingFormat head.mono head.format → at < total head → at / slot_length head.mono head.format.bits < samples_in head * head.frames
early_sample head at form inside =
    let all = total_is head form in
    div_below at (slot_length head.mono head.format.bits) (samples_in head * head.frames) (slot_some head.mono head.format.bits) (omega (arith, all, inside))

ring_byte : (file : List ℕ) (head : Head) (at : ℕ) → IsRingFormat head.mono head.format → EndsWithin file head → at < total head
    → take 1 (drop at (ring_bytes file head)) ≡ file_byte head.format.bits file head.from (at / slot_length head.mono head.format.bits) at
ring_byte file head at form within inside =
    let bits = head.format.bits in
    let slot = slot_length head.mono head.format.bits in
    let number = at / slot_length head.mono head.format.bits in
    let all = div-add-mod' at (slot_length head.mono head.format.bits) in
    let sound = drop head.from file in
    let rest = length-drop head.from file in
    let end = end_is head in
    let turned : sample_length head.format.bits * (samples_in head * head.frames) ≡ samples_in head * head.frames * sample_length head.format.bits = omega arith in
    ap (λ (ring : List ℕ). take 1 (drop at ring)) (ring_bytes-slots file head within)
    ∙ ap (λ (n : ℕ). take 1 (drop n (slots head.mono bits sound (samples_in head * head.frames)))) (sym all)
    ∙ slots-byte head.mono bits sound number (samples_in head * head.frames) (at % slot) (early_sample head at form inside) (omega (arith, rest, end, turned, within))
    (mod_below at slot (slot_some head.mono head.format.bits))
    ∙ byte_same bits (piece_at (sample_length bits) sound number) (at % slot) at (slot_again head.mono bits at)
    ∙ byte_in_file bits file head.from number at

pub next_byte : (file : List ℕ) (head : Head) (taken : ℕ) (held byte : List ℕ) → IsRingFormat head.mono head.format → EndsWithin file head
    → taken + length held < total head → is_pad head.format.bits (taken + length held) ≡ false → length byte ≡ 1 → HoldsFront file (place_of head (taken + length held)) byte 1
    → IsNext (ring_bytes file head) taken held → IsNext (ring_bytes file head) taken (held ++ byte)
next_byte file head taken held byte form within inside pad one read next =
    let at = taken + length held in
    let number = at / slot_length head.mono head.format.bits in
    let here : take 1 (drop (taken + length held) (ring_bytes file head)) ≡ take 1 (drop (place_of head (taken + length held)) file) =
    ring_byte file head at form within inside
    ∙ ap (λ (pad : Bool). if pad then 0 ∷ [] else take 1 (drop (head.from + number * sample_length head.format.bits + in_sample head.format.bits at) file)) pad in
    next_more (ring_bytes file head) taken held byte next
    (sym (take-length byte) ∙ ap (λ (count : ℕ). take count byte) one ∙ read.front ∙ sym here
    ∙ ap (λ (count : ℕ). take count (drop (taken + length held) (ring_bytes file head))) (sym one))

pub next_pad : (file : List ℕ) (head : Head) (taken : ℕ) (held : List ℕ) → IsRingFormat head.mono head.format → EndsWithin file head
    → taken + length held < total head → is_pad head.format.bits (taken + length held) ≡ true
    → IsNext (ring_bytes file head) taken held → IsNext (ring_bytes file head) taken (held ++ 0 ∷ [])
next_pad file head taken held form within inside pad next =
    let at = taken + length held in
    let number = at / slot_length head.mono head.format.bits in
    let here : take 1 (drop (taken + length held) (ring_bytes file head)) ≡ 0 ∷ [] =
    ring_byte file head at form within inside
    ∙ ap (λ (pad : Bool). if pad then 0 ∷ [] else take 1 (drop (head.from + number * sample_length head.format.bits + in_sample head.format.bits at) file)) pad in
    next_more (ring_bytes file head) taken held (0 ∷ []) next (sym here)

-- ---- whole samples

-- the place of a whole sample
in_none : (mono : Bool) (bits : Bits) (at : ℕ) → at % slot_length mono bits ≡ 0 → in_sample bits at ≡ 0
in_none true B16 at whole = omega (arith, whole)
in_none true B24 at whole = omega (arith, whole)
in_none true B32 at whole = omega (arith, whole)
in_none false B16 at whole = omega (arith, whole)
in_none false B24 at whole = omega (arith, whole)
in_none false B32 at whole = omega (arith, whole)

pub place_whole : (head : Head) (at : ℕ) → at % slot_length head.mono head.format.bits ≡ 0
    → place_of head at ≡ head.from + at / slot_length head.mono head.format.bits * sample_length head.format.bits
place_whole head at whole = let none = in_none head.mono head.format.bits at whole in omega (arith, none)

-- samples before the end
early_samples : (head : Head) (at samples : ℕ) → IsRingFormat head.mono head.format → at % slot_length head.mono head.format.bits ≡ 0
    → at + samples * slot_length head.mono head.format.bits ≤ total head
    → at / slot_length head.mono head.format.bits + samples ≤ samples_in head * head.frames
early_samples head at samples form whole inside =
    let slot = slot_length head.mono head.format.bits in
    let all = total_is head form in
    let front = whole-all at (slot_length head.mono head.format.bits) whole in
    let sum : (at / slot_length head.mono head.format.bits + samples) * slot_length head.mono head.format.bits
    ≡ at / slot_length head.mono head.format.bits * slot_length head.mono head.format.bits + samples * slot_length head.mono head.format.bits = omega arith in
    mul-less (at / slot + samples) (samples_in head * head.frames) slot (slot_some head.mono head.format.bits) (omega (arith, all, front, sum, inside))

-- the first of the bytes that were read
front_of : (file buffer : List ℕ) (at count few : ℕ) → HoldsFront file at buffer count → few ≤ count → take few buffer ≡ take few (drop at file)
front_of file buffer at count few read within =
    sym (take-take few count buffer within) ∙ ap (λ (part : List ℕ). take few part) read.front ∙ take-take few count (drop at file) within

-- the slots of samples from a whole one on
slots-from : (mono : Bool) (bits : Bits) (bytes : List ℕ) (first samples count : ℕ) → first + samples ≤ count → sample_length bits * count ≤ length bytes
    → take (samples * slot_length mono bits) (drop (first * slot_length mono bits) (slots mono bits bytes count)) ≡ slots mono bits (drop (sample_length bits * first) bytes) samples
slots-from mono bits bytes first samples count early inside =
    let size = sample_length bits in
    let others = count - (first + samples) in
    let all : count ≡ first + (samples + (count - (first + samples))) = omega (arith, early) in
    let few = mul-few (first + samples) count (sample_length bits) early in
    let sum : (first + samples) * sample_length bits ≡ sample_length bits * first + sample_length bits * samples = omega arith in
    let turned : sample_length bits * count ≡ count * sample_length bits = omega arith in
    let there = length-drop (sample_length bits * first) bytes in
    let rest = drop (size * first) bytes in
    let front = slots mono bits bytes first in
    let middle = slots mono bits rest samples in
    let last = slots mono bits (drop (size * samples) rest) others in
    let long = slots-length mono bits bytes first (omega (arith, few, sum, turned, inside)) in
    let wide = slots-length mono bits rest samples (omega (arith, few, sum, turned, inside, there)) in
    ap (λ (n : ℕ). take (samples * slot_length mono bits) (drop (first * slot_length mono bits) (slots mono bits bytes n))) all
    ∙ ap (λ (ring : List ℕ). take (samples * slot_length mono bits) (drop (first * slot_length mono bits) ring))
    (slots-add mono bits bytes first (samples + others) ∙ ap (λ (later : List ℕ). front ++ later) (slots-add mono bits rest samples others))
    ∙ ap (take (samples * slot_length mono bits)) (drop_at front (middle ++ last) (first * slot_length mono bits) long)
    ∙ take_at middle last (samples * slot_length mono bits) wide

-- what the ring gets for samples that were read
ring_samples : (file : List ℕ) (head : Head) (at : ℕ) (buffer : List ℕ) (count samples : ℕ) → IsRingFormat head.mono head.format → EndsWithin file head
    → at % slot_length head.mono head.format.bits ≡ 0 → at + samples * slot_length head.mono head.format.bits ≤ total head → HoldsFront file (place_of head at) buffer count
    → samples * sample_length head.format.bits ≤ count → count ≤ length buffer
    → ring_part head.mono head.format.bits (take (samples * sample_length head.format.bits) buffer) ≡ take (samples * slot_length head.mono head.format.bits) (drop at (ring_bytes file head))
ring_samples file head at buffer count samples form within whole inside read few long =
    let mono = head.mono in
    let bits = head.format.bits in
    let size = sample_length head.format.bits in
    let slot = slot_length head.mono head.format.bits in
    let first = at / slot_length head.mono head.format.bits in
    let all = samples_in head * head.frames in
    let sound = drop head.from file in
    let few' : samples * sample_length head.format.bits ≤ length buffer = omega (arith, few, long) in
    let number : length (take (samples * sample_length head.format.bits) buffer) / sample_length head.format.bits ≡ samples =
    ap (λ (n : ℕ). n / sample_length head.format.bits) (length-take-le (samples * sample_length head.format.bits) buffer few') ∙ mul-div samples (sample_length head.format.bits) (sample_some head.format.bits) in
    let turned : sample_length head.format.bits * samples ≡ samples * sample_length head.format.bits = omega arith in
    let there : place_of head at ≡ head.from + sample_length head.format.bits * (at / slot_length head.mono head.format.bits) =
    (let is = place_whole head at whole in let turn : sample_length head.format.bits * (at / slot_length head.mono head.format.bits) ≡ at / slot_length head.mono head.format.bits * sample_length head.format.bits = omega arith in omega (arith, is, turn)) in
    let rest = length-drop head.from file in
    let end = end_is head in
    let turned' : sample_length head.format.bits * (samples_in head * head.frames) ≡ samples_in head * head.frames * sample_length head.format.bits = omega arith in
    let start = whole-all at (slot_length head.mono head.format.bits) whole in
    ap (slots mono bits (take (samples * size) buffer)) number
    ∙ ap (λ (bytes : List ℕ). slots mono bits bytes samples) (front_of file buffer (place_of head at) count (samples * size) read few)
    ∙ slots-front mono bits (drop (place_of head at) file) (samples * size) samples (omega (arith, turned))
    ∙ ap (λ (n : ℕ). slots mono bits (drop n file) samples) there
    ∙ ap (λ (bytes : List ℕ). slots mono bits bytes samples) (sym (drop-drop (size * first) head.from file))
    ∙ sym (slots-from mono bits sound first samples all (early_samples head at samples form whole inside) (omega (arith, rest, end, turned', within)))
    ∙ ap (λ (n : ℕ). take (samples * slot) (drop n (slots mono bits sound all))) start
    ∙ ap (λ (ring : List ℕ). take (samples * slot) (drop at ring)) (sym (ring_bytes-slots file head within))

pub part-length : (mono : Bool) (bits : Bits) (bytes : List ℕ) (samples : ℕ) → length bytes ≡ samples * sample_length bits → length (ring_part mono bits bytes) ≡ samples * slot_length mono bits
part-length mono bits bytes samples long =
    let number : length bytes / sample_length bits ≡ samples = ap (λ (n : ℕ). n / sample_length bits) long ∙ mul-div samples (sample_length bits) (sample_some bits) in
    let turned : sample_length bits * samples ≡ samples * sample_length bits = omega arith in
    ap (λ (n : ℕ). length (slots mono bits bytes n)) number ∙ slots-length mono bits bytes samples (omega (arith, turned, long))

pub next_samples : (file : List ℕ) (head : Head) (taken : ℕ) (held buffer : List ℕ) (count samples : ℕ) → IsRingFormat head.mono head.format → EndsWithin file head
    → (taken + length held) % slot_length head.mono head.format.bits ≡ 0 → taken + length held + samples * slot_length head.mono head.format.bits ≤ total head
    → HoldsFront file (place_of head (taken + length held)) buffer count → samples * sample_length head.format.bits ≤ count → count ≤ length buffer
    → IsNext (ring_bytes file head) taken held
    → IsNext (ring_bytes file head) taken (held ++ ring_part head.mono head.format.bits (take (samples * sample_length head.format.bits) buffer))
next_samples file head taken held buffer count samples form within whole inside read few long next =
    let part = ring_part head.mono head.format.bits (take (samples * sample_length head.format.bits) buffer) in
    let size : length (ring_part head.mono head.format.bits (take (samples * sample_length head.format.bits) buffer)) ≡ samples * slot_length head.mono head.format.bits =
    part-length head.mono head.format.bits (take (samples * sample_length head.format.bits) buffer) samples
    (length-take-le (samples * sample_length head.format.bits) buffer (omega (arith, few, long))) in
    next_more (ring_bytes file head) taken held part next
    (ring_samples file head (taken + length held) buffer count samples form within whole inside read few long
    ∙ ap (λ (n : ℕ). take n (drop (taken + length held) (ring_bytes file head))) (sym size))

-- ---- places in frames

-- a part of the sound ends where the sound does
pub part_inside : (head : Head) (at samples : ℕ) → IsRingFormat head.mono head.format → at % slot_length head.mono head.format.bits ≡ 0
    → at + samples * slot_length head.mono head.format.bits ≤ total head → place_of head at + samples * sample_length head.format.bits ≤ end_of_sound head
part_inside head at samples form whole inside =
    let size = sample_length head.format.bits in
    let place = place_whole head at whole in
    let end = end_is head in
    let few = mul-few (at / slot_length head.mono head.format.bits + samples) (samples_in head * head.frames) (sample_length head.format.bits) (early_samples head at samples form whole inside) in
    let sum : (at / slot_length head.mono head.format.bits + samples) * sample_length head.format.bits
    ≡ at / slot_length head.mono head.format.bits * sample_length head.format.bits + samples * sample_length head.format.bits = omega arith in
    omega (arith, place, end, few, sum)

in_less : (bits : Bits) (at : ℕ) → in_sample bits at < sample_length bits
in_less B16 at = omega arith
in_less B24 at = omega arith
in_less B32 at = omega arith

-- a byte stands before the end of the sound
pub place_before : (head : Head) (at : ℕ) → IsRingFormat head.mono head.format → at < total head → place_of head at + 1 ≤ end_of_sound head
place_before head at form inside =
    let end = end_is head in
    let less = in_less head.format.bits at in
    let more = one-more (at / slot_length head.mono head.format.bits) (samples_in head * head.frames) (sample_length head.format.bits) (early_sample head at form inside) in
    omega (arith, end, less, more)

-- a place in a sample is one in its frame
pub in_frame : (head : Head) (at place : ℕ) → IsRingFormat head.mono head.format
    → head.from + at / slot_length head.mono head.format.bits * sample_length head.format.bits ≤ place
    → place < head.from + at / slot_length head.mono head.format.bits * sample_length head.format.bits + sample_length head.format.bits
    → place < end_of_sound head → IsInFrame head at place
in_frame head at place form start within early = by_number (at / slot_length head.mono head.format.bits) refl start within where
  number_is : at / block_of head ≡ at / slot_length head.mono head.format.bits / samples_in head
  number_is = ap (λ (n : ℕ). at / n) (block_is head form) ∙ div-div at (samples_in head) (slot_length head.mono head.format.bits)

  by_number : (sample : ℕ) → at / slot_length head.mono head.format.bits ≡ sample → head.from + sample * sample_length head.format.bits ≤ place
      → place < head.from + sample * sample_length head.format.bits + sample_length head.format.bits → IsInFrame head at place
  by_number sample is start within =
      let each = samples_in head in
      let size = sample_length head.format.bits in
      let frame : at / block_of head ≡ sample / samples_in head = number_is ∙ ap (λ (n : ℕ). n / samples_in head) is in
      let less = mul-few (sample / samples_in head * samples_in head) sample (sample_length head.format.bits) (whole-less sample (samples_in head)) in
      let next = one-more sample (sample / samples_in head * samples_in head + samples_in head) (sample_length head.format.bits) (whole-next sample (samples_in head) (samples_some head form)) in
      let turned : sample / samples_in head * samples_in head * sample_length head.format.bits ≡ sample / samples_in head * (samples_in head * sample_length head.format.bits) = omega arith in
      let sum : (sample / samples_in head * samples_in head + samples_in head) * sample_length head.format.bits
      ≡ sample / samples_in head * (samples_in head * sample_length head.format.bits) + samples_in head * sample_length head.format.bits = omega arith in
      let front : head.from + sample / samples_in head * (samples_in head * sample_length head.format.bits) ≤ place = omega (arith, less, turned, start) in
      let back : place < head.from + sample / samples_in head * (samples_in head * sample_length head.format.bits) + samples_in head * sample_length head.format.bits = omega (arith, next, sum, within) in
      record {
        start = rw frame front;
        within = rw frame back;
        early = early;
      }

-- the place of a byte stands in its frame
pub place_in_frame : (head : Head) (at at' place : ℕ) → IsRingFormat head.mono head.format → place ≡ place_of head at → at' ≡ at → place < end_of_sound head → IsInFrame head at' place
place_in_frame head at at' place form is same early =
    let less = in_less head.format.bits at in
    rw same (in_frame head at place form (omega (arith, is)) (omega (arith, is, less)) early)

-- the place after so many bytes from a whole sample on stands in the frame of the sample after those that they make up
pub sample_after : (head : Head) (at count at' place : ℕ) → IsRingFormat head.mono head.format → at % slot_length head.mono head.format.bits ≡ 0 → place ≡ place_of head at + count
    → at' ≡ at + count / sample_length head.format.bits * slot_length head.mono head.format.bits → place < end_of_sound head → IsInFrame head at' place
sample_after head at count at' place form whole is after early =
    let slot = slot_length head.mono head.format.bits in
    let size = sample_length head.format.bits in
    let there = place_whole head at whole in
    let less = whole-less count (sample_length head.format.bits) in
    let next = whole-next count (sample_length head.format.bits) (sample_some head.format.bits) in
    let number : at' / slot_length head.mono head.format.bits ≡ at / slot_length head.mono head.format.bits + count / sample_length head.format.bits =
    ap (λ (n : ℕ). n / slot_length head.mono head.format.bits) after ∙ div-add at (count / sample_length head.format.bits) (slot_length head.mono head.format.bits) (slot_some head.mono head.format.bits) whole in
    let all = ap (λ (n : ℕ). n * sample_length head.format.bits) number in
    let sum : (at / slot_length head.mono head.format.bits + count / sample_length head.format.bits) * sample_length head.format.bits
    ≡ at / slot_length head.mono head.format.bits * sample_length head.format.bits + count / sample_length head.format.bits * sample_length head.format.bits = omega arith in
    in_frame head at' place form (omega (arith, there, less, all, sum, is)) (omega (arith, there, next, all, sum, is)) early
