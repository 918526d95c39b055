-- The blocks of a ring that are written as a WAV file are read as these.
use Rattle.std.proofs.Common.{◌≡◌, ◌≢◌, ◌≤◌, ◌<◌, ℕ, zero, suc, ◌+◌, ◌*◌, ◌/◌, ◌%◌, true, false, List, [], ◌∷◌, ◌++◌, length, take, drop, get_or, Ok, refl, sym, ap, subst, ◌∙◌, arith}
use Rattle.std.specs.List.{flat_map}
use Rattle.std.proofs.lemmas.List.{take_at, take_all, get_or-take, get_or-drop}
use Rattle.std.proofs.lemmas.Nat.{div-mul-add}
use Rattle.std.proofs.Math.Seq.{take-add}
use Rattle.stream_format.specs.declared.format.Rate.{Rate}
use Rattle.stream_format.specs.declared.format.Bits.{Bits}
use Rattle.stream_format.specs.declared.format.Bits.TheVariants.{B16, B24, B32}
use Rattle.stream_format.specs.Cadence.{container_bytes, block_bytes, hertz}
use Rattle.wav_reader.specs.declared.formats.ChannelCount.{ChannelCount}
use Rattle.wav_reader.specs.declared.formats.ChannelCount.TheVariants.{Two, Four, Six, Eight}
use Rattle.wav_reader.specs.declared.formats.Sound.{Sound}
use Rattle.wav_reader.specs.Laws.{HasNoMore, AreBlocksReadBack}
use Rattle.wav_reader.specs.Formats.{pcm_tag, sample_length}
use Rattle.wav_reader.specs.Readers.{slots}
use Rattle.wav_reader.specs.Wavs.{Meaning, piece_at, pieces_of, container, ring_block, wav_of}
use Rattle.wav_reader.specs.Written.{format_numbers, sound_file, file_sample, file_samples, block_file}
use Rattle.wav_reader.proofs.CountLemmas.{whole-all}
use Rattle.wav_reader.proofs.SoundLemmas.{heard_back}
use Rattle.wav_reader.proofs.PieceLemmas.{pieces-suc, pieces-front, pieces-length, piece-length, pieces-same}
use Rattle.wav_reader.proofs.RingLemmas.{blocks-slots}

-- a container whose first byte is 0
behind : (bytes : List ℕ) → length bytes ≡ 4 → get_or bytes 0 0 ≡ 0 → 0 ∷ drop 1 bytes ≡ bytes
behind [] four none = absurd (omega (arith, four))
behind (first ∷ bytes) four none = ap (λ (byte : ℕ). byte ∷ bytes) (sym none)

three_of : (piece : List ℕ) → length piece ≡ 4 → length (drop 1 piece) ≡ 3
three_of [] four = absurd (omega (arith, four))
three_of (first ∷ piece) four = omega (arith, four)

-- the samples of containers of 24 bits
pub sample_bytes : List ℕ → ℕ → List ℕ
sample_bytes ring count = flat_map (file_sample B24) (pieces_of 4 ring count)

sample_bytes-length : (ring : List ℕ) (count : ℕ) → 4 * count ≤ length ring → length (sample_bytes ring count) ≡ count * 3
unfolding sample_bytes
sample_bytes-length ring count inside = pieces-length (file_sample B24) 4 3 ring count three_of inside

-- each behind a byte 0 again
pub widened : (ring : List ℕ) (count : ℕ) → 4 * count ≤ length ring → HasNoMore B24 ring
    → flat_map (container B24) (pieces_of 3 (sample_bytes ring count) count) ≡ take (4 * count) ring
unfolding sample_bytes
widened ring zero inside none = refl
widened ring (suc count) inside none =
    let front = sample_bytes ring count in
    let piece = piece_at 4 ring count in
    let last = drop 1 (piece_at 4 ring count) in
    let before : 4 * count ≤ length ring = omega (arith, inside) in
    let within : 4 * count + 4 ≤ length ring = omega (arith, inside) in
    let long = sample_bytes-length ring count before in
    let long' : length front ≡ 3 * count = omega (arith, long) in
    let four = piece-length 4 ring count within in
    let first : get_or (piece_at 4 ring count) 0 0 ≡ 0 =
    get_or-take 4 (drop (4 * count) ring) 0 0 (omega arith) ∙ get_or-drop (4 * count) ring 0 0
    ∙ ap (λ (at : ℕ). get_or ring at 0) (omega arith) ∙ none count (omega (arith, within)) in
    let next : 4 * suc count ≡ 4 * count + 4 = omega arith in
    ap (λ (samples : List ℕ). flat_map (container B24) (pieces_of 3 samples (suc count))) (pieces-suc (file_sample B24) 4 ring count)
    ∙ pieces-suc (container B24) 3 (front ++ last) count
    ∙ ap (λ (bytes : List ℕ). bytes ++ (0 ∷ piece_at 3 (front ++ last) count))
    (sym (pieces-front (container B24) 3 (front ++ last) (3 * count) count (omega arith))
    ∙ ap (λ (bytes : List ℕ). flat_map (container B24) (pieces_of 3 bytes count)) (take_at front last (3 * count) long')
    ∙ widened ring count before none)
    ∙ ap (λ (bytes : List ℕ). take (4 * count) ring ++ (0 ∷ take 3 bytes)) (after front last (3 * count) long')
    ∙ ap (λ (bytes : List ℕ). take (4 * count) ring ++ (0 ∷ bytes)) (take_all 3 last (let three = three_of piece four in omega (arith, three)))
    ∙ ap (λ (bytes : List ℕ). take (4 * count) ring ++ bytes) (behind piece four first)
    ∙ sym (ap (λ (n : ℕ). take n ring) next ∙ take-add (4 * count) 4 ring) where
      drop_front : (front last : List ℕ) → drop (length front) (front ++ last) ≡ last
      drop_front [] last = refl
      drop_front (x ∷ front) last = drop_front front last

      after : (front last : List ℕ) (n : ℕ) → length front ≡ n → drop n (front ++ last) ≡ last
      after front last n same = subst (λ (n : ℕ). drop n (front ++ last) ≡ last) same (drop_front front last)

-- ---- the samples of a ring

-- so many containers of a ring
number_is : (bits : Bits) (ring : List ℕ) (count : ℕ) → length ring ≡ container_bytes bits * count → length ring / container_bytes bits ≡ count
number_is B16 ring count long = omega (arith, long)
number_is B24 ring count long = omega (arith, long)
number_is B32 ring count long = omega (arith, long)

-- samples of 16 and 32 bits stand in a file as in the ring
as_they_are : (size : ℕ) (ring : List ℕ) (count : ℕ) → length ring ≡ size * count → flat_map (λ (piece : List ℕ). piece) (pieces_of size ring count) ≡ ring
as_they_are size ring count long = pieces-same size ring count ∙ take_all (size * count) ring (omega (arith, long))

samples_by : (bits : Bits) (ring : List ℕ) (count : ℕ) → length ring ≡ container_bytes bits * count → file_samples bits ring ≡ flat_map (file_sample bits) (pieces_of (container_bytes bits) ring count)
samples_by bits ring count long = ap (λ (n : ℕ). flat_map (file_sample bits) (pieces_of (container_bytes bits) ring n)) (number_is bits ring count long)

pub samples-length : (bits : Bits) (ring : List ℕ) (count : ℕ) → length ring ≡ container_bytes bits * count → length (file_samples bits ring) ≡ sample_length bits * count
unfolding sample_bytes
samples-length B16 ring count long = ap length (samples_by B16 ring count long ∙ as_they_are 2 ring count long) ∙ long
samples-length B24 ring count long =
    let each = sample_bytes-length ring count (omega (arith, long)) in
    ap length (samples_by B24 ring count long) ∙ each ∙ omega arith
samples-length B32 ring count long = ap length (samples_by B32 ring count long ∙ as_they_are 4 ring count long) ∙ long

pub samples-same : (bits : Bits) (ring : List ℕ) (count : ℕ) → length ring ≡ container_bytes bits * count → bits ≢ B24 → file_samples bits ring ≡ ring
samples-same B16 ring count long other = samples_by B16 ring count long ∙ as_they_are 2 ring count long
samples-same B24 ring count long other = absurd (other refl)
samples-same B32 ring count long other = samples_by B32 ring count long ∙ as_they_are 4 ring count long

-- and the slots of the samples are the ring again
slots-back : (bits : Bits) (ring : List ℕ) (count : ℕ) → length ring ≡ container_bytes bits * count → HasNoMore bits ring → slots false bits (file_samples bits ring) count ≡ ring
unfolding slots sample_bytes
slots-back B16 ring count long none =
    ap (λ (samples : List ℕ). flat_map (container B16) (pieces_of 2 samples count)) (samples_by B16 ring count long ∙ as_they_are 2 ring count long) ∙ as_they_are 2 ring count long
slots-back B24 ring count long none =
    ap (λ (samples : List ℕ). flat_map (container B24) (pieces_of 3 samples count)) (samples_by B24 ring count long)
    ∙ widened ring count (omega (arith, long)) none ∙ take_all (4 * count) ring (omega (arith, long))
slots-back B32 ring count long none =
    ap (λ (samples : List ℕ). flat_map (container B32) (pieces_of 4 samples count)) (samples_by B32 ring count long ∙ as_they_are 4 ring count long) ∙ as_they_are 4 ring count long

-- ---- the file

meaning_with : (rate : Rate) (bits : Bits) (channels frames : ℕ) → List ℕ → Meaning
meaning_with rate bits channels frames pcm = record { format = record { rate = rate; bits = bits; channels = channels }; mono = false; frames = frames; pcm = pcm }

-- what frames of so many channels mean
blocks-back : (bits : Bits) (channels : ℕ) (ring : List ℕ) (blocks : ℕ) → 0 < channels → length ring ≡ container_bytes bits * (channels * blocks) → HasNoMore bits ring
    → flat_map (ring_block false bits) (pieces_of (channels * sample_length bits) (file_samples bits ring) blocks) ≡ ring
blocks-back bits channels ring blocks some long none =
    let samples = samples-length bits ring (channels * blocks) long in
    let turned : sample_length bits * (channels * blocks) ≡ channels * sample_length bits * blocks = omega arith in
    blocks-slots false bits (file_samples bits ring) channels blocks (λ (mono : false ≡ true). absurd (cc)) (omega (arith, samples, turned))
    ∙ slots-back bits ring (channels * blocks) long none

-- how many these are
blocks-number : (bits : Bits) (channels : ℕ) (ring : List ℕ) (blocks : ℕ) → 0 < channels → length ring ≡ container_bytes bits * (channels * blocks)
    → length (file_samples bits ring) / (channels * sample_length bits) ≡ blocks
blocks-number bits channels ring blocks some long =
    let turned : sample_length bits * (channels * blocks) ≡ blocks * (channels * sample_length bits) + 0 = omega arith in
    ap (λ (n : ℕ). n / (channels * sample_length bits)) (samples-length bits ring (channels * blocks) long ∙ turned)
    ∙ div-mul-add blocks (channels * sample_length bits) 0 (positive bits channels some) where
      positive : (bits : Bits) (channels : ℕ) → 0 < channels → 0 < channels * sample_length bits
      positive B16 channels some = omega (arith, some)
      positive B24 channels some = omega (arith, some)
      positive B32 channels some = omega (arith, some)

same-meaning : (rate : Rate) (bits : Bits) (channels : ℕ) (ring : List ℕ) (blocks : ℕ) → 0 < channels → length ring ≡ container_bytes bits * (channels * blocks) → HasNoMore bits ring
    → meaning_with rate bits channels (length (file_samples bits ring) / (channels * sample_length bits))
    (flat_map (ring_block false bits) (pieces_of (channels * sample_length bits) (file_samples bits ring) (length (file_samples bits ring) / (channels * sample_length bits))))
    ≡ meaning_with rate bits channels blocks ring
same-meaning rate bits channels ring blocks some long none =
    ap (λ (n : ℕ). meaning_with rate bits channels n (flat_map (ring_block false bits) (pieces_of (channels * sample_length bits) (file_samples bits ring) n))) (blocks-number bits channels ring blocks some long)
    ∙ ap (meaning_with rate bits channels blocks) (blocks-back bits channels ring blocks some long none)

-- so many channels are those of a sound
sound_with : Rate → Bits → ChannelCount → Sound
sound_with rate bits channels = record { rate = rate; bits = bits; channels = channels }

ReadsBack : Rate → Bits → (channels : ℕ) → Type 0
ReadsBack rate bits channels = (ring : List ℕ) (blocks : ℕ) → length ring ≡ container_bytes bits * (channels * blocks) → length (file_samples bits ring) < 0xFFFF_FFFF → HasNoMore bits ring
    → wav_of (sound_file (format_numbers pcm_tag channels (hertz rate) (channels * sample_length bits) (8 * sample_length bits)) (file_samples bits ring)) ≡ Ok (meaning_with rate bits channels blocks ring)

two : (rate : Rate) (bits : Bits) → ReadsBack rate bits 2
unfolding ReadsBack meaning_with sound_with
two rate bits ring blocks long few none =
    (heard_back (sound_with rate bits Two) (file_samples bits ring) few).plain ∙ ap Ok (same-meaning rate bits 2 ring blocks (omega arith) long none)

four : (rate : Rate) (bits : Bits) → ReadsBack rate bits 4
unfolding ReadsBack meaning_with sound_with
four rate bits ring blocks long few none =
    (heard_back (sound_with rate bits Four) (file_samples bits ring) few).plain ∙ ap Ok (same-meaning rate bits 4 ring blocks (omega arith) long none)

six : (rate : Rate) (bits : Bits) → ReadsBack rate bits 6
unfolding ReadsBack meaning_with sound_with
six rate bits ring blocks long few none =
    (heard_back (sound_with rate bits Six) (file_samples bits ring) few).plain ∙ ap Ok (same-meaning rate bits 6 ring blocks (omega arith) long none)

eight : (rate : Rate) (bits : Bits) → ReadsBack rate bits 8
unfolding ReadsBack meaning_with sound_with
eight rate bits ring blocks long few none =
    (heard_back (sound_with rate bits Eight) (file_samples bits ring) few).plain ∙ ap Ok (same-meaning rate bits 8 ring blocks (omega arith) long none)

-- a format has two, four, six or eight channels
reads_back : (rate : Rate) (bits : Bits) (channels : ℕ) → channels % 2 ≡ 0 → 2 ≤ channels → channels ≤ 8 → ReadsBack rate bits channels
reads_back rate bits zero even some few = absurd (omega (arith, some))
reads_back rate bits (suc zero) even some few = absurd (omega (arith, some))
reads_back rate bits (suc (suc zero)) even some few = two rate bits
reads_back rate bits (suc (suc (suc zero))) even some few = absurd (omega (arith, even))
reads_back rate bits (suc (suc (suc (suc zero)))) even some few = four rate bits
reads_back rate bits (suc (suc (suc (suc (suc zero))))) even some few = absurd (omega (arith, even))
reads_back rate bits (suc (suc (suc (suc (suc (suc zero)))))) even some few = six rate bits
reads_back rate bits (suc (suc (suc (suc (suc (suc (suc zero))))))) even some few = absurd (omega (arith, even))
reads_back rate bits (suc (suc (suc (suc (suc (suc (suc (suc zero)))))))) even some few = eight rate bits
reads_back rate bits (suc (suc (suc (suc (suc (suc (suc (suc (suc more))))))))) even some few = absurd (omega (arith, few))

-- a file has no more bytes than the ring
samples-few : (bits : Bits) (ring : List ℕ) (count : ℕ) → length ring ≡ container_bytes bits * count → length (file_samples bits ring) ≤ length ring
samples-few B16 ring count long = let samples = samples-length B16 ring count long in omega (arith, samples, long)
samples-few B24 ring count long = let samples = samples-length B24 ring count long in omega (arith, samples, long)
samples-few B32 ring count long = let samples = samples-length B32 ring count long in omega (arith, samples, long)

pub blocks_back : AreBlocksReadBack
unfolding ReadsBack meaning_with block_file
blocks_back format ring can none =
    let blocks = length ring / block_bytes format in
    let all = whole-all (length ring) (block_bytes format) can.whole in
    let long : length ring ≡ container_bytes format.bits * (format.channels * blocks) = omega (arith, all) in
    let few = samples-few format.bits ring (format.channels * blocks) long in
    let few' = can.few in
    reads_back format.rate format.bits format.channels format.even format.some format.few ring blocks long (omega (arith, few, few')) none
