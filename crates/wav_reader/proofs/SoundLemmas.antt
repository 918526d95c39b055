-- Frames that are written as a WAV file are read as these.
use Rattle.std.proofs.Common.{◌≡◌, ◌≢◌, ◌≤◌, ◌<◌, ℕ, zero, suc, ◌+◌, ◌*◌, ◌/◌, ◌%◌, ◌==◌, Bool, true, false, List, [], ◌∷◌, ◌++◌, length, take, drop, replicate, All, Option, Some, Result, Ok, refl, sym, ap, ◌∙◌, append_assoc, eq-eqb, arith}
use Rattle.std.specs.Option.{ok_or}
use Rattle.std.specs.List.{flat_map}
use Rattle.std.proofs.lemmas.List.{take_at, take_all}
use Rattle.std.proofs.lemmas.Nat.{mul-le}
use Rattle.byteorder.specs.Endian.{little_bytes}
use Rattle.byteorder.specs.Numbers.{little_number-reads_back}
use Rattle.stream_format.specs.declared.format.Rate.{Rate}
use Rattle.stream_format.specs.declared.format.Rate.TheVariants.{R8, R16, R44, R48, R96, R192}
use Rattle.stream_format.specs.declared.format.Bits.{Bits}
use Rattle.stream_format.specs.declared.format.Bits.TheVariants.{B16, B24, B32}
use Rattle.wav_reader.specs.declared.fault.WavFault.{WavFault}
use Rattle.wav_reader.specs.declared.fault.WavFault.TheVariants.{Tag, Channels, Rate as OtherRate, Bits as OtherBits, BlockAlign}
use Rattle.wav_reader.specs.declared.chunks.Kind.TheVariants.{Data}
use Rattle.wav_reader.specs.declared.formats.ChannelCount.{ChannelCount}
use Rattle.wav_reader.specs.declared.formats.ChannelCount.TheVariants.{One, Two, Four, Six, Eight}
use Rattle.wav_reader.specs.declared.formats.Fields.{Fields}
use Rattle.wav_reader.specs.declared.formats.Sound.{Sound}
use Rattle.wav_reader.specs.Chunks.{is_cut}
use Rattle.stream_format.specs.Cadence.{hertz}
use Rattle.wav_reader.specs.Formats.{◌>>=◌, checked, rate_with, channels_in, channels_with, sample_length, bits_with, fields_of, is_pcm, sound_with, sound_of}
use Rattle.wav_reader.specs.Heads.{Head, is_mono, ring_channels, ring_format, frame_length, sound_at, head_by, head_of}
use Rattle.wav_reader.specs.Laws.{meant_by, IsHeardBack}
use Rattle.wav_reader.specs.Readers.{are_turned}
use Rattle.wav_reader.specs.Wavs.{Meaning, meaning_by, pieces_of, ring_block, ring_bytes, wav_of}
use Rattle.wav_reader.specs.Written.{Part, IsPart, placed, file_frame_bytes, format_front, extension, plain_format, extensible_format, sound_parts, sound_file}
use Rattle.wav_reader.proofs.CountLemmas.{whole-less, whole-all}
use Rattle.wav_reader.proofs.FrontLemmas.{fields_made, fields_same, fields_so, is_pcm_part, sound_by_fields}
use Rattle.wav_reader.proofs.HeadLemmas.{head_of-riff}
use Rattle.wav_reader.proofs.PieceLemmas.{pieces-front}
use Rattle.wav_reader.proofs.RingLemmas.{blocks-slots, slots-same}
use Rattle.wav_reader.proofs.WrittenLemmas.{read_back}

both : (one other : Part) → IsPart one → IsPart other → All IsPart (one ∷ other ∷ [])
both one other p q zero d inside = p
both one other p q (suc zero) d inside = q
both one other p q (suc (suc k)) d inside = absurd (omega arith)

-- ---- the chunk `fmt `

channels_small : (channels : ChannelCount) → channels_in channels ≤ 8
channels_small One = omega arith
channels_small Two = omega arith
channels_small Four = omega arith
channels_small Six = omega arith
channels_small Eight = omega arith

hertz_small : (rate : Rate) → hertz rate < 4294967296
hertz_small R8 = omega arith
hertz_small R16 = omega arith
hertz_small R44 = omega arith
hertz_small R48 = omega arith
hertz_small R96 = omega arith
hertz_small R192 = omega arith

sample_small : (bits : Bits) → sample_length bits ≤ 4
sample_small B16 = omega arith
sample_small B24 = omega arith
sample_small B32 = omega arith

frame_small : (sound : Sound) → file_frame_bytes sound ≤ 32
frame_small sound = mul-le (channels_in sound.channels) (sample_length sound.bits) 8 4 (channels_small sound.channels) (sample_small sound.bits)

-- its fields are what was written
fields_written : (tag : ℕ) (sound : Sound) (more : List ℕ) → tag < 65536
    → fields_of (format_front tag sound ++ more)
    ≡ fields_made tag (channels_in sound.channels) (hertz sound.rate) (file_frame_bytes sound) (8 * sample_length sound.bits) (is_pcm_part (take 16 (drop 24 (format_front tag sound ++ more))))
fields_written tag sound more small =
    let channels = channels_small sound.channels in
    let frame = frame_small sound in
    let sample = sample_small sound.bits in
    fields_so (format_front tag sound ++ more)
    ∙ fields_same _ tag _ (channels_in sound.channels) _ (hertz sound.rate) _ (file_frame_bytes sound) _ (8 * sample_length sound.bits) (is_pcm_part (take 16 (drop 24 (format_front tag sound ++ more)))) _
    (little_number-reads_back 2 tag (drop 2 (format_front tag sound ++ more)) small)
    (little_number-reads_back 2 (channels_in sound.channels) (drop 4 (format_front tag sound ++ more)) (omega (arith, channels)))
    (little_number-reads_back 4 (hertz sound.rate) (drop 8 (format_front tag sound ++ more)) (hertz_small sound.rate))
    (little_number-reads_back 2 (file_frame_bytes sound) (drop 14 (format_front tag sound ++ more)) (omega (arith, frame)))
    (little_number-reads_back 2 (8 * sample_length sound.bits) more (omega (arith, sample)))
    refl

-- the checks in their order
chain : Bool → Option ChannelCount → Option Rate → Option Bits → (tag channels hertz bits block : ℕ) → Result Sound WavFault
chain pcm channels rate bits tag channels' hertz bits' block = do
  _ ← checked pcm (Tag tag)
  channels ← ok_or channels (Channels channels')
  rate ← ok_or rate (OtherRate hertz)
  bits ← ok_or bits (OtherBits bits')
  _ ← checked (block == channels_in channels * sample_length bits) BlockAlign
  Ok (record { rate = rate; bits = bits; channels = channels })

sound_with-chain : (fields : Fields)
    → sound_with fields ≡ chain (is_pcm fields) (channels_with fields.channels) (rate_with fields.hertz) (bits_with fields.bits) fields.tag fields.channels fields.hertz fields.bits fields.block
unfolding chain
sound_with-chain fields = refl

same_test : (n : ℕ) → (n == n) ≡ true
same_test n = eq-eqb n n refl

chain-good : (sound : Sound) (tag channels hertz bits : ℕ) → chain true (Some sound.channels) (Some sound.rate) (Some sound.bits) tag channels hertz bits (file_frame_bytes sound) ≡ Ok sound
unfolding chain
chain-good sound tag channels hertz bits = ap (λ (test : Bool). checked test BlockAlign >>= (λ _. Ok sound)) (same_test (file_frame_bytes sound))

channels_back : (channels : ChannelCount) → channels_with (channels_in channels) ≡ Some channels
channels_back One = refl
channels_back Two = refl
channels_back Four = refl
channels_back Six = refl
channels_back Eight = refl

rate_back : (rate : Rate) → rate_with (hertz rate) ≡ Some rate
rate_back R8 = refl
rate_back R16 = refl
rate_back R44 = refl
rate_back R48 = refl
rate_back R96 = refl
rate_back R192 = refl

bits_back : (bits : Bits) → bits_with (8 * sample_length bits) ≡ Some bits
bits_back B16 = refl
bits_back B24 = refl
bits_back B32 = refl

sound_made : (tag : ℕ) (sound : Sound) (pcm : Bool) → Fields
sound_made tag sound pcm = record { tag = tag; channels = channels_in sound.channels; hertz = hertz sound.rate; block = file_frame_bytes sound; bits = 8 * sample_length sound.bits; has_pcm_subformat = pcm }

sound_back : (tag : ℕ) (sound : Sound) (pcm : Bool) → is_pcm (sound_made tag sound pcm) ≡ true → sound_with (sound_made tag sound pcm) ≡ Ok sound
unfolding sound_made
sound_back tag sound pcm is =
    let channels = channels_in sound.channels in
    let bits = 8 * sample_length sound.bits in
    let frames = file_frame_bytes sound in
    let second = channels_with (channels_in sound.channels) in
    let rate = rate_with (hertz sound.rate) in
    let size = bits_with (8 * sample_length sound.bits) in
    sound_with-chain (sound_made tag sound pcm)
    ∙ ap (λ (test : Bool). chain test second rate size tag channels (hertz sound.rate) bits frames) is
    ∙ ap (λ (found : Option ChannelCount). chain true found rate size tag channels (hertz sound.rate) bits frames) (channels_back sound.channels)
    ∙ ap (λ (found : Option Rate). chain true (Some sound.channels) found size tag channels (hertz sound.rate) bits frames) (rate_back sound.rate)
    ∙ ap (λ (found : Option Bits). chain true (Some sound.channels) (Some sound.rate) found tag channels (hertz sound.rate) bits frames) (bits_back sound.bits)
    ∙ chain-good sound tag channels (hertz sound.rate) bits

append-none : (xs : List ℕ) → xs ++ [] ≡ xs
append-none [] = refl
append-none (x ∷ xs) = ap (λ rest. x ∷ rest) (append-none xs)

plain_back : (sound : Sound) → sound_of (plain_format sound) ≡ Ok sound
unfolding fields_made is_pcm_part sound_made
plain_back sound =
    sound_by_fields (plain_format sound) (sound_made 1 sound (is_pcm_part (take 16 (drop 24 (plain_format sound)))))
    (ap fields_of (sym (append-none (plain_format sound))) ∙ fields_written 1 sound [] (omega arith))
    refl
    ∙ sound_back 1 sound (is_pcm_part (take 16 (drop 24 (plain_format sound)))) refl

extensible_back : (valid mask : ℕ) (sound : Sound) → sound_of (extensible_format valid mask sound) ≡ Ok sound
unfolding fields_made is_pcm_part sound_made
extensible_back valid mask sound =
    sound_by_fields (extensible_format valid mask sound) (sound_made 0xFFFE sound true)
    (fields_written 0xFFFE sound (extension valid mask) (omega arith))
    refl
    ∙ sound_back 0xFFFE sound true refl

-- ---- the file

frame_same : (channels : ChannelCount) (rate : Rate) (bits : Bits)
    → frame_length (is_mono channels) (record { rate = rate; bits = bits; channels = ring_channels channels }) ≡ channels_in channels * sample_length bits
frame_same One rate bits = refl
frame_same Two rate bits = refl
frame_same Four rate bits = refl
frame_same Six rate bits = refl
frame_same Eight rate bits = refl

frame_is : (sound : Sound) → frame_length (is_mono sound.channels) (ring_format sound) ≡ file_frame_bytes sound
frame_is sound = frame_same sound.channels sound.rate sound.bits

-- what stands before the sound
abbrev sound_head : Sound → (at len : ℕ) → Head
sound_head sound at len = record {
  format = ring_format sound;
  mono = is_mono sound.channels;
  from = at;
  frames = len / frame_length (is_mono sound.channels) (ring_format sound);
}

-- the chunks say it
plain_parts : (sound : Sound) (frames : List ℕ) (cut : Bool)
    → head_by (sound_file (plain_format sound) frames) cut (placed 12 (sound_parts (plain_format sound) frames)) ≡ Ok (sound_head sound 44 (length frames))
plain_parts sound frames cut =
    ap (λ (read : Result Sound WavFault). (read >>= (λ sound. Ok (Some sound))) >>= (λ found. sound_at (sound_file (plain_format sound) frames) cut found
    (Some (record { kind = Data; from = 44; len = length frames }))))
    (plain_back sound)

extensible_parts : (valid mask : ℕ) (sound : Sound) (frames : List ℕ) (cut : Bool)
    → head_by (sound_file (extensible_format valid mask sound) frames) cut (placed 12 (sound_parts (extensible_format valid mask sound) frames)) ≡ Ok (sound_head sound 68 (length frames))
extensible_parts valid mask sound frames cut =
    ap (λ (read : Result Sound WavFault). (read >>= (λ sound. Ok (Some sound))) >>= (λ found. sound_at (sound_file (extensible_format valid mask sound) frames) cut found
    (Some (record { kind = Data; from = 68; len = length frames }))))
    (extensible_back valid mask sound)

head_of-file : (format frames : List ℕ) (head : Head) → length format < 0xFFFF_FFFF → length frames < 0xFFFF_FFFF
    → ((cut : Bool) → head_by (sound_file format frames) cut (placed 12 (sound_parts format frames)) ≡ Ok head)
    → head_of (sound_file format frames) ≡ Ok head
head_of-file format frames head short small says =
    let file = sound_file format frames in
    let read = read_back (little_bytes 4 (20 + length format + length frames)) (sound_parts format frames) refl
    (both _ _ (record { name = refl; size = short }) (record { name = refl; size = small })) in
    head_of-riff file read.riff ∙ (ap (head_by file (is_cut file)) read.chunks ∙ says (is_cut file))

-- the frames are the sound
ring_bytes-sound : (file frames more : List ℕ) (sound : Sound) (at : ℕ) → drop at file ≡ frames ++ more
    → ring_bytes file (sound_head sound at (length frames)) ≡ (meant_by sound frames).pcm
unfolding ring_bytes
ring_bytes-sound file frames more sound at behind =
    let size = file_frame_bytes sound in
    let block = ring_block (is_mono sound.channels) sound.bits in
    let count = length frames / file_frame_bytes sound in
    let inside = whole-less (length frames) (file_frame_bytes sound) in
    let turned : file_frame_bytes sound * (length frames / file_frame_bytes sound) ≡ length frames / file_frame_bytes sound * file_frame_bytes sound = omega arith in
    ap (λ (n : ℕ). flat_map (ring_block (is_mono sound.channels) sound.bits) (pieces_of n (drop at file) (length frames / n))) (frame_is sound)
    ∙ ap (λ (bytes : List ℕ). flat_map block (pieces_of size bytes count)) behind
    ∙ sym (pieces-front block size (frames ++ more) (length frames) count (omega (arith, inside, turned)))
    ∙ ap (λ (bytes : List ℕ). flat_map block (pieces_of size bytes count)) (take_at frames more (length frames) refl)

with_frames : Sound → List ℕ → ℕ → Meaning
with_frames sound pcm count = record { format = ring_format sound; mono = is_mono sound.channels; frames = count; pcm = pcm }

wav_of-file : (file frames more : List ℕ) (sound : Sound) (at : ℕ) → head_of file ≡ Ok (sound_head sound at (length frames)) → drop at file ≡ frames ++ more
    → wav_of file ≡ Ok (meant_by sound frames)
unfolding with_frames
wav_of-file file frames more sound at says behind =
    ap (λ (head : Result Head WavFault). head >>= (λ head. Ok (meaning_by file head))) says
    ∙ ap (λ (pcm : List ℕ). Ok (with_frames sound pcm (length frames / frame_length (is_mono sound.channels) (ring_format sound)))) (ring_bytes-sound file frames more sound at behind)
    ∙ ap (λ (n : ℕ). Ok (with_frames sound (meant_by sound frames).pcm (length frames / n))) (frame_is sound)

-- frames that stay as they are
one_channel : (channels : ChannelCount) → is_mono channels ≡ true → channels_in channels ≡ 1
one_channel One is = refl
one_channel Two is = absurd (cc)
one_channel Four is = absurd (cc)
one_channel Six is = absurd (cc)
one_channel Eight is = absurd (cc)

not_turned : (mono : Bool) (bits : Bits) → mono ≡ false → bits ≢ B24 → are_turned mono bits ≡ false
not_turned mono B16 many other = many
not_turned mono B24 many other = absurd (other refl)
not_turned mono B32 many other = many

pub stays : (sound : Sound) (frames : List ℕ) → is_mono sound.channels ≡ false → sound.bits ≢ B24 → length frames % file_frame_bytes sound ≡ 0 → (meant_by sound frames).pcm ≡ frames
stays sound frames many other whole =
    let count = length frames / file_frame_bytes sound in
    let size = sample_length sound.bits in
    let all = whole-all (length frames) (file_frame_bytes sound) whole in
    let turned : length frames / file_frame_bytes sound * (channels_in sound.channels * sample_length sound.bits)
    ≡ channels_in sound.channels * sample_length sound.bits * (length frames / file_frame_bytes sound) = omega arith in
    let turned' : sample_length sound.bits * (channels_in sound.channels * (length frames / file_frame_bytes sound))
    ≡ channels_in sound.channels * sample_length sound.bits * (length frames / file_frame_bytes sound) = omega arith in
    blocks-slots (is_mono sound.channels) sound.bits frames (channels_in sound.channels) count (one_channel sound.channels) (omega (arith, all, turned))
    ∙ slots-same (is_mono sound.channels) sound.bits frames (channels_in sound.channels * count) (not_turned (is_mono sound.channels) sound.bits many other)
    ∙ take_all (size * (channels_in sound.channels * count)) frames (omega (arith, all, turned, turned'))

pub heard_back : (sound : Sound) (frames : List ℕ) → length frames < 0xFFFF_FFFF → IsHeardBack sound frames
heard_back sound frames small =
    let pad : List ℕ = replicate (length frames % 2) 0 in
    record {
      plain = wav_of-file (sound_file (plain_format sound) frames) frames (pad ++ []) sound 44
          (head_of-file (plain_format sound) frames (sound_head sound 44 (length frames)) (omega arith) small (plain_parts sound frames))
          (append_assoc frames pad []);
      extensible = λ valid mask.
          wav_of-file (sound_file (extensible_format valid mask sound) frames) frames (pad ++ []) sound 68
          (head_of-file (extensible_format valid mask sound) frames (sound_head sound 68 (length frames)) (omega arith) small (extensible_parts valid mask sound frames))
          (append_assoc frames pad []);
      stays = stays sound frames;
    }
