-- The samples of a file, one after another, and the bytes before them.
use Rattle.std.proofs.Common.{◌≡◌, ℕ, ◌+◌, ◌-◌, ◌*◌, ◌/◌, ◌%◌, List, ◌++◌, ◌≢◌, ◌⊎◌, inl, inr, Result, Ok, Err, length, take, drop, replicate, sym, ap, ◌∙◌, append-nil, arith}
use Rattle.std.specs.Prelude.{OnOk, if◌then◌else◌}
use Rattle.std.specs.Result.{is_ok}
use Rattle.std.proofs.Math.Nat.{div-add-mod}
use Rattle.std.proofs.lemmas.List.{drop-drop, drop-take}
use Rattle.stream_format.specs.declared.format.Bits.{Bits}
use Rattle.stream_format.specs.declared.format.Bits.TheVariants.{B16, B24, B32}
use Rattle.stream_format.specs.declared.format.Format.{Format}
use Rattle.stream_format.specs.Cadence.{container_bytes}
use Rattle.wav_reader.specs.Wavs.{piece_at}
use Rattle.wav_reader.specs.Written.{block_format, file_samples, sound_file}
use Rattle.wav_reader.proofs.Callers.{samples-length, samples-same}
use Rattle.wav_writer.specs.Heads.{block_head, samples_length}

-- the upper three bytes of a container
pub upper : (ring : List ℕ) (number : ℕ) → take (4 * number + 4 - (4 * number + 1)) (drop (4 * number + 1) ring) ≡ drop 1 (piece_at 4 ring number)
upper ring number =
    let three : 4 * number + 4 - (4 * number + 1) ≡ 3 = omega arith in
    ap (λ (n : ℕ). take n (drop (4 * number + 1) ring)) three
    ∙ ap (take 3) (sym (drop-drop 1 (4 * number) ring))
    ∙ sym (drop-take 1 3 (drop (4 * number) ring))

-- no byte is padded
pub file_is : (format : Format) (samples : List ℕ) → length samples % 2 ≡ 0 → block_head format (length samples) ++ samples ≡ sound_file (block_format format) samples
file_is format samples even =
    ap (λ (back : List ℕ). block_head format (length samples) ++ back)
    (sym (append-nil samples) ∙ ap (λ (pad : List ℕ). samples ++ pad) (sym (ap (λ (n : ℕ). replicate n 0) even))
    ∙ sym (append-nil (samples ++ replicate (length samples % 2) 0)))

-- whole containers
pub whole : (bits : Bits) (long : ℕ) → long % container_bytes bits ≡ 0 → long ≡ container_bytes bits * (long / container_bytes bits)
whole B16 long is = omega (arith, is)
whole B24 long is = omega (arith, is)
whole B32 long is = omega (arith, is)

not_24 : (bits : Bits) → (bits ≡ B16) ⊎ (bits ≡ B32) → bits ≢ B24
not_24 B16 which = λ same. cc
not_24 B24 (inl same) = λ other. cc
not_24 B24 (inr same) = λ other. cc
not_24 B32 which = λ same. cc

-- samples that stand in the file as in the ring
pub as_they_are : {T E : Type 0} (result : Result T E) (bits : Bits) (old new other ring : List ℕ) → (bits ≡ B16) ⊎ (bits ≡ B32) → length ring % container_bytes bits ≡ 0
    → new ≡ (if is_ok result then old ++ ring else other) → OnOk result (new ≡ old ++ file_samples bits ring)
as_they_are (Ok done) bits old new other ring which is put =
    put ∙ ap (λ (samples : List ℕ). old ++ samples) (sym (samples-same bits ring (length ring / container_bytes bits) (whole bits (length ring) is) (not_24 bits which)))
as_they_are (Err failed) bits old new other ring which is put = tt

-- how many bytes they have
pub samples_are : (bits : Bits) (ring : List ℕ) → length ring % container_bytes bits ≡ 0 → length (file_samples bits ring) ≡ samples_length bits (length ring)
samples_are bits ring is =
    samples-length bits ring (length ring / container_bytes bits) (whole bits (length ring) is) ∙ omega arith

-- whole blocks are whole containers, and an even number of them
parts : (size long : ℕ) → long % size ≡ 0 → size * (long / size) ≡ long
parts size long whole = let sum = div-add-mod long size in omega (arith, sum, whole)

pub containers : (bits : Bits) (channels long : ℕ) → long % (channels * container_bytes bits) ≡ 0 → long % container_bytes bits ≡ 0
containers B16 channels long whole =
    let all = parts (channels * 2) long whole in
    let turned : channels * 2 * (long / (channels * 2)) ≡ 2 * (channels * (long / (channels * 2))) = omega arith in
    omega (arith, all, turned)
containers B24 channels long whole =
    let all = parts (channels * 4) long whole in
    let turned : channels * 4 * (long / (channels * 4)) ≡ 4 * (channels * (long / (channels * 4))) = omega arith in
    omega (arith, all, turned)
containers B32 channels long whole =
    let all = parts (channels * 4) long whole in
    let turned : channels * 4 * (long / (channels * 4)) ≡ 4 * (channels * (long / (channels * 4))) = omega arith in
    omega (arith, all, turned)

-- an even number of bytes for an even number of channels
pub even : (bits : Bits) (channels long : ℕ) → channels % 2 ≡ 0 → long % (channels * container_bytes bits) ≡ 0 → samples_length bits long % 2 ≡ 0
even B16 channels long pairs whole = omega arith
even B24 channels long pairs whole =
    let all = parts (channels * 4) long whole in
    let half : channels ≡ 2 * (channels / 2) = omega (arith, pairs) in
    let turned : channels * 4 * (long / (channels * 4)) ≡ 4 * (channels * (long / (channels * 4))) = omega arith in
    let split : channels * (long / (channels * 4)) ≡ 2 * (channels / 2 * (long / (channels * 4))) =
    ap (λ (n : ℕ). n * (long / (channels * 4))) half ∙ omega arith in
    omega (arith, all, turned, split)
even B32 channels long pairs whole = omega arith
