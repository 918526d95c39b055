-- The bytes that the ring gets, sample by sample.
use Rattle.std.proofs.Common.{◌≡◌, ◌≤◌, ◌<◌, ℕ, zero, suc, ◌+◌, ◌-◌, ◌*◌, ◌/◌, ◌%◌, Bool, true, false, if◌then◌else◌, List, [], ◌++◌, length, take, drop, refl, sym, ap, ◌∙◌, append_assoc, length-append, length-drop, arith}
use Rattle.std.specs.List.{flat_map}
use Rattle.std.proofs.lemmas.List.{take_at, take_all, length-take-le}
use Rattle.stream_format.specs.declared.format.Bits.{Bits}
use Rattle.stream_format.specs.declared.format.Bits.TheVariants.{B16, B24, B32}
use Rattle.wav_reader.specs.Formats.{sample_length}
use Rattle.wav_reader.specs.Heads.{Head, EndsWithin}
use Rattle.wav_reader.specs.Wavs.{container, piece_at, pieces_of, ring_block, ring_bytes}
use Rattle.wav_reader.specs.Readers.{are_turned, group_length, ring_part, slot, slot_length, slots}
use Rattle.wav_reader.proofs.PieceLemmas.{pieces-suc, pieces-add, pieces-front, pieces-length, pieces-same, piece-length}

-- ---- slots

-- a slot has so many bytes
pub slot-length : (mono : Bool) (bits : Bits) (sample : List ℕ) → length sample ≡ sample_length bits → length (slot mono bits sample) ≡ slot_length mono bits
slot-length true B16 sample long = let both = length-append sample sample in omega (arith, both, long)
slot-length true B24 sample long = let both = length-append (container B24 sample) (container B24 sample) in omega (arith, both, long)
slot-length true B32 sample long = let both = length-append sample sample in omega (arith, both, long)
slot-length false B16 sample long = long
slot-length false B24 sample long = omega (arith, long)
slot-length false B32 sample long = long

pub slots-none : (mono : Bool) (bits : Bits) (bytes : List ℕ) → slots mono bits bytes 0 ≡ []
unfolding slots
slots-none mono bits bytes = refl

-- some, and then the others
pub slots-add : (mono : Bool) (bits : Bits) (bytes : List ℕ) (first more : ℕ)
    → slots mono bits bytes (first + more) ≡ slots mono bits bytes first ++ slots mono bits (drop (sample_length bits * first) bytes) more
unfolding slots
slots-add mono bits bytes first more = pieces-add (slot mono bits) (sample_length bits) bytes first more

-- they stand in the first bytes
pub slots-front : (mono : Bool) (bits : Bits) (bytes : List ℕ) (long count : ℕ) → sample_length bits * count ≤ long → slots mono bits (take long bytes) count ≡ slots mono bits bytes count
unfolding slots
slots-front mono bits bytes long count inside = pieces-front (slot mono bits) (sample_length bits) bytes long count inside

pub slots-length : (mono : Bool) (bits : Bits) (bytes : List ℕ) (count : ℕ) → sample_length bits * count ≤ length bytes → length (slots mono bits bytes count) ≡ count * slot_length mono bits
unfolding slots
slots-length mono bits bytes count inside =
    pieces-length (slot mono bits) (sample_length bits) (slot_length mono bits) bytes count (λ (sample : List ℕ) (long : length sample ≡ sample_length bits). slot-length mono bits sample long) inside

-- samples that stand in the ring as in the file
pub slots-same : (mono : Bool) (bits : Bits) (bytes : List ℕ) (count : ℕ) → are_turned mono bits ≡ false → slots mono bits bytes count ≡ take (sample_length bits * count) bytes
unfolding slots
slots-same true B16 bytes count same = absurd (cc)
slots-same mono B24 bytes count same = absurd (cc)
slots-same true B32 bytes count same = absurd (cc)
slots-same false B16 bytes count same = pieces-same 2 bytes count
slots-same false B32 bytes count same = pieces-same 4 bytes count

-- whole samples
whole_samples : (bits : Bits) (bytes : ℕ) → bytes % sample_length bits ≡ 0 → sample_length bits * (bytes / sample_length bits) ≡ bytes
whole_samples B16 bytes whole = omega (arith, whole)
whole_samples B24 bytes whole = omega (arith, whole)
whole_samples B32 bytes whole = omega (arith, whole)

pub part-same : (mono : Bool) (bits : Bits) (bytes : List ℕ) → are_turned mono bits ≡ false → length bytes % sample_length bits ≡ 0 → ring_part mono bits bytes ≡ bytes
part-same mono bits bytes same whole =
    let all = whole_samples bits (length bytes) whole in
    slots-same mono bits bytes (length bytes / sample_length bits) same
    ∙ take_all (sample_length bits * (length bytes / sample_length bits)) bytes (omega (arith, all))

-- ---- groups

group_step : (mono : Bool) (bits : Bits) (len : ℕ) → group_length mono bits ≤ len
    → len / sample_length bits ≡ 16 / slot_length mono bits + (len - group_length mono bits) / sample_length bits
group_step true B16 len enough = omega (arith, enough)
group_step true B24 len enough = omega (arith, enough)
group_step true B32 len enough = omega (arith, enough)
group_step false B16 len enough = omega (arith, enough)
group_step false B24 len enough = omega (arith, enough)
group_step false B32 len enough = omega (arith, enough)

-- a group, and the samples behind it
pub part-group : (mono : Bool) (bits : Bits) (bytes : List ℕ) → group_length mono bits ≤ length bytes
    → ring_part mono bits bytes ≡ slots mono bits bytes (16 / slot_length mono bits) ++ ring_part mono bits (drop (group_length mono bits) bytes)
part-group mono bits bytes enough =
    let first = 16 / slot_length mono bits in
    let count = group_step mono bits (length bytes) enough in
    let rest : length (drop (group_length mono bits) bytes) ≡ length bytes - group_length mono bits = length-drop (group_length mono bits) bytes in
    let place : sample_length bits * (16 / slot_length mono bits) ≡ group_length mono bits = omega arith in
    ap (slots mono bits bytes) count ∙ slots-add mono bits bytes (16 / slot_length mono bits) ((length bytes - group_length mono bits) / sample_length bits)
    ∙ ap (λ (at : ℕ). slots mono bits bytes first ++ slots mono bits (drop at bytes) ((length bytes - group_length mono bits) / sample_length bits)) place
    ∙ ap (λ (len : ℕ). slots mono bits bytes first ++ slots mono bits (drop (group_length mono bits) bytes) (len / sample_length bits)) (sym rest)

-- some groups
groups_step : (mono : Bool) (bits : Bits) (count len : ℕ) → count * group_length mono bits ≤ len
    → len / sample_length bits ≡ count * (16 / slot_length mono bits) + (len - count * group_length mono bits) / sample_length bits
groups_step true B16 count len enough = omega (arith, enough)
groups_step true B24 count len enough = omega (arith, enough)
groups_step true B32 count len enough = omega (arith, enough)
groups_step false B16 count len enough = omega (arith, enough)
groups_step false B24 count len enough = omega (arith, enough)
groups_step false B32 count len enough = omega (arith, enough)

groups_place : (mono : Bool) (bits : Bits) (count : ℕ) → sample_length bits * (count * (16 / slot_length mono bits)) ≡ count * group_length mono bits
groups_place mono bits count = omega arith

pub part-groups : (mono : Bool) (bits : Bits) (bytes : List ℕ) (count : ℕ) → count * group_length mono bits ≤ length bytes
    → ring_part mono bits bytes ≡ slots mono bits bytes (count * (16 / slot_length mono bits)) ++ ring_part mono bits (drop (count * group_length mono bits) bytes)
part-groups mono bits bytes count enough =
    let first = count * (16 / slot_length mono bits) in
    let size = count * group_length mono bits in
    let number = groups_step mono bits count (length bytes) enough in
    let rest : length (drop (count * group_length mono bits) bytes) ≡ length bytes - count * group_length mono bits = length-drop (count * group_length mono bits) bytes in
    ap (slots mono bits bytes) number ∙ slots-add mono bits bytes first ((length bytes - size) / sample_length bits)
    ∙ ap (λ (at : ℕ). slots mono bits bytes first ++ slots mono bits (drop at bytes) ((length bytes - size) / sample_length bits)) (groups_place mono bits count)
    ∙ ap (λ (len : ℕ). slots mono bits bytes first ++ slots mono bits (drop size bytes) (len / sample_length bits)) (sym rest)

-- a group more
pub groups-next : (mono : Bool) (bits : Bits) (bytes : List ℕ) (count : ℕ)
    → slots mono bits bytes ((count + 1) * (16 / slot_length mono bits))
    ≡ slots mono bits bytes (count * (16 / slot_length mono bits)) ++ slots mono bits (drop (count * group_length mono bits) bytes) (16 / slot_length mono bits)
groups-next mono bits bytes count =
    let each = 16 / slot_length mono bits in
    let sum : (count + 1) * (16 / slot_length mono bits) ≡ count * (16 / slot_length mono bits) + 16 / slot_length mono bits = omega arith in
    ap (slots mono bits bytes) sum ∙ slots-add mono bits bytes (count * each) each
    ∙ ap (λ (at : ℕ). slots mono bits bytes (count * each) ++ slots mono bits (drop at bytes) each) (groups_place mono bits count)

few_step : (mono : Bool) (bits : Bits) (len : ℕ) → len < group_length mono bits
    → 16 / slot_length mono bits ≡ len / sample_length bits + (16 / slot_length mono bits - len / sample_length bits)
few_step true B16 len few = omega (arith, few)
few_step true B24 len few = omega (arith, few)
few_step true B32 len few = omega (arith, few)
few_step false B16 len few = omega (arith, few)
few_step false B24 len few = omega (arith, few)
few_step false B32 len few = omega (arith, few)

samples_inside : (bits : Bits) (len : ℕ) → sample_length bits * (len / sample_length bits) ≤ len
samples_inside B16 len = omega arith
samples_inside B24 len = omega arith
samples_inside B32 len = omega arith

-- fewer samples at the front of a group
pub part-few : (mono : Bool) (bits : Bits) (bytes more : List ℕ) → length bytes < group_length mono bits
    → take (length bytes / sample_length bits * slot_length mono bits) (slots mono bits (bytes ++ more) (16 / slot_length mono bits)) ≡ ring_part mono bits bytes
part-few mono bits bytes more few =
    let count = length bytes / sample_length bits in
    let others = 16 / slot_length mono bits - length bytes / sample_length bits in
    let inside = samples_inside bits (length bytes) in
    let both = length-append bytes more in
    let long = slots-length mono bits (bytes ++ more) (length bytes / sample_length bits) (omega (arith, inside, both)) in
    ap (λ (n : ℕ). take (count * slot_length mono bits) (slots mono bits (bytes ++ more) n)) (few_step mono bits (length bytes) few)
    ∙ ap (take (count * slot_length mono bits)) (slots-add mono bits (bytes ++ more) count others)
    ∙ take_at (slots mono bits (bytes ++ more) count) (slots mono bits (drop (sample_length bits * count) (bytes ++ more)) others) (count * slot_length mono bits) long
    ∙ sym (slots-front mono bits (bytes ++ more) (length bytes) count inside)
    ∙ ap (λ (front : List ℕ). slots mono bits front count) (take_at bytes more (length bytes) refl)

-- ---- frames

-- how many samples a frame of the file has
abbrev pub samples_in : Head → ℕ
samples_in head = if head.mono then 1 else head.format.channels

samples_count : (bits : Bits) (count : ℕ) → count * sample_length bits / sample_length bits ≡ count
samples_count B16 count = omega arith
samples_count B24 count = omega arith
samples_count B32 count = omega arith

-- a block of the ring is the slots of a frame
block-slots : (mono : Bool) (bits : Bits) (frame : List ℕ) (count : ℕ) → length frame ≡ count * sample_length bits → (mono ≡ true → count ≡ 1)
    → ring_block mono bits frame ≡ slots mono bits frame count
unfolding slots
block-slots false bits frame count long one =
    let all : length frame / sample_length bits ≡ count = ap (λ (n : ℕ). n / sample_length bits) long ∙ samples_count bits count in
    ap (λ (n : ℕ). flat_map (container bits) (pieces_of (sample_length bits) frame n)) all
block-slots true bits frame count long one =
    let sample = container bits (piece_at (sample_length bits) frame 0) in
    let single = one refl in
    let all : length frame / sample_length bits ≡ 1 = ap (λ (n : ℕ). n / sample_length bits) long ∙ samples_count bits count ∙ single in
    ap (λ (n : ℕ). flat_map (container bits) (pieces_of (sample_length bits) frame n ++ pieces_of (sample_length bits) frame n)) all
    ∙ sym (append_assoc sample sample [])
    ∙ ap (λ (n : ℕ). flat_map (slot true bits) (pieces_of (sample_length bits) frame n)) (sym single)

pub blocks-slots : (mono : Bool) (bits : Bits) (bytes : List ℕ) (each count : ℕ) → (mono ≡ true → each ≡ 1) → each * sample_length bits * count ≤ length bytes
    → flat_map (ring_block mono bits) (pieces_of (each * sample_length bits) bytes count) ≡ slots mono bits bytes (each * count)
blocks-slots mono bits bytes each zero one inside =
    let none : each * 0 ≡ 0 = omega arith in
    sym (ap (slots mono bits bytes) none ∙ slots-none mono bits bytes)
blocks-slots mono bits bytes each (suc count) one inside =
    let size = each * sample_length bits in
    let sum : each * sample_length bits * suc count ≡ each * sample_length bits * count + each * sample_length bits = omega arith in
    let last : each * sample_length bits * count + each * sample_length bits ≤ length bytes = omega (arith, sum, inside) in
    let place : each * sample_length bits * count ≡ sample_length bits * (each * count) = omega arith in
    let all : each * count + each ≡ each * suc count = omega arith in
    let long = piece-length (each * sample_length bits) bytes count last in
    let swap : sample_length bits * each ≡ each * sample_length bits = omega arith in
    pieces-suc (ring_block mono bits) size bytes count
    ∙ ap (λ (front : List ℕ). front ++ ring_block mono bits (piece_at size bytes count)) (blocks-slots mono bits bytes each count one (omega (arith, last)))
    ∙ ap (λ (block : List ℕ). slots mono bits bytes (each * count) ++ block)
    (block-slots mono bits (piece_at size bytes count) each long one
    ∙ slots-front mono bits (drop (size * count) bytes) size each (omega (arith, swap))
    ∙ ap (λ (at : ℕ). slots mono bits (drop at bytes) each) place)
    ∙ sym (slots-add mono bits bytes (each * count) each)
    ∙ ap (slots mono bits bytes) all

one_sample : (head : Head) → head.mono ≡ true → samples_in head ≡ 1
one_sample head mono = rw mono refl

-- the ring gets the slots of all samples
pub ring_bytes-slots : (bytes : List ℕ) (head : Head) → EndsWithin bytes head
    → ring_bytes bytes head ≡ slots head.mono head.format.bits (drop head.from bytes) (samples_in head * head.frames)
unfolding ring_bytes
ring_bytes-slots bytes head within =
    let rest = length-drop head.from bytes in
    let swap : samples_in head * sample_length head.format.bits * head.frames ≡ head.frames * (samples_in head * sample_length head.format.bits) = omega arith in
    blocks-slots head.mono head.format.bits (drop head.from bytes) (samples_in head) head.frames (λ (mono : head.mono ≡ true). one_sample head mono) (omega (arith, rest, within, swap))

-- so it gets the slots of the bytes that its frames have
pub ring_bytes-part : (bytes : List ℕ) (head : Head) (sound : List ℕ) (long : ℕ) → EndsWithin bytes head → long ≡ head.frames * (samples_in head * sample_length head.format.bits)
    → sound ≡ take long (drop head.from bytes) → ring_bytes bytes head ≡ ring_part head.mono head.format.bits sound
ring_bytes-part bytes head sound long within size is =
    let rest = length-drop head.from bytes in
    let bits = head.format.bits in
    let all : head.frames * (samples_in head * sample_length head.format.bits) ≡ samples_in head * head.frames * sample_length head.format.bits = omega arith in
    let inside : long ≤ length (drop head.from bytes) = omega (arith, rest, within, size) in
    let count : length sound / sample_length bits ≡ samples_in head * head.frames =
    ap (λ (n : ℕ). n / sample_length bits) (ap length is ∙ length-take-le long (drop head.from bytes) inside ∙ size ∙ all) ∙ samples_count bits (samples_in head * head.frames) in
    let fits : sample_length bits * (samples_in head * head.frames) ≤ long = (let swap : sample_length bits * (samples_in head * head.frames) ≡ samples_in head * head.frames * sample_length bits = omega arith in omega (arith, swap, size, all)) in
    ring_bytes-slots bytes head within
    ∙ sym (slots-front head.mono bits (drop head.from bytes) long (samples_in head * head.frames) fits)
    ∙ ap (λ (front : List ℕ). slots head.mono bits front (samples_in head * head.frames)) (sym is)
    ∙ ap (slots head.mono bits sound) (sym count)
