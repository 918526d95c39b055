-- The samples of blocks that are one pair, as bytes, are the bytes of these blocks.
use Rattle.std.proofs.Common.{◌≡◌, ◌<◌, ◌≤◌, ◌+◌, ◌*◌, ◌/◌, ◌%◌, ℕ, ℤ, zero, suc, List, [], ◌∷◌, ◌++◌, length, take, drop, get_or, inl, inr, refl, sym, ap, ◌∙◌, arith}
use Rattle.std.specs.Prelude.{pos, negsuc}
use Rattle.std.specs.List.{flat_map}
use Rattle.std.specs.Int.{cast_signed, cast_unsigned, w16, w32, bytes_low_first}
use Rattle.std.proofs.Math.Nat.{suc-mul}
use Rattle.std.proofs.Math.Seq.{take-add}
use Rattle.std.proofs.lemmas.Bool.{cases_lt}
use Rattle.std.proofs.lemmas.Int.{of_z-to_z}
use Rattle.std.proofs.lemmas.Nat.{le_bytes_4}
use Rattle.std.proofs.lemmas.List.{append-nil, length-drop, length-take-le, take_all, take-append-drop, drop-drop}
use Rattle.std.proofs.lemmas.Grind.{flat_map-append}
use Rattle.byteorder.specs.Endian.{little_number}
use Rattle.stream_format.specs.declared.format.Bits.{Bits}
use Rattle.stream_format.specs.declared.format.Bits.TheVariants.{B16, B24, B32}
use Rattle.stream_format.specs.declared.format.Format.{Format}
use Rattle.stream_format.specs.Cadence.{block_bytes, container_bytes}
use Rattle.stream_format.specs.Layouts.{layout}
use Rattle.stream_format.specs.Samples.{container_number}
use Rattle.heard_frames.specs.declared.heard.Heard.{Heard}
use Rattle.codec_sound.specs.declared.signals.Signal.TheVariants.{Pair}
use Rattle.heard_frames.specs.HeardLists.{block_at, item_of}
use Rattle.heard_lists.specs.Listings.{items_before}
use Rattle.heard_lists.specs.Stretches.{sample_bytes, sound_bytes}
use Rattle.heard_lists.proofs.Growing.{before-more}

-- ---- bytes

abbrev pub AreSmall : List ℕ → Type 0
AreSmall bytes = (i : ℕ) → get_or bytes i 0 < 256

small-drop : (count : ℕ) (bytes : List ℕ) → AreSmall bytes → AreSmall (drop count bytes)
small-drop zero bytes small = small
small-drop (suc count) [] small = small
small-drop (suc count) (byte ∷ bytes) small = small-drop count bytes (λ i. small (suc i))

small_more : (byte : ℕ) (bytes : List ℕ) → byte < 256 → AreSmall bytes → AreSmall (byte ∷ bytes)
small_more byte bytes here later zero = here
small_more byte bytes here later (suc i) = later i

small-take : (count : ℕ) (bytes : List ℕ) → AreSmall bytes → AreSmall (take count bytes)
small-take zero bytes small = λ i. omega arith
small-take (suc count) [] small = small
small-take (suc count) (byte ∷ bytes) small = small_more byte (take count bytes) (small 0) (small-take count bytes (λ k. small (suc k)))

small_four : (a b c d : ℕ) → a < 256 → b < 256 → c < 256 → d < 256 → AreSmall (a ∷ b ∷ c ∷ d ∷ [])
small_four a b c d sa sb sc sd zero = sa
small_four a b c d sa sb sc sd (suc zero) = sb
small_four a b c d sa sb sc sd (suc (suc zero)) = sc
small_four a b c d sa sb sc sd (suc (suc (suc zero))) = sd
small_four a b c d sa sb sc sd (suc (suc (suc (suc i)))) = omega arith

-- ---- a sample

word : (z : ℤ) (n : ℕ) → cast_unsigned w16 z ≡ n → 0 < n → n < 65536 → cast_unsigned w32 z % 65536 ≡ n
word (pos k) n is some small = omega (arith, is, small)
word (negsuc k) n is some small = omega (arith, is, some, small)

-- a number of 16 bits that is widened keeps them
word_16 : (n : ℕ) → n < 65536 → cast_unsigned w32 (cast_signed w16 n) % 65536 ≡ n
word_16 n small = elim (cases_lt 0 n) as (λ _. cast_unsigned w32 (cast_signed w16 n) % 65536 ≡ n) [
  | inl some ↦ word (cast_signed w16 n) n (of_z-to_z w16 n small) some small
  | inr none ↦ let zero_is : n ≡ 0 = omega (arith, none) in rw zero_is refl
]

two : (a b : ℕ) (more : List ℕ) → AreSmall (a ∷ b ∷ more) → sample_bytes B16 (container_number B16 (a ∷ b ∷ more)) ≡ a ∷ b ∷ []
two a b more small =
    let sa : a < 256 = small 0 in
    let sb : b < 256 = small 1 in
    let n : ℕ = little_number 2 (a ∷ b ∷ more) in
    let m : ℕ = cast_unsigned w32 (cast_signed w16 n) in
    let is : n ≡ a + 256 * (b + 256 * 0) = refl in
    let low : m % 65536 ≡ n = word_16 n (omega (arith, is, sa, sb)) in
    let first : m % 256 ≡ a = omega (arith, is, low, sa, sb) in
    let second : m / 256 % 256 ≡ b = omega (arith, is, low, sa, sb) in
    λ i. first i ∷ second i ∷ []

four : (a b c d : ℕ) (more : List ℕ) → AreSmall (a ∷ b ∷ c ∷ d ∷ more)
    → bytes_low_first 0 4 (cast_unsigned w32 (cast_signed w32 (little_number 4 (a ∷ b ∷ c ∷ d ∷ more)))) ≡ a ∷ b ∷ c ∷ d ∷ []
four a b c d more small =
    let sa : a < 256 = small 0 in
    let sb : b < 256 = small 1 in
    let sc : c < 256 = small 2 in
    let sd : d < 256 = small 3 in
    let n : ℕ = little_number 4 (a ∷ b ∷ c ∷ d ∷ more) in
    let is : n ≡ a + 256 * (b + 256 * (c + 256 * (d + 256 * 0))) = refl in
    ap (bytes_low_first 0 4) (of_z-to_z w32 n (omega (arith, is, sa, sb, sc, sd)))
    ∙ le_bytes_4 (a ∷ b ∷ c ∷ d ∷ []) n refl (small_four a b c d sa sb sc sd) (omega (arith, is))

wide : (bytes : List ℕ) → AreSmall bytes → 4 ≤ length bytes → bytes_low_first 0 4 (cast_unsigned w32 (cast_signed w32 (little_number 4 bytes))) ≡ take 4 bytes
wide [] small long = absurd (omega (arith, long))
wide (a ∷ []) small long = absurd (omega (arith, long))
wide (a ∷ b ∷ []) small long = absurd (omega (arith, long))
wide (a ∷ b ∷ c ∷ []) small long = absurd (omega (arith, long))
wide (a ∷ b ∷ c ∷ d ∷ more) small long = four a b c d more small

sample_raw : (bits : Bits) (bytes : List ℕ) → AreSmall bytes → container_bytes bits ≤ length bytes
    → sample_bytes bits (container_number bits bytes) ≡ take (container_bytes bits) bytes
sample_raw B16 [] small long = absurd (omega (arith, long))
sample_raw B16 (a ∷ []) small long = absurd (omega (arith, long))
sample_raw B16 (a ∷ b ∷ more) small long = two a b more small
sample_raw B24 bytes small long = wide bytes small long
sample_raw B32 bytes small long = wide bytes small long

-- ---- blocks

module _ (bits : Bits) (block : List ℕ) (small : AreSmall block) where
  both_raw : (size : ℕ) → size ≡ container_bytes bits → length block ≡ 2 * size
      → sample_bytes bits (container_number bits block) ++ sample_bytes bits (container_number bits (drop size block)) ≡ block
  both_raw size is long =
      let rest = length-drop size block in
      let left : sample_bytes bits (container_number bits block) ≡ take size block =
      sample_raw bits block small (omega (arith, is, long)) ∙ ap (λ (n : ℕ). take n block) (sym is) in
      let right : sample_bytes bits (container_number bits (drop size block)) ≡ drop size block =
      sample_raw bits (drop size block) (small-drop size block small) (omega (arith, is, long, rest))
      ∙ take_all (container_bytes bits) (drop size block) (omega (arith, is, long, rest)) in
      ap (λ (front : List ℕ). front ++ sample_bytes bits (container_number bits (drop size block))) left
      ∙ (ap (λ (back : List ℕ). take size block ++ back) right ∙ take-append-drop size block)

block_raw : (bits : Bits) (block : List ℕ) → AreSmall block → length block ≡ 2 * container_bytes bits
    → sample_bytes bits (container_number bits (drop (2 * 0 * container_bytes bits) block)) ++ sample_bytes bits (container_number bits (drop ((2 * 0 + 1) * container_bytes bits) block)) ≡ block
block_raw B16 block small long = both_raw B16 block small 2 refl long
block_raw B24 block small long = both_raw B24 block small 4 refl long
block_raw B32 block small long = both_raw B32 block small 4 refl long

-- a sample and the next, from a place on
next_raw : (bits : Bits) (size first : ℕ) (block : List ℕ) → size ≡ container_bytes bits → AreSmall block → first + 2 * size ≤ length block
    → sample_bytes bits (container_number bits (drop first block)) ++ sample_bytes bits (container_number bits (drop (first + size) block)) ≡ take (2 * size) (drop first block)
next_raw bits size first block is small long =
    let rest = length-drop first block in
    let later = length-drop (first + size) block in
    let left : sample_bytes bits (container_number bits (drop first block)) ≡ take size (drop first block) =
    sample_raw bits (drop first block) (small-drop first block small) (omega (arith, is, long, rest)) ∙ ap (λ (n : ℕ). take n (drop first block)) (sym is) in
    let right : sample_bytes bits (container_number bits (drop (first + size) block)) ≡ take size (drop size (drop first block)) =
    sample_raw bits (drop (first + size) block) (small-drop (first + size) block small) (omega (arith, is, long, later))
    ∙ (ap (λ (n : ℕ). take n (drop (first + size) block)) (sym is) ∙ ap (take size) (sym (drop-drop size first block))) in
    let both : 2 * size ≡ size + size = omega arith in
    ap (λ (front : List ℕ). front ++ sample_bytes bits (container_number bits (drop (first + size) block))) left
    ∙ (ap (λ (back : List ℕ). take size (drop first block) ++ back) right
    ∙ (sym (take-add size size (drop first block)) ∙ ap (λ (n : ℕ). take n (drop first block)) (sym both)))

-- those of a pair of channels
channels_raw : (bits : Bits) (pair : ℕ) (block : List ℕ) → AreSmall block → 2 * pair * container_bytes bits + 2 * container_bytes bits ≤ length block
    → sample_bytes bits (container_number bits (drop (2 * pair * container_bytes bits) block)) ++ sample_bytes bits (container_number bits (drop ((2 * pair + 1) * container_bytes bits) block))
    ≡ take (2 * container_bytes bits) (drop (2 * pair * container_bytes bits) block)
channels_raw B16 pair block small long =
    let next : (2 * pair + 1) * 2 ≡ 2 * pair * 2 + 2 = omega arith in
    ap (λ (n : ℕ). sample_bytes B16 (container_number B16 (drop (2 * pair * 2) block)) ++ sample_bytes B16 (container_number B16 (drop n block))) next
    ∙ next_raw B16 2 (2 * pair * 2) block refl small long
channels_raw B24 pair block small long =
    let next : (2 * pair + 1) * 4 ≡ 2 * pair * 4 + 4 = omega arith in
    ap (λ (n : ℕ). sample_bytes B24 (container_number B24 (drop (2 * pair * 4) block)) ++ sample_bytes B24 (container_number B24 (drop n block))) next
    ∙ next_raw B24 4 (2 * pair * 4) block refl small long
channels_raw B32 pair block small long =
    let next : (2 * pair + 1) * 4 ≡ 2 * pair * 4 + 4 = omega arith in
    ap (λ (n : ℕ). sample_bytes B32 (container_number B32 (drop (2 * pair * 4) block)) ++ sample_bytes B32 (container_number B32 (drop n block))) next
    ∙ next_raw B32 4 (2 * pair * 4) block refl small long

-- what a pin hears of a block by a pair of channels, as bytes
pub pair_raw : (format : Format) (pair : ℕ) (block : List ℕ) → AreSmall block → 2 * pair * container_bytes format.bits + 2 * container_bytes format.bits ≤ length block
    → sound_bytes format.bits (item_of (layout format) (Pair pair) block) ≡ take (2 * container_bytes format.bits) (drop (2 * pair * container_bytes format.bits) block)
pair_raw format pair block small long = channels_raw format.bits pair block small long

-- a block of a list of small bytes has small bytes
pub small_block : (size place : ℕ) (bytes : List ℕ) → AreSmall bytes → AreSmall (block_at size bytes place)
small_block size place bytes small = small-take size (drop (place * size) bytes) (small-drop (place * size) bytes small)

pub whole_raw : (format : Format) → format.channels ≡ 2 → (bytes : List ℕ) → AreSmall bytes → (count : ℕ) → count * block_bytes format ≤ length bytes
    → flat_map (sound_bytes format.bits) (items_before (layout format) (Pair 0) bytes count) ≡ take (count * block_bytes format) bytes
whole_raw format two bytes small zero fits =
    let none : 0 * block_bytes format ≡ 0 = omega arith in sym (ap (λ (n : ℕ). take n bytes) none)
whole_raw format two bytes small (suc count) fits =
    let size : ℕ = block_bytes format in
    let sounds : Heard → List ℕ = sound_bytes format.bits in
    let on : suc count ≡ count + 1 = omega arith in
    let times : suc count * size ≡ count * size + size = suc-mul count size in
    let block : List ℕ = block_at size bytes count in
    let item : Heard = item_of (layout format) (Pair 0) block in
    let rest = length-drop (count * size) bytes in
    let long : length block ≡ size = length-take-le size (drop (count * size) bytes) (omega (arith, rest, times, fits)) in
    let one : sounds item ≡ block =
    block_raw format.bits block (small-take size (drop (count * size) bytes) (small-drop (count * size) bytes small))
    (long ∙ ap (λ (channels : ℕ). channels * container_bytes format.bits) two) in
    ap (λ (n : ℕ). flat_map sounds (items_before (layout format) (Pair 0) bytes n)) on
    ∙ (ap (flat_map sounds) (before-more (layout format) (Pair 0) bytes count)
    ∙ (flat_map-append sounds (items_before (layout format) (Pair 0) bytes count) (item ∷ [])
    ∙ (ap (λ (front : List ℕ). front ++ flat_map sounds (item ∷ [])) (whole_raw format two bytes small count (omega (arith, times, fits)))
    ∙ (ap (λ (last : List ℕ). take (count * size) bytes ++ last) (append-nil (sounds item) ∙ one)
    ∙ (sym (take-add (count * size) size bytes) ∙ ap (λ (n : ℕ). take n bytes) (sym times))))))
