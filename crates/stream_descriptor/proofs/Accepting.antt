-- Blocks of a sound come to a FIFO one after another, as far as it has room.
use Rattle.std.proofs.Common.{◌≡◌, ◌≢◌, ◌<◌, ◌≤◌, ◌+◌, ◌-◌, ◌%◌, ◌==◌, nat_le, ℕ, zero, suc, Bool, true, false, List, [], ◌∷◌, ◌++◌, length, replicate, Option, Some, None, refl, sym, ap, ap₂, ◌∙◌, arith, rules, tests, zero-add, length-append}
use Rattle.std.specs.List.{list_all}
use Rattle.std.proofs.lemmas.List.{length-replicate}
use Rattle.std.proofs.lemmas.List.FromFn.{length-map-range_with_len}
use Rattle.stream_format.specs.declared.format.Format.{Format}
use Rattle.stream_format.specs.Cadence.{blocks_of, most_blocks, bytes_of_block}
use Rattle.stream_format.specs.Layouts.{Layout}
use Rattle.stream_format.proofs.Callers.{bounded}
use Rattle.world_streams.specs.Input.{given_block, given_blocks, fits_block, entered_if, entered_after, marks_after}
use Rattle.world_streams.proofs.Callers.{given-size, given-sizes, none-fit, none-enter, blocks-cycle, few_blocks}
use Rattle.stream_descriptor.specs.declared.arrived.SoundBlocks.{SoundBlocks}
use Rattle.stream_descriptor.specs.declared.arrived.Arrived.{Arrived}
use Rattle.stream_descriptor.specs.Running.{frame_cycle}
use Rattle.stream_descriptor.specs.Taking.{due_in, marks_in}

-- one more mark in front of the rest
true_more : (n : ℕ) (marks : List Bool) → replicate n true ++ (true ∷ marks) ≡ replicate (n + 1) true ++ marks
true_more zero marks = refl
true_more (suc n) marks =
    let one : suc n + 1 ≡ suc (n + 1) = omega arith in
    ap (λ (rest : List Bool). true ∷ rest) (true_more n marks) ∙ sym (ap (λ (n : ℕ). replicate n true ++ marks) one)

-- so many blocks are that many
pub given-count : (size : ℕ) (sound : List ℕ) (from count : ℕ) → length (given_blocks size sound from count) ≡ count
given-count size sound from count = length-map-range_with_len (given_block size sound) from count

module _ (size : ℕ) (sound : List ℕ) (from count capacity : ℕ) where
  -- the blocks from a place among them on
  abbrev pub rest_of : ℕ → List (List ℕ)
  rest_of place = given_blocks size sound (from + place) (count - place)

  abbrev pub all_blocks : List (List ℕ)
  all_blocks = given_blocks size sound from count

  -- those before a place were all taken, so that the FIFO holds these bytes
  pub record Accepted (start bytes : List ℕ) (place : ℕ) : Type 0 where
    pub entered : entered_after capacity 0 start all_blocks ≡ entered_after capacity 0 bytes (rest_of place)
    pub marks : marks_after capacity 0 start all_blocks ≡ replicate place true ++ marks_after capacity 0 bytes (rest_of place)

  pub at_first : (start : List ℕ) → Accepted start start 0
  at_first start =
      let same : all_blocks ≡ rest_of 0 = (let first : from ≡ from + 0 = omega arith in let many : count ≡ count - 0 = omega arith in ap₂ (given_blocks size sound) first many) in
      record { entered = ap (entered_after capacity 0 start) same; marks = ap (marks_after capacity 0 start) same }

  -- the next one, and then the rest
  next_of : (place : ℕ) → place < count → rest_of place ≡ given_block size sound (from + place) ∷ rest_of (place + 1)
  next_of place before =
      let more : count - place ≡ suc (count - (place + 1)) = omega (arith, before) in
      let next : from + place + 1 ≡ from + (place + 1) = omega arith in
      ap (given_blocks size sound (from + place)) more
      ∙ ap (λ (n : ℕ). given_block size sound (from + place) ∷ given_blocks size sound n (count - (place + 1))) next

  fits_is : (bytes : List ℕ) (place : ℕ) (fits : Bool) → nat_le (length bytes + size) capacity ≡ fits → fits_block capacity 0 bytes (given_block size sound place) ≡ fits
  fits_is bytes place fits is = ap₂ (λ (long room : ℕ). nat_le (length bytes + long) room) (given-size size sound place) (zero-add capacity) ∙ is

  pub accept_more : (start bytes : List ℕ) (place : ℕ) → place < count → nat_le (length bytes + size) capacity ≡ true → Accepted start bytes place
      → Accepted start (bytes ++ given_block size sound (from + place)) (place + 1)
  accept_more start bytes place before fits here =
      let block = given_block size sound (from + place) in
      let is = fits_is bytes (from + place) true fits in
      let rest = rest_of (place + 1) in
      record {
        entered = here.entered ∙ ap (entered_after capacity 0 bytes) (next_of place before) ∙ ap (λ (fits : Bool). entered_after capacity 0 (entered_if fits bytes block) rest) is;
        marks = (
            here.marks
            ∙ ap (λ (blocks : List (List ℕ)). replicate place true ++ marks_after capacity 0 bytes blocks) (next_of place before)
            ∙ ap (λ (fits : Bool). replicate place true ++ (fits ∷ marks_after capacity 0 (entered_if fits bytes block) rest)) is
            ∙ true_more place (marks_after capacity 0 (bytes ++ block) rest));
      }

  -- where the next one has no room none is taken any more
  pub accept_last : (start bytes : List ℕ) (place : ℕ) → nat_le (length bytes + size) capacity ≡ false → Accepted start bytes place
      → (entered_after capacity 0 start all_blocks ≡ bytes) × (marks_after capacity 0 start all_blocks ≡ replicate place true ++ replicate (count - place) false)
  accept_last start bytes place full here =
      let sizes = given-sizes size sound (from + place) (count - place) in
      let none : nat_le (length bytes + size) (0 + capacity) ≡ false = ap (nat_le (length bytes + size)) (zero-add capacity) ∙ full in
      let many : length (rest_of place) ≡ count - place = given-count size sound (from + place) (count - place) in (
        here.entered ∙ none-enter capacity 0 size bytes (rest_of place) none sizes,
        here.marks ∙ ap (λ (marks : List Bool). replicate place true ++ marks) (none-fit capacity 0 size bytes (rest_of place) none sizes ∙ ap (λ (n : ℕ). replicate n false) many),
      )

  -- all were taken
  pub accept_all : (start bytes : List ℕ) (place : ℕ) → place ≡ count → Accepted start bytes place
      → (entered_after capacity 0 start all_blocks ≡ bytes) × (marks_after capacity 0 start all_blocks ≡ replicate count true ++ replicate 0 false)
  accept_all start bytes place last here =
      let none : count - place ≡ 0 = omega (arith, last) in
      let empty : rest_of place ≡ [] = ap (given_blocks size sound (from + place)) none in (
        here.entered ∙ ap (entered_after capacity 0 bytes) empty,
        here.marks ∙ ap (λ (blocks : List (List ℕ)). replicate place true ++ marks_after capacity 0 bytes blocks) empty ∙ ap (λ (n : ℕ). replicate n true ++ []) last,
      )

-- ---- whether all were taken

all_true : (n : ℕ) (marks : List Bool) → list_all (λ taken. taken) (replicate n true ++ marks) ≡ list_all (λ taken. taken) marks
all_true zero marks = refl
all_true (suc n) marks = all_true n marks

not_zero : (n : ℕ) → n ≢ 0 → (n == 0) ≡ false
not_zero n is = search (rules, tests)

none_false : (n : ℕ) → list_all (λ taken. taken) (replicate n false) ≡ (n == 0)
none_false zero = refl
none_false (suc n) = sym (not_zero (suc n) (omega arith))

-- they were where none was dropped
pub all-taken : (taken dropped : ℕ) → list_all (λ taken. taken) (replicate taken true ++ replicate dropped false) ≡ (dropped == 0)
all-taken taken dropped = all_true taken (replicate dropped false) ∙ none_false dropped

-- ---- what a frame may bring

-- each block has a mark
pub marks-count : (arrived : Arrived) → length (marks_in arrived) ≡ arrived.taken + arrived.dropped
marks-count arrived =
    length-append (replicate arrived.taken true) (replicate arrived.dropped false) ∙ ap₂ ◌+◌ (length-replicate arrived.taken true) (length-replicate arrived.dropped false)

-- what is due comes again after a cycle
pub due-cycle : (found : Option Layout) (from frame : ℕ) → due_in found from (frame % frame_cycle) ≡ due_in found from frame
due-cycle None from frame = refl
due-cycle (Some layout) from frame =
    let of : ℕ → SoundBlocks = λ blocks. record { from = from; size = bytes_of_block layout.channels layout.bits; count = blocks } in
    ap of (blocks-cycle layout.rate frame)

-- a frame has four blocks at most
pub due-few : (format : Format) (frame : ℕ) → blocks_of format.rate frame ≤ 4
due-few format frame =
    let most : blocks_of format.rate frame ≤ most_blocks format.rate = bounded format.rate frame in
    let four = few_blocks format.rate in
    omega (arith, most, four)
