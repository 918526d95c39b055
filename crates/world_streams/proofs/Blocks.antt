-- Blocks that come to a FIFO from the link.
use Rattle.std.proofs.Common.{◌≡◌, ◌≤◌, ◌+◌, ◌-◌, ◌*◌, ℕ, zero, suc, Bool, true, false, List, [], ◌∷◌, ◌++◌, length, take, drop, replicate, nat_le, if◌then◌else◌, refl, sym, ap, ◌∙◌, arith, length-append, length-drop, append_assoc, add-one}
use Rattle.std.specs.Prelude.{All}
use Rattle.std.proofs.lemmas.List.{append-nil, drop-append-le, length-take-le, length-replicate}
use Rattle.std.proofs.lemmas.List.Elements.{All-head, All-tail, All-cons}
use Rattle.std.proofs.Math.Seq.{take-nil, drop-nil}
use Rattle.std.proofs.Math.Nat.{mul-le-mul, suc-mul}
use Rattle.std.proofs.lemmas.Bool.{leb-true, leb-false}
use Rattle.hda_registers.specs.Fields.{is_running}
use Rattle.world_streams.specs.Streams.{Stream, is_usable, broke}
use Rattle.world_streams.specs.Input.{silent_block, given_block, given_blocks, fits_block, entered_if, entered_after, marks_after, kept_by_marks, marks_of, frame_took, frame_move}

-- a block of the size
abbrev pub HasSize : ℕ → List ℕ → Type 0
HasSize size block = length block ≡ size

module _ (fifo left : ℕ) where
  -- each block has a mark
  pub marks-length : (entered : List ℕ) (blocks : List (List ℕ)) → length (marks_after fifo left entered blocks) ≡ length blocks
  marks-length entered [] = refl
  marks-length entered (block ∷ blocks) = ap suc (marks-length (entered_if (fits_block fifo left entered block) entered block) blocks)

  one_kept : (fits : Bool) (entered block rest : List ℕ) → entered_if fits entered block ++ rest ≡ entered ++ ((if fits then block else []) ++ rest)
  one_kept true entered block rest = append_assoc entered block rest
  one_kept false entered block rest = refl

  -- what entered are the bytes of those that have one
  pub entered-marks : (entered : List ℕ) (blocks : List (List ℕ))
      → entered_after fifo left entered blocks ≡ entered ++ kept_by_marks (marks_after fifo left entered blocks) blocks
  entered-marks entered [] = sym (append-nil entered)
  entered-marks entered (block ∷ blocks) =
      let fits = fits_block fifo left entered block in
      let next = entered_if fits entered block in
      entered-marks next blocks ∙ one_kept fits entered block (kept_by_marks (marks_after fifo left next blocks) blocks)

  within_if : (fits : Bool) (entered block : List ℕ) → fits_block fifo left entered block ≡ fits → length entered ≤ left + fifo
      → length (entered_if fits entered block) ≤ left + fifo
  within_if true entered block is within =
      let room = leb-true (length entered + length block) (left + fifo) is in omega (arith, length-append entered block, room)
  within_if false entered block is within = within

  -- the FIFO never holds more than it can
  pub entered-within : (entered : List ℕ) (blocks : List (List ℕ)) → length entered ≤ left + fifo → length (entered_after fifo left entered blocks) ≤ left + fifo
  entered-within entered [] within = within
  entered-within entered (block ∷ blocks) within =
      entered-within (entered_if (fits_block fifo left entered block) entered block) blocks (within_if _ entered block refl within)

  -- nothing leaves it
  pub entered-longer : (entered : List ℕ) (blocks : List (List ℕ)) → length entered ≤ length (entered_after fifo left entered blocks)
  entered-longer entered blocks =
      let kept = kept_by_marks (marks_after fifo left entered blocks) blocks in
      let long : length (entered_after fifo left entered blocks) ≡ length entered + length kept =
      ap length (entered-marks entered blocks) ∙ length-append entered kept in
      omega (arith, long)

  -- ---- blocks of one size

  fits_size : (size : ℕ) (entered block : List ℕ) → length block ≡ size → fits_block fifo left entered block ≡ nat_le (length entered + size) (left + fifo)
  fits_size size entered block is = ap (λ (n : ℕ). nat_le (length entered + n) (left + fifo)) is

  -- where one does not fit, none does
  pub none-fit : (size : ℕ) (entered : List ℕ) (blocks : List (List ℕ)) → nat_le (length entered + size) (left + fifo) ≡ false
      → All (HasSize size) blocks → marks_after fifo left entered blocks ≡ replicate (length blocks) false
  none-fit size entered [] full sizes = refl
  none-fit size entered (block ∷ blocks) full sizes =
      let none : fits_block fifo left entered block ≡ false = fits_size size entered block (All-head (HasSize size) block blocks sizes) ∙ full in
      ap (λ (fits : Bool). fits ∷ marks_after fifo left (entered_if fits entered block) blocks) none
      ∙ ap (λ (marks : List Bool). false ∷ marks) (none-fit size entered blocks full (All-tail (HasSize size) block blocks sizes))

  -- and nothing enters
  pub none-enter : (size : ℕ) (entered : List ℕ) (blocks : List (List ℕ)) → nat_le (length entered + size) (left + fifo) ≡ false
      → All (HasSize size) blocks → entered_after fifo left entered blocks ≡ entered
  none-enter size entered [] full sizes = refl
  none-enter size entered (block ∷ blocks) full sizes =
      let none : fits_block fifo left entered block ≡ false = fits_size size entered block (All-head (HasSize size) block blocks sizes) ∙ full in
      ap (λ (fits : Bool). entered_after fifo left (entered_if fits entered block) blocks) none
      ∙ none-enter size entered blocks full (All-tail (HasSize size) block blocks sizes)

  -- marks of which those that are taken come first, of so many
  AreFront : ℕ → List Bool → Type 0
  AreFront count marks = (taken : ℕ) × (marks ≡ replicate taken true ++ replicate (count - taken) false)

  front_if : (size : ℕ) (entered block : List ℕ) (blocks : List (List ℕ)) → All (HasSize size) (block ∷ blocks) → (fits : Bool) → fits_block fifo left entered block ≡ fits
      → AreFront (length blocks) (marks_after fifo left (entered_if (fits_block fifo left entered block) entered block) blocks)
      → AreFront (suc (length blocks)) (marks_after fifo left entered (block ∷ blocks))
  unfolding AreFront
  front_if size entered block blocks sizes true is later =
      let less : length blocks - later.0 ≡ suc (length blocks) - suc later.0 = omega arith in (
        suc later.0,
        ap (λ (fits : Bool). fits ∷ marks_after fifo left (entered_if (fits_block fifo left entered block) entered block) blocks) is
            ∙ ap (λ (marks : List Bool). true ∷ marks) (later.1 ∙ ap (λ (n : ℕ). replicate later.0 true ++ replicate n false) less),
      )
  front_if size entered block blocks sizes false is later =
      let all : suc (length blocks) ≡ suc (length blocks) - 0 = omega arith in
      (0, none-fit size entered (block ∷ blocks) (sym (fits_size size entered block (All-head (HasSize size) block blocks sizes)) ∙ is) sizes ∙ ap (λ (n : ℕ). replicate n false) all)

  marks_front : (size : ℕ) (entered : List ℕ) (blocks : List (List ℕ)) → All (HasSize size) blocks → AreFront (length blocks) (marks_after fifo left entered blocks)
  unfolding AreFront
  marks_front size entered [] sizes = (0, refl)
  marks_front size entered (block ∷ blocks) sizes =
      front_if size entered block blocks sizes _ refl
      (marks_front size (entered_if (fits_block fifo left entered block) entered block) blocks (All-tail (HasSize size) block blocks sizes))

  -- those that are taken come first
  pub marks-front : (size : ℕ) (entered : List ℕ) (blocks : List (List ℕ)) → All (HasSize size) blocks
      → (taken : ℕ) × (marks_after fifo left entered blocks ≡ replicate taken true ++ replicate (length blocks - taken) false)
  unfolding AreFront
  marks-front size entered blocks sizes = marks_front size entered blocks sizes

-- ---- a FIFO by what it holds

-- whether a block fits
held_fits : (fifo left : ℕ) (entered block : List ℕ) → left ≤ length entered → fits_block fifo left entered block ≡ fits_block fifo 0 (drop left entered) block
held_fits fifo left entered block behind = by_fits _ _ refl refl
  where
    long : length (drop left entered) ≡ length entered - left
    long = length-drop left entered

    by_fits : (one other : Bool) → fits_block fifo left entered block ≡ one → fits_block fifo 0 (drop left entered) block ≡ other → one ≡ other
    by_fits true true first second = refl
    by_fits false false first second = refl
    by_fits true false first second =
        let less = leb-true (length entered + length block) (left + fifo) first in
        let more = leb-false (length (drop left entered) + length block) (0 + fifo) second in
        absurd (omega (arith, less, more, long, behind))
    by_fits false true first second =
        let more = leb-false (length entered + length block) (left + fifo) first in
        let less = leb-true (length (drop left entered) + length block) (0 + fifo) second in
        absurd (omega (arith, less, more, long, behind))

held_if : (fits : Bool) (left : ℕ) (entered block : List ℕ) → left ≤ length entered → drop left (entered_if fits entered block) ≡ entered_if fits (drop left entered) block
held_if true left entered block behind = drop-append-le left entered block behind
held_if false left entered block behind = refl

behind_if : (fits : Bool) (left : ℕ) (entered block : List ℕ) → left ≤ length entered → left ≤ length (entered_if fits entered block)
behind_if true left entered block behind = omega (arith, behind, length-append entered block)
behind_if false left entered block behind = behind

module _ (fifo left : ℕ) where
  -- after it came or not
  held_next : (entered block : List ℕ) → left ≤ length entered
      → drop left (entered_if (fits_block fifo left entered block) entered block) ≡ entered_if (fits_block fifo 0 (drop left entered) block) (drop left entered) block
  held_next entered block behind =
      held_if _ left entered block behind ∙ ap (λ (fits : Bool). entered_if fits (drop left entered) block) (held_fits fifo left entered block behind)

  -- what it holds once blocks came
  pub entered-held : (entered : List ℕ) (blocks : List (List ℕ)) → left ≤ length entered
      → drop left (entered_after fifo left entered blocks) ≡ entered_after fifo 0 (drop left entered) blocks
  entered-held entered [] behind = refl
  entered-held entered (block ∷ blocks) behind =
      entered-held (entered_if (fits_block fifo left entered block) entered block) blocks (behind_if _ left entered block behind)
      ∙ ap (λ (bytes : List ℕ). entered_after fifo 0 bytes blocks) (held_next entered block behind)

  -- and their marks
  pub marks-held : (entered : List ℕ) (blocks : List (List ℕ)) → left ≤ length entered
      → marks_after fifo left entered blocks ≡ marks_after fifo 0 (drop left entered) blocks
  marks-held entered [] behind = refl
  marks-held entered (block ∷ blocks) behind =
      ap (λ (marks : List Bool). fits_block fifo left entered block ∷ marks)
      (marks-held (entered_if (fits_block fifo left entered block) entered block) blocks (behind_if _ left entered block behind)
      ∙ ap (λ (bytes : List ℕ). marks_after fifo 0 bytes blocks) (held_next entered block behind))
      ∙ ap (λ (fits : Bool). fits ∷ marks_after fifo 0 (entered_if (fits_block fifo 0 (drop left entered) block) (drop left entered) block) blocks) (held_fits fifo left entered block behind)

-- ---- a link frame

-- at a stream that does not run nothing happens
pub move-stopped : (fifo : ℕ) (blocks : List (List ℕ)) (stream : Stream) → is_running stream.descriptor ≡ false
    → frame_move fifo blocks stream ≡ record { stream = stream; marks = [] }
move-stopped fifo blocks stream stopped = rw stopped refl

-- one whose registers can't be used breaks off
pub move-unusable : (fifo : ℕ) (blocks : List (List ℕ)) (stream : Stream) → is_running stream.descriptor ≡ true → is_usable stream.descriptor ≡ false
    → frame_move fifo blocks stream ≡ record { stream = broke stream; marks = [] }
move-unusable fifo blocks stream runs unusable = rw (runs, unusable) refl

-- and to any other one the blocks come
pub move-took : (fifo : ℕ) (blocks : List (List ℕ)) (stream : Stream) → is_running stream.descriptor ≡ true → is_usable stream.descriptor ≡ true
    → frame_move fifo blocks stream ≡ record { stream = frame_took fifo blocks stream; marks = marks_of fifo blocks stream }
move-took fifo blocks stream runs usable = rw (runs, usable) refl

-- ---- the blocks of a sound

-- a sound without bytes has blocks of silence alone
pub given-none : (size place : ℕ) → given_block size [] place ≡ silent_block size
given-none size place = by_fits _ refl
  where
    by_fits : (fits : Bool) → nat_le ((place + 1) * size) 0 ≡ fits
        → (let block : List ℕ = if fits then take size (drop (place * size) []) else silent_block size in block ≡ silent_block size)
    by_fits true is =
        let fits = leb-true ((place + 1) * size) 0 is in
        let one : 1 * size ≤ (place + 1) * size = mul-le-mul (omega arith) (omega arith) in
        let none : size ≡ 0 = omega (arith, fits, one) in
        ap (take size) (drop-nil (place * size)) ∙ take-nil size ∙ sym (ap (λ (n : ℕ). replicate n 0) none)
    by_fits false is = refl

-- each block of a sound has the size
pub given-size : (size : ℕ) (sound : List ℕ) (place : ℕ) → length (given_block size sound place) ≡ size
given-size size sound place = by_fits _ refl
  where
    by_fits : (fits : Bool) → nat_le ((place + 1) * size) (length sound) ≡ fits
        → (let block : List ℕ = if fits then take size (drop (place * size) sound) else silent_block size in length block ≡ size)
    by_fits true is =
        let fits = leb-true ((place + 1) * size) (length sound) is in
        let one : (place + 1) * size ≡ place * size + size = ap (λ (n : ℕ). n * size) (add-one place) ∙ suc-mul place size in
        length-take-le size (drop (place * size) sound) (rw (length-drop (place * size) sound) (omega (arith, fits, one)))
    by_fits false is = length-replicate size 0

pub given-sizes : (size : ℕ) (sound : List ℕ) (from count : ℕ) → All (HasSize size) (given_blocks size sound from count)
given-sizes size sound from zero = λ k d before. absurd (omega (arith, before))
given-sizes size sound from (suc count) =
    All-cons (HasSize size) (given_block size sound from) (given_blocks size sound (from + 1) count) (given-size size sound from) (given-sizes size sound (from + 1) count)
