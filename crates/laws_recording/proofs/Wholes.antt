-- Whole blocks: what link frames bring, the FIFO, the ring, and what the limit lets pass.
use Rattle.std.proofs.Common.{◌≡◌, ◌≤◌, ◌<◌, ◌+◌, ◌-◌, ◌*◌, ◌/◌, ◌%◌, ◌⊎◌, inl, inr, ℕ, Bool, true, false, List, [], ◌∷◌, length, refl, sym, ap, subst, ◌∙◌, arith, length-append}
use Rattle.std.specs.Prelude.{All, Option, None, Some}
use Rattle.std.proofs.lemmas.Bool.{cases_lt}
use Rattle.std.proofs.lemmas.List.Elements.{All-head, All-tail, All-nil}
use Rattle.std.proofs.lemmas.List.FromFn.{length-map-range_with_len}
use Rattle.std.proofs.lemmas.Nat.{div-add-mod', mod-mul-add}
use Rattle.std.proofs.Math.Nat.{mul-le-mul_right}
use Rattle.codec_sound.specs.declared.in_heard.InHeard.{InHeard}
use Rattle.stream_format.specs.declared.format.Format.{Format}
use Rattle.stream_format.specs.declared.format.Bits.{Bits}
use Rattle.stream_format.specs.declared.format.Bits.TheVariants.{B16, B24, B32}
use Rattle.stream_format.specs.Cadence.{blocks_of, bytes_of_block, block_bytes, most_blocks, most_bytes}
use Rattle.stream_format.specs.Layouts.{Layout, layout, layout_of}
use Rattle.stream_format.specs.Words.{format_word}
use Rattle.stream_format.proofs.Callers.{bounded, read_back, some_block}
use Rattle.world_streams.specs.Input.{given_block, given_blocks, entered_after, marks_after, kept_by_marks}
use Rattle.world_streams.proofs.Callers.{HasSize, given-sizes, entered-marks}
use Rattle.hda_world.specs.Worlds.{World}
use Rattle.hda_world.specs.Arriving.{listened, heard_sound, due_blocks, arriving}
use Rattle.period_writer.specs.declared.geometry.Geometry.{Geometry}
use Rattle.period_writer.specs.Rings.{ring_bytes}

-- ---- multiples of a block

-- so many bytes are whole blocks
pub record IsMultiple (block bytes : ℕ) : Type 0 where
  pub count : ℕ
  pub is : bytes ≡ count * block

pub multiple_of : (block bytes : ℕ) → bytes % block ≡ 0 → IsMultiple block bytes
multiple_of block bytes none = let split = div-add-mod' bytes block in record { count = bytes / block; is = omega (arith, split, none) }

pub rest_none : (block bytes : ℕ) → 1 ≤ block → IsMultiple block bytes → bytes % block ≡ 0
rest_none block bytes some whole =
    let is = whole.is in
    let again : bytes ≡ whole.count * block + 0 = omega (arith, is) in
    ap (λ (n : ℕ). n % block) again ∙ mod-mul-add whole.count block 0 some

pub sum_whole : (block one other : ℕ) → IsMultiple block one → IsMultiple block other → IsMultiple block (one + other)
sum_whole block one other first second =
    let a = first.is in
    let b = second.is in
    let both : (first.count + second.count) * block ≡ first.count * block + second.count * block = omega arith in
    record { count = first.count + second.count; is = omega (arith, a, b, both) }

pub times_whole : (block bytes count : ℕ) → IsMultiple block bytes → IsMultiple block (bytes * count)
times_whole block bytes count whole =
    let wide : whole.count * block * count ≡ whole.count * count * block = omega arith in
    record { count = whole.count * count; is = ap (λ (n : ℕ). n * count) whole.is ∙ wide }

pub rest_whole : (block one other : ℕ) → IsMultiple block one → IsMultiple block other → IsMultiple block (one - other)
rest_whole block one other first second = record { count = first.count - second.count; is = by (cases_lt first.count second.count) } where
  a : one ≡ first.count * block
  a = first.is

  b : other ≡ second.count * block
  b = second.is

  by : (first.count < second.count) ⊎ (second.count ≤ first.count) → one - other ≡ (first.count - second.count) * block
  by (inl less) =
      let one_is = a in
      let other_is = b in
      let none : first.count - second.count ≡ 0 = omega (arith, less) in
      let none' : (first.count - second.count) * block ≡ 0 = ap (λ (n : ℕ). n * block) none ∙ omega arith in
      let wide : first.count * block ≤ second.count * block = mul-le-mul_right block (omega (arith, less)) in
      omega (arith, one_is, other_is, none', wide)
  by (inr more) =
      let one_is = a in
      let other_is = b in
      let split : first.count ≡ (first.count - second.count) + second.count = omega (arith, more) in
      let wide : ((first.count - second.count) + second.count) * block ≡ (first.count - second.count) * block + second.count * block = omega arith in
      let whole : first.count * block ≡ (first.count - second.count) * block + second.count * block = ap (λ (n : ℕ). n * block) split ∙ wide in
      omega (arith, one_is, other_is, whole)

-- ---- the ring

channels_are : (n : ℕ) → n % 2 ≡ 0 → 2 ≤ n → n ≤ 8 → (n ≡ 2) ⊎ ((n ≡ 4) ⊎ ((n ≡ 6) ⊎ (n ≡ 8)))
channels_are n even some few = grind (arith, even, some, few)

by_container : (channels : ℕ) → (n : ℕ) (bits : Bits) → channels ≡ n → IsMultiple (bytes_of_block n bits) 384 → IsMultiple (bytes_of_block channels bits) 384
by_container channels n bits is whole = subst (λ (m : ℕ). IsMultiple (bytes_of_block m bits) 384) (sym is) whole

unit_of : (channels : ℕ) (bits : Bits) → (channels ≡ 2) ⊎ ((channels ≡ 4) ⊎ ((channels ≡ 6) ⊎ (channels ≡ 8))) → IsMultiple (bytes_of_block channels bits) 384
unit_of channels B16 (inl is) = by_container channels 2 B16 is (record { count = 96; is = refl })
unit_of channels B16 (inr (inl is)) = by_container channels 4 B16 is (record { count = 48; is = refl })
unit_of channels B16 (inr (inr (inl is))) = by_container channels 6 B16 is (record { count = 32; is = refl })
unit_of channels B16 (inr (inr (inr is))) = by_container channels 8 B16 is (record { count = 24; is = refl })
unit_of channels B24 (inl is) = by_container channels 2 B24 is (record { count = 48; is = refl })
unit_of channels B24 (inr (inl is)) = by_container channels 4 B24 is (record { count = 24; is = refl })
unit_of channels B24 (inr (inr (inl is))) = by_container channels 6 B24 is (record { count = 16; is = refl })
unit_of channels B24 (inr (inr (inr is))) = by_container channels 8 B24 is (record { count = 12; is = refl })
unit_of channels B32 (inl is) = by_container channels 2 B32 is (record { count = 48; is = refl })
unit_of channels B32 (inr (inl is)) = by_container channels 4 B32 is (record { count = 24; is = refl })
unit_of channels B32 (inr (inr (inl is))) = by_container channels 6 B32 is (record { count = 16; is = refl })
unit_of channels B32 (inr (inr (inr is))) = by_container channels 8 B32 is (record { count = 12; is = refl })

pub ring_whole : (geometry : Geometry) → IsMultiple (block_bytes geometry.format) (ring_bytes geometry.periods geometry.period)
ring_whole geometry =
    let format = geometry.format in
    let unit = unit_of format.channels format.bits (channels_are format.channels format.even format.some format.few) in
    times_whole (block_bytes format) (384 * geometry.period) geometry.periods (times_whole (block_bytes format) 384 geometry.period unit)

-- ---- what a link frame brings

-- blocks with a mark have whole blocks of bytes, no more than there are blocks
pub record IsKept (size count bytes : ℕ) : Type 0 where
  pub kept : ℕ
  pub few : kept ≤ count
  pub is : bytes ≡ kept * size

none_kept : (size count : ℕ) → IsKept size count 0
none_kept size count = record { kept = 0; few = omega arith; is = omega arith }

pub kept_whole : (size : ℕ) (marks : List Bool) (blocks : List (List ℕ)) → All (HasSize size) blocks → IsKept size (length blocks) (length (kept_by_marks marks blocks))
kept_whole size [] blocks sizes = none_kept size (length blocks)
kept_whole size (mark ∷ marks) [] sizes = none_kept size 0
kept_whole size (true ∷ marks) (block ∷ blocks) sizes =
    let more = kept_whole size marks blocks (All-tail (HasSize size) block blocks sizes) in
    let here = All-head (HasSize size) block blocks sizes in
    let few = more.few in
    let is = more.is in
    let long = length-append block (kept_by_marks marks blocks) in
    let wide : (more.kept + 1) * size ≡ more.kept * size + size = omega arith in
    record { kept = more.kept + 1; few = omega (arith, few); is = omega (arith, here, is, long, wide) }
kept_whole size (false ∷ marks) (block ∷ blocks) sizes =
    let more = kept_whole size marks blocks (All-tail (HasSize size) block blocks sizes) in
    let few = more.few in
    record { kept = more.kept; few = omega (arith, few); is = more.is }

-- what entered is longer by these
pub entered_long : (fifo left : ℕ) (entered : List ℕ) (blocks : List (List ℕ))
    → length (entered_after fifo left entered blocks) ≡ length entered + length (kept_by_marks (marks_after fifo left entered blocks) blocks)
entered_long fifo left entered blocks =
    ap length (entered-marks fifo left entered blocks) ∙ length-append entered (kept_by_marks (marks_after fifo left entered blocks) blocks)

-- the blocks of a link frame have the format's size, and are no more than its most
pub record AreDue (format : Format) (blocks : List (List ℕ)) : Type 0 where
  pub sizes : All (HasSize (block_bytes format)) blocks
  pub few : length blocks ≤ most_blocks format.rate

due_are : (format : Format) (heard : Option InHeard) (sound : List ℕ) (from frame : ℕ) → AreDue format (due_blocks heard (Some (layout format)) sound from frame)
due_are format None sound from frame = record { sizes = All-nil (HasSize (block_bytes format)); few = omega arith }
due_are format (Some heard) sound from frame =
    let count = blocks_of format.rate frame in
    let long : length (given_blocks (block_bytes format) (heard_sound heard sound) from (blocks_of format.rate frame)) ≡ blocks_of format.rate frame = length-map-range_with_len (given_block (block_bytes format) (heard_sound heard sound)) from (blocks_of format.rate frame) in
    let most = bounded format.rate frame in
    record { sizes = given-sizes (block_bytes format) (heard_sound heard sound) from count; few = omega (arith, long, most) }

pub arriving_due : (format : Format) (world : World) → world.registers.input.format ≡ format_word format → AreDue format (arriving world)
arriving_due format world is =
    let known : layout_of world.registers.input.format ≡ Some (layout format) = ap layout_of is ∙ read_back format in
    subst (λ (found : Option Layout). AreDue format (due_blocks (listened world.registers.input.tag world.registers.input.format world.codecs) found world.given (length world.came) world.input.frame)) (sym known)
    (due_are format (listened world.registers.input.tag world.registers.input.format world.codecs) world.given (length world.came) world.input.frame)

-- so the link goes on by no more than the most bytes of a frame
pub entered_few : (format : Format) (fifo left : ℕ) (entered : List ℕ) (blocks : List (List ℕ)) → AreDue format blocks
    → length (entered_after fifo left entered blocks) ≤ length entered + most_bytes format
entered_few format fifo left entered blocks due =
    let kept = kept_whole (block_bytes format) (marks_after fifo left entered blocks) blocks due.sizes in
    let long = entered_long fifo left entered blocks in
    let is = kept.is in
    let few = kept.few in
    let most = due.few in
    let wide : kept.kept * block_bytes format ≤ most_blocks format.rate * block_bytes format = mul-le-mul_right (block_bytes format) (omega (arith, few, most)) in
    omega (arith, long, is, wide)

-- and whole blocks stay whole
pub entered_whole : (format : Format) (fifo left : ℕ) (entered : List ℕ) (blocks : List (List ℕ)) → AreDue format blocks → length entered % block_bytes format ≡ 0
    → length (entered_after fifo left entered blocks) % block_bytes format ≡ 0
entered_whole format fifo left entered blocks due whole =
    let kept = kept_whole (block_bytes format) (marks_after fifo left entered blocks) blocks due.sizes in
    let more : IsMultiple (block_bytes format) (length (kept_by_marks (marks_after fifo left entered blocks) blocks)) = record { count = kept.kept; is = kept.is } in
    ap (λ (n : ℕ). n % block_bytes format) (entered_long fifo left entered blocks)
    ∙ rest_none (block_bytes format) _ (some_block format) (sum_whole (block_bytes format) (length entered) (length (kept_by_marks (marks_after fifo left entered blocks) blocks)) (multiple_of (block_bytes format) (length entered) whole) more)
