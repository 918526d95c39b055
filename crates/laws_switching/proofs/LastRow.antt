-- The accesses of a last run: what they read and write, beside both rings of commands.
use Rattle.std.proofs.Common.{◌≡◌, ◌≤◌, ◌<◌, ◌+◌, ◌-◌, ◌*◌, ◌/◌, ◌%◌, ◌&&◌, ◌||◌, ◌⊎◌, inl, inr, ℕ, min, max, zero, suc, Bool, true, false, List, [], ◌∷◌, ◌++◌, map, length, refl, arith, rules, tests}
use Rattle.std.specs.Prelude.{All, nat_le, slice_index, drop}
use Rattle.std.specs.List.{range_with_len}
use Rattle.std.proofs.lemmas.List.Elements.{All-nil, All-cons, All-append}
use Rattle.std.proofs.Math.Nat.{mul-le-mul_left, mod-lt}
use Rattle.hda_registers.specs.declared.shapes.Width.TheVariants.{One, Four}
use Rattle.hda_registers.specs.declared.places.TheConstants.{WALCLK}
use Rattle.hda_world.specs.Events.{Event, Read, Write}
use Rattle.command_engine.specs.Blocks.{corb_bytes}
use Rattle.period_writer.specs.declared.course.Course.{Course}
use Rattle.period_writer.specs.declared.registers.TheConstants.{CONTROL, POSITION}
use Rattle.period_writer.specs.Blocks.{are_apart}
use Rattle.period_writer.specs.Lines.{sound_and_silence}
use Rattle.period_writer.specs.Places.{touched, piece_start, piece_write, line_writes}
use Rattle.period_writer.specs.Playing.{writes_by, run_writes, finish_accesses}
use Rattle.period_writer.specs.Runs.{RunFacts, measures, run_start, run_sound, run_reach}
use Rattle.period_writer.specs.Standing.{Ring, bytes_in}
use Rattle.driver_progress.specs.Noting.{ArePlain}
use Rattle.laws_switching.specs.Senses.{is_in, IsBesideSenses}
use Rattle.laws_switching.proofs.RunRows.{IsBesideBlocks}

-- ---- addresses beside a block

pub not_in : (block size at : ℕ) → (at < block) ⊎ (block + size ≤ at) → is_in block size at ≡ false
not_in block size at beside = by (nat_le block at) (nat_le (at + 1) (block + size)) refl refl beside
  where
    by : (low high : Bool) → nat_le block at ≡ low → nat_le (at + 1) (block + size) ≡ high → (at < block) ⊎ (block + size ≤ at) → (low && high) ≡ false
    by false high below above beside = refl
    by true false below above beside = refl
    by true true below above (inl is) = let first : block ≤ at = search (rules, tests) in absurd (omega (arith, first, is))
    by true true below above (inr is) = let last : at + 1 ≤ block + size = search (rules, tests) in absurd (omega (arith, last, is))

-- an address in a block is in no other that lies apart
apart_not_in : (block size other bytes at : ℕ) → are_apart block size other bytes ≡ true → other ≤ at → at < other + bytes → is_in block size at ≡ false
apart_not_in block size other bytes at apart low high = not_in block size at (by (nat_le (block + size) other) refl apart)
  where
    by : (test : Bool) → nat_le (block + size) other ≡ test → (test || nat_le (other + bytes) block) ≡ true → (at < block) ⊎ (block + size ≤ at)
    by true is apart = let below : block + size ≤ other = search (rules, tests) in inr (omega (arith, below, low))
    by false is apart = let above : other + bytes ≤ block = search (rules, tests) in inl (omega (arith, above, high))

-- ---- a row of numbers

row_of : (P : Event → Type 0) (f : ℕ → Event) (first count low bound : ℕ) → low ≤ first → first + count ≤ bound → ((n : ℕ) → low ≤ n → n < bound → P (f n)) → All P (map f (range_with_len first count))
row_of P f first zero low bound from upto each = search rules
row_of P f first (suc count) low bound from upto each =
    All-cons P (f first) (map f (range_with_len (first + 1) count)) (each first from (omega (arith, upto)))
    (row_of P f (first + 1) count low bound (omega (arith, from)) (omega (arith, upto)) each)

-- ---- pieces of the line lie beside CORB

module _ (ring : Ring) (number : length ring.periods ≡ ring.geometry.periods) (corb rirb : ℕ) (beside : IsBesideBlocks ring corb corb_bytes) where
  piece_low : (b q from : ℕ) → from < b * q + b → 1 ≤ b → max from (b * q) - b * q < b
  piece_low b q from soon some = by_numbers b (b * q) from soon some where
    by_numbers : (b at from : ℕ) → from < at + b → 1 ≤ b → max from at - at < b
    by_numbers b at from soon some = grind arith

  piece_beside : (from to : ℕ) (written : List ℕ) (q : ℕ) → from / bytes_in ring ≤ q → IsBesideSenses corb rirb (piece_write (bytes_in ring) ring.periods from to written q)
  piece_beside from to written q low =
      let b = bytes_in ring in
      let some : 1 ≤ b = let one = ring.geometry.some in omega (arith, one) in
      let two = ring.geometry.some_periods in
      let wide : 1 ≤ length ring.periods = omega (arith, two, number) in
      let soon : from < b * q + b = let near : from < b * (from / b) + b = search (arith, some) in let up : b * (from / b) ≤ b * q = mul-le-mul_left b low in omega (arith, near, up) in
      let less = mod-lt q wide in
      let block = slice_index ring.periods (q % length ring.periods) in
      let few = piece_low b q from soon some in
      apart_not_in corb corb_bytes block b (block + (piece_start b from q - b * q)) (beside.periods (q % length ring.periods) (omega (arith, less, number))) (omega arith) (omega (arith, few))

  line_beside : (from to : ℕ) (written : List ℕ) → All (IsBesideSenses corb rirb) (line_writes (bytes_in ring) ring.periods from to written)
  line_beside from to written =
      row_of (IsBesideSenses corb rirb) (piece_write (bytes_in ring) ring.periods from to written) (from / bytes_in ring) (touched (bytes_in ring) from to) (from / bytes_in ring) (from / bytes_in ring + touched (bytes_in ring) from to)
      (omega arith) (omega arith) (λ q low few. piece_beside from to written q low)

  writes_beside : (start sound reach reach' : ℕ) (pcm : List ℕ) → All (IsBesideSenses corb rirb) (writes_by (bytes_in ring) ring.periods start sound reach reach' pcm)
  writes_beside start sound reach reach' pcm =
      let to = min reach (start + sound) in
      let over = to - start in
      let back = sound_and_silence over over pcm in
      let on = sound_and_silence (sound - over) (reach' - reach) (drop over pcm) in
      All-append (IsBesideSenses corb rirb) (line_writes (bytes_in ring) ring.periods start to back) (line_writes (bytes_in ring) ring.periods reach reach' on)
      (line_beside start to back) (line_beside reach reach' on)

  -- a last run
  pub finish_beside : (course : Course) (facts : RunFacts) (pcm : List ℕ) → All (IsBesideSenses corb rirb) (finish_accesses ring.geometry ring.periods course facts pcm)
  finish_beside course facts pcm =
      let m = measures ring.geometry in
      let writes = run_writes (bytes_in ring) ring.periods m course facts pcm in
      let stop = Write CONTROL One 0 ∷ [] in
      let rest = Read WALCLK Four facts.to ∷ stop in
      All-cons (IsBesideSenses corb rirb) (Read WALCLK Four facts.from) (Read POSITION Four facts.lpib ∷ (writes ++ rest)) (tt {0})
      (All-cons (IsBesideSenses corb rirb) (Read POSITION Four facts.lpib) (writes ++ rest) (tt {0})
      (All-append (IsBesideSenses corb rirb) writes rest (writes_beside (run_start m course facts) (run_sound m course facts) course.reach (run_reach m course facts) pcm)
      (All-cons (IsBesideSenses corb rirb) (Read WALCLK Four facts.to) stop (tt {0}) (All-cons (IsBesideSenses corb rirb) (Write CONTROL One 0) [] (tt {0}) (All-nil (IsBesideSenses corb rirb))))))

-- ---- and its accesses are plain

plain_both : (front back : List Event) → ArePlain front → ArePlain back → ArePlain (front ++ back)
plain_both [] back first second = second
plain_both (event ∷ front) back first second = (first.0, plain_both front back first.1 second)

line_all : (bytes : ℕ) (periods : List ℕ) (from to : ℕ) (written : List ℕ) (numbers : List ℕ) → ArePlain (map (piece_write bytes periods from to written) numbers)
line_all bytes periods from to written [] = tt {0}
line_all bytes periods from to written (number ∷ numbers) = (tt {0}, line_all bytes periods from to written numbers)

pub finish_plain : (ring : Ring) (course : Course) (facts : RunFacts) (pcm : List ℕ) → ArePlain (finish_accesses ring.geometry ring.periods course facts pcm)
finish_plain ring course facts pcm =
    let m = measures ring.geometry in
    let bytes = bytes_in ring in
    let start = run_start m course facts in
    let sound = run_sound m course facts in
    let reach = course.reach in
    let reach' = run_reach m course facts in
    let to = min reach (start + sound) in
    let over = to - start in
    let back = line_writes bytes ring.periods start to (sound_and_silence over over pcm) in
    let on = line_writes bytes ring.periods reach reach' (sound_and_silence (sound - over) (reach' - reach) (drop over pcm)) in
    let rest = Read WALCLK Four facts.to ∷ (Write CONTROL One 0 ∷ []) in (
      refl,
      (
        refl,
        plain_both (back ++ on) rest
            (plain_both back on (line_all bytes ring.periods start to (sound_and_silence over over pcm) (range_with_len (start / bytes) (touched bytes start to)))
            (line_all bytes ring.periods reach reach' (sound_and_silence (sound - over) (reach' - reach) (drop over pcm)) (range_with_len (reach / bytes) (touched bytes reach reach'))))
            (refl, (refl, tt {0})),
      ),
    )
