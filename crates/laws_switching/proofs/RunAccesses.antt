-- What runs read and write: no register of the rings, no entry, and in memory places of their own ring alone.
use Rattle.std.proofs.Common.{◌≡◌, ◌≤◌, ◌<◌, ◌+◌, ◌-◌, ◌*◌, ◌/◌, ◌%◌, ◌==◌, ◌&&◌, ◌||◌, ◌⊎◌, inl, inr, ℕ, min, max, zero, suc, Bool, true, false, List, [], ◌∷◌, ◌++◌, map, length, refl, ap, ◌∙◌, arith, rules, tests}
use Rattle.std.specs.Prelude.{All, nat_le, slice_index, drop}
use Rattle.std.specs.List.{range_with_len}
use Rattle.std.proofs.lemmas.List.Elements.{All-nil, All-cons, All-append, All-head, All-tail, All-weaker}
use Rattle.std.proofs.Math.Nat.{mul-le-mul_left, mod-lt}
use Rattle.hda_registers.specs.declared.shapes.Width.TheVariants.{One, Four}
use Rattle.hda_registers.specs.declared.places.TheConstants.{WALCLK, CORBWP, RIRBSTS}
use Rattle.hda_world.specs.Events.{Event, Stepped, Begin, End, Read, Write, DmaRead, DmaWrite}
use Rattle.command_engine.specs.Blocks.{corb_bytes}
use Rattle.period_writer.specs.declared.course.Course.{Course}
use Rattle.period_writer.specs.declared.course.Ran.{Ran}
use Rattle.period_writer.specs.declared.course.Ran.TheVariants.{Playing, Drained, Late}
use Rattle.period_writer.specs.declared.registers.TheConstants.{CONTROL, POSITION}
use Rattle.period_writer.specs.Blocks.{are_apart}
use Rattle.period_writer.specs.Lines.{sound_and_silence}
use Rattle.period_writer.specs.Places.{touched, piece_start, piece_write, line_writes}
use Rattle.period_writer.specs.Playing.{stop_accesses, writes_by, run_writes, turn_with, play_accesses}
use Rattle.period_writer.specs.Rings.{period_bytes, ring_bytes, list_bytes}
use Rattle.period_writer.specs.Runs.{RunFacts, measures, run_start, run_sound, run_reach}
use Rattle.period_writer.specs.Standing.{Ring, bytes_in}
use Rattle.period_writer.specs.Starting.{entry_write, entry_writes, reset_accesses, run_accesses, start_accesses}
use Rattle.period_writer.proofs.LineSteps.{div_gt}
use Rattle.driver_progress.specs.Noting.{IsPlain, ArePlain}
use Rattle.driver_bring_up.specs.Commanding.{entry_in, entries_in}
use Rattle.laws_switching.specs.Senses.{is_in, IsBesideSenses}
use Rattle.laws_switching.proofs.RunRows.{IsBesideBlocks}

-- an address is one of so many from a block's on
pub record IsPlaceOf (block size at : ℕ) : Type 0 where
  pub low : block ≤ at
  pub high : at < block + size

pub record IsPlaceIn (ring : Ring) (at : ℕ) : Type 0 where
  pub period : ℕ
  pub exists : period < ring.geometry.periods
  pub place : IsPlaceOf (slice_index ring.periods period) (bytes_in ring) at

abbrev pub IsRunAccess : Ring → Event → Type 0
IsRunAccess ring (Write at width value) = (at == CORBWP) ≡ false
IsRunAccess ring (DmaWrite at bytes) = IsPlaceOf ring.list (list_bytes ring.geometry.periods) at ⊎ IsPlaceIn ring at
IsRunAccess ring (Read at width value) = (at == RIRBSTS) ≡ false
IsRunAccess ring (DmaRead at bytes) = ⊥
IsRunAccess ring (Stepped step) = ⊥
IsRunAccess ring Begin = ⊥
IsRunAccess ring End = ⊥

-- ---- the pieces of a run

row_of : (P : Event → Type 0) (f : ℕ → Event) (first count low bound : ℕ) → low ≤ first → first + count ≤ bound → ((n : ℕ) → low ≤ n → n < bound → P (f n)) → All P (map f (range_with_len first count))
row_of P f first zero low bound from upto each = search rules
row_of P f first (suc count) low bound from upto each =
    All-cons P (f first) (map f (range_with_len (first + 1) count)) (each first from (omega (arith, upto)))
    (row_of P f (first + 1) count low bound (omega (arith, from)) (omega (arith, upto)) each)

abbrev Each : (Event → Type 0) → List Event → Type 0
Each P [] = Unit {0}
Each P (event ∷ events) = P event × Each P events

each_all : (P : Event → Type 0) (events : List Event) → Each P events → All P events
each_all P [] each = All-nil P
each_all P (event ∷ events) each = All-cons P event events each.0 (each_all P events each.1)

module _ (ring : Ring) (number : length ring.periods ≡ ring.geometry.periods) where
  entries_in_list : All (IsRunAccess ring) (entry_writes ring.list ring.periods (period_bytes ring.geometry.period))
  entries_in_list =
      row_of (IsRunAccess ring) (entry_write ring.list ring.periods (period_bytes ring.geometry.period)) 0 (length ring.periods) 0 (length ring.periods) (omega arith) (omega arith)
      (λ n low few. inl (record { low = omega arith; high = omega (arith, few, number) }))

  piece_near : (b q from : ℕ) → from < b * q + b → 1 ≤ b → piece_start b from q - b * q < b
  piece_near b q from soon some = by_numbers b (b * q) from soon some
    where
      by_numbers : (b at from : ℕ) → from < at + b → 1 ≤ b → max from at - at < b
      by_numbers b at from soon some = omega (arith, soon, some)

  piece_in : (from to : ℕ) (written : List ℕ) (q : ℕ) → from / bytes_in ring ≤ q → IsRunAccess ring (piece_write (bytes_in ring) ring.periods from to written q)
  piece_in from to written q low =
      let b = bytes_in ring in
      let some : 1 ≤ b = let one = ring.geometry.some in omega (arith, one) in
      let two = ring.geometry.some_periods in
      let wide : 1 ≤ length ring.periods = omega (arith, two, number) in
      let soon : from < b * q + b = let near = div_gt b from some in let up : b * (from / b) ≤ b * q = mul-le-mul_left b low in omega (arith, near, up) in
      let near : piece_start b from q - b * q < b = piece_near b q from soon some in
      let block = slice_index ring.periods (q % length ring.periods) in
      let low : block ≤ block + (piece_start b from q - b * q) = omega arith in
      let high : block + (piece_start b from q - b * q) < block + b = omega (arith, near) in
      inr (record {
        period = q % length ring.periods;
        exists = (let less = mod-lt q wide in omega (arith, less, number));
        place = record { low = low; high = high };
      })

  line_in : (from to : ℕ) (written : List ℕ) → All (IsRunAccess ring) (line_writes (bytes_in ring) ring.periods from to written)
  line_in from to written =
      row_of (IsRunAccess ring) (piece_write (bytes_in ring) ring.periods from to written) (from / bytes_in ring) (touched (bytes_in ring) from to) (from / bytes_in ring) (from / bytes_in ring + touched (bytes_in ring) from to)
      (omega arith) (omega arith) (λ q low few. piece_in from to written q low)

  row_both : (first second : List Event) → All (IsRunAccess ring) first → All (IsRunAccess ring) second → All (IsRunAccess ring) (first ++ second)
  row_both first second one other = All-append (IsRunAccess ring) first second one other

  going : All (IsRunAccess ring) (run_accesses ring.list ring.geometry)
  going = each_all (IsRunAccess ring) (run_accesses ring.list ring.geometry) (refl, (refl, (refl, (refl, (refl, (refl, (refl, tt {0})))))))

  resetting : (in_reset ready : ℕ) → All (IsRunAccess ring) (reset_accesses in_reset ready)
  resetting in_reset ready = each_all (IsRunAccess ring) (reset_accesses in_reset ready) (refl, (refl, (refl, (refl, tt {0}))))

  last_read : (to : ℕ) → All (IsRunAccess ring) (Read WALCLK Four to ∷ [])
  last_read to = each_all (IsRunAccess ring) (Read WALCLK Four to ∷ []) (refl, tt {0})

  stop_in : All (IsRunAccess ring) (Write CONTROL One 0 ∷ [])
  stop_in = each_all (IsRunAccess ring) (Write CONTROL One 0 ∷ []) (refl, tt {0})

  pub start_in : (from in_reset ready to : ℕ) (written : List ℕ) → All (IsRunAccess ring) (start_accesses ring.geometry ring.list ring.periods from in_reset ready to written)
  start_in from in_reset ready to written =
      let bytes = period_bytes ring.geometry.period in
      let entries = entry_writes ring.list ring.periods bytes in
      let line = line_writes bytes ring.periods 0 (ring_bytes ring.geometry.periods ring.geometry.period) written in
      let last = run_accesses ring.list ring.geometry ++ Read WALCLK Four to ∷ [] in
      All-cons (IsRunAccess ring) (Read WALCLK Four from) (reset_accesses in_reset ready ++ (entries ++ (line ++ last))) refl
      (row_both (reset_accesses in_reset ready) (entries ++ (line ++ last)) (resetting in_reset ready)
      (row_both entries (line ++ last) entries_in_list
      (row_both line last (line_in 0 (ring_bytes ring.geometry.periods ring.geometry.period) written)
      (row_both (run_accesses ring.list ring.geometry) (Read WALCLK Four to ∷ []) going (last_read to)))))

  writes_in : (start sound reach reach' : ℕ) (pcm : List ℕ) → All (IsRunAccess ring) (writes_by (bytes_in ring) ring.periods start sound reach reach' pcm)
  writes_in start sound reach reach' pcm =
      let to = min reach (start + sound) in
      let over = to - start in
      let back = sound_and_silence over over pcm in
      let on = sound_and_silence (sound - over) (reach' - reach) (drop over pcm) in
      row_both (line_writes (bytes_in ring) ring.periods start to back) (line_writes (bytes_in ring) ring.periods reach reach' on) (line_in start to back) (line_in reach reach' on)

  pub turn_in : (course : Course) (facts : RunFacts) (pcm : List ℕ) (later : List Event) → All (IsRunAccess ring) later → All (IsRunAccess ring) (turn_with ring.geometry ring.periods course facts pcm later)
  turn_in course facts pcm later more =
      let m = measures ring.geometry in
      let writes = run_writes (bytes_in ring) ring.periods m course facts pcm in
      let rest = Read WALCLK Four facts.to ∷ later in
      All-cons (IsRunAccess ring) (Read WALCLK Four facts.from) (Read POSITION Four facts.lpib ∷ (writes ++ rest)) refl
      (All-cons (IsRunAccess ring) (Read POSITION Four facts.lpib) (writes ++ rest) refl
      (row_both writes rest (writes_in (run_start m course facts) (run_sound m course facts) course.reach (run_reach m course facts) pcm)
      (All-cons (IsRunAccess ring) (Read WALCLK Four facts.to) later refl more)))

  stopping : (ran : Ran) → All (IsRunAccess ring) (stop_accesses ran)
  stopping Playing = All-nil (IsRunAccess ring)
  stopping Drained = stop_in
  stopping (Late from to limit) = stop_in

  pub play_in : (course : Course) (facts : RunFacts) (pcm : List ℕ) (ran : Ran) → All (IsRunAccess ring) (play_accesses ring.geometry ring.periods course facts pcm ran)
  play_in course facts pcm ran = turn_in course facts pcm (stop_accesses ran) (stopping ran)

-- ---- what follows of them

module _ (ring : Ring) where
  one_plain : (event : Event) → IsRunAccess ring event → IsPlain event
  one_plain (Write at width value) is = is
  one_plain (DmaWrite at bytes) is = tt {0}
  one_plain (Read at width value) is = is
  one_plain (DmaRead at bytes) is = tt {0}
  one_plain (Stepped step) is = is
  one_plain Begin is = is
  one_plain End is = is

  pub are_plain : (made : List Event) → All (IsRunAccess ring) made → ArePlain made
  are_plain [] all = tt {0}
  are_plain (event ∷ made) all = (one_plain event (All-head (IsRunAccess ring) event made all), are_plain made (All-tail (IsRunAccess ring) event made all))

  one_unread : (event : Event) → IsRunAccess ring event → entry_in event ≡ []
  one_unread (Write at width value) is = refl
  one_unread (DmaWrite at bytes) is = refl
  one_unread (Read at width value) is = refl
  one_unread (DmaRead at bytes) is = absurd is
  one_unread (Stepped step) is = refl
  one_unread Begin is = refl
  one_unread End is = refl

  pub none_read : (made : List Event) → All (IsRunAccess ring) made → entries_in made ≡ []
  none_read [] all = refl
  none_read (event ∷ made) all =
      ap (λ (entries : List (List ℕ)). entries ++ entries_in made) (one_unread event (All-head (IsRunAccess ring) event made all)) ∙ none_read made (All-tail (IsRunAccess ring) event made all)

  -- a place of another block is none of this one
  outside : (block size other bytes at : ℕ) → are_apart block size other bytes ≡ true → IsPlaceOf other bytes at → is_in block size at ≡ false
  outside block size other bytes at apart place = by (nat_le block at) refl (nat_le (at + 1) (block + size)) refl
    where
      low : other ≤ at
      low = place.low

      high : at < other + bytes
      high = place.high

      never : block ≤ at → at + 1 ≤ block + size → (test : Bool) → nat_le (block + size) other ≡ test → (test || nat_le (other + bytes) block) ≡ true → ⊥
      never above below true is apart = let before : block + size ≤ other = search (rules, tests) in omega (arith, before, low, below)
      never above below false is apart = let behind : other + bytes ≤ block = search (rules, tests) in omega (arith, behind, high, above)

      by : (first : Bool) → nat_le block at ≡ first → (second : Bool) → nat_le (at + 1) (block + size) ≡ second → (first && second) ≡ false
      by true above true below =
          let one : block ≤ at = search (rules, tests) in
          let two : at + 1 ≤ block + size = search (rules, tests) in
          absurd (never one two (nat_le (block + size) other) refl apart)
      by true above false below = refl
      by false above second below = refl

  module _ (corb rirb : ℕ) (beside_corb : IsBesideBlocks ring corb corb_bytes) where
    one_beside : (event : Event) → IsRunAccess ring event → IsBesideSenses corb rirb event
    one_beside (Write at width value) is = tt {0}
    one_beside (DmaWrite at bytes) (inl is) = outside corb corb_bytes ring.list (list_bytes ring.geometry.periods) at beside_corb.list is
    one_beside (DmaWrite at bytes) (inr is) = outside corb corb_bytes (slice_index ring.periods is.period) (bytes_in ring) at (beside_corb.periods is.period is.exists) is.place
    one_beside (Read at width value) is = tt {0}
    one_beside (DmaRead at bytes) is = absurd is
    one_beside (Stepped step) is = tt {0}
    one_beside Begin is = tt {0}
    one_beside End is = tt {0}

    pub are_beside : (made : List Event) → All (IsRunAccess ring) made → All (IsBesideSenses corb rirb) made
    are_beside made all = All-weaker (IsRunAccess ring) (IsBesideSenses corb rirb) one_beside made all
