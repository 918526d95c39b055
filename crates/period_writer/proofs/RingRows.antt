-- Each access of a run is one of its ring.
use Rattle.std.proofs.Common.{◌≡◌, ◌≤◌, ◌<◌, ◌+◌, ◌-◌, ◌*◌, ◌/◌, ◌%◌, inl, inr, ℕ, min, max, zero, suc, List, [], ◌∷◌, ◌++◌, map, length, refl, arith, rules, lit<, lit≤}
use Rattle.std.specs.Prelude.{All, nat_lt, slice_index, slice_range, drop}
use Rattle.std.specs.List.{range_with_len}
use Rattle.std.proofs.lemmas.List.{length-take}
use Rattle.std.proofs.lemmas.List.Elements.{All-nil, All-cons, All-append}
use Rattle.std.proofs.Math.Nat.{mul-le-mul_left, mod-lt}
use Rattle.byteorder.specs.Endian.{little_bytes}
use Rattle.hda_registers.specs.declared.shapes.Width.TheVariants.{One, Four}
use Rattle.hda_registers.specs.declared.places.TheConstants.{WALCLK}
use Rattle.hda_world.specs.Events.{Event, Read, Write, DmaWrite}
use Rattle.period_writer.specs.declared.course.Course.{Course}
use Rattle.period_writer.specs.declared.course.Ran.{Ran}
use Rattle.period_writer.specs.declared.course.Ran.TheVariants.{Playing, Drained, Late}
use Rattle.period_writer.specs.declared.registers.TheConstants.{CONTROL, POSITION}
use Rattle.period_writer.specs.Rings.{period_bytes, ring_bytes, list_bytes}
use Rattle.period_writer.specs.Runs.{RunFacts, measures, run_start, run_sound, run_reach}
use Rattle.period_writer.specs.Lines.{sound_and_silence}
use Rattle.period_writer.specs.Places.{place_in, touched, piece_start, piece_end, piece_write, line_writes}
use Rattle.period_writer.specs.Starting.{entry_bytes, entry_write, entry_writes, reset_accesses, run_accesses, start_accesses}
use Rattle.period_writer.specs.Playing.{stop_accesses, writes_by, run_writes, turn_with, play_accesses, finish_accesses}
use Rattle.period_writer.specs.Standing.{Ring, bytes_in}
use Rattle.period_writer.specs.Touching.{IsWithin, IsInPeriod, IsOfRing}
use Rattle.period_writer.proofs.LineSteps.{div_gt}

-- what holds of each number from one on up to a bound holds of a row of them
row_of : (P : Event → Type 0) (f : ℕ → Event) (first count low bound : ℕ) → low ≤ first → first + count ≤ bound → ((n : ℕ) → low ≤ n → n < bound → P (f n)) → All P (map f (range_with_len first count))
row_of P f first zero low bound from upto each = search rules
row_of P f first (suc count) low bound from upto each =
    All-cons P (f first) (map f (range_with_len (first + 1) count)) (each first from (omega (arith, upto)))
    (row_of P f (first + 1) count low bound (omega (arith, from)) (omega (arith, upto)) each)

-- ---- the list

entry_long : (address bytes : ℕ) → length (entry_bytes address bytes) ≡ 16
entry_long address bytes = refl

entries_within : (ring : Ring) → length ring.periods ≡ ring.geometry.periods → All (IsOfRing ring) (entry_writes ring.list ring.periods (period_bytes ring.geometry.period))
entries_within ring number =
    row_of (IsOfRing ring) (entry_write ring.list ring.periods (period_bytes ring.geometry.period)) 0 (length ring.periods) 0 (length ring.periods) (omega arith) (omega arith)
    (λ n low few. inl (record {
      low = omega arith;
      high = (let long = entry_long (slice_index ring.periods n) (period_bytes ring.geometry.period) in omega (arith, long, few, number));
    }))

-- ---- a piece of the line

piece_long : (written : List ℕ) (i j : ℕ) → length (slice_range written i j) ≤ j - i
piece_long written i j = simp length-take (omega arith)

piece_fits : (b q from to len : ℕ) → from < b * q + b → len ≤ (piece_end b to q - from) - (piece_start b from q - from) → (piece_start b from q - b * q) + len ≤ b
piece_fits b q from to len soon few = by_numbers b (b * q) (b * (q + 1)) from to len (omega arith) soon few where
  by_numbers : (b at end from to len : ℕ) → end ≡ at + b → from < at + b → len ≤ (min to end - from) - (max from at - from) → (max from at - at) + len ≤ b
  by_numbers b at end from to len is soon few = grind arith

piece_within : (ring : Ring) (from to : ℕ) (written : List ℕ) (q : ℕ) → length ring.periods ≡ ring.geometry.periods → from / bytes_in ring ≤ q → IsOfRing ring (piece_write (bytes_in ring) ring.periods from to written q)
piece_within ring from to written q number low =
    let b = bytes_in ring in
    let some : 1 ≤ b = let one = ring.geometry.some in omega (arith, one) in
    let two = ring.geometry.some_periods in
    let wide : 1 ≤ length ring.periods = omega (arith, two, number) in
    let soon : from < b * q + b = let near = div_gt b from some in let up : b * (from / b) ≤ b * q = mul-le-mul_left b low in omega (arith, near, up) in
    let piece = slice_range written (piece_start b from q - from) (piece_end b to q - from) in
    let fits : (piece_start b from q - b * q) + length piece ≤ b = piece_fits b q from to (length piece) soon (piece_long written (piece_start b from q - from) (piece_end b to q - from)) in
    let block = slice_index ring.periods (q % length ring.periods) in
    let low : block ≤ block + (piece_start b from q - b * q) = omega arith in
    let high : block + (piece_start b from q - b * q) + length piece ≤ block + b = omega (arith, fits) in
    inr (record {
      period = q % length ring.periods;
      exists = (let less = mod-lt q wide in omega (arith, less, number));
      within = record { low = low; high = high };
    })

line_within : (ring : Ring) (from to : ℕ) (written : List ℕ) → length ring.periods ≡ ring.geometry.periods → All (IsOfRing ring) (line_writes (bytes_in ring) ring.periods from to written)
line_within ring from to written number =
    row_of (IsOfRing ring) (piece_write (bytes_in ring) ring.periods from to written) (from / bytes_in ring) (touched (bytes_in ring) from to) (from / bytes_in ring) (from / bytes_in ring + touched (bytes_in ring) from to)
    (omega arith) (omega arith) (λ q low few. piece_within ring from to written q number low)

-- ---- whole runs

-- what holds of each event of a row in turn
abbrev Each : (Event → Type 0) → List Event → Type 0
Each P [] = Unit {0}
Each P (event ∷ events) = P event × Each P events

each_all : (P : Event → Type 0) (events : List Event) → Each P events → All P events
each_all P [] each = All-nil P
each_all P (event ∷ events) each = All-cons P event events each.0 (each_all P events each.1)

module _ (ring : Ring) where
  all_of : (events : List Event) → Each (IsOfRing ring) events → All (IsOfRing ring) events
  all_of events each = each_all (IsOfRing ring) events each

  row_both : (first second : List Event) → All (IsOfRing ring) first → All (IsOfRing ring) second → All (IsOfRing ring) (first ++ second)
  row_both first second one other = All-append (IsOfRing ring) first second one other

  read_more : (at value : ℕ) (events : List Event) → All (IsOfRing ring) events → All (IsOfRing ring) (Read at Four value ∷ events)
  read_more at value events more = All-cons (IsOfRing ring) (Read at Four value) events (tt {0}) more

  going : All (IsOfRing ring) (run_accesses ring.list ring.geometry)
  going = all_of (run_accesses ring.list ring.geometry) (
    inr (lit≤ tt, lit< tt),
    (inr (lit≤ tt, lit< tt), (inr (lit≤ tt, lit< tt), (inr (lit≤ tt, lit< tt), (inr (lit≤ tt, lit< tt), (inl refl, (inr (lit≤ tt, lit< tt), tt)))))),
  )

  resetting : (in_reset ready : ℕ) → All (IsOfRing ring) (reset_accesses in_reset ready)
  resetting in_reset ready = all_of (reset_accesses in_reset ready) (inr (lit≤ tt, lit< tt), (tt, (inr (lit≤ tt, lit< tt), (tt, tt))))

  pub stop_within : All (IsOfRing ring) (Write CONTROL One 0 ∷ [])
  stop_within = all_of (Write CONTROL One 0 ∷ []) (inr (lit≤ tt, lit< tt), tt)

  last_read : (to : ℕ) → All (IsOfRing ring) (Read WALCLK Four to ∷ [])
  last_read to = all_of (Read WALCLK Four to ∷ []) (tt, tt)

  pub start_within : (from in_reset ready to : ℕ) (written : List ℕ) → length ring.periods ≡ ring.geometry.periods
      → All (IsOfRing ring) (start_accesses ring.geometry ring.list ring.periods from in_reset ready to written)
  start_within from in_reset ready to written number =
      let bytes = period_bytes ring.geometry.period in
      let entries = entry_writes ring.list ring.periods bytes in
      let line = line_writes bytes ring.periods 0 (ring_bytes ring.geometry.periods ring.geometry.period) written in
      let last = run_accesses ring.list ring.geometry ++ Read WALCLK Four to ∷ [] in
      read_more WALCLK from (reset_accesses in_reset ready ++ (entries ++ (line ++ last)))
      (row_both (reset_accesses in_reset ready) (entries ++ (line ++ last)) (resetting in_reset ready)
      (row_both entries (line ++ last) (entries_within ring number)
      (row_both line last (line_within ring 0 (ring_bytes ring.geometry.periods ring.geometry.period) written number)
      (row_both (run_accesses ring.list ring.geometry) (Read WALCLK Four to ∷ []) going (last_read to)))))

  writes_within : (start sound reach reach' : ℕ) (pcm : List ℕ) → length ring.periods ≡ ring.geometry.periods
      → All (IsOfRing ring) (writes_by (bytes_in ring) ring.periods start sound reach reach' pcm)
  writes_within start sound reach reach' pcm number =
      let to = min reach (start + sound) in
      let over = to - start in
      let back = sound_and_silence over over pcm in
      let on = sound_and_silence (sound - over) (reach' - reach) (drop over pcm) in
      row_both (line_writes (bytes_in ring) ring.periods start to back) (line_writes (bytes_in ring) ring.periods reach reach' on)
      (line_within ring start to back number) (line_within ring reach reach' on number)

  with_later : (course : Course) (facts : RunFacts) (pcm : List ℕ) (later : List Event) → length ring.periods ≡ ring.geometry.periods
      → All (IsOfRing ring) later → All (IsOfRing ring) (turn_with ring.geometry ring.periods course facts pcm later)
  with_later course facts pcm later number more =
      let m = measures ring.geometry in
      let writes = run_writes (bytes_in ring) ring.periods m course facts pcm in
      let rest = Read WALCLK Four facts.to ∷ later in
      read_more WALCLK facts.from (Read POSITION Four facts.lpib ∷ (writes ++ rest))
      (read_more POSITION facts.lpib (writes ++ rest)
      (row_both writes rest (writes_within (run_start m course facts) (run_sound m course facts) course.reach (run_reach m course facts) pcm number)
      (read_more WALCLK facts.to later more)))

  stopping : (ran : Ran) → All (IsOfRing ring) (stop_accesses ran)
  stopping Playing = All-nil (IsOfRing ring)
  stopping Drained = stop_within
  stopping (Late from to limit) = stop_within

  pub run_within : (course : Course) (facts : RunFacts) (pcm : List ℕ) (ran : Ran) → length ring.periods ≡ ring.geometry.periods
      → All (IsOfRing ring) (play_accesses ring.geometry ring.periods course facts pcm ran)
  run_within course facts pcm ran number = with_later course facts pcm (stop_accesses ran) number (stopping ran)

  pub finish_within : (course : Course) (facts : RunFacts) (pcm : List ℕ) → length ring.periods ≡ ring.geometry.periods
      → All (IsOfRing ring) (finish_accesses ring.geometry ring.periods course facts pcm)
  finish_within course facts pcm number = with_later course facts pcm (Write CONTROL One 0 ∷ []) number stop_within
