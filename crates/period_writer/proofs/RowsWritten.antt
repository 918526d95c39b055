-- The writes of a run as code makes them, and how many they are.
use Rattle.std.proofs.Common.{◌≡◌, ◌≤◌, ◌<◌, ◌+◌, ◌-◌, ◌*◌, ◌/◌, ℕ, min, zero, suc, Bool, true, false, List, [], ◌∷◌, ◌++◌, map, length, drop, refl, sym, ap, ◌∙◌, arith, rules, if◌then◌else◌}
use Rattle.std.specs.Prelude.{slice_range, nat_lt}
use Rattle.std.specs.List.{range_with_len}
use Rattle.std.proofs.lemmas.List.{places, same_lists}
use Rattle.hda_world.specs.Events.{Event, DmaWrite}
use Rattle.period_writer.specs.Places.{touched, place_in, piece_start, piece_end, piece_write, line_writes}
use Rattle.period_writer.specs.Lines.{sound_and_silence}
use Rattle.period_writer.specs.Playing.{writes_by}

-- a run over a ring of two periods that makes four writes: two over silence and two after it
pub four_writes : touched 384 760 800 + touched 384 800 1192 ≡ 4
four_writes = refl

-- the sound that is written over silence is the beginning of what the run leaves
pub first_same : (sound room over i j : ℕ) (pcm : List ℕ) → sound ≤ length pcm → sound ≤ room → over ≤ sound → j ≤ over
    → slice_range (sound_and_silence sound room pcm) i j ≡ slice_range (sound_and_silence over over pcm) i j
first_same sound room over i j pcm enough fits few within = same_lists _ _ (search (rules, places)) (λ k e h. grind (arith, places))

-- and what is written after it is the rest
pub second_same : (sound room back over : ℕ) (pcm : List ℕ) → sound ≤ length pcm → sound ≤ room → back ≤ room → over ≡ min sound back
    → drop back (sound_and_silence sound room pcm) ≡ sound_and_silence (sound - over) (room - back) (drop over pcm)
second_same sound room back over pcm enough fits within is = same_lists _ _ (search (rules, places)) (λ k e h. grind (arith, places, is))

-- rows of the same bytes
row_by : (f g : ℕ → Event) → ((period : ℕ) → f period ≡ g period) → (from count : ℕ) → map f (range_with_len from count) ≡ map g (range_with_len from count)
row_by f g each from zero = refl
row_by f g each from (suc count) = ap (λ (event : Event). event ∷ map f (range_with_len (from + 1) count)) (each from) ∙ ap (λ (rest : List Event). g from ∷ rest) (row_by f g each (from + 1) count)

pub first_row : (bytes : ℕ) (periods : List ℕ) (from over sound room : ℕ) (pcm : List ℕ) → sound ≤ length pcm → sound ≤ room → over ≤ sound
    → line_writes bytes periods from (from + over) (sound_and_silence sound room pcm) ≡ line_writes bytes periods from (from + over) (sound_and_silence over over pcm)
first_row bytes periods from over sound room pcm enough fits few = row_by _ _ each (from / bytes) (touched bytes from (from + over)) where
  ends : (to n : ℕ) → min to n - from ≤ to - from
  ends to n = grind arith

  each : (period : ℕ) → piece_write bytes periods from (from + over) (sound_and_silence sound room pcm) period ≡ piece_write bytes periods from (from + over) (sound_and_silence over over pcm) period
  each period =
      let last : piece_end bytes (from + over) period - from ≤ over = let e = ends (from + over) (bytes * (period + 1)) in let w : from + over - from ≡ over = omega arith in omega (arith, e, w) in
      ap (λ (written : List ℕ). DmaWrite (place_in bytes periods period (piece_start bytes from period)) written)
      (first_same sound room over (piece_start bytes from period - from) (piece_end bytes (from + over) period - from) pcm enough fits few last)

-- no row where there is nothing to write
pub no_row : (bytes : ℕ) (periods : List ℕ) (from to : ℕ) (written : List ℕ) → to ≤ from → line_writes bytes periods from to written ≡ []
no_row bytes periods from to written none = by_test (nat_lt from to) refl where
  by_test : (test : Bool) → nat_lt from to ≡ test → map (piece_write bytes periods from to written) (range_with_len (from / bytes) (if test then (to - 1) / bytes + 1 - from / bytes else 0)) ≡ []
  by_test true e = let less : from < to = search (rules, e) in absurd (omega (arith, less, none))
  by_test false e = refl

-- what code writes of a run that leaves sound and silence from a place on
pub writes_are : (bytes : ℕ) (periods : List ℕ) (start sound reach reach' : ℕ) (pcm : List ℕ) → sound ≤ length pcm → start ≤ reach → start + sound ≤ reach' → reach ≤ reach'
    → writes_by bytes periods start sound reach reach' pcm
    ≡ line_writes bytes periods start (min reach (start + sound)) (sound_and_silence sound (reach' - start) pcm)
    ++ line_writes bytes periods reach reach' (drop (reach - start) (sound_and_silence sound (reach' - start) pcm))
writes_are bytes periods start sound reach reach' pcm enough low ends ascends =
    ap (λ (row : List Event). row ++ line_writes bytes periods reach reach' (sound_and_silence (sound - (min reach (start + sound) - start)) (reach' - reach) (drop (min reach (start + sound) - start) pcm))) (sym first)
    ∙ ap (λ (written : List ℕ). line_writes bytes periods start (min reach (start + sound)) (sound_and_silence sound (reach' - start) pcm) ++ line_writes bytes periods reach reach' written) (sym second) where
      room : sound ≤ reach' - start
      room = omega (arith, ends)

      at_end : (s n r : ℕ) → s ≤ r → s + (min r (s + n) - s) ≡ min r (s + n)
      at_end s n r le = grind (arith, le)

      few : (s n r : ℕ) → min r (s + n) - s ≤ n
      few s n r = grind arith

      first : line_writes bytes periods start (min reach (start + sound)) (sound_and_silence sound (reach' - start) pcm) ≡ line_writes bytes periods start (min reach (start + sound)) (sound_and_silence (min reach (start + sound) - start) (min reach (start + sound) - start) pcm)
      first =
          ap (λ (to : ℕ). line_writes bytes periods start to (sound_and_silence sound (reach' - start) pcm)) (sym (at_end start sound reach low))
          ∙ first_row bytes periods start (min reach (start + sound) - start) sound (reach' - start) pcm enough room (few start sound reach)
          ∙ ap (λ (to : ℕ). line_writes bytes periods start to (sound_and_silence (min reach (start + sound) - start) (min reach (start + sound) - start) pcm)) (at_end start sound reach low)

      least : (s n r : ℕ) → s ≤ r → min r (s + n) - s ≡ min n (r - s)
      least s n r le = grind (arith, le)

      second : drop (reach - start) (sound_and_silence sound (reach' - start) pcm) ≡ sound_and_silence (sound - (min reach (start + sound) - start)) (reach' - reach) (drop (min reach (start + sound) - start) pcm)
      second =
          second_same sound (reach' - start) (reach - start) (min reach (start + sound) - start) pcm enough room (omega (arith, ascends)) (least start sound reach low)
          ∙ ap (λ (n : ℕ). sound_and_silence (sound - (min reach (start + sound) - start)) n (drop (min reach (start + sound) - start) pcm)) (omega (arith, low, ascends))

-- a first run writes one row
pub writes_first : (bytes : ℕ) (periods : List ℕ) (sound reach' : ℕ) (pcm : List ℕ) → writes_by bytes periods 0 sound 0 reach' pcm ≡ line_writes bytes periods 0 reach' (sound_and_silence sound reach' pcm)
writes_first bytes periods sound reach' pcm =
    ap (λ (row : List Event). row ++ line_writes bytes periods 0 reach' (sound_and_silence (sound - (min 0 (0 + sound) - 0)) (reach' - 0) (drop (min 0 (0 + sound) - 0) pcm))) (no_row bytes periods 0 (min 0 (0 + sound)) (sound_and_silence (min 0 (0 + sound) - 0) (min 0 (0 + sound) - 0) pcm) (least 0 (0 + sound)))
    ∙ ap (λ (n : ℕ). line_writes bytes periods 0 reach' (sound_and_silence (sound - n) (reach' - 0) (drop n pcm))) (none sound)
    ∙ ap (λ (n : ℕ). line_writes bytes periods 0 reach' (sound_and_silence n (reach' - 0) pcm)) (same sound)
    ∙ ap (λ (n : ℕ). line_writes bytes periods 0 reach' (sound_and_silence sound n pcm)) (same reach') where
      least : (a n : ℕ) → min a n ≤ a
      least a n = grind arith

      none : (n : ℕ) → min 0 (0 + n) - 0 ≡ 0
      none n = grind arith

      same : (n : ℕ) → n - 0 ≡ n
      same n = omega arith
