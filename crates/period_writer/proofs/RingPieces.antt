-- A piece is written over a stretch of the line that stands, and rows of pieces.
use Rattle.std.proofs.Common.{◌≡◌, ◌≤◌, ◌<◌, ◌+◌, ◌-◌, ◌*◌, ◌/◌, ◌⊎◌, inl, inr, ℕ, zero, suc, List, map, length, drop, length-drop, sym, ap, subst, ◌∙◌, arith, rules}
use Rattle.std.specs.Prelude.{slice_index, slice_range, min, max}
use Rattle.std.specs.List.{range_with_len}
use Rattle.std.proofs.lemmas.List.{length-take-le, get_or-take, get_or-drop}
use Rattle.world_rings.specs.Memory.{PieceStored, stored}
use Rattle.world_rings.proofs.Callers.{piece_is_stored}
use Rattle.hda_world.specs.Worlds.{World}
use Rattle.world_steps.specs.declared.Step.{Step}
use Rattle.hda_world.specs.Events.{Event, Stepped, DmaWrite, happens, IsHonest}
use Rattle.hda_world.specs.Kept.{Kept}
use Rattle.hda_world.proofs.Callers.{Lead, lead_none, lead_more, lead_from}
use Rattle.period_writer.specs.Rings.{list_bytes}
use Rattle.period_writer.specs.Places.{place_of, place_in, piece_start, piece_end, piece_write, line_writes, touched}
use Rattle.period_writer.specs.Standing.{Ring, IsRing, Stands, StandsInRing, bytes_in, size_of, extent_of}
use Rattle.period_writer.proofs.RingMemory.{BlockStays, some_bytes, list_stays}
use Rattle.period_writer.proofs.RingPlaces.{places_differ, outside_by}
use Rattle.period_writer.proofs.RingWrites.{IsPieceOf, piece_place, list_differs}
use Rattle.period_writer.proofs.LineSteps.{done, IsStep, is_step, done_first, done_now, done_next, done_last, piece_ascends}

module _ (ring : Ring) (line line' : List ℕ) (from upto sure start end period : ℕ) (bytes : List ℕ) (piece : IsPieceOf ring line' period start end bytes)
    (low : from ≤ start) (high : end ≤ upto) (soon : upto ≤ from + size_of ring)
    (before : (at : ℕ) → at < start → slice_index line' at ≡ slice_index line at) (after : (at : ℕ) → end ≤ at → at < upto → slice_index line' at ≡ slice_index line at) where
  module _ (memory : List ℕ) (region : IsRing ring (length memory)) (fits : place_in (bytes_in ring) ring.periods period start + length bytes ≤ length memory) where
    abbrev pub new : List ℕ
    new = stored memory (place_in (bytes_in ring) ring.periods period start) bytes

    pub over_stored : PieceStored (place_in (bytes_in ring) ring.periods period start) bytes memory new
    over_stored = piece_is_stored (place_in (bytes_in ring) ring.periods period start) bytes memory fits

    pub over_list : BlockStays memory new ring.list (list_bytes ring.geometry.periods)
    over_list here within = over_stored.outside (ring.list + here) (outside_by _ (length bytes) (ring.list + here) (λ place small same.
        list_differs ring (length memory) region here (start + place) within (same ∙ sym (piece_place ring line' period start end bytes piece place small))))

    pub over_standing : StandsInRing ring (extent_of line from upto sure) memory → StandsInRing ring (extent_of line' from upto sure) new
    over_standing stands at under above = by (order at start) (order at end) where
      order : (a b : ℕ) → (a < b) ⊎ (b ≤ a)
      order a b = search (rules, arith)

      by : (at < start) ⊎ (start ≤ at) → (at < end) ⊎ (end ≤ at) → slice_index new (place_of (bytes_in ring) ring.periods at) ≡ slice_index line' at
      by (inl ahead) other =
          let number = piece.number in
          let up = piece.ascends in
          over_stored.outside (place_of (bytes_in ring) ring.periods at) (outside_by _ (length bytes) (place_of (bytes_in ring) ring.periods at) (λ place small same.
          places_differ ring (length memory) region at (start + place) (omega (arith, ahead)) (omega (arith, soon, high, up, under, number, small)) (same ∙ sym (piece_place ring line' period start end bytes piece place small))))
          ∙ stands at under above ∙ sym (before at ahead)
      by (inr past) (inl within) =
          let number = piece.number in
          let place : at - start < length bytes = omega (arith, number, past, within) in
          let is : start + (at - start) ≡ at = omega (arith, past) in
          ap (λ a. slice_index new (place_of (bytes_in ring) ring.periods a)) (sym is)
          ∙ ap (slice_index new) (piece_place ring line' period start end bytes piece (at - start) place)
          ∙ over_stored.inside (at - start) place
          ∙ piece.are (at - start) place
          ∙ ap (slice_index line') is
      by (inr past) (inr beyond) =
          let number = piece.number in
          let up = piece.ascends in
          over_stored.outside (place_of (bytes_in ring) ring.periods at) (outside_by _ (length bytes) (place_of (bytes_in ring) ring.periods at) (λ place small same.
          places_differ ring (length memory) region (start + place) at (omega (arith, number, small, beyond, up)) (omega (arith, soon, above, low)) (sym (same ∙ sym (piece_place ring line' period start end bytes piece place small)))))
          ∙ stands at under above ∙ sym (after at beyond above)

  -- the ring holds the new line
  pub piece_over : (world : World) → sure ≤ start → place_in (bytes_in ring) ring.periods period start + length bytes ≤ length world.memory → Stands ring (extent_of line from upto sure) world
      → Stands ring (extent_of line' from upto sure) (happens world (DmaWrite (place_in (bytes_in ring) ring.periods period start) bytes))
  piece_over world safe fits stands = record {
    set = stands.set;
    ring_is = subst (IsRing ring) (sym (over_stored world.memory stands.ring_is fits).size) stands.ring_is;
    clock_is = stands.clock_is;
    position = stands.position;
    beside = stands.beside;
    list_stands = list_stays ring world.memory _ (over_list world.memory stands.ring_is fits) stands.list_stands;
    fifo = stands.fifo;
    place = stands.place;
    behind = stands.behind;
    ordered = stands.ordered;
    standing = over_standing world.memory stands.ring_is fits stands.standing;
    fetched = λ at below under. stands.fetched at below under ∙ sym (before at (omega (arith, under, safe)));
  }

-- ---- a row of writes

pub range_long : (xs : List ℕ) (a b : ℕ) → b ≤ length xs → length (slice_range xs a b) ≡ b - a
range_long xs a b within = let rest = length-drop a xs in length-take-le (b - a) (drop a xs) (omega (arith, rest, within))

pub range_at : (xs : List ℕ) (a b k : ℕ) → k < b - a → slice_index (slice_range xs a b) k ≡ slice_index xs (a + k)
range_at xs a b k within = get_or-take (b - a) (drop a xs) k 0 within ∙ get_or-drop a xs k 0

-- a piece of the positions from one up to another, in a period
pub record IsPart (ring : Ring) (from to period start end : ℕ) : Type 0 where
  pub ascends : start ≤ end
  pub from_here : from ≤ start
  pub up_to : end ≤ to
  pub begins : bytes_in ring * period ≤ start
  pub ends : end ≤ bytes_in ring * period + bytes_in ring

-- where written bytes are those of a line, so are those of the part
pub part_of : (ring : Ring) (line written : List ℕ) (from to period start end : ℕ) → IsPart ring from to period start end → to - from ≤ length written
    → ((at : ℕ) → from ≤ at → at < to → slice_index line at ≡ slice_index written (at - from)) → IsPieceOf ring line period start end (slice_range written (start - from) (end - from))
part_of ring line written from to period start end part long are = record {
  ascends = part.ascends;
  begins = part.begins;
  ends = part.ends;
  number = number;
  are = λ place within. each place within;
} where
  number : length (slice_range written (start - from) (end - from)) ≡ end - start
  number =
      let up = part.ascends in
      let low = part.from_here in
      let high = part.up_to in
      range_long written (start - from) (end - from) (omega (arith, long, high)) ∙ omega (arith, up, low)

  each : (place : ℕ) → place < length (slice_range written (start - from) (end - from)) → slice_index (slice_range written (start - from) (end - from)) place ≡ slice_index line (start + place)
  each place within =
      let number = number in
      let low = part.from_here in
      let up = part.ascends in
      let high = part.up_to in
      range_at written (start - from) (end - from) place (omega (arith, within, number, low, up))
      ∙ ap (slice_index written) (omega (arith, low))
      ∙ sym (are (start + place) (omega (arith, low)) (omega (arith, within, number, high)))

module _ (ring : Ring) (from to : ℕ) (ascends : from ≤ to) (written : List ℕ) (Moment : World → Event → Type 0) (Holds : ℕ → World → Type 0) (kept : (upto : ℕ) → Kept (Holds upto))
    (steps_hold : (upto : ℕ) (world : World) (step : Step) → Holds upto world → Moment world (Stepped step))
    (writes_hold : (period start end : ℕ) → IsPart ring from to period start end → (world : World) → Holds start world
    → IsHonest world (DmaWrite (place_in (bytes_in ring) ring.periods period start) (slice_range written (start - from) (end - from)))
    → Moment world (DmaWrite (place_in (bytes_in ring) ring.periods period start) (slice_range written (start - from) (end - from)))
    × Holds end (happens world (DmaWrite (place_in (bytes_in ring) ring.periods period start) (slice_range written (start - from) (end - from))))) where
  abbrev first : ℕ
  first = from / bytes_in ring

  abbrev start_of : ℕ → ℕ
  start_of step = piece_start (bytes_in ring) from (first + step)

  abbrev end_of : ℕ → ℕ
  end_of step = piece_end (bytes_in ring) to (first + step)

  abbrev upto_of : ℕ → ℕ
  upto_of step = from + done (bytes_in ring) from to step

  part_is : (step : ℕ) → IsStep (bytes_in ring) from to step → IsPart ring from to (first + step) (start_of step) (end_of step)
  part_is step is_one = record {
    ascends = piece_ascends (bytes_in ring) from to step is_one;
    from_here = left from (bytes_in ring * (first + step));
    up_to = right to (bytes_in ring * (first + step + 1));
    begins = low (bytes_in ring * (first + step));
    ends = high (bytes_in ring) (first + step);
  } where
    left : (a b : ℕ) → a ≤ max a b
    left a b = grind arith

    right : (a b : ℕ) → min a b ≤ a
    right a b = grind arith

    low : (n : ℕ) → n ≤ max from n
    low n = grind arith

    high : (b q : ℕ) → min to (b * (q + 1)) ≤ b * q + b
    high b q = let wide : b * (q + 1) ≡ b * q + b = omega arith in grind (arith, wide)

  writes : (left step : ℕ) → step + left ≡ touched (bytes_in ring) from to
      → Lead Moment (Holds (upto_of step)) (map (piece_write (bytes_in ring) ring.periods from to written) (range_with_len (first + step) left)) (Holds to)
  writes zero step all =
      let last = done_last (bytes_in ring) from to (some_bytes ring) ascends in
      let whole : step ≡ touched (bytes_in ring) from to = omega (arith, all) in
      let is_done : done (bytes_in ring) from to step ≡ to - from = ap (done (bytes_in ring) from to) whole ∙ last in
      let there : upto_of step ≡ to = omega (arith, is_done, ascends) in
      lead_none Moment _ _ (λ world held. subst (λ (upto : ℕ). Holds upto world) there held)
  writes (suc left) step all =
      lead_more Moment (Holds (upto_of step)) (Holds (upto_of (step + 1))) (Holds to) (kept (upto_of step))
      (piece_write (bytes_in ring) ring.periods from to written (first + step)) _
      (λ world event held. steps_hold (upto_of step) world event held)
      (λ world held honest. led world held honest)
      (subst (λ (n : ℕ). Lead Moment (Holds (upto_of (step + 1))) (map (piece_write (bytes_in ring) ring.periods from to written) (range_with_len n left)) (Holds to)) (omega arith)
      (writes left (step + 1) (omega (arith, all)))) where
        is_one : IsStep (bytes_in ring) from to step
        is_one = is_step (bytes_in ring) from to step (some_bytes ring) (omega (arith, all))

        here : upto_of step ≡ start_of step
        here = let now = done_now (bytes_in ring) from to step is_one in let low = from_start from (bytes_in ring * (first + step)) in omega (arith, now, low) where
          from_start : (a b : ℕ) → a ≤ max a b
          from_start a b = grind arith

        next : upto_of (step + 1) ≡ end_of step
        next =
            let now = done_now (bytes_in ring) from to step is_one in
            let goes_on = done_next (bytes_in ring) from to step is_one in
            let up = piece_ascends (bytes_in ring) from to step is_one in
            let here = here in
            omega (arith, now, goes_on, up, here)

        led : (world : World) → Holds (upto_of step) world → IsHonest world (piece_write (bytes_in ring) ring.periods from to written (first + step))
            → Moment world (piece_write (bytes_in ring) ring.periods from to written (first + step)) × Holds (upto_of (step + 1)) (happens world (piece_write (bytes_in ring) ring.periods from to written (first + step)))
        led world held honest =
            let both = writes_hold (first + step) (start_of step) (end_of step) (part_is step is_one) world (subst (λ (upto : ℕ). Holds upto world) here held) honest in
            (both.0, subst (λ (upto : ℕ). Holds upto (happens world (piece_write (bytes_in ring) ring.periods from to written (first + step)))) (sym next) both.1)

  pub row_led : Lead Moment (Holds from) (line_writes (bytes_in ring) ring.periods from to written) (Holds to)
  row_led =
      let none = done_first (bytes_in ring) from to (some_bytes ring) ascends in
      let here : upto_of 0 ≡ from = omega (arith, none) in
      lead_from Moment (Holds from) (Holds (upto_of 0)) _ (Holds to) (λ world held. subst (λ (upto : ℕ). Holds upto world) (sym here) held)
      (subst (λ (n : ℕ). Lead Moment (Holds (upto_of 0)) (map (piece_write (bytes_in ring) ring.periods from to written) (range_with_len n (touched (bytes_in ring) from to))) (Holds to)) (omega arith)
      (writes (touched (bytes_in ring) from to) 0 (omega arith)))
