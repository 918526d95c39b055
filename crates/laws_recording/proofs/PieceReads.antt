-- What the reads of a ring give: the bytes that were taken at the positions that are read.
use Rattle.std.proofs.Common.{◌≡◌, ◌≤◌, ◌<◌, ◌+◌, ◌-◌, ◌*◌, ◌/◌, ◌⊎◌, inl, inr, min, max, ℕ, zero, suc, List, [], ◌∷◌, ◌++◌, length, map, take, drop, append_assoc, refl, sym, ap, ap₂, subst, ◌∙◌, arith, length-append}
use Rattle.std.specs.Prelude.{slice_index, All}
use Rattle.std.specs.List.{range_with_len, flat_map}
use Rattle.std.proofs.lemmas.Bool.{cases_lt}
use Rattle.std.proofs.lemmas.List.{append-nil, length-take-le, get_or_append_left, get_or-append_right, get_or-take}
use Rattle.std.proofs.lemmas.List.Elements.{All-nil, All-cons}
use Rattle.world_steps.specs.declared.Step.{Step}
use Rattle.hda_world.specs.Worlds.{World}
use Rattle.hda_world.specs.Steps.{after_steps}
use Rattle.hda_world.specs.Events.{Event, Stepped, DmaRead, IsPiece, AreHonest, after}
use Rattle.hda_world.specs.Moments.{AreWoven}
use Rattle.hda_world.proofs.Callers.{after-append, after-stepped, honest-stepped, woven_split, AreHonest-front, AreHonest-back}
use Rattle.period_writer.specs.Places.{touched, place_in, place_of, piece_start, piece_end}
use Rattle.period_writer.specs.Standing.{Ring, bytes_in, size_of}
use Rattle.period_writer.proofs.Callers.{IsStep, is_step, done, done_now, done_next, piece_ascends, range_at, place_there, some_bytes}
use Rattle.hda_capture.specs.Reading.{piece_read, pieces_read, piece_size}
use Rattle.laws_recording.specs.Filling.{FillsRing}
use Rattle.laws_recording.specs.Recording.{AreFirstOf}
use Rattle.laws_recording.specs.Beside.{LeavesFilling}
use Rattle.laws_recording.proofs.EventsBeside.{events_go}
use Rattle.laws_recording.proofs.FirstRecording.{woven_all}
use Rattle.laws_recording.proofs.Steps.{first_longer}

-- ---- lists

-- lists of one length with the same items are the same
pub same_items : (xs ys : List ℕ) → length xs ≡ length ys → ((k : ℕ) → k < length xs → slice_index xs k ≡ slice_index ys k) → xs ≡ ys
same_items [] [] long items = refl
same_items [] (y ∷ ys) long items = absurd (omega (arith, long))
same_items (x ∷ xs) [] long items = absurd (omega (arith, long))
same_items (x ∷ xs) (y ∷ ys) long items =
    ap₂ (λ (z : ℕ) (zs : List ℕ). z ∷ zs) (items 0 (omega arith)) (same_items xs ys (omega (arith, long)) (λ k small. items (suc k) (omega (arith, small))))

-- the first of what was taken, and what was taken next
pub first_append : (taken bytes piece : List ℕ) → AreFirstOf taken bytes → length bytes + length piece ≤ length taken
    → ((k : ℕ) → k < length piece → slice_index piece k ≡ slice_index taken (length bytes + k)) → AreFirstOf taken (bytes ++ piece)
first_append taken bytes piece first few items = same_items (bytes ++ piece) (take (length (bytes ++ piece)) taken) long each where
  both : length (bytes ++ piece) ≡ length bytes + length piece
  both = length-append bytes piece

  long : length (bytes ++ piece) ≡ length (take (length (bytes ++ piece)) taken)
  long = let sum = both in sym (length-take-le (length (bytes ++ piece)) taken (omega (arith, few, sum)))

  each : (k : ℕ) → k < length (bytes ++ piece) → slice_index (bytes ++ piece) k ≡ slice_index (take (length (bytes ++ piece)) taken) k
  each k small = by (cases_lt k (length bytes)) ∙ sym (get_or-take (length (bytes ++ piece)) taken k 0 small) where
    by : (k < length bytes) ⊎ (length bytes ≤ k) → slice_index (bytes ++ piece) k ≡ slice_index taken k
    by (inl below) = get_or_append_left bytes piece 0 k below ∙ ap (λ (front : List ℕ). slice_index front k) first ∙ get_or-take (length bytes) taken k 0 below
    by (inr above) =
        let sum = both in
        let back : length bytes + (k - length bytes) ≡ k = omega (arith, above) in
        get_or-append_right bytes piece (length bytes) k 0 refl above ∙ items (k - length bytes) (omega (arith, small, sum, above)) ∙ ap (slice_index taken) back

-- ---- an access alone

-- the events of a row of one access are steps and it
pub one_access : (access : Event) (events : List Event) → AreWoven (access ∷ []) events → (steps : List Step) × (events ≡ map Stepped steps ++ access ∷ [])
one_access access events (steps, rest, are, none) = (steps, are ∙ ap (λ (rest : List Event). map Stepped steps ++ access ∷ rest) none)

-- a read of memory gives what is there after these
pub dma_there : (at : ℕ) (bytes : List ℕ) (events : List Event) (world : World) → AreWoven (DmaRead at bytes ∷ []) events → AreHonest events world → IsPiece (after events world).memory at bytes
dma_there at bytes events world woven honest =
    let one = one_access (DmaRead at bytes) events woven in
    let there : after events world ≡ after_steps one.0 world = ap (λ (events : List Event). after events world) one.1 ∙ after-stepped one.0 (DmaRead at bytes) world in
    subst (λ (w : World). IsPiece w.memory at bytes) (sym there) (honest-stepped one.0 (DmaRead at bytes) world (subst (λ (events : List Event). AreHonest events world) one.1 honest))

-- ---- a piece

module _ (ring : Ring) (from to : ℕ) where
  abbrev b : ℕ
  b = bytes_in ring

  -- what a read of the positions in a period gives is what was taken there
  record Reads (period : ℕ) (piece : List ℕ) : Type 0 where
    begins : b * period ≤ piece_start b from period
    ends : piece_end b to period ≤ b * period + b
    after_from : from ≤ piece_start b from period
    before_to : piece_end b to period ≤ to
    ascends : piece_start b from period ≤ piece_end b to period
    long : length piece ≡ piece_end b to period - piece_start b from period

  reads_of : (period s : ℕ) (piece : List ℕ) → period ≡ from / b + s → IsStep b from to s → length piece ≡ piece_size b from to period → Reads period piece
  reads_of period s piece is step long =
      let next : b * (period + 1) ≡ b * period + b = omega arith in
      let order = subst (λ (q : ℕ). piece_start b from q ≤ piece_end b to q) (sym is) (piece_ascends b from to s step) in
      record {
        begins = above from (b * period);
        ends = subst (λ (n : ℕ). min to n ≤ b * period + b) (sym next) (below to (b * period + b));
        after_from = left_of from (b * period);
        before_to = right_of to (b * (period + 1));
        ascends = order;
        long = long;
      }
    where
      above : (m n : ℕ) → n ≤ max m n
      above m n = grind arith

      left_of : (m n : ℕ) → m ≤ max m n
      left_of m n = grind arith

      below : (m n : ℕ) → min m n ≤ n
      below m n = grind arith

      right_of : (m n : ℕ) → min m n ≤ m
      right_of m n = grind arith

  one_piece : (period s : ℕ) (piece bytes : List ℕ) (world : World) → period ≡ from / b + s → IsStep b from to s → length piece ≡ piece_size b from to period → FillsRing ring world
      → AreFirstOf world.input.entered bytes → length bytes ≡ from + done b from to s → IsPiece world.memory (place_in b ring.periods period (piece_start b from period)) piece
      → to ≤ world.input.left → world.input.left ≤ from + size_of ring
      → AreFirstOf world.input.entered (bytes ++ piece) × (length (bytes ++ piece) ≡ from + done b from to (s + 1))
  one_piece period s piece bytes world is step long fills first counted piece_is upto again = (all, long') where
    start : ℕ
    start = piece_start b from period

    end : ℕ
    end = piece_end b to period

    reads : Reads period piece
    reads = reads_of period s piece is step long

    begins_at : length bytes ≡ piece_start b from period
    begins_at =
        let now = done_now b from to s step in
        let start_is : piece_start b from (from / b + s) ≡ piece_start b from period = ap (piece_start b from) (sym is) in
        let low = reads.after_from in
        omega (arith, counted, now, start_is, low)

    long' : length (bytes ++ piece) ≡ from + done b from to (s + 1)
    long' =
        let next = done_next b from to s step in
        let size : piece_end b to (from / b + s) - piece_start b from (from / b + s) ≡ piece_end b to period - piece_start b from period = ap (λ q. piece_end b to q - piece_start b from q) (sym is) in
        let sum = length-append bytes piece in
        omega (arith, next, size, sum, counted, long)

    item : (k : ℕ) → k < length piece → slice_index piece k ≡ slice_index world.input.entered (length bytes + k)
    item k small =
        let at = place_in b ring.periods period (piece_start b from period) in
        let low = reads.begins in
        let high = reads.ends in
        let order = reads.ascends in
        let here = reads.after_from in
        let far = reads.before_to in
        let position : length bytes + k ≡ piece_start b from period + k = (let starts = begins_at in omega (arith, starts)) in
        let within : piece_start b from period + k < b * period + b = omega (arith, high, long, small) in
        let there : place_of b ring.periods (piece_start b from period + k) ≡ at + k = place_there ring period (piece_start b from period + k) (omega (arith, low)) within ∙ omega (arith, low) in
        ap (λ (p : List ℕ). slice_index p k) piece_is.same
        ∙ range_at world.memory at (at + length piece) k (omega (arith, small))
        ∙ ap (slice_index world.memory) (sym there)
        ∙ fills.standing (piece_start b from period + k) (omega (arith, small, long, far, upto)) (omega (arith, again, here))
        ∙ ap (slice_index world.input.entered) (sym position)

    all : AreFirstOf world.input.entered (bytes ++ piece)
    all =
        let starts = begins_at in
        let order = reads.ascends in
        let far = reads.before_to in
        let behind = fills.fifo.behind in
        first_append world.input.entered bytes piece first (omega (arith, starts, long, order, far, upto, behind)) item

  -- ---- one after another

  leaves_read : (at : ℕ) (piece : List ℕ) (events : List Event) → AreWoven (DmaRead at piece ∷ []) events → All (LeavesFilling ring) events
  leaves_read at piece events woven =
      woven_all (LeavesFilling ring) (λ step. tt) (DmaRead at piece ∷ []) events (All-cons (LeavesFilling ring) (DmaRead at piece) [] tt (All-nil (LeavesFilling ring))) woven

  leave_reads : (pieces : List (List ℕ)) (period : ℕ) → All (LeavesFilling ring) (pieces_read b ring.periods from period pieces)
  leave_reads [] period = All-nil (LeavesFilling ring)
  leave_reads (piece ∷ pieces) period = All-cons (LeavesFilling ring) (piece_read b ring.periods from period piece) (pieces_read b ring.periods from (period + 1) pieces) tt (leave_reads pieces (period + 1))

  pub pieces_leave : (pieces : List (List ℕ)) (period : ℕ) (events : List Event) → AreWoven (pieces_read b ring.periods from period pieces) events → All (LeavesFilling ring) events
  pieces_leave pieces period events woven = woven_all (LeavesFilling ring) (λ step. tt) (pieces_read b ring.periods from period pieces) events (leave_reads pieces period) woven

  pub pieces_first : (pieces : List (List ℕ)) (count s period : ℕ) (events : List Event) (world : World) (bytes : List ℕ) → period ≡ from / b + s → s + count ≡ touched b from to
      → map length pieces ≡ map (piece_size b from to) (range_with_len period count) → AreWoven (pieces_read b ring.periods from period pieces) events → AreHonest events world → FillsRing ring world
      → AreFirstOf world.input.entered bytes → length bytes ≡ from + done b from to s → to ≤ world.input.left → (from < to → (after events world).input.left ≤ from + size_of ring)
      → AreFirstOf (after events world).input.entered (bytes ++ flat_map (λ (piece : List ℕ). piece) pieces)
      × (length (bytes ++ flat_map (λ (piece : List ℕ). piece) pieces) ≡ from + done b from to (touched b from to))
  pieces_first [] zero s period events world bytes is all sizes woven honest fills first counted upto again =
      let none = append-nil bytes in
      let last : s ≡ touched b from to = omega (arith, all) in (
        subst (λ (events : List Event). AreFirstOf (after events world).input.entered (bytes ++ [])) (sym woven) (subst (AreFirstOf world.input.entered) (sym none) first),
        ap length none ∙ counted ∙ ap (λ s. from + done b from to s) last,
      )
  pieces_first [] (suc count) s period events world bytes is all sizes woven honest fills first counted upto again = absurd (let long = ap length sizes in omega (arith, long))
  pieces_first (piece ∷ pieces) zero s period events world bytes is all sizes woven honest fills first counted upto again = absurd (let long = ap length sizes in omega (arith, long))
  pieces_first (piece ∷ pieces) (suc count) s period events world bytes is all sizes woven honest fills first counted upto again =
      let at = place_in b ring.periods period (piece_start b from period) in
      let (front, back, are, in_front, in_back) = woven_split (DmaRead at piece ∷ []) (pieces_read b ring.periods from (period + 1) pieces) events woven in
      let whole : AreHonest (front ++ back) world = subst (λ (events : List Event). AreHonest events world) are honest in
      let there : after events world ≡ after back (after front world) = ap (λ (events : List Event). after events world) are ∙ after-append front back world in
      let goes = events_go ring front world (leaves_read at piece front in_front) fills in
      let later = events_go ring back (after front world) (pieces_leave pieces (period + 1) back in_back) goes.fills in
      let step : IsStep b from to s = is_step b from to s (some_bytes ring) (omega (arith, all)) in
      let long : length piece ≡ piece_size b from to period = ap (λ (l : List ℕ). slice_index l 0) sizes in
      let rest : map length pieces ≡ map (piece_size b from to) (range_with_len (period + 1) count) = ap (drop 1) sizes in
      let up = goes.gone.stored in
      let up' = later.gone.stored in
      let last : (after back (after front world)).input.left ≤ from + size_of ring = subst (λ (w : World). w.input.left ≤ from + size_of ring) there (again step.ascends) in
      let here : AreFirstOf (after front world).input.entered bytes = subst (λ (taken : List ℕ). AreFirstOf taken bytes) (sym goes.gone.taken) (first_longer world.input.entered goes.gone.more bytes first) in
      let read = one_piece period s piece bytes (after front world) is step long goes.fills here counted (dma_there at piece front world in_front (AreHonest-front front back world whole)) (omega (arith, upto, up)) (omega (arith, up', last)) in
      let more = pieces_first pieces count (s + 1) (period + 1) back (after front world) (bytes ++ piece) (omega (arith, is)) (omega (arith, all)) rest in_back (AreHonest-back front back world whole) goes.fills read.0 read.1 (omega (arith, upto, up)) (λ ascends. last) in
      let same = append_assoc bytes piece (flat_map (λ (piece : List ℕ). piece) pieces) in (
        subst (λ (w : World). AreFirstOf w.input.entered (bytes ++ (piece ++ flat_map (λ (piece : List ℕ). piece) pieces))) (sym there) (subst (AreFirstOf (after back (after front world)).input.entered) same more.0),
        ap length (sym same) ∙ more.1,
      )
