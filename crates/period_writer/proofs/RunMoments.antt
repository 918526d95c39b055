-- A later run that may take silence back, access by access: the ring is kept, and the device owns what it was left.
use Rattle.std.proofs.Common.{◌≡◌, ◌≤◌, ◌<◌, ◌+◌, ◌-◌, ◌*◌, ◌%◌, ◌⊎◌, inl, inr, ℕ, zero, suc, Bool, true, false, List, [], ◌∷◌, ◌++◌, length, take, drop, length-drop, refl, sym, ap, subst, ◌∙◌, arith, rules, tests, if◌then◌else◌}
use Rattle.std.specs.Prelude.{slice_index, slice_range, nat_le, min, max}
use Rattle.std.proofs.lemmas.List.{get_or-take, get_or-drop, length_push}
use Rattle.std.proofs.Math.Nat.{mod-lt, mul-le-mul_left}
use Rattle.world_steps.specs.declared.Step.{Step}
use Rattle.stream_format.specs.Cadence.{block_bytes, most_bytes}
use Rattle.stream_format.specs.Words.{format_word}
use Rattle.hda_world.specs.Worlds.{World}
use Rattle.hda_world.specs.Steps.{after_step}
use Rattle.hda_world.specs.Events.{Event, Stepped, DmaWrite, happens, IsHonest}
use Rattle.hda_world.specs.Kept.{Kept}
use Rattle.hda_world.proofs.Callers.{kept_both, kept_step, Lead, lead_both, lead_from, by_moves}
use Rattle.period_writer.specs.Places.{place_in, line_writes}
use Rattle.period_writer.specs.Standing.{Ring, Extent, limit_in, Stands, Paced, bytes_in, size_of, extent_of}
use Rattle.period_writer.specs.Owning.{Owns}
use Rattle.period_writer.proofs.RingKept.{stands_kept}
use Rattle.period_writer.proofs.Paces.{paced_kept}
use Rattle.period_writer.proofs.RingWrites.{IsPieceOf, piece_kept, piece_behind, piece_place}
use Rattle.period_writer.proofs.RunTimes.{position_behind, position_there, position_later, position_soon, fifo_below, some_fifo, within_reach, Passed, passed_kept}
use Rattle.period_writer.specs.Rings.{ahead_of, blocks_up}
use Rattle.period_writer.specs.Runs.{RunFacts, Tally, Measures, run_at, run_reach, run_turn, run_cut, run_start, run_sound, run_sure, takes_back, position_from}
use Rattle.period_writer.specs.Courses.{IsCourse}
use Rattle.period_writer.specs.Owning.{IsWritten}
use Rattle.period_writer.specs.Lines.{line_of}
use Rattle.period_writer.specs.Playing.{run_bytes}
use Rattle.period_writer.proofs.LineRuns.{start_low, run_longer, run_ends}
use Rattle.period_writer.proofs.LineWritten as bytes
use Rattle.period_writer.specs.Runs.{measures}
use Rattle.period_writer.specs.Standing.{slack_in}
use Rattle.period_writer.specs.Playing.{run_writes}
use Rattle.period_writer.specs.Owning.{Allowed, WritesAllowed, IsOwned, GoesOn}
use Rattle.period_writer.proofs.RowsWritten.{writes_are}
use Rattle.period_writer.proofs.RingPieces.{IsPart, part_of, piece_over, row_led}
use Rattle.period_writer.proofs.RingExtents.{with_extent}

-- ---- from what stands to what is owned

pub owns_of : (ring : Ring) (line line' : List ℕ) (from upto sure : ℕ) (world : World) → ((at : ℕ) → at < sure → slice_index line' at ≡ slice_index line at)
    → Stands ring (extent_of line' from upto sure) world → Owns ring line sure world
owns_of ring line line' from upto sure world same stands = record {
  runs = stands.set.runs;
  no_error = stands.set.no_error;
  fetched = λ at below under. stands.fetched at below under ∙ same at under;
  ahead = λ at later under.
      let behind = stands.behind in
      let held = stands.fifo.behind in
      let ordered = stands.ordered in
      stands.standing at (omega (arith, behind, held, later)) (omega (arith, ordered, under)) ∙ same at under;
}

-- ---- numbers

blocks_up_more : (block bytes : ℕ) → 1 ≤ block → bytes ≤ blocks_up block bytes
blocks_up_more block bytes some = let small = mod-lt (bytes + (block - 1)) some in omega (arith, small, some)

-- within the slack the link and the FIFO together are not past the turn place
pub within_turn : (ring : Ring) (at left frames since : ℕ) → 1 ≤ block_bytes ring.geometry.format → since ≤ frames → frames ≤ since + slack_in ring
    → left ≤ at + most_bytes ring.geometry.format * (frames - since) → left + ring.geometry.fifo ≤ at + ahead_of ring.geometry.periods ring.geometry.period ring.geometry.fifo ring.geometry.format
within_turn ring at left frames since some before within soon =
    let few : most_bytes ring.geometry.format * (frames - since) ≤ most_bytes ring.geometry.format * slack_in ring =
    mul-le-mul_left (most_bytes ring.geometry.format) (let within = within in omega (arith, within)) in
    let swap : most_bytes ring.geometry.format * slack_in ring ≡ slack_in ring * most_bytes ring.geometry.format = omega arith in
    let up = blocks_up_more (block_bytes ring.geometry.format) ring.geometry.fifo some in
    sum at left ring.geometry.fifo (most_bytes ring.geometry.format * (frames - since)) (most_bytes ring.geometry.format * slack_in ring) (slack_in ring * most_bytes ring.geometry.format) (blocks_up (block_bytes ring.geometry.format) ring.geometry.fifo)
    soon few swap up where
      sum : (at left fifo more most other up : ℕ) → left ≤ at + more → more ≤ most → most ≡ other → fifo ≤ up → left + fifo ≤ at + (up + other)
      sum at left fifo more most other up a b c d = omega (arith, a, b, c, d)

-- what is past a beginning reads as 0
quiet_take : (n : ℕ) (xs : List ℕ) (at : ℕ) → n ≤ at → slice_index (take n xs) at ≡ 0
quiet_take zero xs at le = refl
quiet_take (suc n) [] at le = refl
quiet_take (suc n) (x ∷ xs) zero le = absurd (omega (arith, le))
quiet_take (suc n) (x ∷ xs) (suc at) le = quiet_take n xs at (omega (arith, le))

-- steps don't turn the count of frames back
pub frames_step : (ring : Ring) (world : World) (step : Step) → world.registers.output.format ≡ format_word ring.geometry.format → world.frames ≤ (after_step step world).frames
frames_step ring world step is =
    (kept_step (Paced ring false (record { at = 0; since = world.frames })) (paced_kept ring false _) step world (record { format_is = is; before = omega arith; soon = λ never. cc })).before

-- nor what was fetched
abbrev Fetches : (number : ℕ) → World → Type 0
Fetches number world = number ≤ length world.output.entered

one_more : (entered : List ℕ) (byte number : ℕ) → number ≤ length entered → number ≤ length (entered ++ byte ∷ [])
one_more entered byte number le = let long = length_push entered byte in omega (arith, long, le)

fetches_kept : (number : ℕ) → Kept (Fetches number)
fetches_kept number = record {
  codecs = record {
    hands = λ world holds can free. holds;
    sends = λ world address item rest holds out room are. holds;
    loses = λ world address holds out. holds;
    plugs = λ world address nid present holds. holds;
  };
  responds = λ world response rest holds can are. holds;
  bytes = record {
    comes = λ world holds can room good is. one_more world.output.entered _ number holds;
    ends = λ world holds can room good is. one_more world.output.entered _ number holds;
    breaks = λ world holds can room bad. holds;
    refuses = λ world holds must. holds;
  };
  input = by_moves (Fetches number) (λ world change holds moves. holds);
  passes = λ world holds out still. holds;
  frames = record {
    gaps = λ world holds can none. holds;
    sends = λ world holds can some enough. holds;
    misses = λ world holds can short. holds;
    stops = λ world holds must. holds;
  };
}

fetches_step : (world : World) (step : Step) → length world.output.entered ≤ length (after_step step world).output.entered
fetches_step world step = kept_step (Fetches (length world.output.entered)) (fetches_kept (length world.output.entered)) step world (omega arith)

pub goes_step : (ring : Ring) (world : World) (step : Step) → world.registers.output.format ≡ format_word ring.geometry.format → GoesOn world (Stepped step)
goes_step ring world step is = record { frames = frames_step ring world step is; fetched = fetches_step world step }

-- the ring holds another line that is the same so far
pub relined : (ring : Ring) (line line' : List ℕ) (from from' upto sure sure' : ℕ) (world : World) → ((at : ℕ) → at < upto → slice_index line' at ≡ slice_index line at)
    → from ≤ from' → from' ≤ world.output.left → sure' ≤ sure → Stands ring (extent_of line from upto sure) world → Stands ring (extent_of line' from' upto sure') world
relined ring line line' from from' upto sure sure' world same later behind less stands =
    let ordered = stands.ordered in
    with_extent ring (extent_of line from upto sure) (extent_of line' from' upto sure') world behind (omega (arith, ordered, less))
    (λ at low high. stands.standing at (omega (arith, later, low)) high ∙ sym (same at high))
    (λ at below under. stands.fetched at below (omega (arith, under, less)) ∙ sym (same at (omega (arith, under, less, ordered))))
    stands

module _ (ring : Ring) (pcm : List ℕ) (runs : ℕ) (tally : Tally) (facts : RunFacts) (some_block : 1 ≤ block_bytes ring.geometry.format) (is : IsCourse (size_of ring) runs tally.course) (started : tally.course.started ≡ true)
    (written : IsWritten pcm tally) (enough : run_sound (measures ring.geometry) tally.course facts ≤ length (drop tally.course.used pcm)) (since : ℕ) (clock_from : tally.course.from ≡ 500 * since) where
  abbrev pub m : Measures
  m = measures ring.geometry

  abbrev pub limit : ℕ
  limit = limit_in ring

  abbrev pub at' : ℕ
  at' = run_at m tally.course facts

  abbrev pub reach : ℕ
  reach = tally.course.reach

  abbrev pub reach' : ℕ
  reach' = run_reach m tally.course facts

  abbrev pub turn : ℕ
  turn = run_turn m tally.course facts

  abbrev pub start : ℕ
  start = run_start m tally.course facts

  abbrev pub sound : ℕ
  sound = run_sound m tally.course facts

  abbrev pub sure : ℕ
  sure = run_sure m tally.course facts

  abbrev pub over : ℕ
  over = min reach (start + sound)

  abbrev pub line : List ℕ
  line = line_of tally pcm

  abbrev pub next : Tally
  next = bytes.next_tally m runs tally facts pcm is written enough

  abbrev pub line' : List ℕ
  line' = line_of next pcm

  abbrev pub gained : List ℕ
  gained = run_bytes m tally.course facts (drop tally.course.used pcm)

  abbrev pub allowed : Allowed
  allowed = record { from = tally.course.at; to = at'; start = start; reach = reach }

  abbrev pub Moment : World → Event → Type 0
  Moment = IsOwned ring line sure tally.course.from allowed

  -- ---- places

  pub reach_is : reach ≡ tally.course.at + size_of ring
  reach_is = is.reach ∙ by tally.course.started started where
    by : (b : Bool) → b ≡ true → (if b then tally.course.at + size_of ring else 0) ≡ tally.course.at + size_of ring
    by true e = refl
    by false e = cc

  at_is : at' ≡ position_from (size_of ring) tally.course.at facts.lpib
  at_is = by tally.course.started started where
    by : (b : Bool) → b ≡ true → (if b then position_from (size_of ring) tally.course.at facts.lpib else 0) ≡ position_from (size_of ring) tally.course.at facts.lpib
    by true e = refl
    by false e = cc

  some_size : 1 ≤ size_of ring
  some_size = let below = fifo_below ring.geometry in omega (arith, below)

  later : tally.course.at ≤ at'
  later = subst (λ (n : ℕ). tally.course.at ≤ n) (sym at_is) (position_later (size_of ring) tally.course.at facts.lpib)

  soon : at' < tally.course.at + size_of ring
  soon = subst (λ (n : ℕ). n < tally.course.at + size_of ring) (sym at_is) (position_soon (size_of ring) tally.course.at facts.lpib some_size)

  low : start ≤ reach
  low = start_low m tally.course facts

  pub ascends : reach ≤ reach'
  ascends = run_longer m runs tally.course facts is

  -- what may be lost is past the turn place, and what is taken back is past that
  pub sure_low : sure ≤ start
  sure_low = by (takes_back m tally.course facts) where
    least : (r t e : ℕ) → min r t ≤ min r (max t e)
    least r t e = grind arith

    by : (back : Bool) → (if back then min reach turn else reach) ≤ (if back then run_cut m tally.course facts else reach)
    by true = least reach turn tally.course.sound_end
    by false = omega arith

  start_after : at' ≤ start
  start_after = by (takes_back m tally.course facts) where
    least : (a r n e : ℕ) → a ≤ r → a ≤ min r (max (a + n) e)
    least a r n e le = grind (arith, le)

    by : (back : Bool) → at' ≤ (if back then run_cut m tally.course facts else reach)
    by true = let soon = soon in let is = reach_is in least at' reach (ahead_of ring.geometry.periods ring.geometry.period ring.geometry.fifo ring.geometry.format) tally.course.sound_end (omega (arith, soon, is))
    by false = let soon = soon in let is = reach_is in omega (arith, soon, is)

  pub sure_under : sure ≤ reach
  sure_under = let one = sure_low in let other = low in omega (arith, one, other)

  same_line : (at : ℕ) → at < start → slice_index line' at ≡ slice_index line at
  same_line at below = bytes.line_same m runs tally facts pcm is written enough at below

  pub same_sure : (at : ℕ) → at < sure → slice_index line' at ≡ slice_index line at
  same_sure at below = let low = sure_low in same_line at (omega (arith, below, low))

  -- ---- the line while sound is written over silence: its beginning, and silence after it
  abbrev pub mixed : ℕ → List ℕ
  mixed k = take (max start k) line'

  mixed_low : (k at : ℕ) → at < max start k → slice_index (mixed k) at ≡ slice_index line' at
  mixed_low k at below = get_or-take (max start k) line' at 0 below

  mixed_high : (k at : ℕ) → max start k ≤ at → slice_index (mixed k) at ≡ 0
  mixed_high k at past = quiet_take (max start k) line' at past

  most_left : (a b : ℕ) → a ≤ max a b
  most_left a b = grind arith

  order : (a b : ℕ) → (a < b) ⊎ (b ≤ a)
  order a b = search (rules, arith)

  mixed_sure : (k at : ℕ) → at < sure → slice_index (mixed k) at ≡ slice_index line at
  mixed_sure k at below = let low = sure_low in let up = most_left start k in mixed_low k at (omega (arith, below, low, up)) ∙ same_sure at below

  mixed_first : (at : ℕ) → at < reach → slice_index (mixed start) at ≡ slice_index line at
  mixed_first at below = by (order at start) where
    whole : (a : ℕ) → max a a ≡ a
    whole a = grind arith

    by : (at < start) ⊎ (start ≤ at) → slice_index (mixed start) at ≡ slice_index line at
    by (inl before) = let up = most_left start start in mixed_low start at (omega (arith, before, up)) ∙ same_line at before
    by (inr past) = let is = whole start in mixed_high start at (omega (arith, past, is)) ∙ sym (bytes.old_quiet m runs tally facts pcm is' written enough at past) where
      is' : IsCourse (size_of ring) runs tally.course
      is' = is

  mixed_last : (at : ℕ) → at < reach → slice_index line' at ≡ slice_index (mixed over) at
  mixed_last at below = by (order at (max start over)) where
    past_sound : (s n r a : ℕ) → max s (min r (s + n)) ≤ a → a < r → s + n ≤ a
    past_sound s n r a past below = grind (arith, past, below)

    by : (at < max start over) ⊎ (max start over ≤ at) → slice_index line' at ≡ slice_index (mixed over) at
    by (inl before) = sym (mixed_low over at before)
    by (inr past) = bytes.new_quiet m runs tally facts pcm is written enough at (past_sound start sound reach at past below) ∙ sym (mixed_high over at past)

  -- ---- before the run, and after its first clock

  abbrev pub Before : World → Type 0
  Before world = Stands ring (extent_of line tally.course.at reach reach) world × Paced ring true (record { at = tally.course.at; since = since }) world

  pub before_kept : Kept Before
  before_kept = kept_both _ _ (stands_kept ring _) (paced_kept ring true _)

  abbrev pub Clocked : (frames : ℕ) → World → Type 0
  Clocked frames world = Before world × Paced ring false (record { at = at'; since = frames }) world

  pub clocked_kept : (frames : ℕ) → Kept (Clocked frames)
  clocked_kept frames = kept_both _ _ before_kept (paced_kept ring false _)

  -- ---- after LPIB: whether the run may be on time yet is known

  abbrev pub Found : (frames : ℕ) (known : Bool) → Extent → World → Type 0
  Found frames known extent world =
      (Stands ring extent world × Paced ring true (record { at = tally.course.at; since = since }) world)
      × (Paced ring known (record { at = at'; since = frames }) world × Passed (since + limit) known world)

  pub found_kept : (frames : ℕ) (known : Bool) (extent : Extent) → Kept (Found frames known extent)
  found_kept frames known extent = kept_both _ _ (kept_both _ _ (stands_kept ring _) (paced_kept ring true _)) (kept_both _ _ (paced_kept ring known _) (passed_kept (since + limit) known))

  abbrev pub over_at : ℕ → Extent
  over_at k = extent_of (mixed k) at' reach sure

  abbrev pub upto_at : ℕ → Extent
  upto_at k = extent_of line' at' k sure

  -- while the limit is kept nothing past the reach was fetched
  bounded : (extent : Extent) (world : World) → Stands ring extent world → Paced ring true (record { at = tally.course.at; since = since }) world → 500 * world.frames ≤ tally.course.from + 500 * limit
      → length world.output.entered ≤ reach
  bounded extent world stands paced few =
      let from = clock_from in
      let within : world.frames ≤ since + limit = omega (arith, few, from) in
      let together = within_reach ring.geometry tally.course.at world.output.left world.frames since paced.before within (paced.soon refl) in
      let ahead = stands.fifo.ahead in
      let reach = reach_is in
      omega (arith, together, ahead, reach)

  -- while the slack is kept nothing from the turn place on was fetched
  pub apart : (frames : ℕ) (known : Bool) (extent : Extent) (world : World) → Found frames known extent world → known ≡ true → world.frames ≤ frames + slack_in ring → length world.output.entered ≤ turn
  apart frames known extent world found is_known few =
      let together = within_turn ring at' world.output.left world.frames frames some_block found.1.0.before few (found.1.0.soon is_known) in
      let ahead = found.0.0.fifo.ahead in
      omega (arith, together, ahead)

  pub moment_before : (world : World) (event : Event) → Before world → WritesAllowed ring allowed world event → GoesOn world event → Moment world event
  moment_before world event before allows on =
      record {
        owns = owns_of ring line line tally.course.at reach sure world (λ at below. refl) (relined ring line line tally.course.at tally.course.at reach reach sure world (λ at below. refl) (omega arith) before.0.behind sure_under before.0);
        within = bounded _ world before.0 before.1;
        allows = allows;
        goes_on = on;
      }

  pub moment_before_step : (world : World) (step : Step) → Before world → Moment world (Stepped step)
  moment_before_step world step before = moment_before world (Stepped step) before tt (goes_step ring world step before.1.format_is)

  -- ---- with what holds apart

  -- a moment after LPIB, where the run read its first clock after so many link frames
  pub record IsAfter (frames : ℕ) (known : Bool) (world : World) (event : Event) : Type 0 where
    pub moment : Moment world event
    pub fresh : known ≡ true → world.frames ≤ frames + slack_in ring → length world.output.entered ≤ turn

  pub after_found : (frames : ℕ) (known : Bool) (other : List ℕ) (upto : ℕ) → ((at : ℕ) → at < sure → slice_index other at ≡ slice_index line at)
      → (world : World) (event : Event) → Found frames known (extent_of other at' upto sure) world → WritesAllowed ring allowed world event → GoesOn world event → IsAfter frames known world event
  after_found frames known other upto same world event found allows on = record {
    moment = record { owns = owns_of ring line other at' upto sure world same found.0.0; within = bounded _ world found.0.0 found.0.1; allows = allows; goes_on = on };
    fresh = apart frames known (extent_of other at' upto sure) world found;
  }

  pub after_upto : (frames : ℕ) (known : Bool) (upto : ℕ) (world : World) (event : Event) → Found frames known (extent_of line' at' upto sure) world → WritesAllowed ring allowed world event → GoesOn world event → IsAfter frames known world event
  after_upto frames known upto world event found allows on = after_found frames known line' upto same_sure world event found allows on

  -- at the read of LPIB the link stands there, and nothing from the turn place on was fetched, where the earlier run is not too long ago
  stands_there : (frames : ℕ) (world : World) → Clocked frames world → facts.lpib ≡ world.output.left % size_of ring → world.frames ≤ since + limit → world.output.left ≤ at'
  stands_there frames world clocked reads within =
      let together = within_reach ring.geometry tally.course.at world.output.left world.frames since clocked.0.1.before within (clocked.0.1.soon refl) in
      let some = some_fifo ring.geometry in
      let is_there = position_there (size_of ring) tally.course.at facts.lpib world.output.left some_size clocked.0.0.behind (omega (arith, together, some)) reads in
      let here = at_is in
      omega (arith, is_there, here)

  pub unfetched : (frames : ℕ) (world : World) → Clocked frames world → facts.lpib ≡ world.output.left % size_of ring → world.frames ≤ since + limit → length world.output.entered ≤ turn
  unfetched frames world clocked reads within =
      let there = stands_there frames world clocked reads within in
      let together = within_turn ring at' world.output.left world.frames world.frames some_block (omega arith) (omega arith) (omega (arith, there)) in
      let ahead = clocked.0.0.fifo.ahead in
      omega (arith, together, ahead)

  pub finds : (frames : ℕ) (world : World) → Clocked frames world → facts.lpib ≡ world.output.left % size_of ring → Found frames (nat_le world.frames (since + limit)) (over_at start) world
  finds frames world clocked reads = ((stood, clocked.0.1), (paced, passed)) where
    behind : at' ≤ world.output.left
    behind = subst (λ (n : ℕ). n ≤ world.output.left) (sym at_is) (position_behind (size_of ring) tally.course.at facts.lpib world.output.left some_size clocked.0.0.behind reads)

    stood : Stands ring (over_at start) world
    stood = relined ring line (mixed start) tally.course.at at' reach reach sure world mixed_first later behind sure_under clocked.0.0

    paced : Paced ring (nat_le world.frames (since + limit)) (record { at = at'; since = frames }) world
    paced = record {
      format_is = clocked.1.format_is;
      before = clocked.1.before;
      soon = λ within. let there = stands_there frames world clocked reads (search (rules, tests, within)) in omega (arith, there);
    }

    passed : Passed (since + limit) (nat_le world.frames (since + limit)) world
    passed out = search (rules, tests, out)

  -- ---- the writes

  abbrev Piece : (from to : ℕ) → (written : List ℕ) → (period start end : ℕ) → Event
  Piece from to written period begin end = DmaWrite (place_in (bytes_in ring) ring.periods period begin) (slice_range written (begin - from) (end - from))

  -- over silence
  overs : (frames : ℕ) (known : Bool) → Lead (IsAfter frames known) (Found frames known (over_at start)) (line_writes (bytes_in ring) ring.periods start over gained) (Found frames known (over_at over))
  overs frames known = row_led ring start over up gained (IsAfter frames known) (λ k. Found frames known (over_at k)) (λ k. found_kept frames known (over_at k)) steps_hold writes_hold where
    least : (s n r : ℕ) → s ≤ r → s ≤ min r (s + n)
    least s n r le = grind (arith, le)

    up : start ≤ over
    up = least start sound reach low

    under : over ≤ reach
    under = right reach (start + sound) where
      right : (a b : ℕ) → min a b ≤ a
      right a b = grind arith

    steps_hold : (k : ℕ) (world : World) (step : Step) → Found frames known (over_at k) world → IsAfter frames known world (Stepped step)
    steps_hold k world step found = after_found frames known (mixed k) reach (mixed_sure k) world (Stepped step) found tt (goes_step ring world step found.0.1.format_is)

    long : over - start ≤ length gained
    long =
        let all = bytes.appended_is m runs tally facts pcm is written enough in
        let under = under in
        let ascends = ascends in
        omega (arith, all, under, ascends)

    writes_hold : (period begin end : ℕ) → IsPart ring start over period begin end → (world : World) → Found frames known (over_at begin) world → IsHonest world (Piece start over gained period begin end)
        → IsAfter frames known world (Piece start over gained period begin end) × Found frames known (over_at end) (happens world (Piece start over gained period begin end))
    writes_hold period begin end part world found honest = (
      after_found frames known (mixed begin) reach (mixed_sure begin) world _ found allows (record { frames = omega arith; fetched = omega arith }),
      ((kept, found.0.1), found.1),
    ) where
      most : (a b : ℕ) → a ≤ b → max a b ≡ b
      most a b le = grind (arith, le)

      end_later : start ≤ end
      end_later = let one = part.from_here in let two = part.ascends in omega (arith, one, two)

      begin_is : max start begin ≡ begin
      begin_is = most start begin part.from_here

      end_is : max start end ≡ end
      end_is = most start end end_later

      piece : IsPieceOf ring (mixed end) period begin end (slice_range gained (begin - start) (end - start))
      piece =
          let of_line = part_of ring line' gained start over period begin end part long (λ at low high. bytes.line_new m runs tally facts pcm is written enough at low) in
          record {
            ascends = of_line.ascends;
            begins = of_line.begins;
            ends = of_line.ends;
            number = of_line.number;
            are = λ place within.
                let number = of_line.number in
                let last = end_is in
                of_line.are place within ∙ sym (mixed_low end (begin + place) (omega (arith, number, within, last)));
          }

      before : (at : ℕ) → at < begin → slice_index (mixed end) at ≡ slice_index (mixed begin) at
      before at below =
          let first = begin_is in
          let last = end_is in
          let up = part.ascends in
          mixed_low end at (omega (arith, below, last, up)) ∙ sym (mixed_low begin at (omega (arith, below, first)))

      after : (at : ℕ) → end ≤ at → at < reach → slice_index (mixed end) at ≡ slice_index (mixed begin) at
      after at past below =
          let first = begin_is in
          let last = end_is in
          let up = part.ascends in
          mixed_high end at (omega (arith, past, last)) ∙ sym (mixed_high begin at (omega (arith, past, first, up)))

      kept : Stands ring (over_at end) (happens world (Piece start over gained period begin end))
      kept =
          let at_start = start_after in
          let first = part.from_here in
          let last = part.up_to in
          let under = under in
          let soon = soon in
          let later = later in
          let is = reach_is in
          let safe = sure_low in
          piece_over ring (mixed begin) (mixed end) at' reach sure begin end period _ piece (omega (arith, at_start, first)) (omega (arith, last, under)) (omega (arith, is, later)) before after world (omega (arith, safe, first)) honest found.0.0

      allows : WritesAllowed ring allowed world (Piece start over gained period begin end)
      allows index within = inr (record {
        at = begin + index;
        from_here = let first = part.from_here in omega (arith, first);
        up_to = let number = piece.number in let last = part.up_to in let under = under in omega (arith, number, within, last, under);
        place = sym (piece_place ring (mixed end) period begin end _ piece index within);
      })

  abbrev longer : List ℕ
  longer = drop (reach - start) gained

  -- past the line's end
  uptos : (frames : ℕ) (known : Bool) → Lead (IsAfter frames known) (Found frames known (upto_at reach)) (line_writes (bytes_in ring) ring.periods reach reach' longer) (Found frames known (upto_at reach'))
  uptos frames known = row_led ring reach reach' ascends longer (IsAfter frames known) (λ k. Found frames known (upto_at k)) (λ k. found_kept frames known (upto_at k)) steps_hold writes_hold where
    steps_hold : (k : ℕ) (world : World) (step : Step) → Found frames known (upto_at k) world → IsAfter frames known world (Stepped step)
    steps_hold k world step found = after_found frames known line' k same_sure world (Stepped step) found tt (goes_step ring world step found.0.1.format_is)

    long : reach' - reach ≤ length longer
    long =
        let all = bytes.appended_is m runs tally facts pcm is written enough in
        let cut = length-drop (reach - start) gained in
        let low = low in
        let ascends = ascends in
        omega (arith, all, cut, low, ascends)

    new_at : (at : ℕ) → reach ≤ at → slice_index line' at ≡ slice_index longer (at - reach)
    new_at at past =
        let low = low in
        bytes.line_new m runs tally facts pcm is written enough at (omega (arith, past, low))
        ∙ ap (slice_index gained) (omega (arith, past, low))
        ∙ sym (get_or-drop (reach - start) gained (at - reach) 0)

    writes_hold : (period begin end : ℕ) → IsPart ring reach reach' period begin end → (world : World) → Found frames known (upto_at begin) world → IsHonest world (Piece reach reach' longer period begin end)
        → IsAfter frames known world (Piece reach reach' longer period begin end) × Found frames known (upto_at end) (happens world (Piece reach reach' longer period begin end))
    writes_hold period begin end part world found honest = (
      after_found frames known line' begin same_sure world _ found allows (record { frames = omega arith; fetched = omega arith }),
      ((piece_kept ring line' at' begin sure end period _ world piece end_soon honest found.0.0, found.0.1), found.1),
    ) where
      piece : IsPieceOf ring line' period begin end (slice_range longer (begin - reach) (end - reach))
      piece = part_of ring line' longer reach reach' period begin end part long (λ at low high. new_at at low)

      end_soon : end ≤ at' + size_of ring
      end_soon = part.up_to

      allows : WritesAllowed ring allowed world (Piece reach reach' longer period begin end)
      allows index within =
          let first = part.from_here in
          let is = reach_is in
          inl (piece_behind ring line' tally.course.at at' begin sure end period _ world piece (omega (arith, first, is)) end_soon found.0.0 index within)

  rows_led : (frames : ℕ) (known : Bool) → Lead (IsAfter frames known) (Found frames known (over_at start)) (line_writes (bytes_in ring) ring.periods start over gained ++ line_writes (bytes_in ring) ring.periods reach reach' longer) (Found frames known (upto_at reach'))
  rows_led frames known =
      lead_both (IsAfter frames known) (Found frames known (over_at start)) (Found frames known (over_at over)) (Found frames known (upto_at reach')) (line_writes (bytes_in ring) ring.periods start over gained) (line_writes (bytes_in ring) ring.periods reach reach' longer)
      (overs frames known)
      (lead_from (IsAfter frames known) (Found frames known (over_at over)) (Found frames known (upto_at reach)) (line_writes (bytes_in ring) ring.periods reach reach' longer) (Found frames known (upto_at reach'))
      (λ world found. ((relined ring (mixed over) line' at' at' reach sure sure world mixed_last (omega arith) found.0.0.behind (omega arith) found.0.0, found.0.1), found.1))
      (uptos frames known))

  -- the rows are those that code writes
  rows_are : run_writes (bytes_in ring) ring.periods m tally.course facts (drop tally.course.used pcm) ≡ line_writes (bytes_in ring) ring.periods start over gained ++ line_writes (bytes_in ring) ring.periods reach reach' longer
  rows_are = writes_are (bytes_in ring) ring.periods start sound reach reach' (drop tally.course.used pcm) enough low (run_ends m runs tally.course facts is) ascends

  pub writes_led : (frames : ℕ) (known : Bool) → Lead (IsAfter frames known) (Found frames known (over_at start)) (run_writes (bytes_in ring) ring.periods m tally.course facts (drop tally.course.used pcm)) (Found frames known (upto_at reach'))
  writes_led frames known =
      subst (λ (events : List Event). Lead (IsAfter frames known) (Found frames known (over_at start)) events (Found frames known (upto_at reach'))) (sym rows_are) (rows_led frames known)
