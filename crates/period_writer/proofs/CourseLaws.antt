-- What is kept of the course of runs.
use Rattle.std.proofs.Common.{◌≡◌, ◌≤◌, ◌<◌, ◌+◌, ◌-◌, ◌*◌, ◌/◌, ◌^◌, ◌==◌, ◌∙◌, min, ℕ, Bool, true, false, refl, ap, subst, sym, arith, rules, if◌then◌else◌}
use Rattle.std.proofs.Math.Nat.{mul-le-mul_left, zero-div}
use Rattle.std.specs.Prelude.{nat_lt}
use Rattle.std.proofs.lemmas.Nat.{div_below, div-mul-add}
use Rattle.period_writer.specs.declared.course.Course.{Course}
use Rattle.period_writer.specs.declared.course.Ran.{Ran}
use Rattle.period_writer.specs.Courses.{IsCourse}
use Rattle.period_writer.specs.Rings.{period_bytes, ring_bytes}
use Rattle.period_writer.specs.Places.{touched}
use Rattle.period_writer.proofs.LineSteps.{div_gt}
use Rattle.period_writer.proofs.RingPlaces.{div_up}

sound_ends : (last start sound reach : ℕ) → last ≤ start → start + sound ≤ reach → (if sound == 0 then last else start + sound) ≤ reach
sound_ends last start sound reach high fits = by_test (sound == 0) where
  by_test : (test : Bool) → (if test then last else start + sound) ≤ reach
  by_test true = omega (arith, high, fits)
  by_test false = fits

used_by : (used last start sound : ℕ) → used ≤ last → last ≤ start → used + sound ≤ (if sound == 0 then last else start + sound)
used_by used last start sound few high = by_test (sound == 0) refl where
  by_test : (test : Bool) → (sound == 0) ≡ test → used + sound ≤ (if test then last else start + sound)
  by_test true e = let none : sound ≡ 0 = search (rules, e) in omega (arith, none, few)
  by_test false e = omega (arith, few, high)

pub course_next : (ring runs : ℕ) (course : Course) (at from reach start sound : ℕ) (ran : Ran) → IsCourse ring runs course → at ≤ course.at + ring → reach ≡ at + ring → course.sound_end ≤ start → start + sound ≤ reach
    → IsCourse ring (runs + 1) (record { started = true; at = at; from = from; reach = reach; sure = reach; used = course.used + sound; sound_end = if sound == 0 then course.sound_end else start + sound; ran = ran })
course_next ring runs course at from reach start sound ran is soon reaches high fits =
    let bounded = is.bounded in
    let wide : ring * (runs + 1) ≡ ring * runs + ring = omega arith in
    record {
      bounded = omega (arith, bounded, soon, wide);
      reach = reaches;
      fresh = λ e. cc;
      used = used_by course.used course.sound_end start sound is.used high;
      sound_end = sound_ends course.sound_end start sound reach high fits;
      sure = omega arith;
    }

-- positions stay small
pub position_small : (ring runs records at : ℕ) → ring < 2 ^ 22 → runs ≤ records → records < 2 ^ 32 → at ≤ ring * runs → at < 2 ^ 54
position_small ring runs records at few within most bounded =
    let wide : ring * runs ≤ ring * 4294967296 = mul-le-mul_left ring (omega (arith, within, most)) in
    omega (arith, wide, few, bounded)

pub ring_small : (periods period : ℕ) → periods ≤ 32 → period ≤ 128 → ring_bytes periods period < 2 ^ 22
ring_small periods period few few' =
    let wide : period_bytes period * periods ≤ period_bytes period * 32 = mul-le-mul_left (period_bytes period) few in
    omega (arith, wide, few')

pub ring_some : (periods period : ℕ) → 2 ≤ periods → 1 ≤ period → 1 ≤ ring_bytes periods period
ring_some periods period some some' =
    let wide : period_bytes period * 2 ≤ period_bytes period * periods = mul-le-mul_left (period_bytes period) some in
    omega (arith, wide, some')

-- a part of at most a ring touches at most one period more than the ring has
touched_few : (b k from to : ℕ) → 1 ≤ b → to - from ≤ b * k → touched b from to ≤ k + 1
touched_few b k from to some within = by_test (nat_lt from to) refl where
  by_test : (test : Bool) → nat_lt from to ≡ test → (if test then (to - 1) / b + 1 - from / b else 0) ≤ k + 1
  by_test true e =
      let ascends : from < to = search (rules, e) in
      let first = div_gt b from some in
      let up : to - 1 < (from / b + k + 1) * b = omega (arith, first, within, ascends) in
      let last = div_below (to - 1) b (from / b + k + 1) some up in
      omega (arith, last)
  by_test false e = omega arith

pub touched_in_ring : (periods period from to : ℕ) → 1 ≤ period → to - from ≤ ring_bytes periods period → touched (period_bytes period) from to ≤ periods + 1
touched_in_ring periods period from to some within = touched_few (period_bytes period) periods from to (omega (arith, some)) within

touched_less : (b from to to' : ℕ) → 1 ≤ b → to ≤ to' → touched b from to ≤ touched b from to'
touched_less b from to to' some le = by (nat_lt from to) refl where
  by : (one : Bool) → nat_lt from to ≡ one → (if one then (to - 1) / b + 1 - from / b else 0) ≤ (if nat_lt from to' then (to' - 1) / b + 1 - from / b else 0)
  by true e =
      let first : from < to = search (rules, e) in
      let all : nat_lt from to' ≡ true = search (rules, first, le) in
      let up = div_up b (to - 1) (to' - 1) some (omega (arith, le)) in
      rw all (omega (arith, up))
  by false e = omega arith

-- two rows of a part that is cut in two touch one more
touched_cut : (b from mid to : ℕ) → 1 ≤ b → from ≤ mid → mid ≤ to → touched b from mid + touched b mid to ≤ touched b from to + 1
touched_cut b from mid to some low high = by (nat_lt from mid) (nat_lt mid to) refl refl where
  up : (m n : ℕ) → m ≤ n → m / b ≤ n / b
  up m n le = div_up b m n some le

  by : (one other : Bool) → nat_lt from mid ≡ one → nat_lt mid to ≡ other
      → (if one then (mid - 1) / b + 1 - from / b else 0) + (if other then (to - 1) / b + 1 - mid / b else 0) ≤ (if nat_lt from to then (to - 1) / b + 1 - from / b else 0) + 1
  by true true e f =
      let first : from < mid = search (rules, e) in
      let second : mid < to = search (rules, f) in
      let all : nat_lt from to ≡ true = search (rules, first, second) in
      let one = up from (mid - 1) (omega (arith, first)) in
      let two = up (mid - 1) mid (omega arith) in
      let three = up mid (to - 1) (omega (arith, second)) in
      rw all (omega (arith, one, two, three))
  by true false e f =
      let first : from < mid = search (rules, e) in
      let last : to ≤ mid = search (rules, f) in
      let same : mid ≡ to = omega (arith, last, high) in
      let all : nat_lt from to ≡ true = subst (λ (n : ℕ). nat_lt from n ≡ true) same e in
      let ends : (mid - 1) / b ≡ (to - 1) / b = ap (λ (n : ℕ). (n - 1) / b) same in
      rw all (omega (arith, ends))
  by false true e f =
      let none : mid ≤ from = search (rules, e) in
      let same : mid ≡ from = omega (arith, none, low) in
      let all : nat_lt from to ≡ true = subst (λ (n : ℕ). nat_lt n to ≡ true) same f in
      let begins : mid / b ≡ from / b = ap (λ (n : ℕ). n / b) same in
      rw all (omega (arith, begins))
  by false false e f = omega arith

-- so many does a run write
pub touched_by_run : (periods period start sound reach reach' : ℕ) → 1 ≤ period → start ≤ reach → reach ≤ reach' → reach' - start ≤ ring_bytes periods period
    → touched (period_bytes period) start (min reach (start + sound)) + touched (period_bytes period) reach reach' ≤ periods + 2
touched_by_run periods period start sound reach reach' some low high within =
    let all = touched_in_ring periods period start reach' some within in
    let cut = touched_cut (period_bytes period) start reach reach' (omega (arith, some)) low high in
    let less = touched_less (period_bytes period) start (min reach (start + sound)) reach (omega (arith, some)) (least reach (start + sound)) in
    omega (arith, all, cut, less) where
      least : (a n : ℕ) → min a n ≤ a
      least a n = grind arith

-- all of a ring touches as many as it has
touched_whole : (b k : ℕ) → 1 ≤ b → touched b 0 (b * (k + 1)) ≡ k + 1
touched_whole b k some = by_test (nat_lt 0 (b * (k + 1))) refl where
  by_test : (test : Bool) → nat_lt 0 (b * (k + 1)) ≡ test → (if test then (b * (k + 1) - 1) / b + 1 - 0 / b else 0) ≡ k + 1
  by_test true e =
      let wide : b * (k + 1) - 1 ≡ k * b + (b - 1) = omega (arith, some) in
      let last : (b * (k + 1) - 1) / b ≡ k = ap (λ (n : ℕ). n / b) wide ∙ div-mul-add k b (b - 1) (omega (arith, some)) in
      let none : 0 / b ≡ 0 = zero-div b in
      omega (arith, last, none)
  by_test false e =
      let empty : b * (k + 1) ≤ 0 = search (rules, e) in
      let wide : b * (k + 1) ≡ b * k + b = omega arith in
      absurd (omega (arith, some, empty, wide))

-- so does what a first run writes
touched_first : (periods period : ℕ) → 2 ≤ periods → 1 ≤ period → touched (period_bytes period) 0 (ring_bytes periods period) ≡ periods
touched_first periods period some some' =
    let more : (periods - 1) + 1 ≡ periods = omega (arith, some) in
    subst (λ (n : ℕ). touched (period_bytes period) 0 (ring_bytes n period) ≡ n) more (touched_whole (period_bytes period) (periods - 1) (omega (arith, some')))

pub touched_at_first : (periods period runs at reach : ℕ) (course : Course) → 2 ≤ periods → 1 ≤ period → IsCourse (ring_bytes periods period) runs course → course.started ≡ false
    → reach ≡ (if course.started then at else 0) + ring_bytes periods period → touched (period_bytes period) course.reach reach ≡ periods
touched_at_first periods period runs at reach course some some' is fresh reaches =
    let first : course.reach ≡ 0 = is.reach ∙ ap (λ (started : Bool). if started then course.at + ring_bytes periods period else 0) fresh in
    let none : reach ≡ 0 + ring_bytes periods period = reaches ∙ ap (λ (started : Bool). (if started then at else 0) + ring_bytes periods period) fresh in
    let last : reach ≡ ring_bytes periods period = omega (arith, none) in
    subst (λ (from : ℕ). touched (period_bytes period) from reach ≡ periods) (sym first)
    (subst (λ (to : ℕ). touched (period_bytes period) 0 to ≡ periods) (sym last) (touched_first periods period some some'))

-- over silence a first run writes nothing
pub touched_over_none : (b start sound reach : ℕ) → reach ≡ 0 → touched b start (min reach (start + sound)) ≡ 0
touched_over_none b start sound reach none = by_test (nat_lt start (min reach (start + sound))) refl where
  least : (a n s : ℕ) → a ≡ 0 → min a n ≤ s
  least a n s e = grind (arith, e)

  by_test : (test : Bool) → nat_lt start (min reach (start + sound)) ≡ test → (if test then (min reach (start + sound) - 1) / b + 1 - start / b else 0) ≡ 0
  by_test true e = let above : start < min reach (start + sound) = search (rules, e) in let under = least reach (start + sound) start none in absurd (omega (arith, above, under))
  by_test false e = refl

pub none_over : {ring : ℕ} (period start sound runs : ℕ) (course : Course) → IsCourse ring runs course → course.started ≡ false → touched (period_bytes period) start (min course.reach (start + sound)) ≡ 0
none_over {ring} period start sound runs course is fresh =
    touched_over_none (period_bytes period) start sound course.reach (is.reach ∙ ap (λ (started : Bool). if started then course.at + ring else 0) fresh)
