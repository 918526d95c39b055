-- What a run does to the line, byte by byte.
use Rattle.std.proofs.Common.{◌≡◌, ◌≤◌, ◌<◌, ◌+◌, ◌-◌, ◌==◌, ◌⊎◌, inl, inr, ℕ, zero, suc, Bool, true, false, List, [], ◌∷◌, ◌++◌, take, drop, length, replicate, append_assoc, append-nil, refl, sym, ap, subst, ◌∙◌, arith, rules, if◌then◌else◌, length-append}
use Rattle.std.specs.Prelude.{slice_index}
use Rattle.std.proofs.lemmas.List.{length-replicate, length-take-le, get_or_append_left, get_or-append_right, get_or-replicate}
use Rattle.period_writer.specs.Runs.{Measures, RunFacts, Tally, run_reach, run_cut, run_start, run_sound, takes_back, tally_if}
use Rattle.period_writer.specs.Lines.{line_of, sound_and_silence, line_after, filled}
use Rattle.period_writer.specs.Courses.{IsCourse}
use Rattle.period_writer.specs.Owning.{IsWritten}
use Rattle.period_writer.specs.Playing.{run_bytes}
use Rattle.period_writer.proofs.LineRuns.{start_high, start_low, no_back, sound_fits, run_ends, line_kept, old_is, new_is, front}

-- zeros, and what is past a list
pub past_end : (xs : List ℕ) (at : ℕ) → length xs ≤ at → slice_index xs at ≡ 0
past_end [] at past = refl
past_end (x ∷ xs) zero past = absurd (omega (arith, past))
past_end (x ∷ xs) (suc at) past = past_end xs at (omega (arith, past))

pub zeros_at : (n at : ℕ) → slice_index (replicate n 0) at ≡ 0
zeros_at n at = by (order at) where
  order : (a : ℕ) → (a < n) ⊎ (n ≤ a)
  order a = search (rules, arith)

  by : (at < n) ⊎ (n ≤ at) → slice_index (replicate n 0) at ≡ 0
  by (inl within) = get_or-replicate n at 0 0 within
  by (inr past) = past_end (replicate n 0) at (let long = length-replicate {A = ℕ} n 0 in omega (arith, long, past))

pub appended_long : (sound room : ℕ) (pcm : List ℕ) → sound ≤ length pcm → sound ≤ room → length (sound_and_silence sound room pcm) ≡ room
appended_long sound room pcm enough fits =
    let one = length-append (take sound pcm) (replicate (room - sound) 0) in
    let two = length-take-le sound pcm enough in
    let three = length-replicate {A = ℕ} (room - sound) 0 in
    omega (arith, one, two, three, fits)

pub appended_quiet : (sound room at : ℕ) (pcm : List ℕ) → sound ≤ length pcm → sound ≤ at → slice_index (sound_and_silence sound room pcm) at ≡ 0
appended_quiet sound room at pcm enough later =
    get_or-append_right (take sound pcm) (replicate (room - sound) 0) sound at 0 (length-take-le sound pcm enough) later ∙ zeros_at (room - sound) (at - sound)

take_front : (xs ys : List ℕ) (n : ℕ) → length xs ≡ n → take n (xs ++ ys) ≡ xs
take_front [] ys n is = let none : n ≡ 0 = sym is in ap (λ n. take n ys) none
take_front (x ∷ xs) ys zero is = absurd (omega (arith, is))
take_front (x ∷ xs) ys (suc n) is = ap (λ (l : List ℕ). x ∷ l) (take_front xs ys n (omega (arith, is)))

-- ---- a run

module _ (m : Measures) (runs : ℕ) (tally : Tally) (facts : RunFacts) (pcm : List ℕ) (is : IsCourse m.ring runs tally.course) (written : IsWritten pcm tally) where
  -- what stays of the line
  pub front_long : length (front m runs tally facts is written.line pcm) ≡ run_start m tally.course facts
  front_long =
      let cut = run_start m tally.course facts in
      let kept = front m runs tally facts is written.line pcm in
      let all = ap length (old_is m runs tally facts is written.line pcm) in
      let one = length-append kept (replicate (tally.course.reach - cut) 0) in
      let two = length-replicate {A = ℕ} (tally.course.reach - cut) 0 in
      let low = start_low m tally.course facts in
      sum (length (line_of tally pcm)) (length kept) (length (replicate (tally.course.reach - cut) 0)) tally.course.reach cut written.whole (all ∙ one) two low where
        sum : (all old more reach cut : ℕ) → all ≡ reach → all ≡ old + more → more ≡ reach - cut → cut ≤ reach → old ≡ cut
        sum all old more reach cut a b c d = omega (arith, a, b, c, d)

  -- the line is cut and goes on
  pub cut_and_on : line_of (tally_if false m tally facts) pcm ≡ take (run_start m tally.course facts) (line_of tally pcm) ++ run_bytes m tally.course facts (drop tally.course.used pcm)
  cut_and_on =
      let cut = run_start m tally.course facts in
      let kept = front m runs tally facts is written.line pcm in
      new_is m runs tally facts is written.line pcm
      ∙ ap (λ (l : List ℕ). l ++ run_bytes m tally.course facts (drop tally.course.used pcm))
      (sym (ap (take cut) (old_is m runs tally facts is written.line pcm) ∙ take_front kept (replicate (tally.course.reach - cut) 0) cut front_long))

-- ---- a run of which as much sound is there as it writes

module _ (m : Measures) (runs : ℕ) (tally : Tally) (facts : RunFacts) (pcm : List ℕ) (is : IsCourse m.ring runs tally.course) (written : IsWritten pcm tally)
    (enough : run_sound m tally.course facts ≤ length (drop tally.course.used pcm)) where
  abbrev pub next_tally : Tally
  next_tally = tally_if false m tally facts

  abbrev pub rest : List ℕ
  rest = drop tally.course.used pcm

  abbrev pub appended : List ℕ
  appended = run_bytes m tally.course facts rest

  abbrev pub cut : ℕ
  cut = run_start m tally.course facts

  abbrev pub kept : List ℕ
  kept = front m runs tally facts is written.line pcm

  old : line_of tally pcm ≡ kept ++ replicate (tally.course.reach - cut) 0
  old = old_is m runs tally facts is written.line pcm

  new : line_of next_tally pcm ≡ kept ++ appended
  new = new_is m runs tally facts is written.line pcm

  low : cut ≤ tally.course.reach
  low = start_low m tally.course facts

  pub high : tally.course.sound_end ≤ cut
  high = start_high m tally.course facts written.line.inside

  pub kept_long : length kept ≡ cut
  kept_long = front_long m runs tally facts pcm is written

  pub appended_is : length appended ≡ run_reach m tally.course facts - cut
  appended_is = appended_long (run_sound m tally.course facts) (run_reach m tally.course facts - cut) rest enough (sound_fits m runs tally.course facts is)

  -- below the cut it is the old line
  pub line_same : (at : ℕ) → at < cut → slice_index (line_of next_tally pcm) at ≡ slice_index (line_of tally pcm) at
  line_same at below =
      let long = kept_long in
      ap (λ l. slice_index l at) new ∙ get_or_append_left kept appended 0 at (omega (arith, long, below))
      ∙ sym (ap (λ l. slice_index l at) old ∙ get_or_append_left kept (replicate (tally.course.reach - cut) 0) 0 at (omega (arith, long, below)))

  -- from there on it is what was appended
  pub line_new : (at : ℕ) → cut ≤ at → slice_index (line_of next_tally pcm) at ≡ slice_index appended (at - cut)
  line_new at past = ap (λ l. slice_index l at) new ∙ get_or-append_right kept appended cut at 0 kept_long past

  -- and the old line was silent there
  pub old_quiet : (at : ℕ) → cut ≤ at → slice_index (line_of tally pcm) at ≡ 0
  old_quiet at past = let high = high in written.quiet at (omega (arith, high, past))

  -- after the sound the new one is silent
  pub new_quiet : (at : ℕ) → cut + run_sound m tally.course facts ≤ at → slice_index (line_of next_tally pcm) at ≡ 0
  new_quiet at past = line_new at (omega (arith, past)) ∙ appended_quiet (run_sound m tally.course facts) (run_reach m tally.course facts - cut) (at - cut) rest enough (omega (arith, past))

  whole_next : length (line_of next_tally pcm) ≡ run_reach m tally.course facts
  whole_next =
      let one = length-append kept appended in
      let two = ap length new in
      let three = appended_is in
      let four = kept_long in
      let ascends : cut ≤ run_reach m tally.course facts = let ends = run_ends m runs tally.course facts is in omega (arith, ends) in
      sum (length (line_of next_tally pcm)) (length kept) (length appended) cut (run_reach m tally.course facts) (two ∙ one) three four ascends where
        sum : (all old more cut reach' : ℕ) → all ≡ old + more → more ≡ reach' - cut → old ≡ cut → cut ≤ reach' → all ≡ reach'
        sum all old more cut reach' a b c d = omega (arith, a, b, c, d)

  quiet_by : (sound : ℕ) → sound ≡ run_sound m tally.course facts → (at : ℕ) → (if sound == 0 then tally.course.sound_end else cut + sound) ≤ at → slice_index (line_of next_tally pcm) at ≡ 0
  quiet_by sound is_sound at past = by (order at) where
    order : (a : ℕ) → (a < cut) ⊎ (cut ≤ a)
    order a = search (rules, arith)

    before : (test : Bool) → (if test then tally.course.sound_end else cut + sound) ≤ at → at < cut → tally.course.sound_end ≤ at
    before true past below = past
    before false past below = absurd (omega (arith, past, below))

    after : (test : Bool) → (sound == 0) ≡ test → (if test then tally.course.sound_end else cut + sound) ≤ at → cut ≤ at → cut + sound ≤ at
    after true none past above = let no : sound ≡ 0 = search (rules, none) in omega (arith, no, above)
    after false some past above = past

    by : (at < cut) ⊎ (cut ≤ at) → slice_index (line_of next_tally pcm) at ≡ 0
    by (inl below) = line_same at below ∙ written.quiet at (before (sound == 0) past below)
    by (inr above) = new_quiet at (subst (λ (n : ℕ). cut + n ≤ at) is_sound (after (sound == 0) refl past above))

  pub written_next : IsWritten pcm next_tally
  written_next = record {
    line = line_kept m runs tally facts is written.line;
    whole = whole_next;
    quiet = quiet_by (run_sound m tally.course facts) refl;
    sure = omega arith;
  }

  -- ---- the same by the letter

  filled_is : (n : ℕ) (xs : List ℕ) → length xs ≡ cut + n → (rest : List ℕ) → xs ≡ kept ++ rest → n ≡ run_sound m tally.course facts → rest ≡ take n (drop tally.course.used pcm)
      → filled (run_reach m tally.course facts) xs ≡ kept ++ appended
  filled_is n xs long rest are n_is rest_is =
      let gap : run_reach m tally.course facts - length xs ≡ run_reach m tally.course facts - cut - n = omega (arith, long) in
      ap (λ (k : ℕ). xs ++ replicate k 0) gap
      ∙ ap (λ (l : List ℕ). l ++ replicate (run_reach m tally.course facts - cut - n) 0) are
      ∙ append_assoc kept rest (replicate (run_reach m tally.course facts - cut - n) 0)
      ∙ ap (λ (l : List ℕ). kept ++ (l ++ replicate (run_reach m tally.course facts - cut - n) 0)) rest_is
      ∙ ap (λ (k : ℕ). kept ++ (take k (drop tally.course.used pcm) ++ replicate (run_reach m tally.course facts - cut - k) 0)) n_is

  taken_long : length (kept ++ take (run_sound m tally.course facts) rest) ≡ cut + run_sound m tally.course facts
  taken_long =
      let one = length-append kept (take (run_sound m tally.course facts) rest) in
      let two = length-take-le (run_sound m tally.course facts) rest enough in
      let three = kept_long in
      both (length (kept ++ take (run_sound m tally.course facts) rest)) (length kept) (length (take (run_sound m tally.course facts) rest)) cut (run_sound m tally.course facts) one three two where
        both : (all a b c d : ℕ) → all ≡ a + b → a ≡ c → b ≡ d → all ≡ c + d
        both all a b c d e f g = omega (arith, e, f, g)

  pub by_letter : line_of next_tally pcm ≡ line_after (takes_back m tally.course facts) (run_cut m tally.course facts) (run_sound m tally.course facts) (run_reach m tally.course facts) (line_of tally pcm) rest
  by_letter = new ∙ sym (by (takes_back m tally.course facts) refl) where
    cut_line : take cut (line_of tally pcm) ≡ kept
    cut_line = ap (take cut) old ∙ take_front kept (replicate (tally.course.reach - cut) 0) cut kept_long

    with_sound : (line : List ℕ) → line ≡ kept → filled (run_reach m tally.course facts) (line ++ take (run_sound m tally.course facts) rest) ≡ kept ++ appended
    with_sound line same =
        ap (λ (l : List ℕ). filled (run_reach m tally.course facts) (l ++ take (run_sound m tally.course facts) rest)) same
        ∙ filled_is (run_sound m tally.course facts) (kept ++ take (run_sound m tally.course facts) rest) taken_long (take (run_sound m tally.course facts) rest) refl refl refl

    at_end : cut ≡ tally.course.reach → line_of tally pcm ≡ kept
    at_end same = let none : tally.course.reach - cut ≡ 0 = omega (arith, same) in old ∙ ap (λ (k : ℕ). kept ++ replicate k 0) none ∙ append-nil kept

    -- where no sound comes
    longer : cut ≡ tally.course.reach → run_sound m tally.course facts ≡ 0 → filled (run_reach m tally.course facts) (line_of tally pcm) ≡ kept ++ appended
    longer same silent =
        ap (λ (l : List ℕ). filled (run_reach m tally.course facts) l) (at_end same ∙ sym (append-nil kept) ∙ ap (λ (k : ℕ). kept ++ take k rest) (sym silent)) ∙ with_sound kept refl

    starts_at : (back : Bool) → takes_back m tally.course facts ≡ back → cut ≡ (if back then run_cut m tally.course facts else tally.course.reach)
    starts_at back e = ap (λ (b : Bool). if b then run_cut m tally.course facts else tally.course.reach) e

    by_end : (end : Bool) → (run_cut m tally.course facts == length (line_of tally pcm)) ≡ end → takes_back m tally.course facts ≡ false
        → filled (run_reach m tally.course facts) (if end then line_of tally pcm ++ take (run_sound m tally.course facts) rest else line_of tally pcm) ≡ kept ++ appended
    by_end true e back = with_sound (line_of tally pcm) (at_end (starts_at false back))
    by_end false e back = by_cause (no_back m tally.course facts back) where
      differs : run_cut m tally.course facts ≡ tally.course.reach → ⊥
      differs same = let other : run_cut m tally.course facts ≡ length (line_of tally pcm) → ⊥ = search (rules, e) in other (same ∙ sym written.whole)

      by_cause : (run_cut m tally.course facts ≡ tally.course.reach) ⊎ (run_sound m tally.course facts ≡ 0) → filled (run_reach m tally.course facts) (line_of tally pcm) ≡ kept ++ appended
      by_cause (inl same) = absurd (differs same)
      by_cause (inr silent) = longer (starts_at false back) silent

    by : (back : Bool) → takes_back m tally.course facts ≡ back → line_after back (run_cut m tally.course facts) (run_sound m tally.course facts) (run_reach m tally.course facts) (line_of tally pcm) rest ≡ kept ++ appended
    by true e = with_sound (take (run_cut m tally.course facts) (line_of tally pcm)) (ap (λ (n : ℕ). take n (line_of tally pcm)) (sym (starts_at true e)) ∙ cut_line)
    by false e = by_end (run_cut m tally.course facts == length (line_of tally pcm)) refl e

-- before the first run nothing is written
pub written_first : (ring runs : ℕ) (tally : Tally) (pcm : List ℕ) → IsCourse ring runs tally.course → tally.course.started ≡ false → tally.silences ≡ [] → IsWritten pcm tally
written_first ring runs tally pcm is fresh none =
    let reach : tally.course.reach ≡ 0 = is.reach ∙ ap (λ (started : Bool). if started then tally.course.at + ring else 0) fresh in
    let used : tally.course.used ≡ 0 = let most = is.used in let end = is.sound_end in omega (arith, most, end, reach) in
    let empty : line_of tally pcm ≡ [] = rw (none, reach) refl in
    record {
      line = rw none (record { maximal = omega arith; used = rw (used, reach) refl; ended = omega (arith, reach); inside = is.sound_end });
      whole = ap length empty ∙ sym reach;
      quiet = λ at past. ap (λ l. slice_index l at) empty;
      sure = is.sure;
    }
