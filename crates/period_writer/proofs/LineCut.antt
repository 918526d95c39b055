-- The line is cut in the silence at its end.
use Rattle.std.proofs.Common.{◌≡◌, ◌≤◌, ◌<◌, ◌+◌, ◌-◌, ◌⊎◌, inl, inr, ℕ, min, max, Bool, true, false, List, [], ◌∷◌, ◌++◌, take, drop, replicate, append_assoc, append-nil, refl, sym, ap, subst, ◌∙◌, arith, rules, if◌then◌else◌}
use Rattle.std.specs.Prelude.{nat_le}
use Rattle.std.proofs.lemmas.List.{replicate-append-replicate}
use Rattle.period_writer.specs.declared.course.Span.{Span}
use Rattle.period_writer.specs.Runs.{silences_to}
use Rattle.period_writer.specs.Lines.{line_from, sound_in, AreMaximal, EndsBy}
use Rattle.period_writer.proofs.LineLaws.{regroup}

-- ---- numbers

-- a silence that is not the last one ends before the sound does
pub inner_ends : (a b end : ℕ) → a + 1 ≤ b → b ≤ max a end → a < end
inner_ends a b end apart ends = grind (arith, apart, ends)

-- a line that ends with sound is cut at its end
pub whole_cut : (at end reach cut : ℕ) → reach ≤ max at end → at ≤ cut → end ≤ cut → cut ≤ reach → reach ≡ cut
whole_cut at end reach cut ends low high within = grind (arith, ends, low, high, within)

-- the cut is the last silence's start, and that silence is the line's end
pub record AtStart (start stop reach cut : ℕ) : Type 0 where
  pub start_is : start ≡ cut
  pub stop_is : stop ≡ reach

pub at_start : (at end start stop reach cut : ℕ) → start ≤ max at end → start < stop → stop ≤ reach → reach ≤ max stop end → at ≤ cut → end ≤ cut → cut ≤ reach → cut ≤ start → AtStart start stop reach cut
at_start at end start stop reach cut one some inside ends low high within before = record {
  start_is = grind (arith, one, low, high, before);
  stop_is = grind (arith, one, some, inside, ends, low, high, before);
}

-- the cut stands in it or at its end
pub cut_within : (end stop reach cut : ℕ) → stop ≤ reach → reach ≤ max stop end → end ≤ cut → cut ≤ reach → ((cut ≤ stop) × (stop ≡ reach)) ⊎ ((stop ≤ cut) × (cut ≡ reach))
cut_within end stop reach cut inside ends high within = by (order cut stop) where
  order : (a b : ℕ) → (a ≤ b) ⊎ (b < a)
  order a b = search (rules, arith)

  by : (cut ≤ stop) ⊎ (stop < cut) → ((cut ≤ stop) × (stop ≡ reach)) ⊎ ((stop ≤ cut) × (cut ≡ reach))
  by (inl before) = by_end (order cut stop) (order end stop) where
    by_end : (cut ≤ stop) ⊎ (stop < cut) → (end ≤ stop) ⊎ (stop < end) → ((cut ≤ stop) × (stop ≡ reach)) ⊎ ((stop ≤ cut) × (cut ≡ reach))
    by_end more (inl under) = inl (before, grind (arith, inside, ends, under))
    by_end more (inr over) = absurd (omega (arith, over, high, before))
  by (inr after) = inr (omega (arith, after), grind (arith, inside, ends, high, within, after))

same_reach : (a b n : ℕ) → a ≡ b → b ≤ n → a ≤ n
same_reach a b n e le = omega (arith, e, le)

min_left : (a b : ℕ) → a ≤ b → min a b ≡ a
min_left a b le = grind (arith, le)

min_right : (a b : ℕ) → b ≤ a → min a b ≡ b
min_right a b le = grind (arith, le)

-- ---- the bytes

cut_at_start : (at : ℕ) (one : Span) (reach cut : ℕ) (pcm : List ℕ) → AtStart one.start one.end reach cut
    → line_from at (one ∷ []) reach pcm ≡ line_from at [] cut pcm ++ replicate (reach - cut) 0
cut_at_start at one reach cut pcm is =
    let stop = is.stop_is in
    let none : reach - one.end ≡ 0 = omega (arith, stop) in
    ap (λ n. take (one.start - at) pcm ++ (replicate (one.end - one.start) 0 ++ take n (drop (one.start - at) pcm))) none
    ∙ ap (λ l. take (one.start - at) pcm ++ l) (append-nil (replicate (one.end - one.start) 0))
    ∙ ap (λ n. take (n - at) pcm ++ replicate (one.end - n) 0) is.start_is
    ∙ ap (λ n. take (cut - at) pcm ++ replicate (n - cut) 0) is.stop_is

cut_inside : (at : ℕ) (one : Span) (reach cut : ℕ) (pcm : List ℕ) → one.start ≤ cut → cut ≤ one.end → one.end ≡ reach
    → line_from at (one ∷ []) reach pcm ≡ line_from at (record { start = one.start; end = min one.end cut } ∷ []) cut pcm ++ replicate (reach - cut) 0
cut_inside at one reach cut pcm after before stop =
    let none : reach - one.end ≡ 0 = omega (arith, stop) in
    let none' : cut - cut ≡ 0 = omega arith in
    let whole : one.end - one.start ≡ (cut - one.start) + (reach - cut) = omega (arith, after, before, stop) in
    ap (λ n. take (one.start - at) pcm ++ (replicate (one.end - one.start) 0 ++ take n (drop (one.start - at) pcm))) none
    ∙ ap (λ l. take (one.start - at) pcm ++ l) (append-nil (replicate (one.end - one.start) 0) ∙ ap (λ n. replicate n 0) whole ∙ sym (replicate-append-replicate (cut - one.start) (reach - cut) 0))
    ∙ sym (append_assoc (take (one.start - at) pcm) (replicate (cut - one.start) 0) (replicate (reach - cut) 0))
    ∙ ap (λ l. (take (one.start - at) pcm ++ l) ++ replicate (reach - cut) 0) (sym (append-nil (replicate (cut - one.start) 0)))
    ∙ ap (λ n. (take (one.start - at) pcm ++ (replicate (cut - one.start) 0 ++ take n (drop (one.start - at) pcm))) ++ replicate (reach - cut) 0) (sym none')
    ∙ ap (λ n. (take (one.start - at) pcm ++ (replicate (n - one.start) 0 ++ take (cut - n) (drop (one.start - at) pcm))) ++ replicate (reach - cut) 0) (sym (min_right one.end cut before))

cut_after : (at : ℕ) (one : Span) (reach cut : ℕ) (pcm : List ℕ) → one.end ≤ cut → cut ≡ reach
    → line_from at (one ∷ []) reach pcm ≡ line_from at (record { start = one.start; end = min one.end cut } ∷ []) cut pcm ++ replicate (reach - cut) 0
cut_after at one reach cut pcm after same =
    let none : reach - cut ≡ 0 = omega (arith, same) in
    ap (λ n. line_from at (one ∷ []) n pcm) (sym same)
    ∙ sym (append-nil (line_from at (one ∷ []) cut pcm))
    ∙ ap (λ n. line_from at (one ∷ []) cut pcm ++ replicate n 0) (sym none)
    ∙ ap (λ n. (take (one.start - at) pcm ++ (replicate (n - one.start) 0 ++ take (cut - n) (drop (one.start - at) pcm))) ++ replicate (reach - cut) 0) (sym (min_left one.end cut after))

-- what is cut off is silence
pub line_cut : (low at end : ℕ) (silences : List Span) (reach cut : ℕ) (pcm : List ℕ) → AreMaximal low silences reach → EndsBy end at silences reach → at ≤ cut → end ≤ cut → cut ≤ reach
    → line_from at silences reach pcm ≡ line_from at (silences_to cut silences) cut pcm ++ replicate (reach - cut) 0
line_cut low at end [] reach cut pcm laid ends before high within =
    let same = whole_cut at end reach cut ends before high within in
    let none : reach - cut ≡ 0 = omega (arith, same) in
    ap (λ n. take (n - at) pcm) same ∙ sym (append-nil (take (cut - at) pcm)) ∙ ap (λ n. take (cut - at) pcm ++ replicate n 0) (sym none)
line_cut low at end (one ∷ []) reach cut pcm laid ends before high within = by_test (nat_le cut one.start) refl where
  inside : one.end ≤ reach
  inside = let last = laid.2 in omega (arith, last)

  by_test : (test : Bool) → nat_le cut one.start ≡ test
      → line_from at (one ∷ []) reach pcm ≡ line_from at (if test then [] else record { start = one.start; end = min one.end cut } ∷ []) cut pcm ++ replicate (reach - cut) 0
  by_test true e = cut_at_start at one reach cut pcm (at_start at end one.start one.end reach cut ends.0 laid.1 inside ends.1 before high within (search (rules, e)))
  by_test false e = by (cut_within end one.end reach cut inside ends.1 high within) where
    later : one.start ≤ cut
    later = let past : one.start < cut = search (rules, e) in omega (arith, past)

    by : ((cut ≤ one.end) × (one.end ≡ reach)) ⊎ ((one.end ≤ cut) × (cut ≡ reach))
        → line_from at (one ∷ []) reach pcm ≡ line_from at (record { start = one.start; end = min one.end cut } ∷ []) cut pcm ++ replicate (reach - cut) 0
    by (inl (under, stop)) = cut_inside at one reach cut pcm later under stop
    by (inr (over, same)) = cut_after at one reach cut pcm over same
line_cut low at end (one ∷ other ∷ more) reach cut pcm laid ends before high within =
    let short = inner_ends one.end other.start end laid.2.0 ends.1.0 in
    let ih = line_cut (one.end + 1) one.end end (other ∷ more) reach cut (drop (one.start - at) pcm) laid.2 ends.1 (omega (arith, short, high)) high within in
    ap (λ l. take (one.start - at) pcm ++ (replicate (one.end - one.start) 0 ++ l)) ih
    ∙ regroup (take (one.start - at) pcm) (replicate (one.end - one.start) 0) (line_from one.end (silences_to cut (other ∷ more)) cut (drop (one.start - at) pcm)) (replicate (reach - cut) 0)

-- ---- the silences

pub maximal_cut : (low at end : ℕ) (silences : List Span) (reach cut : ℕ) → AreMaximal low silences reach → EndsBy end at silences reach → low ≤ cut + 1 → at ≤ cut → end ≤ cut → cut ≤ reach → AreMaximal low (silences_to cut silences) cut
maximal_cut low at end [] reach cut laid ends first before high within = first
maximal_cut low at end (one ∷ []) reach cut laid ends first before high within = by_test (nat_le cut one.start) refl where
  by_test : (test : Bool) → nat_le cut one.start ≡ test → AreMaximal low (if test then [] else record { start = one.start; end = min one.end cut } ∷ []) cut
  by_test true e = first
  by_test false e = let later : one.start < cut = search (rules, e) in (laid.0, least later laid.1, most one.end cut) where
    least : one.start < cut → one.start < one.end → one.start < min one.end cut
    least a b = grind (arith, a, b)

    most : (a b : ℕ) → min a b + 1 ≤ b + 1
    most a b = grind arith
maximal_cut low at end (one ∷ other ∷ more) reach cut laid ends first before high within =
    let short = inner_ends one.end other.start end laid.2.0 ends.1.0 in
    (laid.0, laid.1, maximal_cut (one.end + 1) one.end end (other ∷ more) reach cut laid.2 ends.1 (omega (arith, short, high)) (omega (arith, short, high)) high within)

pub sound_in_cut : (low at end : ℕ) (silences : List Span) (reach cut : ℕ) → AreMaximal low silences reach → EndsBy end at silences reach → at ≤ cut → end ≤ cut → cut ≤ reach
    → sound_in at (silences_to cut silences) cut ≡ sound_in at silences reach
sound_in_cut low at end [] reach cut laid ends before high within = let same = whole_cut at end reach cut ends before high within in omega (arith, same)
sound_in_cut low at end (one ∷ []) reach cut laid ends before high within = by_test (nat_le cut one.start) refl where
  inside : one.end ≤ reach
  inside = let last = laid.2 in omega (arith, last)

  by_test : (test : Bool) → nat_le cut one.start ≡ test → sound_in at (if test then [] else record { start = one.start; end = min one.end cut } ∷ []) cut ≡ (one.start - at) + (reach - one.end)
  by_test true e =
      let is = at_start at end one.start one.end reach cut ends.0 laid.1 inside ends.1 before high within (search (rules, e)) in
      let start = is.start_is in
      let stop = is.stop_is in
      omega (arith, start, stop)
  by_test false e = by (cut_within end one.end reach cut inside ends.1 high within) where
    by : ((cut ≤ one.end) × (one.end ≡ reach)) ⊎ ((one.end ≤ cut) × (cut ≡ reach)) → (one.start - at) + (cut - min one.end cut) ≡ (one.start - at) + (reach - one.end)
    by (inl (under, stop)) = let least = min_right one.end cut under in omega (arith, least, stop)
    by (inr (over, same)) = let least = min_left one.end cut over in omega (arith, least, same)
sound_in_cut low at end (one ∷ other ∷ more) reach cut laid ends before high within =
    let short = inner_ends one.end other.start end laid.2.0 ends.1.0 in
    ap (λ n. (one.start - at) + n) (sound_in_cut (one.end + 1) one.end end (other ∷ more) reach cut laid.2 ends.1 (omega (arith, short, high)) high within)

pub ends_cut : (low at end : ℕ) (silences : List Span) (reach cut : ℕ) → AreMaximal low silences reach → EndsBy end at silences reach → at ≤ cut → end ≤ cut → cut ≤ reach → EndsBy end at (silences_to cut silences) cut
ends_cut low at end [] reach cut laid ends before high within = let same = whole_cut at end reach cut ends before high within in subst (λ n. n ≤ max at end) same ends
ends_cut low at end (one ∷ []) reach cut laid ends before high within = by_test (nat_le cut one.start) refl where
  inside : one.end ≤ reach
  inside = let last = laid.2 in omega (arith, last)

  by_test : (test : Bool) → nat_le cut one.start ≡ test → EndsBy end at (if test then [] else record { start = one.start; end = min one.end cut } ∷ []) cut
  by_test true e =
      let is = at_start at end one.start one.end reach cut ends.0 laid.1 inside ends.1 before high within (search (rules, e)) in
      subst (λ n. n ≤ max at end) is.start_is ends.0
  by_test false e = (ends.0, by (cut_within end one.end reach cut inside ends.1 high within)) where
    by : ((cut ≤ one.end) × (one.end ≡ reach)) ⊎ ((one.end ≤ cut) × (cut ≡ reach)) → cut ≤ max (min one.end cut) end
    by (inl (under, stop)) = grind (arith, under)
    by (inr (over, same)) = let last = ends.1 in let least = min_left one.end cut over in rw least (same_reach cut reach (max one.end end) same last)
ends_cut low at end (one ∷ other ∷ more) reach cut laid ends before high within =
    let short = inner_ends one.end other.start end laid.2.0 ends.1.0 in
    (ends.0, ends_cut (one.end + 1) one.end end (other ∷ more) reach cut laid.2 ends.1 (omega (arith, short, high)) high within)
