-- The line grows by what a run writes.
use Rattle.std.proofs.Common.{◌≡◌, ◌≤◌, ◌<◌, ◌+◌, ◌-◌, ◌==◌, ℕ, zero, suc, Bool, true, false, List, [], ◌∷◌, ◌++◌, take, drop, replicate, append_assoc, append-nil, refl, sym, ap, ◌∙◌, arith, rules, if◌then◌else◌}
use Rattle.std.proofs.lemmas.List.{drop-drop, replicate-append-replicate}
use Rattle.period_writer.specs.declared.course.Span.{Span}
use Rattle.period_writer.specs.Runs.{silent_too}
use Rattle.period_writer.specs.Lines.{line_from, sound_in, AreMaximal}

abbrev empty : List ℕ
empty = []

take_empty : (n : ℕ) → empty ≡ take n empty
take_empty zero = refl
take_empty (suc n) = refl

take_add : (m n : ℕ) (xs : List ℕ) → take (m + n) xs ≡ take m xs ++ take n (drop m xs)
take_add zero n xs = ap (λ k. take k xs) (omega arith)
take_add (suc m) n [] = let e : suc m + n ≡ suc (m + n) = omega arith in rw e (take_empty n)
take_add (suc m) n (x ∷ xs) = let e : suc m + n ≡ suc (m + n) = omega arith in rw e (ap (λ (l : List ℕ). x ∷ l) (take_add m n xs))

pub regroup : (a b c d : List ℕ) → a ++ (b ++ (c ++ d)) ≡ (a ++ (b ++ c)) ++ d
regroup a b c d = ap (λ l. a ++ l) (sym (append_assoc b c d)) ∙ sym (append_assoc a (b ++ c) d)

-- silences end in the line
pub maximal_within : (low : ℕ) (silences : List Span) (reach : ℕ) → AreMaximal low silences reach → low ≤ reach + 1
maximal_within low [] reach laid = laid
maximal_within low (one ∷ silences) reach laid =
    let first = laid.0 in
    let some = laid.1 in
    let rest = maximal_within (one.end + 1) silences reach laid.2 in
    omega (arith, first, some, rest)

pub last_within : (one : Span) (silences : List Span) (reach : ℕ) → AreMaximal (one.end + 1) silences reach → one.end ≤ reach
last_within one silences reach laid = let within = maximal_within (one.end + 1) silences reach laid in omega (arith, within)

-- the line gets sound alone
pub sound_more : (low at : ℕ) (silences : List Span) (reach sound : ℕ) (pcm : List ℕ) → AreMaximal low silences reach → at ≤ reach
    → line_from at silences (reach + sound) pcm ≡ line_from at silences reach pcm ++ take sound (drop (sound_in at silences reach) pcm)
sound_more low at [] reach sound pcm laid within =
    let e : reach + sound - at ≡ (reach - at) + sound = omega (arith, within) in
    ap (λ n. take n pcm) e ∙ take_add (reach - at) sound pcm
sound_more low at (one ∷ silences) reach sound pcm laid within =
    let ih = sound_more (one.end + 1) one.end silences reach sound (drop (one.start - at) pcm) laid.2 (last_within one silences reach laid.2) in
    ap (λ l. take (one.start - at) pcm ++ (replicate (one.end - one.start) 0 ++ l)) (ih ∙ ap (λ l. line_from one.end silences reach (drop (one.start - at) pcm) ++ take sound l) (drop-drop (sound_in one.end silences reach) (one.start - at) pcm))
    ∙ regroup (take (one.start - at) pcm) (replicate (one.end - one.start) 0) (line_from one.end silences reach (drop (one.start - at) pcm)) (take sound (drop (sound_in at (one ∷ silences) reach) pcm))

-- the line gets sound, and a silence after it
silence_first : (at reach sound end : ℕ) (pcm : List ℕ) → at ≤ reach
    → line_from at (record { start = reach + sound; end = end } ∷ []) end pcm ≡ take (reach - at) pcm ++ (take sound (drop (reach - at) pcm) ++ replicate (end - (reach + sound)) 0)
silence_first at reach sound end pcm within =
    let e : reach + sound - at ≡ (reach - at) + sound = omega (arith, within) in
    let none : end - end ≡ 0 = omega arith in
    ap (λ n. take (reach + sound - at) pcm ++ (replicate (end - (reach + sound)) 0 ++ take n (drop (reach + sound - at) pcm))) none
    ∙ ap (λ l. take (reach + sound - at) pcm ++ l) (append-nil (replicate (end - (reach + sound)) 0))
    ∙ ap (λ l. l ++ replicate (end - (reach + sound)) 0) (ap (λ n. take n pcm) e ∙ take_add (reach - at) sound pcm)
    ∙ append_assoc (take (reach - at) pcm) (take sound (drop (reach - at) pcm)) (replicate (end - (reach + sound)) 0)

silence_joins : (at : ℕ) (one : Span) (reach sound end : ℕ) (pcm : List ℕ) → one.start < one.end → one.end ≡ reach + sound → one.end ≤ reach → reach + sound < end
    → line_from at (record { start = one.start; end = end } ∷ []) end pcm ≡ line_from at (one ∷ []) reach pcm ++ (take sound (drop (sound_in at (one ∷ []) reach) pcm) ++ replicate (end - (reach + sound)) 0)
silence_joins at one reach sound end pcm some same inside longer =
    let none : end - end ≡ 0 = omega arith in
    let no_more : reach - one.end ≡ 0 = omega (arith, same, inside) in
    let no_sound : sound ≡ 0 = omega (arith, same, inside) in
    let whole : end - one.start ≡ (one.end - one.start) + (end - (reach + sound)) = omega (arith, some, same, longer) in
    ap (λ n. take (one.start - at) pcm ++ (replicate (end - one.start) 0 ++ take n (drop (one.start - at) pcm))) none
    ∙ ap (λ l. take (one.start - at) pcm ++ l) (append-nil (replicate (end - one.start) 0) ∙ ap (λ n. replicate n 0) whole ∙ sym (replicate-append-replicate (one.end - one.start) (end - (reach + sound)) 0))
    ∙ sym (append_assoc (take (one.start - at) pcm) (replicate (one.end - one.start) 0) (replicate (end - (reach + sound)) 0))
    ∙ ap (λ l. (take (one.start - at) pcm ++ l) ++ replicate (end - (reach + sound)) 0) (sym (append-nil (replicate (one.end - one.start) 0)))
    ∙ ap (λ n. (take (one.start - at) pcm ++ (replicate (one.end - one.start) 0 ++ take n (drop (one.start - at) pcm))) ++ replicate (end - (reach + sound)) 0) (sym no_more)
    ∙ ap (λ n. (take (one.start - at) pcm ++ (replicate (one.end - one.start) 0 ++ take (reach - one.end) (drop (one.start - at) pcm))) ++ (take n (drop (sound_in at (one ∷ []) reach) pcm) ++ replicate (end - (reach + sound)) 0)) (sym no_sound)

silence_comes : (at : ℕ) (one : Span) (silences after : List Span) (reach sound end : ℕ) (pcm : List ℕ)
    → line_from one.end after end (drop (one.start - at) pcm) ≡ line_from one.end silences reach (drop (one.start - at) pcm) ++ (take sound (drop (sound_in one.end silences reach) (drop (one.start - at) pcm)) ++ replicate (end - (reach + sound)) 0)
    → line_from at (one ∷ after) end pcm ≡ line_from at (one ∷ silences) reach pcm ++ (take sound (drop (sound_in at (one ∷ silences) reach) pcm) ++ replicate (end - (reach + sound)) 0)
silence_comes at one silences after reach sound end pcm ih =
    ap (λ l. take (one.start - at) pcm ++ (replicate (one.end - one.start) 0 ++ l)) (ih ∙ ap (λ l. line_from one.end silences reach (drop (one.start - at) pcm) ++ (take sound l ++ replicate (end - (reach + sound)) 0)) (drop-drop (sound_in one.end silences reach) (one.start - at) pcm))
    ∙ regroup (take (one.start - at) pcm) (replicate (one.end - one.start) 0) (line_from one.end silences reach (drop (one.start - at) pcm)) (take sound (drop (sound_in at (one ∷ silences) reach) pcm) ++ replicate (end - (reach + sound)) 0)

pub silence_more : (low at : ℕ) (silences : List Span) (reach sound end : ℕ) (pcm : List ℕ) → AreMaximal low silences reach → at ≤ reach → reach + sound < end
    → line_from at (silent_too silences (record { start = reach + sound; end = end })) end pcm ≡ line_from at silences reach pcm ++ (take sound (drop (sound_in at silences reach) pcm) ++ replicate (end - (reach + sound)) 0)
silence_more low at [] reach sound end pcm laid within longer = silence_first at reach sound end pcm within
silence_more low at (one ∷ []) reach sound end pcm laid within longer = by_test (one.end == reach + sound) refl where
  inside : one.end ≤ reach
  inside = last_within one [] reach laid.2

  by_test : (test : Bool) → (one.end == reach + sound) ≡ test
      → line_from at (if test then record { start = one.start; end = end } ∷ [] else one ∷ record { start = reach + sound; end = end } ∷ []) end pcm ≡ line_from at (one ∷ []) reach pcm ++ (take sound (drop (sound_in at (one ∷ []) reach) pcm) ++ replicate (end - (reach + sound)) 0)
  by_test true e = silence_joins at one reach sound end pcm laid.1 (search (rules, e)) inside longer
  by_test false e = silence_comes at one [] (record { start = reach + sound; end = end } ∷ []) reach sound end pcm (silence_first one.end reach sound end (drop (one.start - at) pcm) inside)
silence_more low at (one ∷ other ∷ more) reach sound end pcm laid within longer =
    silence_comes at one (other ∷ more) (silent_too (other ∷ more) (record { start = reach + sound; end = end })) reach sound end pcm
    (silence_more (one.end + 1) one.end (other ∷ more) reach sound end (drop (one.start - at) pcm) laid.2 (last_within one (other ∷ more) reach laid.2) longer)

-- ---- the sound and the silences stay what they are

pub sound_in_more : (low at : ℕ) (silences : List Span) (reach sound : ℕ) → AreMaximal low silences reach → at ≤ reach → sound_in at silences (reach + sound) ≡ sound_in at silences reach + sound
sound_in_more low at [] reach sound laid within = omega (arith, within)
sound_in_more low at (one ∷ silences) reach sound laid within =
    let ih = sound_in_more (one.end + 1) one.end silences reach sound laid.2 (last_within one silences reach laid.2) in
    omega (arith, ih)

pub sound_in_silence : (low at : ℕ) (silences : List Span) (reach sound end : ℕ) → AreMaximal low silences reach → at ≤ reach → reach + sound < end
    → sound_in at (silent_too silences (record { start = reach + sound; end = end })) end ≡ sound_in at silences reach + sound
sound_in_silence low at [] reach sound end laid within longer = omega (arith, within)
sound_in_silence low at (one ∷ []) reach sound end laid within longer = by_test (one.end == reach + sound) refl where
  inside : one.end ≤ reach
  inside = last_within one [] reach laid.2

  by_test : (test : Bool) → (one.end == reach + sound) ≡ test
      → sound_in at (if test then record { start = one.start; end = end } ∷ [] else one ∷ record { start = reach + sound; end = end } ∷ []) end ≡ ((one.start - at) + (reach - one.end)) + sound
  by_test true e = let same : one.end ≡ reach + sound = search (rules, e) in omega (arith, same, inside)
  by_test false e = omega (arith, inside)
sound_in_silence low at (one ∷ other ∷ more) reach sound end laid within longer =
    let ih = sound_in_silence (one.end + 1) one.end (other ∷ more) reach sound end laid.2 (last_within one (other ∷ more) reach laid.2) longer in
    omega (arith, ih)

pub maximal_more : (low : ℕ) (silences : List Span) (reach reach' : ℕ) → reach ≤ reach' → AreMaximal low silences reach → AreMaximal low silences reach'
maximal_more low [] reach reach' le laid = omega (arith, le, laid)
maximal_more low (one ∷ silences) reach reach' le laid = (laid.0, laid.1, maximal_more (one.end + 1) silences reach reach' le laid.2)

pub maximal_silence : (low : ℕ) (silences : List Span) (reach sound end : ℕ) → AreMaximal low silences reach → low ≤ reach → reach + sound < end → AreMaximal low (silent_too silences (record { start = reach + sound; end = end })) end
maximal_silence low [] reach sound end laid within longer = (omega (arith, within), longer, omega arith)
maximal_silence low (one ∷ []) reach sound end laid within longer = by_test (one.end == reach + sound) refl where
  inside : one.end ≤ reach
  inside = last_within one [] reach laid.2

  by_test : (test : Bool) → (one.end == reach + sound) ≡ test → AreMaximal low (if test then record { start = one.start; end = end } ∷ [] else one ∷ record { start = reach + sound; end = end } ∷ []) end
  by_test true e = let first = laid.0 in let some = laid.1 in (laid.0, omega (arith, some, inside, longer), omega arith)
  by_test false e = let differs : one.end ≡ reach + sound → ⊥ = search (rules, e) in (laid.0, laid.1, (above differs, longer, omega arith)) where
    above : (one.end ≡ reach + sound → ⊥) → one.end + 1 ≤ reach + sound
    above differs = omega (arith, inside, differs)
maximal_silence low (one ∷ other ∷ more) reach sound end laid within longer =
    let first = laid.2.0 in
    let some = laid.2.1 in
    let last = last_within other more reach laid.2.2 in
    (laid.0, laid.1, maximal_silence (one.end + 1) (other ∷ more) reach sound end laid.2 (omega (arith, first, some, last)) longer)

pub grows_by : (silences : List Span) (reach sound end used : ℕ) (pcm : List ℕ) → AreMaximal 0 silences reach → used ≡ sound_in 0 silences reach → reach + sound ≤ end → (test : Bool) → (reach + sound == end) ≡ test
    → line_from 0 (if test then silences else silent_too silences (record { start = reach + sound; end = end })) end pcm ≡ line_from 0 silences reach pcm ++ (take sound (drop used pcm) ++ replicate (end - reach - sound) 0)
grows_by silences reach sound end used pcm laid counts ends true e =
    let same : reach + sound ≡ end = search (rules, e) in
    let none : end - reach - sound ≡ 0 = omega (arith, same) in
    ap (λ n. line_from 0 silences n pcm) (sym same) ∙ sound_more 0 0 silences reach sound pcm laid (omega arith) ∙ ap (λ n. line_from 0 silences reach pcm ++ take sound (drop n pcm)) (sym counts)
    ∙ ap (λ l. line_from 0 silences reach pcm ++ l) (sym (append-nil (take sound (drop used pcm)))) ∙ ap (λ n. line_from 0 silences reach pcm ++ (take sound (drop used pcm) ++ replicate n 0)) (sym none)
grows_by silences reach sound end used pcm laid counts ends false e =
    let differs : reach + sound ≡ end → ⊥ = search (rules, e) in
    let longer : reach + sound < end = omega (arith, differs, ends) in
    let rest : end - (reach + sound) ≡ end - reach - sound = omega arith in
    silence_more 0 0 silences reach sound end pcm laid (omega arith) longer ∙ ap (λ n. line_from 0 silences reach pcm ++ (take sound (drop n pcm) ++ replicate (end - (reach + sound)) 0)) (sym counts)
    ∙ ap (λ n. line_from 0 silences reach pcm ++ (take sound (drop used pcm) ++ replicate n 0)) rest
