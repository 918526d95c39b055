-- What a run does to the line: it is cut, and grows by what the run writes.
use Rattle.std.proofs.Common.{◌≡◌, ◌≤◌, ◌<◌, ◌+◌, ◌-◌, ◌==◌, ◌&&◌, ◌⊎◌, inl, inr, ℕ, min, max, not, Bool, true, false, List, [], ◌∷◌, ◌++◌, drop, length, replicate, append-nil, refl, sym, ap, subst, ◌∙◌, arith, rules, if◌then◌else◌}
use Rattle.std.specs.Prelude.{nat_lt}
use Rattle.period_writer.specs.Rings.{whole_blocks}
use Rattle.period_writer.specs.declared.course.Span.{Span}
use Rattle.period_writer.specs.declared.course.Course.{Course}
use Rattle.period_writer.specs.Runs.{Measures, RunFacts, Tally, silent_too, silences_to, position_from, run_reach, run_turn, run_cut, run_start, run_room, run_sound, run_of, run_sound_end, takes_back, course_after, tally_if}
use Rattle.period_writer.specs.Lines.{IsLine, line_from, line_of, sound_in, AreMaximal, EndsBy}
use Rattle.period_writer.specs.Courses.{IsCourse}
use Rattle.period_writer.specs.Playing.{run_bytes}
use Rattle.period_writer.proofs.LineLaws.{grows_by, sound_in_more, sound_in_silence, maximal_more, maximal_silence}
use Rattle.period_writer.proofs.LineCut.{line_cut, maximal_cut, sound_in_cut, ends_cut}

-- ---- numbers

pub cut_high : (m : Measures) (course : Course) (facts : RunFacts) → course.sound_end ≤ course.reach → course.sound_end ≤ run_cut m course facts
cut_high m course facts inside = by_numbers course.reach (run_turn m course facts) course.sound_end inside where
  by_numbers : (r t e : ℕ) → e ≤ r → e ≤ min r (max t e)
  by_numbers r t e inside = grind (arith, inside)

pub cut_low : (m : Measures) (course : Course) (facts : RunFacts) → run_cut m course facts ≤ course.reach
cut_low m course facts = by_numbers course.reach (max (run_turn m course facts) course.sound_end) where
  by_numbers : (r n : ℕ) → min r n ≤ r
  by_numbers r n = grind arith

pub run_longer : (m : Measures) (runs : ℕ) (course : Course) (facts : RunFacts) → IsCourse m.ring runs course → course.reach ≤ run_reach m course facts
run_longer m runs course facts is = by_test course.started is.reach where
  by_test : (started : Bool) → course.reach ≡ (if started then course.at + m.ring else 0) → course.reach ≤ (if started then position_from m.ring course.at facts.lpib else 0) + m.ring
  by_test true e = omega (arith, e)
  by_test false e = omega (arith, e)

pub run_fits : (m : Measures) (course : Course) (facts : RunFacts) → run_sound m course facts ≤ run_room m course facts
run_fits m course facts = fits m.block facts.budget (run_room m course facts) facts.left where
  fits : (block budget room left : ℕ) → whole_blocks block (min budget (min room left)) ≤ room
  fits block budget room left = grind arith

-- no more sound is written than is left
pub sound_enough : (m : Measures) (course : Course) (facts : RunFacts) (rest : List ℕ) → facts.left ≡ length rest → run_sound m course facts ≤ length rest
sound_enough m course facts rest left = few m.block facts.budget (run_room m course facts) facts.left (length rest) left where
  few : (block budget room left long : ℕ) → left ≡ long → whole_blocks block (min budget (min room left)) ≤ long
  few block budget room left long is = grind (arith, is)

sum : (a s r : ℕ) → a ≤ r → s ≤ r - a → a + s ≤ r
sum a s r le fits = omega (arith, le, fits)

-- where it starts
pub start_high : (m : Measures) (course : Course) (facts : RunFacts) → course.sound_end ≤ course.reach → course.sound_end ≤ run_start m course facts
start_high m course facts inside = by (takes_back m course facts) where
  by : (back : Bool) → course.sound_end ≤ (if back then run_cut m course facts else course.reach)
  by true = cut_high m course facts inside
  by false = inside

pub start_low : (m : Measures) (course : Course) (facts : RunFacts) → run_start m course facts ≤ course.reach
start_low m course facts = by (takes_back m course facts) where
  by : (back : Bool) → (if back then run_cut m course facts else course.reach) ≤ course.reach
  by true = cut_low m course facts
  by false = omega arith

-- where nothing is taken back the cut is the line's end, or no sound comes
pub no_back : (m : Measures) (course : Course) (facts : RunFacts) → takes_back m course facts ≡ false → (run_cut m course facts ≡ course.reach) ⊎ (run_sound m course facts ≡ 0)
no_back m course facts = by (nat_lt (run_cut m course facts) course.reach) (run_sound m course facts == 0) refl refl where
  by : (below none : Bool) → nat_lt (run_cut m course facts) course.reach ≡ below → (run_sound m course facts == 0) ≡ none → (below && not none) ≡ false
      → (run_cut m course facts ≡ course.reach) ⊎ (run_sound m course facts ≡ 0)
  by true true b s e = inr (search (rules, s))
  by true false b s e = absurd (cc)
  by false none b s e = let past : course.reach ≤ run_cut m course facts = search (rules, b) in let low = cut_low m course facts in inl (omega (arith, past, low))

pub run_ends : (m : Measures) (runs : ℕ) (course : Course) (facts : RunFacts) → IsCourse m.ring runs course → run_start m course facts + run_sound m course facts ≤ run_reach m course facts
run_ends m runs course facts is = by (takes_back m course facts) refl where
  longer : course.reach ≤ run_reach m course facts
  longer = run_longer m runs course facts is

  at_cut : run_cut m course facts + run_sound m course facts ≤ run_reach m course facts
  at_cut = let low = cut_low m course facts in let longer = longer in sum (run_cut m course facts) (run_sound m course facts) (run_reach m course facts) (omega (arith, low, longer)) (run_fits m course facts)

  by_end : (run_cut m course facts ≡ course.reach) ⊎ (run_sound m course facts ≡ 0) → course.reach + run_sound m course facts ≤ run_reach m course facts
  by_end (inl same) = subst (λ n. n + run_sound m course facts ≤ run_reach m course facts) same at_cut
  by_end (inr none) = let longer = longer in omega (arith, none, longer)

  by : (back : Bool) → takes_back m course facts ≡ back → (if back then run_cut m course facts else course.reach) + run_sound m course facts ≤ run_reach m course facts
  by true e = at_cut
  by false e = by_end (no_back m course facts e)

pub sound_fits : (m : Measures) (runs : ℕ) (course : Course) (facts : RunFacts) → IsCourse m.ring runs course → run_sound m course facts ≤ run_reach m course facts - run_start m course facts
sound_fits m runs course facts is = by_numbers (run_start m course facts) (run_sound m course facts) (run_reach m course facts) (run_ends m runs course facts is) where
  by_numbers : (a s r : ℕ) → a + s ≤ r → s ≤ r - a
  by_numbers a s r ends = omega (arith, ends)

-- ---- where the sound ends

ends_more : (end end' at : ℕ) (silences : List Span) (reach sound : ℕ) → EndsBy end at silences reach → ((n : ℕ) → reach ≤ max n end → reach + sound ≤ max n end') → end ≤ end' → EndsBy end' at silences (reach + sound)
ends_more end end' at [] reach sound ends goes more = goes at ends
ends_more end end' at (one ∷ silences) reach sound ends goes more = (wider one.start at end end' ends.0 more, ends_more end end' one.end silences reach sound ends.1 goes more) where
  wider : (s a e f : ℕ) → s ≤ max a e → e ≤ f → s ≤ max a f
  wider s a e f le more = grind (arith, le, more)

ends_silence : (end end' at : ℕ) (silences : List Span) (reach sound stop : ℕ) → EndsBy end at silences reach → ((n : ℕ) → reach ≤ max n end → reach + sound ≤ max n end') → end ≤ end'
    → EndsBy end' at (silent_too silences (record { start = reach + sound; end = stop })) stop
ends_silence end end' at [] reach sound stop ends goes more = (goes at ends, last stop end') where
  last : (a b : ℕ) → a ≤ max a b
  last a b = grind arith
ends_silence end end' at (one ∷ []) reach sound stop ends goes more = by_test (one.end == reach + sound) where
  wider : (s a e f : ℕ) → s ≤ max a e → e ≤ f → s ≤ max a f
  wider s a e f le more = grind (arith, le, more)

  last : (a b : ℕ) → a ≤ max a b
  last a b = grind arith

  by_test : (test : Bool) → EndsBy end' at (if test then record { start = one.start; end = stop } ∷ [] else one ∷ record { start = reach + sound; end = stop } ∷ []) stop
  by_test true = (wider one.start at end end' ends.0 more, last stop end')
  by_test false = (wider one.start at end end' ends.0 more, (goes one.end ends.1, last stop end'))
ends_silence end end' at (one ∷ other ∷ more) reach sound stop ends goes wide = (wider one.start at end end' ends.0 wide, ends_silence end end' one.end (other ∷ more) reach sound stop ends.1 goes wide) where
  wider : (s a e f : ℕ) → s ≤ max a e → e ≤ f → s ≤ max a f
  wider s a e f le more = grind (arith, le, more)

-- after a run
goes_by : (end cut sound n : ℕ) → end ≤ cut → cut ≤ max n end → cut + sound ≤ max n (if sound == 0 then end else cut + sound)
goes_by end cut sound n inside le = by_test (sound == 0) refl where
  by_test : (test : Bool) → (sound == 0) ≡ test → cut + sound ≤ max n (if test then end else cut + sound)
  by_test true e = let none : sound ≡ 0 = search (rules, e) in grind (arith, none, le)
  by_test false e = grind arith

end_later : (end cut sound : ℕ) → end ≤ cut → end ≤ (if sound == 0 then end else cut + sound)
end_later end cut sound inside = by_test (sound == 0) where
  by_test : (test : Bool) → end ≤ (if test then end else cut + sound)
  by_test true = omega arith
  by_test false = omega (arith, inside)

end_inside : (end cut sound reach : ℕ) → end ≤ cut → cut + sound ≤ reach → (if sound == 0 then end else cut + sound) ≤ reach
end_inside end cut sound reach inside ends = by_test (sound == 0) where
  by_test : (test : Bool) → (if test then end else cut + sound) ≤ reach
  by_test true = omega (arith, inside, ends)
  by_test false = ends

-- ---- a run

module _ (m : Measures) (runs : ℕ) (tally : Tally) (facts : RunFacts) (is : IsCourse m.ring runs tally.course) (line : IsLine tally) where
  abbrev pub cut : ℕ
  cut = run_start m tally.course facts

  abbrev pub sound : ℕ
  sound = run_sound m tally.course facts

  abbrev pub reach' : ℕ
  reach' = run_reach m tally.course facts

  abbrev pub kept : List Span
  kept = silences_to cut tally.silences

  high : tally.course.sound_end ≤ cut
  high = start_high m tally.course facts line.inside

  low : cut ≤ tally.course.reach
  low = start_low m tally.course facts

  ends : cut + sound ≤ reach'
  ends = run_ends m runs tally.course facts is

  maximal : AreMaximal 0 kept cut
  maximal = maximal_cut 0 0 tally.course.sound_end tally.silences tally.course.reach cut line.maximal line.ended (omega arith) (omega arith) high low

  counts : tally.course.used ≡ sound_in 0 kept cut
  counts = line.used ∙ sym (sound_in_cut 0 0 tally.course.sound_end tally.silences tally.course.reach cut line.maximal line.ended (omega arith) high low)

  ended : EndsBy tally.course.sound_end 0 kept cut
  ended = ends_cut 0 0 tally.course.sound_end tally.silences tally.course.reach cut line.maximal line.ended (omega arith) high low

  pub line_kept : IsLine (tally_if false m tally facts)
  line_kept = by_test (cut + sound == reach') refl where
    below : (a b : ℕ) → (a ≡ b → ⊥) → a ≤ b → a < b
    below a b differs le = omega (arith, differs, le)

    goes : (n : ℕ) → cut ≤ max n tally.course.sound_end → cut + sound ≤ max n (run_sound_end m tally.course facts)
    goes n le = goes_by tally.course.sound_end cut sound n high le

    by_test : (test : Bool) → (cut + sound == reach') ≡ test
        → IsLine (record { runs = tally.runs ++ run_of m tally.course facts ∷ []; silences = if test then kept else silent_too kept (record { start = cut + sound; end = reach' }); course = course_after m tally.course facts })
    by_test true e =
        let same : cut + sound ≡ reach' = search (rules, e) in
        record {
          maximal = maximal_more 0 kept cut reach' (let ends = ends in omega (arith, ends)) maximal;
          used = ap (λ n. n + sound) counts ∙ sym (sound_in_more 0 0 kept cut sound maximal (omega arith)) ∙ ap (sound_in 0 kept) same;
          ended = subst (EndsBy (run_sound_end m tally.course facts) 0 kept) same (ends_more tally.course.sound_end (run_sound_end m tally.course facts) 0 kept cut sound ended goes (end_later tally.course.sound_end cut sound high));
          inside = end_inside tally.course.sound_end cut sound reach' high ends;
        }
    by_test false e =
        let longer : cut + sound < reach' = below _ _ (search (rules, e)) ends in
        record {
          maximal = maximal_silence 0 kept cut sound reach' maximal (omega arith) longer;
          used = ap (λ n. n + sound) counts ∙ sym (sound_in_silence 0 0 kept cut sound reach' maximal (omega arith) longer);
          ended = ends_silence tally.course.sound_end (run_sound_end m tally.course facts) 0 kept cut sound reach' ended goes (end_later tally.course.sound_end cut sound high);
          inside = end_inside tally.course.sound_end cut sound reach' high ends;
        }

  module _ (pcm : List ℕ) where
    abbrev pub front : List ℕ
    front = line_from 0 kept cut pcm

    pub old_is : line_of tally pcm ≡ front ++ replicate (tally.course.reach - cut) 0
    old_is = line_cut 0 0 tally.course.sound_end tally.silences tally.course.reach cut pcm line.maximal line.ended (omega arith) high low

    pub new_is : line_of (tally_if false m tally facts) pcm ≡ front ++ run_bytes m tally.course facts (drop tally.course.used pcm)
    new_is = grows_by kept cut sound reach' tally.course.used pcm maximal counts ends (cut + sound == reach') refl

    -- where nothing is taken back the line only goes on
    pub line_grows : takes_back m tally.course facts ≡ false → line_of (tally_if false m tally facts) pcm ≡ line_of tally pcm ++ run_bytes m tally.course facts (drop tally.course.used pcm)
    line_grows none =
        let same : cut ≡ tally.course.reach = ap (λ (b : Bool). if b then run_cut m tally.course facts else tally.course.reach) none in
        let gap : tally.course.reach - cut ≡ 0 = omega (arith, same) in
        new_is ∙ ap (λ (l : List ℕ). l ++ run_bytes m tally.course facts (drop tally.course.used pcm)) (sym (old_is ∙ ap (λ (k : ℕ). front ++ replicate k 0) gap ∙ append-nil front))
