-- What the first run writes, and what is recorded of it.
use Rattle.std.proofs.Common.{◌≡◌, ◌+◌, ◌-◌, ◌==◌, ◌&&◌, ◌||◌, not, min, max, ◌≤◌, rules, nat_lt, nat_le, ℕ, Bool, false, List, [], ◌++◌, length, take, drop, sym, ap, ◌∙◌, arith, if◌then◌else◌}
use Rattle.period_writer.specs.declared.course.Ran.TheVariants.{Playing, Drained}
use Rattle.period_writer.specs.declared.course.Span.{Span}
use Rattle.period_writer.specs.Courses.{IsCourse}
use Rattle.period_writer.specs.Runs.{Measures, RunFacts, Tally, measures, facts_of, position_from, run_at, run_turn, tally_opened, run_reach, run_cut, run_start, takes_back, is_over, is_slow, run_sound, run_sound_end, is_late, has_drained, tally_if}
use Rattle.period_writer.specs.Lines.{line_from, line_of}
use Rattle.period_writer.specs.Playing.{run_bytes}
use Rattle.period_writer.specs.Standing.{Ring, size_of}
use Rattle.period_writer.specs.Owning.{IsWritten}
use Rattle.period_writer.proofs.LineRuns.{start_low, cut_low, line_grows, sound_enough}
use Rattle.period_writer.proofs.LineWritten.{appended_is, written_first, written_next}

-- no run was recorded yet
pub record IsFresh (ring : Ring) (tally : Tally) : Type 0 where
  pub runs : ℕ
  pub course : IsCourse (size_of ring) runs tally.course
  pub started : tally.course.started ≡ false
  pub silences : tally.silences ≡ []

-- nothing is taken back by a first run, so it is in time
pub first_back : (m : Measures) (runs : ℕ) (tally : Tally) (facts : RunFacts) → IsCourse m.ring runs tally.course → tally.course.started ≡ false → takes_back m tally.course facts ≡ false
first_back m runs tally facts course fresh =
    let low = cut_low m tally.course facts in
    let none = course.reach ∙ ap (λ (started : Bool). if started then tally.course.at + m.ring else 0) fresh in
    let past : nat_lt (run_cut m tally.course facts) tally.course.reach ≡ false = below (run_cut m tally.course facts) tally.course.reach none in
    ap (λ (test : Bool). test && not (run_sound m tally.course facts == 0)) past where
      below : (a b : ℕ) → b ≡ 0 → nat_lt a b ≡ false
      below a b e = search (rules, e)

pub first_in_time : (m : Measures) (runs : ℕ) (tally : Tally) (facts : RunFacts) → IsCourse m.ring runs tally.course → tally.course.started ≡ false → is_late m tally.course facts ≡ false
first_in_time m runs tally facts course fresh =
    ap (λ (started : Bool). (started && is_over m.limit tally.course.from facts.to) || is_slow m tally.course facts) fresh
    ∙ ap (λ (back : Bool). back && is_over m.slack facts.from facts.to) (first_back m runs tally facts course fresh)

module _ (ring : Ring) (tally : Tally) (fresh : IsFresh ring tally) (pcm : List ℕ) (budget from to : ℕ) where
  abbrev m : Measures
  m = measures ring.geometry

  abbrev facts : RunFacts
  facts = facts_of budget (length pcm) from 0 to

  -- ---- where it stands, and how it ends

  reach_none : tally.course.reach ≡ 0
  reach_none = fresh.course.reach ∙ ap (λ (started : Bool). if started then tally.course.at + size_of ring else 0) fresh.started

  used_none : tally.course.used ≡ 0
  used_none = let used = fresh.course.used in let end = fresh.course.sound_end in let none = reach_none in omega (arith, used, end, none)

  pub at_none : run_at m tally.course facts ≡ 0
  at_none = ap (λ (started : Bool). if started then position_from (size_of ring) tally.course.at 0 else 0) fresh.started

  pub reaches : run_reach m tally.course facts ≡ size_of ring
  reaches = ap (λ (n : ℕ). n + size_of ring) at_none ∙ omega arith

  -- nothing is taken back
  start_none : run_start m tally.course facts ≡ 0
  start_none = let low = start_low m tally.course facts in let none = reach_none in omega (arith, low, none)

  back_none : takes_back m tally.course facts ≡ false
  back_none = first_back m fresh.runs tally facts fresh.course fresh.started

  room_is : run_reach m tally.course facts - run_start m tally.course facts ≡ size_of ring
  room_is = ap (λ (n : ℕ). n - run_start m tally.course facts) reaches ∙ ap (λ (n : ℕ). size_of ring - n) start_none ∙ omega arith

  pub in_time : is_late m tally.course facts ≡ false
  in_time = first_in_time m fresh.runs tally facts fresh.course fresh.started

  pub plays_on : (if has_drained m tally.course facts then Drained else Playing) ≡ Playing
  plays_on = ap (λ (started : Bool). if started && length pcm == run_sound m tally.course facts && nat_le (run_sound_end m tally.course facts) (run_at m tally.course facts) then Drained else Playing) fresh.started

  -- ---- the line

  nothing_written : IsWritten pcm tally
  nothing_written = written_first (size_of ring) fresh.runs tally pcm fresh.course fresh.started fresh.silences

  all_left : drop tally.course.used pcm ≡ pcm
  all_left = ap (λ (n : ℕ). drop n pcm) used_none

  enough : run_sound m tally.course facts ≤ length (drop tally.course.used pcm)
  enough = sound_enough m tally.course facts (drop tally.course.used pcm) (sym (ap length all_left))

  pub written_now : IsWritten pcm (tally_if false m tally facts)
  written_now = written_next m fresh.runs tally facts pcm fresh.course nothing_written enough

  -- what was written is the line, as long as the ring
  pub written_is : line_of (tally_if false m tally facts) pcm ≡ run_bytes m tally.course facts pcm
  written_is =
      let empty : line_of tally pcm ≡ [] = ap (λ (silences : List Span). line_from 0 silences tally.course.reach pcm) fresh.silences ∙ ap (λ (n : ℕ). take (n - 0) pcm) reach_none in
      line_grows m fresh.runs tally facts fresh.course nothing_written.line pcm back_none
      ∙ ap (λ (l : List ℕ). l ++ run_bytes m tally.course facts (drop tally.course.used pcm)) empty ∙ ap (λ (sound : List ℕ). run_bytes m tally.course facts sound) all_left

  pub written_long : length (run_bytes m tally.course facts pcm) ≡ size_of ring
  written_long =
      ap (λ (sound : List ℕ). length (run_bytes m tally.course facts sound)) (sym all_left)
      ∙ appended_is m fresh.runs tally facts pcm fresh.course nothing_written enough ∙ room_is

-- before the first run, whatever the ring
pub opened_start : (m : Measures) (facts : RunFacts) → run_start m tally_opened.course facts ≡ 0
opened_start m facts = let low = start_low m tally_opened.course facts in omega (arith, low)

pub opened_late : (m : Measures) (facts : RunFacts) → is_late m tally_opened.course facts ≡ false
opened_late m facts = ap (λ (test : Bool). (test && not (run_sound m tally_opened.course facts == 0)) && is_over m.slack facts.from facts.to) past where
  below : (n : ℕ) → nat_lt (min 0 n) 0 ≡ false
  below n = search (rules, least n) where
    least : (n : ℕ) → 0 ≤ min 0 n
    least n = omega arith

  past : nat_lt (run_cut m tally_opened.course facts) 0 ≡ false
  past = below (max (run_turn m tally_opened.course facts) 0)
