-- Turns come in time, and how many driver lines they are.
use Rattle.std.proofs.Common.{◌≡◌, ◌≤◌, ℕ, zero, suc, ◌+◌, List, [], ◌∷◌, ◌++◌, length, Option, None, Some, refl, sym, ap, subst, ◌∙◌, arith}
use Rattle.std.specs.Prelude.{All, sum_by, slice_get}
use Rattle.std.proofs.lemmas.List.{length-append}
use Rattle.std.proofs.lemmas.List.Elements.{All-head, All-tail}
use Rattle.world_steps.specs.declared.Step.{Step}
use Rattle.world_steps.specs.declared.Step.TheVariants as step
use Rattle.schedule_reader.specs.declared.schedule.Group.{Group}
use Rattle.schedule_reader.specs.declared.schedule.DriverLine.{DriverLine}
use Rattle.schedule_reader.specs.Counts.{group_frames}
use Rattle.laws_serving.specs.Rounds.{Round, frames_of_line, frames_of_steps, frames_to}
use Rattle.laws_serving.specs.ServingSchedules.{ServesSound}
use Rattle.laws_serving.specs.Turns.{AreInTurns, PlaysInTurns}

-- ---- one round

alone_frames : (line : DriverLine) → line.groups ≡ [] → frames_of_line line ≡ 0
alone_frames line alone = ap {B = ℕ} (λ (groups : List Group). sum_by group_frames groups) alone

turn_frames : (most frames : ℕ) (steps : List Step) → steps ≡ step.Fetch 1 most ∷ step.Link frames ∷ [] → frames_of_steps steps ≡ frames
turn_frames most frames steps is = ap {B = ℕ} frames_of_steps is ∙ omega arith

last_frames : (steps : List Step) → steps ≡ [] → frames_of_steps steps ≡ 0
last_frames steps is = ap {B = ℕ} frames_of_steps is

module _ (ring block fifo : ℕ) where
  -- no call of turns has groups
  first_alone : (lengths : List ℕ) (round : Round) (rounds : List Round) → AreInTurns ring block fifo lengths (round ∷ rounds) → round.line.groups ≡ []
  first_alone [] round [] turns = turns.call.alone
  first_alone [] round (other ∷ rounds) turns = absurd turns
  first_alone (frames ∷ lengths) round rounds turns = turns.0.call.alone

  all_alone : (lengths : List ℕ) (rounds : List Round) → AreInTurns ring block fifo lengths rounds → (index : ℕ) (round : Round) → slice_get rounds index ≡ Some round → round.line.groups ≡ []
  all_alone lengths [] turns index round there = cc
  all_alone lengths (one ∷ rounds) turns zero round there = let same : one ≡ round = cc in ap (λ (round : Round). round.line.groups) (sym same) ∙ first_alone lengths one rounds turns
  all_alone [] (one ∷ []) turns (suc index) round there = cc
  all_alone [] (one ∷ two ∷ rounds) turns (suc index) round there = absurd turns
  all_alone (frames ∷ lengths) (one ∷ rounds) turns (suc index) round there = all_alone lengths rounds turns.1 index round there

  -- ---- from each call to the end of the next one

  -- behind a turn
  turn_soon : (limit frames : ℕ) (lengths : List ℕ) (one : Round) (rounds : List Round) → AreInTurns ring block fifo (frames ∷ lengths) (one ∷ rounds) → frames ≤ limit → frames_to one (slice_get rounds 0) ≤ limit
  turn_soon limit frames lengths one [] turns few =
      let line = alone_frames one.line turns.0.call.alone in
      let steps = turn_frames turns.0.most frames one.steps turns.0.steps in omega (arith, line, steps, few)
  turn_soon limit frames lengths one (next ∷ rounds) turns few =
      let line = alone_frames one.line turns.0.call.alone in
      let steps = turn_frames turns.0.most frames one.steps turns.0.steps in
      let next_line = alone_frames next.line (first_alone lengths next rounds turns.1) in omega (arith, line, steps, next_line, few)

  turns_soon : (limit : ℕ) (lengths : List ℕ) (rounds : List Round) → AreInTurns ring block fifo lengths rounds → All (λ (frames : ℕ). frames ≤ limit) lengths → (index : ℕ) (round : Round) → slice_get rounds index ≡ Some round
      → frames_to round (slice_get rounds (suc index)) ≤ limit
  turns_soon limit lengths [] turns few index round there = cc
  turns_soon limit [] (one ∷ []) turns few zero round there =
      let same : one ≡ round = cc in
      let line = alone_frames one.line turns.call.alone in
      let steps = last_frames one.steps turns.none in
      subst (λ (round : Round). frames_to round None ≤ limit) same (omega (arith, line, steps))
  turns_soon limit [] (one ∷ []) turns few (suc index) round there = cc
  turns_soon limit [] (one ∷ two ∷ rounds) turns few index round there = absurd turns
  turns_soon limit (frames ∷ lengths) (one ∷ rounds) turns few zero round there =
      let same : one ≡ round = cc in
      subst (λ (round : Round). frames_to round (slice_get rounds 0) ≤ limit) same (turn_soon limit frames lengths one rounds turns (All-head (λ (frames : ℕ). frames ≤ limit) frames lengths few))
  turns_soon limit (frames ∷ lengths) (one ∷ rounds) turns few (suc index) round there = turns_soon limit lengths rounds turns.1 (All-tail (λ (frames : ℕ). frames ≤ limit) frames lengths few) index round there

  turns_count : (lengths : List ℕ) (rounds : List Round) → AreInTurns ring block fifo lengths rounds → length rounds ≡ length lengths + 1
  turns_count [] [] turns = absurd turns
  turns_count [] (one ∷ []) turns = omega arith
  turns_count [] (one ∷ two ∷ rounds) turns = absurd turns
  turns_count (frames ∷ lengths) [] turns = absurd turns
  turns_count (frames ∷ lengths) (one ∷ rounds) turns = let rest = turns_count lengths rounds turns.1 in omega (arith, rest)

-- ---- a whole schedule

behind : (before turns : List Round) (count index : ℕ) → length before ≡ count → slice_get (before ++ turns) (count + index) ≡ slice_get turns index
behind [] turns count index is = let none : count + index ≡ index = omega (arith, is) in ap (slice_get turns) none
behind (round ∷ before) turns count index is =
    let on : count + index ≡ suc (length before + index) = omega (arith, is) in ap (slice_get (round ∷ (before ++ turns))) on ∙ behind before turns (length before) index refl

pub serve_sound : (commands ring block fifo limit slack : ℕ) (lengths : List ℕ) (rounds : List Round) → PlaysInTurns commands ring block fifo lengths rounds → All (λ (frames : ℕ). frames ≤ limit) lengths → ServesSound commands limit slack rounds
serve_sound commands ring block fifo limit slack lengths rounds turns few = record {
  in_time = λ index round there.
      let next : 4 + commands + index ≡ 3 + commands + suc index = omega arith in
      subst (λ (next : Option Round). frames_to round next ≤ limit) (sym (ap (slice_get rounds) next ∙ found (suc index))) (turns_soon ring block fifo limit lengths turns.turns turns.are few index round (sym (found index) ∙ there));
  quick = λ index round there. let none = alone_frames round.line (all_alone ring block fifo lengths turns.turns turns.are index round (sym (found index) ∙ there)) in omega (arith, none);
}
  where
    found : (index : ℕ) → slice_get rounds (3 + commands + index) ≡ slice_get turns.turns index
    found index = ap (λ (rounds : List Round). slice_get rounds (3 + commands + index)) turns.rounds_are ∙ behind turns.before turns.turns (3 + commands) index turns.count

pub count_lines : (commands ring block fifo : ℕ) (lengths : List ℕ) (rounds : List Round) → PlaysInTurns commands ring block fifo lengths rounds → length rounds ≡ 4 + commands + length lengths
count_lines commands ring block fifo lengths rounds turns =
    let all = ap length turns.rounds_are ∙ length-append turns.before turns.turns in
    let front = turns.count in
    let back = turns_count ring block fifo lengths turns.turns turns.are in omega (arith, all, front, back)
