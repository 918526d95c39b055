-- The made schedules are no longer than schedules may be.
use Rattle.std.proofs.Common.{◌≡◌, ◌≤◌, ◌<◌, ℕ, zero, suc, ◌+◌, ◌*◌, List, [], ◌∷◌, ◌++◌, length, refl, sym, ap, subst, ◌∙◌, add-one, arith}
use Rattle.std.specs.Prelude.{sum, sum_by}
use Rattle.std.specs.List.{flat_map}
use Rattle.std.proofs.lemmas.List.Sums.{sum_by-append}
use Rattle.schedule_reader.specs.declared.schedule.Schedule.{Schedule}
use Rattle.schedule_reader.specs.Counts.{item_steps, item_frames, steps_of, frames_of}
use Rattle.schedule_reader.specs.Schedules.{IsLimited}
use Rattle.made_inputs.specs.MadeSound.{frames_for}
use Rattle.made_inputs.specs.MadeSchedule.{turn_frames, turns, turn_items, call_with, sound_items, schedule_with, AreTurns, IsMadeSchedule}
use Rattle.made_inputs.proofs.Turns.{sum_more}
use Rattle.made_inputs.proofs.Written.{bring_up_items, items_are, length_turns}

-- ---- few turns

each_some : (number turn : ℕ) → 16 ≤ turn_frames number turn
each_some number turn = omega arith

each_few : (number turn : ℕ) → turn_frames number turn ≤ 47
each_few number turn = omega arith

pub turns_some : (number count : ℕ) → 16 * count ≤ sum (turns number count)
turns_some number zero = omega arith
turns_some number (suc count) =
    let one = turns_some number count in
    let more = sum_more number count in
    let each = each_some number (count + 1) in
    subst (λ (n : ℕ). 16 * n ≤ sum (turns number n)) (add-one count) (omega (arith, one, more, each))

some_frames : (number : ℕ) → 1000 ≤ frames_for number
some_frames number = omega arith

few_frames : (number : ℕ) → frames_for number ≤ 50999
few_frames number = omega arith

-- ---- so many turns

few_turns : (number count : ℕ) → AreTurns number count → (count ≤ 3188) × (sum (turns number count) ≤ 51045)
few_turns number zero made = (omega arith, omega arith)
few_turns number (suc before) made =
    let less : before < suc before = omega arith in
    let early = made.fewest before less in
    let some = turns_some number before in
    let frames = few_frames number in
    let more : sum (turns number (suc before)) ≡ sum (turns number before) + turn_frames number (before + 1) =
    ap (λ (n : ℕ). sum (turns number n)) (sym (add-one before)) ∙ sum_more number before in
    let last = each_few number (before + 1) in
    (omega (arith, early, some, frames), omega (arith, early, frames, more, last))

-- ---- steps and frames

turn_steps : (lengths : List ℕ) → sum_by item_steps (flat_map turn_items lengths) ≡ 3 * length lengths
turn_steps [] = refl
turn_steps (one ∷ lengths) =
    let joined = sum_by-append item_steps (turn_items one) (flat_map turn_items lengths) in
    let first : sum_by item_steps (turn_items one) ≡ 3 = refl in
    let rest = turn_steps lengths in
    omega (arith, joined, first, rest)

turn_links : (lengths : List ℕ) → sum_by item_frames (flat_map turn_items lengths) ≡ sum lengths
turn_links [] = refl
turn_links (one ∷ lengths) =
    let joined = sum_by-append item_frames (turn_items one) (flat_map turn_items lengths) in
    let split = sum_by-append (λ (n : ℕ). n) (one ∷ []) lengths in
    let first : sum_by item_frames (turn_items one) ≡ 0 + 0 + 0 + one = refl in
    let rest = turn_links lengths in
    omega (arith, joined, first, rest, split)

sound_steps : (number count : ℕ) → sum_by item_steps (sound_items number count) ≡ 3 * count + 2
sound_steps number count =
    let front = sum_by-append item_steps (call_with 0 ∷ []) (flat_map turn_items (turns number count)) in
    let all = sum_by-append item_steps (call_with 0 ∷ [] ++ flat_map turn_items (turns number count)) (call_with 100000 ∷ []) in
    let first : sum_by item_steps (call_with 0 ∷ []) ≡ 1 = refl in
    let last : sum_by item_steps (call_with 100000 ∷ []) ≡ 1 = refl in
    let middle = turn_steps (turns number count) in
    let many = length_turns number count in
    omega (arith, front, all, first, last, middle, many)

sound_links : (number count : ℕ) → sum_by item_frames (sound_items number count) ≡ sum (turns number count)
sound_links number count =
    let front = sum_by-append item_frames (call_with 0 ∷ []) (flat_map turn_items (turns number count)) in
    let all = sum_by-append item_frames (call_with 0 ∷ [] ++ flat_map turn_items (turns number count)) (call_with 100000 ∷ []) in
    let first : sum_by item_frames (call_with 0 ∷ []) ≡ 0 = refl in
    let last : sum_by item_frames (call_with 100000 ∷ []) ≡ 0 = refl in
    let middle = turn_links (turns number count) in
    omega (arith, front, all, first, last, middle)

pub all_steps : (number count : ℕ) → steps_of (schedule_with number count) ≡ 3 * count + 181
unfolding steps_of bring_up_items
all_steps number count =
    let split = ap (sum_by item_steps) (items_are number count) ∙ sum_by-append item_steps bring_up_items (sound_items number count) in
    let first : sum_by item_steps bring_up_items ≡ 179 = refl in
    let rest = sound_steps number count in
    split ∙ omega (arith, first, rest)

pub all_links : (number count : ℕ) → frames_of (schedule_with number count) ≡ 25 + sum (turns number count)
unfolding frames_of bring_up_items
all_links number count =
    let split = ap (sum_by item_frames) (items_are number count) ∙ sum_by-append item_frames bring_up_items (sound_items number count) in
    let first : sum_by item_frames bring_up_items ≡ 25 = refl in
    let rest = sound_links number count in
    split ∙ omega (arith, first, rest)

pub with_is_limited : (number count : ℕ) → AreTurns number count → IsLimited (schedule_with number count)
with_is_limited number count made =
    let few = few_turns number count made in
    let steps = all_steps number count in
    let frames = all_links number count in
    record { steps = omega (arith, few.0, steps); frames = omega (arith, few.1, frames) }

pub made_is_limited : (number : ℕ) (schedule : Schedule) → IsMadeSchedule number schedule → IsLimited schedule
made_is_limited number schedule made =
    subst IsLimited (sym made.is) (with_is_limited number made.count made.turns)
