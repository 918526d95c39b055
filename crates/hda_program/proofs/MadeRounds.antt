-- A made schedule serves the made machine, and plays in turns.
use Rattle.std.proofs.Common.{◌≡◌, ◌≤◌, ◌<◌, ◌⊎◌, inl, inr, ℕ, zero, suc, ◌+◌, ◌%◌, List, [], ◌∷◌, ◌++◌, length, take, replicate, false, Some, refl, sym, ap, subst, ◌∙◌, arith, lit≤}
use Rattle.std.specs.Prelude.{All, sum, slice_get}
use Rattle.std.specs.List.{flat_map}
use Rattle.std.proofs.lemmas.List.{take-append-le}
use Rattle.std.proofs.lemmas.List.Elements.{All-nil, All-cons, All-head, All-tail, All-append}
use Rattle.world_steps.specs.declared.Step.{Step}
use Rattle.world_steps.specs.declared.Step.TheVariants as step
use Rattle.schedule_reader.specs.declared.schedule.DriverLine.{DriverLine}
use Rattle.schedule_reader.specs.declared.schedule.Item.{Item}
use Rattle.schedule_reader.specs.declared.schedule.Item.TheVariants.{Device, Drive}
use Rattle.schedule_reader.specs.Counts.{items_of}
use Rattle.hda_world.specs.declared.step.TheConstants.{FRAMES_TO_DISCOVERY}
use Rattle.laws_serving.specs.ServingDevices.{KeepAnswers, ComeInOrder, round_trip}
use Rattle.laws_serving.specs.Rounds.{Round, Rounds, rounds_of, frames_of_steps}
use Rattle.laws_serving.specs.ServingSchedules.{HasStreamsAlone, IsCalmCall, IsCalmRound, Announces, AnswersEach, ServesCommands}
use Rattle.laws_serving.specs.Turns.{AreInTurns, PlaysInTurns, EndsInTheLast}
use Rattle.made_inputs.specs.MadeSound.{frames_for}
use Rattle.made_inputs.specs.MadeSchedule.{draw, turn_frames, turns, call_with, turn_items, sound_items, schedule_with, AreTurns}
use Rattle.made_inputs.proofs.Callers.{bring_up_items, items_are, length_turns}

-- ---- rounds

-- a call with nothing in it
abbrev call : (budget : ℕ) → DriverLine
call budget = record { irq = false; budget = budget; groups = [] }

abbrev round_with : (budget : ℕ) → List Step → Round
round_with budget steps = record { line = call budget; steps = steps }

-- each command goes to the codec, and its answer comes back
abbrev command_round : Round
command_round = round_with 0 (step.Corb ∷ step.Answer 0 ∷ step.Rirb ∷ [])

-- those of the reset, and of 44 commands
abbrev bring_up_rounds : List Round
bring_up_rounds = round_with 0 (step.Link 25 ∷ []) ∷ round_with 0 [] ∷ replicate 44 command_round

abbrev turn_round : ℕ → Round
turn_round frames = round_with 100000 (step.Fetch 1 192 ∷ step.Link frames ∷ [])

-- those of turns, and of the call behind them
abbrev turn_rounds : List ℕ → List Round
turn_rounds [] = round_with 100000 [] ∷ []
turn_rounds (frames ∷ lengths) = turn_round frames ∷ turn_rounds lengths

abbrev made_rounds : List ℕ → Rounds
made_rounds lengths = record { before = []; rounds = bring_up_rounds ++ (round_with 0 [] ∷ turn_rounds lengths) }

-- items behind others, of which the first is a call
joined : (items later : List Item) → (rounds_of later).before ≡ [] → rounds_of (items ++ later) ≡ record { before = (rounds_of items).before; rounds = (rounds_of items).rounds ++ (rounds_of later).rounds }
joined [] later none = ap (λ (steps : List Step). record { before = steps; rounds = (rounds_of later).rounds }) none
joined (Device one ∷ items) later none =
    ap (λ (all : Rounds). record { before = one ∷ all.before; rounds = all.rounds }) (joined items later none)
joined (Drive line ∷ items) later none =
    ap (λ (all : Rounds). record { before = []; rounds = record { line = line; steps = all.before } ∷ all.rounds }) (joined items later none)

abbrev played : List ℕ → List Item
played lengths = flat_map turn_items lengths ++ call_with 100000 ∷ []

turns_are : (lengths : List ℕ) → rounds_of (played lengths) ≡ record { before = []; rounds = turn_rounds lengths }
turns_are [] = refl
turns_are (frames ∷ lengths) =
    ap (λ (all : Rounds). record { before = []; rounds = round_with 100000 (step.Fetch 1 192 ∷ step.Link frames ∷ all.before) ∷ all.rounds }) (turns_are lengths)

sound_are : (number count : ℕ) → rounds_of (sound_items number count) ≡ record { before = []; rounds = round_with 0 [] ∷ turn_rounds (turns number count) }
sound_are number count =
    ap (λ (all : Rounds). record { before = []; rounds = round_with 0 all.before ∷ all.rounds }) (turns_are (turns number count))

bring_up_are : rounds_of bring_up_items ≡ record { before = []; rounds = bring_up_rounds }
unfolding bring_up_items
bring_up_are = refl

pub rounds_are : (number count : ℕ) → rounds_of (items_of (schedule_with number count)) ≡ made_rounds (turns number count)
rounds_are number count =
    let none : (rounds_of (sound_items number count)).before ≡ [] = ap (λ (all : Rounds). all.before) (sound_are number count) in
    ap rounds_of (items_are number count) ∙ joined bring_up_items (sound_items number count) none
    ∙ ap (λ (all : Rounds). record { before = all.before; rounds = all.rounds ++ (rounds_of (sound_items number count)).rounds }) bring_up_are
    ∙ ap (λ (all : Rounds). record { before = []; rounds = bring_up_rounds ++ all.rounds }) (sound_are number count)

-- ---- the commands are served

calm_call : (budget : ℕ) → IsCalmCall (call budget)
calm_call budget = record { no_interrupt = refl; groups = All-nil HasStreamsAlone }

calm : (budget : ℕ) (steps : List Step) → KeepAnswers steps → IsCalmRound (round_with budget steps)
calm budget steps keep = record { line = calm_call budget; steps = keep }

calm_commands : (count : ℕ) → All IsCalmRound (replicate count command_round)
calm_commands zero = All-nil IsCalmRound
calm_commands (suc count) = All-cons IsCalmRound command_round (replicate count command_round) (calm 0 (step.Corb ∷ step.Answer 0 ∷ step.Rirb ∷ []) (refl, (refl, (refl, tt)))) (calm_commands count)

calm_turns : (lengths : List ℕ) → All IsCalmRound (turn_rounds lengths)
calm_turns [] = All-cons IsCalmRound (round_with 100000 []) [] (calm 100000 [] tt) (All-nil IsCalmRound)
calm_turns (frames ∷ lengths) =
    All-cons IsCalmRound (turn_round frames) (turn_rounds lengths) (calm 100000 (step.Fetch 1 192 ∷ step.Link frames ∷ []) (refl, (refl, tt))) (calm_turns lengths)

all_calm : (lengths : List ℕ) → All IsCalmRound (made_rounds lengths).rounds
all_calm lengths =
    All-append IsCalmRound bring_up_rounds (round_with 0 [] ∷ turn_rounds lengths)
    (All-cons IsCalmRound (round_with 0 (step.Link 25 ∷ [])) (round_with 0 [] ∷ replicate 44 command_round) (calm 0 (step.Link 25 ∷ []) (refl, tt))
    (All-cons IsCalmRound (round_with 0 []) (replicate 44 command_round) (calm 0 [] tt) (calm_commands 44)))
    (All-cons IsCalmRound (round_with 0 []) (turn_rounds lengths) (calm 0 [] tt) (calm_turns lengths))

announces : (lengths : List ℕ) → Announces (made_rounds lengths).rounds
announces lengths first second one two =
    let same : round_with 0 (step.Link 25 ∷ []) ≡ first = cc in
    subst (λ (round : Round). FRAMES_TO_DISCOVERY ≤ frames_of_steps round.steps) same (lit≤ tt)

-- the first of rounds that are all the same
same_at : (one : Round) (count k : ℕ) (later : List Round) (round : Round) → k < count → slice_get (replicate count one ++ later) k ≡ Some round → one ≡ round
same_at one zero k later round few there = absurd (omega (arith, few))
same_at one (suc count) zero later round few there = cc
same_at one (suc count) (suc k) later round few there = same_at one count k later round (omega (arith, few)) there

abbrev IsAnswered : List Step → ℕ → Type 0
IsAnswered steps codec = ComeInOrder (round_trip codec) steps

answers : (lengths : List ℕ) → AnswersEach (0 ∷ []) 44 (made_rounds lengths).rounds
answers lengths command round few there =
    let next : suc (suc command) ≡ 2 + command = omega arith in
    let there' : slice_get (replicate 44 command_round ++ (round_with 0 [] ∷ turn_rounds lengths)) command ≡ Some round = rw (sym next) at there in
    let same : command_round ≡ round = same_at command_round 44 command (round_with 0 [] ∷ turn_rounds lengths) round few there' in
    subst (λ (round : Round). All (IsAnswered round.steps) (0 ∷ [])) same
    (All-cons (IsAnswered command_round.steps) 0 [] (inl (refl, inl (refl, inl (refl, tt)))) (All-nil (IsAnswered command_round.steps)))

pub serves : (number count : ℕ) → ServesCommands (0 ∷ []) 44 (rounds_of (items_of (schedule_with number count)))
serves number count =
    subst (λ (all : Rounds). ServesCommands (0 ∷ []) 44 all) (sym (rounds_are number count))
    (record { before = tt; rounds = all_calm (turns number count); announces = announces (turns number count); answers = answers (turns number count) })

-- ---- the sound is played in turns

abbrev pub IsShort : ℕ → Type 0
IsShort frames = frames ≤ 47

pub all_short : (number count : ℕ) → All IsShort (turns number count)
all_short number zero = All-nil IsShort
all_short number (suc count) =
    All-append IsShort (turns number count) (turn_frames number (suc count) ∷ []) (all_short number count)
    (All-cons IsShort (turn_frames number (suc count)) [] (let small : draw number (suc count) % 32 ≤ 31 = omega arith in omega (arith, small)) (All-nil IsShort))

in_turns : (ring : ℕ) → ring ≤ 100000 → (lengths : List ℕ) → All IsShort lengths → AreInTurns ring 4 192 lengths (turn_rounds lengths)
in_turns ring small [] short = record { call = record { alone = refl; wide = small }; none = refl }
in_turns ring small (frames ∷ lengths) short = (
  record {
    call = record { alone = refl; wide = small };
    most = 192;
    fills = omega arith;
    serves = let few = All-head IsShort frames lengths short in omega (arith, few);
    steps = refl;
  },
  in_turns ring small lengths (All-tail IsShort frames lengths short),
)

pub plays_in_turns : (ring number count : ℕ) → ring ≤ 100000 → PlaysInTurns 44 ring 4 192 (turns number count) (rounds_of (items_of (schedule_with number count))).rounds
plays_in_turns ring number count small =
    subst (λ (all : Rounds). PlaysInTurns 44 ring 4 192 (turns number count) all.rounds) (sym (rounds_are number count))
    (record {
      before = bring_up_rounds ++ round_with 0 [] ∷ [];
      turns = turn_rounds (turns number count);
      rounds_are = refl;
      count = refl;
      are = in_turns ring small (turns number count) (all_short number count);
    })

-- ---- where the sound ends

-- the first of the turns
first_turns : (number count fewer : ℕ) → fewer ≤ count → take fewer (turns number count) ≡ turns number fewer
first_turns number zero fewer few = let none : fewer ≡ 0 = omega (arith, few) in ap (λ (fewer : ℕ). take fewer (turns number 0)) none ∙ ap (turns number) (sym none)
first_turns number (suc count) fewer few = by (le_cases fewer count) (λ within. first_turns number count fewer within)
  where
    le_cases : (a b : ℕ) → (a ≤ b) ⊎ (b < a)
    le_cases a b = grind arith

    take-all : (ns : List ℕ) → take (length ns) ns ≡ ns
    take-all [] = refl
    take-all (n ∷ ns) = ap (λ (rest : List ℕ). n ∷ rest) (take-all ns)

    by : (fewer ≤ count) ⊎ (count < fewer) → (fewer ≤ count → take fewer (turns number count) ≡ turns number fewer) → take fewer (turns number (suc count)) ≡ turns number fewer
    by (inl within) rest =
        let whole = length_turns number count in
        take-append-le fewer (turns number count) (turn_frames number (suc count) ∷ []) (omega (arith, whole, within)) ∙ rest within
    by (inr past) rest =
        let same : fewer ≡ suc count = omega (arith, few, past) in
        let all : fewer ≡ length (turns number (suc count)) = same ∙ sym (length_turns number (suc count)) in
        ap (λ (n : ℕ). take n (turns number (suc count))) all ∙ take-all (turns number (suc count)) ∙ ap (turns number) (sym same)

pub ends_in_the_last : (number count : ℕ) → AreTurns number count → EndsInTheLast (frames_for number) (turns number count)
ends_in_the_last number count are = record {
  some = omega arith;
  enough = are.enough;
  fewest = λ fewer less.
      let below : fewer < count = (let whole = length_turns number count in omega (arith, less, whole)) in
      subst (λ (lengths : List ℕ). sum lengths < frames_for number) (sym (first_turns number count fewer (omega (arith, below)))) (are.fewest fewer below);
}
