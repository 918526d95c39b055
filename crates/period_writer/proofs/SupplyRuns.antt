-- A run that a supply suffices for is one over each sound that the supply may yet give.
use Rattle.std.proofs.Common.{◌≡◌, ◌≤◌, ◌+◌, ◌-◌, ◌∙◌, ℕ, Bool, true, false, List, [], ◌∷◌, ◌++◌, length, refl, ap, sym, subst, arith}
use Rattle.std.specs.Prelude.{min, zero, suc, take, drop, replicate}
use Rattle.std.proofs.lemmas.List.{length-append}
use Rattle.wav_reader.specs.Supplies.{Supplied, MayGive, Suffices, EndsWith, without}
use Rattle.wav_reader.proofs.Callers.{with_taken, given_before, rest_after, first_of, held_most}
use Rattle.period_writer.specs.declared.course.Course.{Course}
use Rattle.period_writer.specs.Courses.{IsCourse}
use Rattle.period_writer.specs.Lines.{sound_and_silence}
use Rattle.period_writer.specs.Runs.{Measures, RunFacts, Tally, facts_of, is_late, run_of, run_room, run_start, run_sound, tally_if, tally_after}
use Rattle.period_writer.specs.Rings.{whole_blocks}
use Rattle.period_writer.proofs.RunRooms.{room_small}
use Rattle.period_writer.specs.Places.{line_writes}
use Rattle.period_writer.specs.Playing.{writes_by}
use Rattle.period_writer.proofs.SameRuns.{tally_same, sound_same, start_by}
use Rattle.period_writer.proofs.FirstRuns.{first_in_time}

sound_within : (block budget ring room left held : ℕ) → room ≤ ring → min budget (min ring left) ≤ held → whole_blocks block (min budget (min room left)) ≤ held
sound_within block budget ring room left held fits enough = grind arith

-- what it writes is held
pub run_within : (m : Measures) (runs : ℕ) (course : Course) (supply : Supplied) (budget from lpib to : ℕ) → 1 ≤ m.ring → IsCourse m.ring runs course → Suffices m.ring budget supply
    → run_sound m course (facts_of budget supply.left from lpib to) ≤ length supply.held
run_within m runs course supply budget from lpib to some is enough =
    sound_within m.block budget m.ring (run_room m course (facts_of budget supply.left from lpib to)) supply.left (length supply.held) (room_small m runs course (facts_of budget supply.left from lpib to) some is) enough

pub fits : (m : Measures) (runs : ℕ) (course : Course) (supply : Supplied) (budget left from lpib count : ℕ) → 1 ≤ m.ring → IsCourse m.ring runs course → Suffices m.ring budget supply → left ≡ supply.left
    → count ≡ run_sound m course (facts_of budget left from lpib 0) → count ≤ length supply.held
fits m runs course supply budget left from lpib count some is enough all counts =
    subst (λ (number : ℕ). number ≤ length supply.held) (sym (counts ∙ ap (λ (left : ℕ). run_sound m course (facts_of budget left from lpib 0)) all)) (run_within m runs course supply budget from lpib 0 some is enough)

-- with a budget of 0 none are
pub none_taken : (m : Measures) (course : Course) (budget left from lpib : ℕ) → budget ≡ 0 → run_sound m course (facts_of budget left from lpib 0) ≡ 0
none_taken m course budget left from lpib none = least m.block budget (run_room m course (facts_of budget left from lpib 0)) left none where
  least : (block budget room left : ℕ) → budget ≡ 0 → whole_blocks block (min budget (min room left)) ≡ 0
  least block budget room left none = grind arith

-- a budget of 0 needs nothing
pub suffices_none : (ring : ℕ) (supply : Supplied) → Suffices ring 0 supply
suffices_none ring supply = least (min ring supply.left) (length supply.held) where
  least : (n held : ℕ) → min 0 n ≤ held
  least n held = grind arith

pub false_true : false ≡ true → ⊥
false_true same = cc

-- ---- its writes

take_least : (n k : ℕ) (xs : List ℕ) → n ≤ k → take n (take k xs) ≡ take n xs
take_least zero k xs le = refl
take_least (suc n) zero xs le = absurd (omega (arith, le))
take_least (suc n) (suc k) [] le = refl
take_least (suc n) (suc k) (x ∷ xs) le = ap (λ (l : List ℕ). x ∷ l) (take_least n k xs (omega (arith, le)))

take_none : (n : ℕ) → take {A = ℕ} n [] ≡ []
take_none zero = refl
take_none (suc n) = refl

take_rest : (k n : ℕ) (xs : List ℕ) → take n (drop k xs) ≡ drop k (take (n + k) xs)
take_rest zero n xs = let same : n ≡ n + 0 = omega arith in ap (λ (k : ℕ). take k xs) same
take_rest (suc k) n [] = take_none n ∙ sym (ap (drop (suc k)) (take_none (n + suc k)))
take_rest (suc k) n (x ∷ xs) = let same : suc (n + k) ≡ n + suc k = omega arith in take_rest k n xs ∙ ap (λ (number : ℕ). drop (suc k) (take number (x ∷ xs))) same

-- they are the same over the same first bytes
module _ (bytes : ℕ) (periods : List ℕ) (start count reach reach' : ℕ) (xs ys : List ℕ) (same : take count xs ≡ take count ys) where
  abbrev to : ℕ
  to = min reach (start + count)

  abbrev over : ℕ
  over = to - start

  few : over ≤ count
  few = least start count reach where
    least : (s n r : ℕ) → min r (s + n) - s ≤ n
    least s n r = grind arith

  front : take over xs ≡ take over ys
  front = sym (take_least over count xs few) ∙ ap (take over) same ∙ take_least over count ys few

  all : (count - over) + over ≡ count
  all = let few = few in omega (arith, few)

  back : take (count - over) (drop over xs) ≡ take (count - over) (drop over ys)
  back =
      take_rest over (count - over) xs ∙ ap (λ (n : ℕ). drop over (take n xs)) all ∙ ap (drop over) same
      ∙ sym (take_rest over (count - over) ys ∙ ap (λ (n : ℕ). drop over (take n ys)) all)

  same_writes : writes_by bytes periods start count reach reach' xs ≡ writes_by bytes periods start count reach reach' ys
  same_writes =
      ap (λ (first : List ℕ). line_writes bytes periods start to (first ++ replicate (over - over) 0) ++ line_writes bytes periods reach reach' (sound_and_silence (count - over) (reach' - reach) (drop over xs))) front
      ∙ ap (λ (rest : List ℕ). line_writes bytes periods start to (sound_and_silence over over ys) ++ line_writes bytes periods reach reach' (rest ++ replicate (reach' - reach - (count - over)) 0)) back

-- ---- all of it

-- a run by the numbers of a supply that took so many bytes, with this sound after it
pub record IsRunOver (m : Measures) (tally : Tally) (supply : Supplied) (budget from lpib to count : ℕ) (later : List ℕ) : Type 0 where
  pub recorded : tally_after m tally (facts_of budget supply.left from lpib to) ≡ tally_after m tally (facts_of budget (length (with_taken count supply later)) from lpib to)
  pub sound_is : count ≡ run_sound m tally.course (facts_of budget (length (with_taken count supply later)) from lpib to)
  pub begins : run_start m tally.course (facts_of budget supply.left from lpib to) ≡ run_start m tally.course (facts_of budget (length (with_taken count supply later)) from lpib to)
  pub written : (bytes : ℕ) (periods : List ℕ) (start reach reach' : ℕ) → writes_by bytes periods start count reach reach' supply.held ≡ writes_by bytes periods start count reach reach' (with_taken count supply later)
  pub rest : later ≡ drop count (with_taken count supply later)

pub run_over : (m : Measures) (runs : ℕ) (tally : Tally) (supply : Supplied) (budget from lpib to count : ℕ) (later : List ℕ) → 1 ≤ m.ring → IsCourse m.ring runs tally.course → length supply.held ≤ supply.left → Suffices m.ring budget supply
    → count ≡ run_sound m tally.course (facts_of budget supply.left from lpib to) → MayGive (without count supply) later → (tally.course.started ≡ true → EndsWith supply (with_taken count supply later)) → IsRunOver m tally supply budget from lpib to count later
run_over m runs tally supply budget from lpib to count later some is rule enough counts may none =
    let within : count ≤ length supply.held = subst (λ (number : ℕ). number ≤ length supply.held) (sym counts) (run_within m runs tally.course supply budget from lpib to some is enough) in
    let whole = given_before supply count later rule within may in
    let held = held_most supply (with_taken count supply later) whole in
    let least : min budget (min m.ring supply.left) ≤ length (with_taken count supply later) = omega (arith, enough, held) in record {
      recorded = tally_same m runs tally budget supply.left (length (with_taken count supply later)) from lpib to some is whole.most least none;
      sound_is = counts ∙ sound_same m runs tally.course budget supply.left (length (with_taken count supply later)) from lpib to some is whole.most least;
      begins = ap (start_by m tally.course (facts_of budget supply.left from lpib to)) (sound_same m runs tally.course budget supply.left (length (with_taken count supply later)) from lpib to some is whole.most least);
      written = λ bytes periods start reach reach'. same_writes bytes periods start count reach reach' supply.held (with_taken count supply later) (sym (first_of supply count later within));
      rest = sym (rest_after supply count later within);
    }

-- ---- what is recorded of it

more_by : (late : Bool) (m : Measures) (tally : Tally) (facts : RunFacts) → length (tally_if late m tally facts).runs ≤ length tally.runs + 1
more_by true m tally facts = omega arith
more_by false m tally facts = let long = length-append tally.runs (run_of m tally.course facts ∷ []) in omega (arith, long)

-- one run at most
pub one_more : (m : Measures) (tally tally' : Tally) (facts : RunFacts) → tally' ≡ tally_after m tally facts → length tally'.runs ≤ length tally.runs + 1
one_more m tally tally' facts is =
    let more = more_by (is_late m tally.course facts) m tally facts in
    let same = ap (λ (tally : Tally). length tally.runs) is in
    omega (arith, more, same)

pub started_by : (late : Bool) (m : Measures) (tally : Tally) (facts : RunFacts) → tally.course.started ≡ true → (tally_if late m tally facts).course.started ≡ true
started_by true m tally facts started = started
started_by false m tally facts started = refl

pub still_on : (m : Measures) (tally tally' : Tally) (facts : RunFacts) → tally' ≡ tally_after m tally facts → tally.course.started ≡ true → tally'.course.started ≡ true
still_on m tally tally' facts is started = ap (λ (tally : Tally). tally.course.started) is ∙ started_by (is_late m tally.course facts) m tally facts started

pub now_on : (m : Measures) (runs : ℕ) (tally tally' : Tally) (facts : RunFacts) → IsCourse m.ring runs tally.course → tally' ≡ tally_after m tally facts → tally.course.started ≡ false → tally'.course.started ≡ true
now_on m runs tally tally' facts course is fresh =
    ap (λ (tally : Tally). tally.course.started) is ∙ ap (λ (late : Bool). (tally_if late m tally facts).course.started) (first_in_time m runs tally facts course fresh)
