-- Runs that may each write a whole ring: the sound has no silence before its end, and a later run that finds all of it sent has drained.
use Rattle.std.proofs.Common.{◌≡◌, ◌≤◌, ◌<◌, ◌⊎◌, inl, inr, ◌+◌, ◌-◌, ◌*◌, ◌%◌, ◌==◌, ◌&&◌, ℕ, zero, suc, min, max, not, nat_lt, nat_le, Bool, true, false, List, [], ◌∷◌, refl, sym, ap, subst, ◌∙◌, arith, rules, if◌then◌else◌}
use Rattle.std.specs.Prelude.{All}
use Rattle.std.proofs.lemmas.Nat.{mod-mul-add, mul-le}
use Rattle.std.proofs.lemmas.List.Elements.{All-nil, All-cons, All-head, All-tail}
use Rattle.period_writer.specs.declared.course.Span.{Span}
use Rattle.period_writer.specs.Rings.{whole_blocks}
use Rattle.period_writer.specs.Runs.{Measures, RunFacts, Tally, silent_too, silences_to, is_back, run_at, run_reach, run_turn, run_cut, run_room, run_sound, takes_back, run_start, run_sound_end, has_drained, run_silences, tally_opened, tally_if}

-- ---- whole blocks

-- so many bytes are whole blocks of so many
pub record IsWhole (block bytes : ℕ) : Type 0 where
  pub count : ℕ
  pub is : bytes ≡ count * block

whole_none : (block : ℕ) → IsWhole block 0
whole_none block = record { count = 0; is = omega arith }

-- they stay as they are
whole_stays : (block bytes : ℕ) → 1 ≤ block → IsWhole block bytes → whole_blocks block bytes ≡ bytes
whole_stays block bytes some whole =
    let is = whole.is in
    let again : bytes ≡ whole.count * block + 0 = omega (arith, is) in
    let none : bytes % block ≡ 0 = ap (λ (n : ℕ). n % block) again ∙ mod-mul-add whole.count block 0 (omega (arith, some)) in
    omega (arith, none)

pub le_cases : (a b : ℕ) → (a ≤ b) ⊎ (b < a)
le_cases a b = grind arith

pub whole_sub : (block more less : ℕ) → 1 ≤ block → IsWhole block more → IsWhole block less → less ≤ more → IsWhole block (more - less)
whole_sub block more less some one other below = by (le_cases other.count one.count)
  where
    by : (other.count ≤ one.count) ⊎ (one.count < other.count) → IsWhole block (more - less)
    by (inl few) =
        let rest = one.count - other.count in
        let split : one.count ≡ other.count + rest = omega (arith, few) in
        let wide : one.count * block ≡ (other.count + rest) * block = ap (λ (n : ℕ). n * block) split in
        let is = one.is in
        let was = other.is in record { count = rest; is = omega (arith, wide, is, was) }
    by (inr many) =
        let wide = mul-le (one.count + 1) block other.count block (omega (arith, many)) (omega arith) in
        let is = one.is in
        let was = other.is in absurd (omega (arith, wide, is, was, below, some))

pub whole_add : (block one other : ℕ) → IsWhole block one → IsWhole block other → IsWhole block (one + other)
whole_add block one other first second = let a = first.is in let b = second.is in record { count = first.count + second.count; is = omega (arith, a, b) }

min_cases : (a b : ℕ) → (min a b ≡ a) ⊎ (min a b ≡ b)
min_cases a b = grind arith

whole_min : (block a b : ℕ) → IsWhole block a → IsWhole block b → IsWhole block (min a b)
whole_min block a b first second = by (min_cases a b)
  where
    by : (min a b ≡ a) ⊎ (min a b ≡ b) → IsWhole block (min a b)
    by (inl is) = subst (IsWhole block) (sym is) first
    by (inr is) = subst (IsWhole block) (sym is) second

-- as much sound as the room and what is left go
sound_by : (block budget room left : ℕ) → 1 ≤ block → IsWhole block room → IsWhole block left → room ≤ budget → whole_blocks block (min budget (min room left)) ≡ min room left
sound_by block budget room left some first second enough =
    let is : min budget (min room left) ≡ min room left = least budget room left enough in
    ap (whole_blocks block) is ∙ whole_stays block (min room left) some (whole_min block room left first second)
  where
    least : (budget room left : ℕ) → room ≤ budget → min budget (min room left) ≡ min room left
    least budget room left enough = grind (arith, enough)

sound_none : (block budget room left : ℕ) → 1 ≤ block → left ≡ 0 → whole_blocks block (min budget (min room left)) ≡ 0
sound_none block budget room left some none =
    let is : min budget (min room left) ≡ 0 = least budget room left none in
    ap (whole_blocks block) is ∙ whole_stays block 0 some (whole_none block)
  where
    least : (budget room left : ℕ) → left ≡ 0 → min budget (min room left) ≡ 0
    least budget room left none = grind (arith, none)

-- ---- silences

-- none begins below this
abbrev pub BeginsLate : ℕ → Span → Type 0
BeginsLate total span = total ≤ span.start

late_to : (total cut : ℕ) (silences : List Span) → All (BeginsLate total) silences → All (BeginsLate total) (silences_to cut silences)
late_to total cut [] late = All-nil (BeginsLate total)
late_to total cut (one ∷ []) late = by (nat_le cut one.start)
  where
    by : (none : Bool) → All (BeginsLate total) (if none then [] else record { start = one.start; end = min one.end cut } ∷ [])
    by true = All-nil (BeginsLate total)
    by false = All-cons (BeginsLate total) (record { start = one.start; end = min one.end cut }) [] (All-head (BeginsLate total) one [] late) (All-nil (BeginsLate total))
late_to total cut (one ∷ other ∷ more) late =
    All-cons (BeginsLate total) one (silences_to cut (other ∷ more)) (All-head (BeginsLate total) one (other ∷ more) late) (late_to total cut (other ∷ more) (All-tail (BeginsLate total) one (other ∷ more) late))

late_too : (total : ℕ) (silences : List Span) (span : Span) → All (BeginsLate total) silences → total ≤ span.start → All (BeginsLate total) (silent_too silences span)
late_too total [] span late begins = All-cons (BeginsLate total) span [] begins (All-nil (BeginsLate total))
late_too total (one ∷ []) span late begins = by (one.end == span.start)
  where
    by : (joins : Bool) → All (BeginsLate total) (if joins then record { start = one.start; end = span.end } ∷ [] else one ∷ span ∷ [])
    by true = All-cons (BeginsLate total) (record { start = one.start; end = span.end }) [] (All-head (BeginsLate total) one [] late) (All-nil (BeginsLate total))
    by false = All-cons (BeginsLate total) one (span ∷ []) (All-head (BeginsLate total) one [] late) (All-cons (BeginsLate total) span [] begins (All-nil (BeginsLate total)))
late_too total (one ∷ other ∷ more) span late begins =
    All-cons (BeginsLate total) one (silent_too (other ∷ more) span) (All-head (BeginsLate total) one (other ∷ more) late) (late_too total (other ∷ more) span (All-tail (BeginsLate total) one (other ∷ more) late) begins)

late_if : (total start end : ℕ) (kept : List Span) → All (BeginsLate total) kept → total ≤ start → All (BeginsLate total) (if start == end then kept else silent_too kept (record { start = start; end = end }))
late_if total start end kept late begins = by (start == end)
  where
    by : (b : Bool) → All (BeginsLate total) (if b then kept else silent_too kept (record { start = start; end = end }))
    by true = late
    by false = late_too total kept (record { start = start; end = end }) late begins

-- ---- full lines

-- after a run: the line has the whole sound as far as it reaches, and silence behind it alone
pub record IsFull (m : Measures) (total : ℕ) (tally : Tally) : Type 0 where
  pub started : tally.course.started ≡ true
  pub reach : tally.course.reach ≡ tally.course.at + m.ring
  pub whole : IsWhole m.block tally.course.at
  pub used : tally.course.used ≡ min tally.course.reach total
  pub ends : tally.course.sound_end ≡ tally.course.used
  pub late : All (BeginsLate total) tally.silences
  pub none : tally.course.reach ≤ total → tally.silences ≡ []
  pub one : total < tally.course.reach → tally.silences ≡ record { start = total; end = tally.course.reach } ∷ []

-- what is known of a ring and a sound
pub record AreWhole (m : Measures) (total : ℕ) : Type 0 where
  pub some_block : 1 ≤ m.block
  pub some_ring : 1 ≤ m.ring
  pub ring : IsWhole m.block m.ring
  pub total_is : IsWhole m.block total

same_test : (n : ℕ) → (n == n) ≡ true
same_test zero = refl
same_test (suc n) = grind arith

equal_test : (a b : ℕ) → a ≡ b → (a == b) ≡ true
equal_test a b same = ap (λ (n : ℕ). n == b) same ∙ same_test b

if_true : (b : Bool) (A : List Span) (B : List Span) → b ≡ true → (if b then A else B) ≡ A
if_true true A B is = refl
if_true false A B is = cc

not_below : (n : ℕ) → nat_lt n n ≡ false
not_below n = by n n (let same : n ≤ n = omega arith in same)
  where
    by : (a b : ℕ) → b ≤ a → nat_lt a b ≡ false
    by a b few = search (rules, few)

equal_apart : (a b : ℕ) → a < b → (a == b) ≡ false
equal_apart a b less = search (rules, less)

not_through : (a b : ℕ) → b < a → nat_le a b ≡ false
not_through a b less = search (rules, less)

-- ---- a run while sound is left, or just all was written

-- before it: the line is the sound and nothing else, and the run may write as much as the line gains
pub record IsFilling (m : Measures) (total : ℕ) (tally : Tally) (facts : RunFacts) : Type 0 where
  pub left : facts.left ≡ total - tally.course.used
  pub used : tally.course.used ≡ tally.course.reach
  pub ends : tally.course.sound_end ≡ tally.course.reach
  pub none : tally.silences ≡ []
  pub low : tally.course.reach ≤ total
  pub was : IsWhole m.block tally.course.reach
  pub here : IsWhole m.block (run_at m tally.course facts)
  pub longer : tally.course.reach ≤ run_reach m tally.course facts
  pub enough : run_reach m tally.course facts ≤ tally.course.reach + facts.budget

module _ (m : Measures) (total : ℕ) (whole : AreWhole m total) (tally : Tally) (facts : RunFacts) (filling : IsFilling m total tally facts) where
  cut_is : run_cut m tally.course facts ≡ tally.course.reach
  cut_is = ap (λ (end : ℕ). min tally.course.reach (max (run_turn m tally.course facts) end)) filling.ends ∙ by tally.course.reach (run_turn m tally.course facts)
    where
      by : (r t : ℕ) → min r (max t r) ≡ r
      by r t = grind arith

  back_is : takes_back m tally.course facts ≡ false
  back_is =
      ap (λ (cut : ℕ). is_back tally.course cut (run_sound m tally.course facts)) cut_is
      ∙ ap (λ (b : Bool). b && not (run_sound m tally.course facts == 0)) (not_below tally.course.reach)

  start_is : run_start m tally.course facts ≡ tally.course.reach
  start_is = ap (λ (back : Bool). if back then run_cut m tally.course facts else tally.course.reach) back_is

  room_is : run_room m tally.course facts ≡ run_reach m tally.course facts - tally.course.reach
  room_is = ap (λ (cut : ℕ). run_reach m tally.course facts - cut) cut_is

  left_is : facts.left ≡ total - tally.course.reach
  left_is = filling.left ∙ ap (λ (used : ℕ). total - used) filling.used

  then_whole : IsWhole m.block (run_reach m tally.course facts)
  then_whole = whole_add m.block (run_at m tally.course facts) m.ring filling.here whole.ring

  sound_is : run_sound m tally.course facts ≡ min (run_reach m tally.course facts - tally.course.reach) (total - tally.course.reach)
  sound_is =
      ap (λ (room : ℕ). whole_blocks m.block (min facts.budget (min room facts.left))) room_is
      ∙ ap (λ (left : ℕ). whole_blocks m.block (min facts.budget (min (run_reach m tally.course facts - tally.course.reach) left))) left_is
      ∙ sound_by m.block facts.budget (run_reach m tally.course facts - tally.course.reach) (total - tally.course.reach) whole.some_block
      (whole_sub m.block (run_reach m tally.course facts) tally.course.reach whole.some_block then_whole filling.was filling.longer)
      (whole_sub m.block total tally.course.reach whole.some_block whole.total_is filling.was filling.low) (few (run_reach m tally.course facts) tally.course.reach facts.budget filling.enough)
    where
      few : (end was budget : ℕ) → end ≤ was + budget → end - was ≤ budget
      few end was budget enough = omega (arith, enough)

  used_then : tally.course.used + run_sound m tally.course facts ≡ min (run_reach m tally.course facts) total
  used_then = numbers tally.course.used (run_sound m tally.course facts) tally.course.reach (run_reach m tally.course facts) total filling.used sound_is filling.longer filling.low
    where
      numbers : (used sound was end total : ℕ) → used ≡ was → sound ≡ min (end - was) (total - was) → was ≤ end → was ≤ total → used + sound ≡ min end total
      numbers used sound was end total one two three four = grind (arith, one, two, three, four)

  end_then : run_sound_end m tally.course facts ≡ tally.course.used + run_sound m tally.course facts
  end_then = by (run_sound m tally.course facts == 0) refl
    where
      by : (none : Bool) → (run_sound m tally.course facts == 0) ≡ none → (if none then tally.course.sound_end else run_start m tally.course facts + run_sound m tally.course facts) ≡ tally.course.used + run_sound m tally.course facts
      by true is =
          let nothing : run_sound m tally.course facts ≡ 0 = search (rules, is) in
          let ends = filling.ends in
          let used = filling.used in omega (arith, nothing, ends, used)
      by false is = let start = start_is in let used = filling.used in omega (arith, start, used)

  kept_is : silences_to (run_start m tally.course facts) tally.silences ≡ []
  kept_is = ap (silences_to (run_start m tally.course facts)) filling.none

  -- where the line ends within the sound it has no silence
  none_within : run_reach m tally.course facts ≤ total → run_silences m tally facts ≡ []
  none_within within =
      let same : run_start m tally.course facts + run_sound m tally.course facts ≡ run_reach m tally.course facts =
      numbers (run_start m tally.course facts) (run_sound m tally.course facts) tally.course.used (run_reach m tally.course facts) total (start_is ∙ sym filling.used) used_then within in
      if_true (run_start m tally.course facts + run_sound m tally.course facts == run_reach m tally.course facts) (silences_to (run_start m tally.course facts) tally.silences)
      (silent_too (silences_to (run_start m tally.course facts) tally.silences) (record { start = run_start m tally.course facts + run_sound m tally.course facts; end = run_reach m tally.course facts }))
      (equal_test (run_start m tally.course facts + run_sound m tally.course facts) (run_reach m tally.course facts) same) ∙ kept_is
    where
      numbers : (start sound used reach total : ℕ) → start ≡ used → used + sound ≡ min reach total → reach ≤ total → start + sound ≡ reach
      numbers start sound used reach total one two three = grind (arith, one, two, three)

  late_then : All (BeginsLate total) (run_silences m tally facts)
  late_then = by (le_cases (run_reach m tally.course facts) total)
    where
      numbers : (start sound used reach total : ℕ) → start ≡ used → used + sound ≡ min reach total → total < reach → total ≤ start + sound
      numbers start sound used reach total one two three = grind (arith, one, two, three)

      by : (run_reach m tally.course facts ≤ total) ⊎ (total < run_reach m tally.course facts) → All (BeginsLate total) (run_silences m tally facts)
      by (inl within) = subst (All (BeginsLate total)) (sym (none_within within)) (All-nil (BeginsLate total))
      by (inr past) =
          let begins = numbers (run_start m tally.course facts) (run_sound m tally.course facts) tally.course.used (run_reach m tally.course facts) total (start_is ∙ sym filling.used) used_then past in
          late_if total (run_start m tally.course facts + run_sound m tally.course facts) (run_reach m tally.course facts) (silences_to (run_start m tally.course facts) tally.silences)
          (subst (All (BeginsLate total)) (sym kept_is) (All-nil (BeginsLate total))) begins

  -- where it ends behind the sound it has one behind the sound
  one_past : total < run_reach m tally.course facts → run_silences m tally facts ≡ record { start = total; end = run_reach m tally.course facts } ∷ []
  one_past past =
      let start = run_start m tally.course facts + run_sound m tally.course facts in
      let end = run_reach m tally.course facts in
      let kept = silences_to (run_start m tally.course facts) tally.silences in
      let there : start ≡ total = numbers (run_start m tally.course facts) (run_sound m tally.course facts) tally.course.used end total (start_is ∙ sym filling.used) used_then past in
      let apart : (start == end) ≡ false = equal_apart start end (omega (arith, there, past)) in
      ap (λ (b : Bool). if b then kept else silent_too kept (record { start = start; end = end })) apart
      ∙ ap (λ (kept : List Span). silent_too kept (record { start = start; end = end })) kept_is
      ∙ ap (λ (start : ℕ). record { start = start; end = end } ∷ []) there
    where
      numbers : (start sound used reach total : ℕ) → start ≡ used → used + sound ≡ min reach total → total < reach → start + sound ≡ total
      numbers start sound used reach total one two three = grind (arith, one, two, three)

  pub filled : IsFull m total (tally_if false m tally facts)
  filled = record {
    started = refl;
    reach = refl;
    whole = filling.here;
    used = used_then;
    ends = end_then;
    late = late_then;
    none = none_within;
    one = one_past;
  }

-- a first run
pub first_full : (m : Measures) (total : ℕ) (facts : RunFacts) → AreWhole m total → facts.left ≡ total → m.ring ≤ facts.budget → IsFull m total (tally_if false m tally_opened facts)
first_full m total facts whole left enough = filled m total whole tally_opened facts (record {
  left = left ∙ omega arith;
  used = refl;
  ends = refl;
  none = refl;
  low = omega arith;
  was = whole_none m.block;
  here = whole_none m.block;
  longer = omega arith;
  enough = omega (arith, enough);
})

-- and a later one
pub next_full : (m : Measures) (total : ℕ) (tally : Tally) (facts : RunFacts) → AreWhole m total → IsFull m total tally → facts.left ≡ total - tally.course.used → tally.course.reach ≤ total → tally.course.at ≤ run_at m tally.course facts
    → run_at m tally.course facts < tally.course.at + m.ring → IsWhole m.block (run_at m tally.course facts) → m.ring ≤ facts.budget → IsFull m total (tally_if false m tally facts)
next_full m total tally facts whole full left low later soon here enough =
    let reach = full.reach in
    let used : tally.course.used ≡ tally.course.reach = full.used ∙ least tally.course.reach total low in
    filled m total whole tally facts (record {
      left = left;
      used = used;
      ends = full.ends ∙ used;
      none = full.none low;
      low = low;
      was = subst (IsWhole m.block) (sym full.reach) (whole_add m.block tally.course.at m.ring full.whole whole.ring);
      here = here;
      longer = omega (arith, reach, later);
      enough = omega (arith, reach, soon, enough);
    })
  where
    least : (a b : ℕ) → a ≤ b → min a b ≡ a
    least a b few = grind (arith, few)

-- ---- a run where all was written

-- the one silence behind the sound goes on
goes_on : (total reach end : ℕ) (b : Bool) → (reach == end) ≡ b
    → (if b then record { start = total; end = reach } ∷ [] else silent_too (record { start = total; end = reach } ∷ []) (record { start = reach; end = end })) ≡ record { start = total; end = end } ∷ []
goes_on total reach end true is = let same : reach ≡ end = search (rules, is) in ap (λ (end : ℕ). record { start = total; end = end } ∷ []) same
goes_on total reach end false is =
    ap (λ (b : Bool). if b then record { start = total; end = end } ∷ [] else record { start = total; end = reach } ∷ record { start = reach; end = end } ∷ []) (same_test reach)

cut_there : (total reach : ℕ) → total < reach → silences_to reach (record { start = total; end = reach } ∷ []) ≡ record { start = total; end = reach } ∷ []
cut_there total reach less =
    ap (λ (b : Bool). if b then [] else record { start = total; end = min reach reach } ∷ []) (not_through reach total less)
    ∙ ap (λ (end : ℕ). record { start = total; end = end } ∷ []) (same reach)
  where
    same : (n : ℕ) → min n n ≡ n
    same n = grind arith

module _ (m : Measures) (total : ℕ) (whole : AreWhole m total) (tally : Tally) (facts : RunFacts) (left : facts.left ≡ total - tally.course.used) where
  module _ (full : IsFull m total tally) (high : total < tally.course.reach) (later : tally.course.at ≤ run_at m tally.course facts) (here : IsWhole m.block (run_at m tally.course facts)) where
    all_used : tally.course.used ≡ total
    all_used = full.used ∙ least tally.course.reach total high
      where
        least : (a b : ℕ) → b < a → min a b ≡ b
        least a b few = grind (arith, few)

    no_sound : run_sound m tally.course facts ≡ 0
    no_sound = sound_none m.block facts.budget (run_room m tally.course facts) facts.left whole.some_block (left ∙ (let used = all_used in let numbers : total - tally.course.used ≡ 0 = omega (arith, used) in numbers))

    no_back : takes_back m tally.course facts ≡ false
    no_back =
        ap (λ (sound : ℕ). nat_lt (run_cut m tally.course facts) tally.course.reach && not (sound == 0)) no_sound
        ∙ and_false (nat_lt (run_cut m tally.course facts) tally.course.reach)
      where
        and_false : (b : Bool) → (b && false) ≡ false
        and_false true = refl
        and_false false = refl

    start_there : run_start m tally.course facts ≡ tally.course.reach
    start_there = ap (λ (back : Bool). if back then run_cut m tally.course facts else tally.course.reach) no_back

    end_stays : run_sound_end m tally.course facts ≡ total
    end_stays = ap (λ (sound : ℕ). if sound == 0 then tally.course.sound_end else run_start m tally.course facts + sound) no_sound ∙ full.ends ∙ all_used

    longer : tally.course.reach ≤ run_reach m tally.course facts
    longer = let reach = full.reach in omega (arith, reach, later)

    used_stays : tally.course.used + run_sound m tally.course facts ≡ min (run_reach m tally.course facts) total
    used_stays =
        let used = all_used in
        let none = no_sound in
        let more = longer in
        numbers tally.course.used (run_sound m tally.course facts) (run_reach m tally.course facts) tally.course.reach total used none more high
      where
        numbers : (used sound reach was total : ℕ) → used ≡ total → sound ≡ 0 → was ≤ reach → total < was → used + sound ≡ min reach total
        numbers used sound reach was total one two three four = grind (arith, one, two, three, four)

    late_still : All (BeginsLate total) (run_silences m tally facts)
    late_still =
        late_if total (run_start m tally.course facts + run_sound m tally.course facts) (run_reach m tally.course facts) (silences_to (run_start m tally.course facts) tally.silences)
        (late_to total (run_start m tally.course facts) tally.silences full.late) (let start = start_there in omega (arith, start, high))

    one_still : run_silences m tally facts ≡ record { start = total; end = run_reach m tally.course facts } ∷ []
    one_still =
        let was = tally.course.reach in
        let end = run_reach m tally.course facts in
        let place : run_start m tally.course facts + run_sound m tally.course facts ≡ was = (let start = start_there in let none = no_sound in omega (arith, start, none)) in
        let kept : silences_to (run_start m tally.course facts) tally.silences ≡ record { start = total; end = was } ∷ [] =
        ap (λ (cut : ℕ). silences_to cut tally.silences) start_there ∙ ap (silences_to was) (full.one high) ∙ cut_there total was high in
        ap (λ (start : ℕ). if start == end then silences_to (run_start m tally.course facts) tally.silences else silent_too (silences_to (run_start m tally.course facts) tally.silences) (record { start = start; end = end })) place
        ∙ ap (λ (kept : List Span). if was == end then kept else silent_too kept (record { start = was; end = end })) kept
        ∙ goes_on total was end (was == end) refl

    pub full_high : IsFull m total (tally_if false m tally facts)
    full_high = record {
      started = refl;
      reach = refl;
      whole = here;
      used = used_stays;
      ends = end_stays ∙ sym (let used = all_used in let none = no_sound in let numbers : tally.course.used + run_sound m tally.course facts ≡ total = omega (arith, used, none) in numbers);
      late = late_still;
      none = λ within. absurd (let more = longer in omega (arith, more, within, high));
      one = λ past. one_still;
    }

    -- and has drained, where the link is past all of it
    pub drained_high : total ≤ run_at m tally.course facts → has_drained m tally.course facts ≡ true
    drained_high past =
        let nothing : facts.left ≡ run_sound m tally.course facts = left ∙ (let used = all_used in let none = no_sound in let numbers : total - tally.course.used ≡ run_sound m tally.course facts = omega (arith, used, none) in numbers) in
        ap (λ (started : Bool). started && facts.left == run_sound m tally.course facts && nat_le (run_sound_end m tally.course facts) (run_at m tally.course facts)) full.started
        ∙ ap (λ (b : Bool). b && nat_le (run_sound_end m tally.course facts) (run_at m tally.course facts)) (equal_test facts.left (run_sound m tally.course facts) nothing)
        ∙ ap (λ (end : ℕ). nat_le end (run_at m tally.course facts)) end_stays
        ∙ below total (run_at m tally.course facts) past
      where
        below : (a b : ℕ) → a ≤ b → nat_le a b ≡ true
        below a b few = search (rules, few)
