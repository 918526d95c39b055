-- What a list of jacks counts in all, and of each codec and tag.
use Rattle.std.proofs.Common.{◌≡◌, ◌<◌, ◌≤◌, inl, inr, ℕ, zero, suc, ◌+◌, ◌*◌, Bool, true, false, ◌&&◌, ◌==◌, List, [], ◌∷◌, length, get_or, All, refl, sym, ap, subst, ◌∙◌, arith, rules}
use Rattle.std.specs.Prelude.{cond, AllPairs, Any, sum_by, count_by}
use Rattle.std.proofs.lemmas.Bool.{eqb-true, eqb-false, eq-eqb, ne_eqb}
use Rattle.std.proofs.lemmas.List.Elements.{All-head, All-tail}
use Rattle.std.proofs.lemmas.List.Sums.{sum_by-cons}
use Rattle.command_engine.specs.declared.answers.Event.{Event}
use Rattle.driver_progress.specs.declared.jack.Jack.{Jack}
use Rattle.driver_bring_up.specs.Jacks.{IsOfPin, is_at, times_of, times_at, IsBefore, IsTold, IsOf, Counts}

abbrev pub sum_all : List Jack → ℕ
sum_all jacks = sum_by (λ (jack : Jack). jack.times) jacks

abbrev pub sum_at : (codec tag : ℕ) → List Jack → ℕ
sum_at codec tag jacks = sum_by (times_at codec tag) jacks

-- ---- sums by recursion

abbrev total : {X : Type 0} → (X → ℕ) → List X → ℕ
total f [] = 0
total f (x ∷ xs) = f x + total f xs

total_is : {X : Type 0} (f : X → ℕ) (xs : List X) → sum_by f xs ≡ total f xs
total_is f [] = refl
total_is f (x ∷ xs) = sum_by-cons f x xs ∙ ap (λ n. f x + n) (total_is f xs)

abbrev one_if : Bool → ℕ
one_if test = cond test 1 0

abbrev times : List Event → (codec tag : ℕ) → ℕ
times events codec tag = total (λ (event : Event). one_if (is_at codec tag event)) events

times_is : (events : List Event) (codec tag : ℕ) → times_of events codec tag ≡ times events codec tag
times_is events codec tag = total_is (λ (event : Event). one_if (is_at codec tag event)) events

-- ---- tests of a codec and tag

abbrev is_of : (codec tag : ℕ) → Jack → Bool
is_of codec tag jack = jack.codec == codec && jack.tag == tag

abbrev number_of : (codec tag : ℕ) → List Jack → ℕ
number_of codec tag jacks = total (λ (jack : Jack). one_if (is_of codec tag jack)) jacks

both_by : (a b c d : ℕ) (first second : Bool) → (a == b) ≡ first → (c == d) ≡ second → (first && second) ≡ true → (a ≡ b) × (c ≡ d)
both_by a b c d true true one other is = (eqb-true a b one, eqb-true c d other)
both_by a b c d true false one other is = cc
both_by a b c d false second one other is = cc

-- a test of two numbers says that they are equal
both_true : (a b c d : ℕ) → (a == b && c == d) ≡ true → (a ≡ b) × (c ≡ d)
both_true a b c d is = both_by a b c d (a == b) (c == d) refl refl is

both_are : (a b c d : ℕ) → a ≡ b → c ≡ d → (a == b && c == d) ≡ true
both_are a b c d one other = ap (λ (first : Bool). first && c == d) (eq-eqb a b one) ∙ eq-eqb c d other

differs : (test : Bool) → (test ≡ true → ⊥) → test ≡ false
differs true never = absurd (never refl)
differs false never = refl

never_both : (codec tag : ℕ) (first second : Jack) → IsBefore first second → (first.codec ≡ codec) × (first.tag ≡ tag) → (second.codec ≡ codec) × (second.tag ≡ tag) → ⊥
never_both codec tag first second (inl less) (a, b) (c, d) = omega (arith, less, a, c)
never_both codec tag first second (inr (same, less)) (a, b) (c, d) = omega (arith, less, b, d)

later_not : (codec tag : ℕ) (first second : Jack) → is_of codec tag first ≡ true → IsBefore first second → is_of codec tag second ≡ false
later_not codec tag first second is before = differs (is_of codec tag second) (λ too.
    never_both codec tag first second before (both_true first.codec codec first.tag tag is) (both_true second.codec codec second.tag tag too))

-- ---- a codec and tag has one jack at most

none_later : (codec tag : ℕ) (first : Jack) (jacks : List Jack) → is_of codec tag first ≡ true → All (IsBefore first) jacks → number_of codec tag jacks ≡ 0
none_later codec tag first [] is before = refl
none_later codec tag first (jack ∷ jacks) is before =
    let here : one_if (is_of codec tag jack) ≡ 0 = ap one_if (later_not codec tag first jack is (All-head (IsBefore first) jack jacks before)) in
    let rest = none_later codec tag first jacks is (All-tail (IsBefore first) jack jacks before) in
    omega (arith, here, rest)

pairs_head : (jack : Jack) (jacks : List Jack) → AllPairs IsBefore (jack ∷ jacks) → All (IsBefore jack) jacks
pairs_head jack jacks pairs = λ k d within. pairs zero (suc k) d (omega arith) (omega arith)

pairs_tail : (jack : Jack) (jacks : List Jack) → AllPairs IsBefore (jack ∷ jacks) → AllPairs IsBefore jacks
pairs_tail jack jacks pairs = λ i j d less within. pairs (suc i) (suc j) d (omega arith) (omega arith)

most_by : (rest : ℕ) (test : Bool) → (test ≡ true → rest ≡ 0) → rest ≤ 1 → one_if test + rest ≤ 1
most_by rest true none few = let zero_more = none refl in omega (arith, zero_more)
most_by rest false none few = omega (arith, few)

one_at_most : (codec tag : ℕ) (jacks : List Jack) → AllPairs IsBefore jacks → number_of codec tag jacks ≤ 1
one_at_most codec tag [] pairs = omega arith
one_at_most codec tag (jack ∷ jacks) pairs =
    most_by (number_of codec tag jacks) (is_of codec tag jack) (λ is. none_later codec tag jack jacks is (pairs_head jack jacks pairs)) (one_at_most codec tag jacks (pairs_tail jack jacks pairs))

some_there : (codec tag : ℕ) (jacks : List Jack) → Any (IsOf codec tag) jacks → 1 ≤ number_of codec tag jacks
some_there codec tag [] (k, jack, within, is, holds) = absurd (omega (arith, within))
some_there codec tag (first ∷ jacks) (zero, jack, within, is, holds) =
    let here : is_of codec tag first ≡ true = subst (λ (j : Jack). is_of codec tag j ≡ true) (sym is) (both_are jack.codec codec jack.tag tag holds.0 holds.1) in
    let one : one_if (is_of codec tag first) ≡ 1 = ap one_if here in omega (arith, one)
some_there codec tag (first ∷ jacks) (suc k, jack, within, is, holds) =
    let more = some_there codec tag jacks (k, jack, omega (arith, within), is, holds) in omega (arith, more)

-- ---- the sum of a codec and tag

at_by : (t n m count : ℕ) (test : Bool) → (test ≡ true → n ≡ t) → m ≡ t * count → cond test n 0 + m ≡ t * (one_if test + count)
at_by t n m count true here rest = let is = here refl in let spread : t * (1 + count) ≡ t + t * count = omega arith in omega (arith, is, rest, spread)
at_by t n m count false here rest = let spread : t * (0 + count) ≡ t * count = ap (λ k. t * k) (omega arith) in omega (arith, rest, spread)

jack_told : (events : List Event) (codec tag : ℕ) (jack : Jack) → IsTold events jack → is_of codec tag jack ≡ true → jack.times ≡ times_of events codec tag
jack_told events codec tag jack told is =
    let same = both_true jack.codec codec jack.tag tag is in
    told.times ∙ (ap (λ c. times_of events c jack.tag) same.0 ∙ ap (λ t. times_of events codec t) same.1)

total_at : (events : List Event) (codec tag : ℕ) (jacks : List Jack) → All (IsTold events) jacks → total (times_at codec tag) jacks ≡ times_of events codec tag * number_of codec tag jacks
total_at events codec tag [] told = let t = times_of events codec tag in let none : t * 0 ≡ 0 = omega arith in sym none
total_at events codec tag (jack ∷ jacks) told =
    at_by (times_of events codec tag) jack.times (total (times_at codec tag) jacks) (number_of codec tag jacks) (is_of codec tag jack)
    (jack_told events codec tag jack (All-head (IsTold events) jack jacks told)) (total_at events codec tag jacks (All-tail (IsTold events) jack jacks told))

-- where some event is of a codec and tag, the list has its jack
there_by : (codec tag : ℕ) (jacks : List Jack) (event : Event) (more : ℕ) (test : Bool) → is_at codec tag event ≡ test → Any (IsOf event.codec event.tag) jacks → (1 ≤ more → 1 ≤ number_of codec tag jacks) → 1 ≤ one_if test + more
    → 1 ≤ number_of codec tag jacks
there_by codec tag jacks event more true is any rest some =
    let same = both_true event.codec codec event.tag tag is in
    subst (λ t. 1 ≤ number_of codec t jacks) same.1 (subst (λ c. 1 ≤ number_of c event.tag jacks) same.0 (some_there event.codec event.tag jacks any))
there_by codec tag jacks event more false is any rest some = rest (omega (arith, some))

told_there : (codec tag : ℕ) (jacks : List Jack) (events : List Event) → All (λ (event : Event). Any (IsOf event.codec event.tag) jacks) events → 1 ≤ times events codec tag → 1 ≤ number_of codec tag jacks
told_there codec tag jacks [] whole some = absurd (omega (arith, some))
told_there codec tag jacks (event ∷ events) whole some =
    there_by codec tag jacks event (times events codec tag) (is_at codec tag event) refl (All-head (λ (event : Event). Any (IsOf event.codec event.tag) jacks) event events whole)
    (told_there codec tag jacks events (All-tail (λ (event : Event). Any (IsOf event.codec event.tag) jacks) event events whole)) some

once : (count n : ℕ) → count ≤ 1 → (1 ≤ n → 1 ≤ count) → n * count ≡ n
once zero zero few some = refl
once zero (suc n) few some = absurd (omega (arith, some (omega arith)))
once (suc zero) n few some = omega arith
once (suc (suc count)) n few some = absurd (omega (arith, few))

pub counts_at : (events : List Event) (jacks : List Jack) (codec tag : ℕ) → Counts events jacks → sum_at codec tag jacks ≡ times_of events codec tag
counts_at events jacks codec tag counts =
    total_is (times_at codec tag) jacks ∙ total_at events codec tag jacks counts.times
    ∙ once (number_of codec tag jacks) (times_of events codec tag) (one_at_most codec tag jacks counts.ascend)
    (λ some. told_there codec tag jacks events counts.whole (subst (λ n. 1 ≤ n) (times_is events codec tag) some))

-- ---- the sum of all

-- how many jacks are of the event
abbrev number_by : Event → List Jack → ℕ
number_by event jacks = total (λ (jack : Jack). one_if (is_at jack.codec jack.tag event)) jacks

flip : (a b : ℕ) → (a == b) ≡ (b == a)
flip a b = by (a == b) refl
  where
    by : (test : Bool) → (a == b) ≡ test → test ≡ (b == a)
    by true is = sym (eq-eqb b a (sym (eqb-true a b is)))
    by false is = sym (ne_eqb b a (λ same. eqb-false a b is (sym same)))

number_flip : (event : Event) (jacks : List Jack) → number_by event jacks ≡ number_of event.codec event.tag jacks
number_flip event [] = refl
number_flip event (jack ∷ jacks) =
    let one = flip event.codec jack.codec in
    let other = flip event.tag jack.tag in
    let here : one_if (is_at jack.codec jack.tag event) ≡ one_if (is_of event.codec event.tag jack) =
    ap (λ (test : Bool). one_if (test && event.tag == jack.tag)) one ∙ ap (λ (test : Bool). one_if (jack.codec == event.codec && test)) other in
    let rest = number_flip event jacks in omega (arith, here, rest)

abbrev told_by : List Event → Jack → ℕ
told_by events jack = times events jack.codec jack.tag

summed : (event : Event) (events : List Event) (jacks : List Jack) → total (told_by (event ∷ events)) jacks ≡ number_by event jacks + total (told_by events) jacks
summed event events [] = refl
summed event events (jack ∷ jacks) = let more = summed event events jacks in omega (arith, more)

none_told : (jacks : List Jack) → total (told_by []) jacks ≡ 0
none_told [] = refl
none_told (jack ∷ jacks) = let rest = none_told jacks in omega (arith, rest)

all_told : (events : List Event) (jacks : List Jack) → AllPairs IsBefore jacks → All (λ (event : Event). Any (IsOf event.codec event.tag) jacks) events → total (told_by events) jacks ≡ length events
all_told [] jacks pairs whole = none_told jacks
all_told (event ∷ events) jacks pairs whole =
    let any = All-head (λ (event : Event). Any (IsOf event.codec event.tag) jacks) event events whole in
    let few = one_at_most event.codec event.tag jacks pairs in
    let some = some_there event.codec event.tag jacks any in
    let is = number_flip event jacks in
    let rest = all_told events jacks pairs (All-tail (λ (event : Event). Any (IsOf event.codec event.tag) jacks) event events whole) in
    let sum = summed event events jacks in
    omega (arith, few, some, is, rest, sum)

same_sums : (events : List Event) (jacks : List Jack) → All (IsTold events) jacks → total (λ (jack : Jack). jack.times) jacks ≡ total (told_by events) jacks
same_sums events [] told = refl
same_sums events (jack ∷ jacks) told =
    let here : jack.times ≡ told_by events jack = (All-head (IsTold events) jack jacks told).times ∙ times_is events jack.codec jack.tag in
    let rest = same_sums events jacks (All-tail (IsTold events) jack jacks told) in
    omega (arith, here, rest)

pub counts_all : (events : List Event) (jacks : List Jack) → Counts events jacks → sum_all jacks ≡ length events
counts_all events jacks counts = total_is (λ (jack : Jack). jack.times) jacks ∙ same_sums events jacks counts.times ∙ all_told events jacks counts.ascend counts.whole

-- ---- what an event can name

record IsNamed (codec tag : ℕ) : Type 0 where
  codec_low : codec ≤ 15
  tag_low : tag ≤ 63

named_by : (codec tag : ℕ) (event : Event) (more : ℕ) (test : Bool) → is_at codec tag event ≡ test → IsOfPin event → (1 ≤ more → IsNamed codec tag) → 1 ≤ one_if test + more → IsNamed codec tag
named_by codec tag event more true is pin rest some =
    let same = both_true event.codec codec event.tag tag is in
    record { codec_low = omega (arith, same.0, pin.codec); tag_low = omega (arith, same.1, pin.tag) }
named_by codec tag event more false is pin rest some = rest (omega (arith, some))

named : (codec tag : ℕ) (events : List Event) → All IsOfPin events → 1 ≤ times events codec tag → IsNamed codec tag
named codec tag [] of_pins some = absurd (omega (arith, some))
named codec tag (event ∷ events) of_pins some =
    named_by codec tag event (times events codec tag) (is_at codec tag event) refl (All-head IsOfPin event events of_pins) (named codec tag events (All-tail IsOfPin event events of_pins)) some

abbrev pub IsLow : Jack → Type 0
IsLow jack = (jack.codec ≤ 15) × (jack.tag ≤ 63)

pub all_low : (events : List Event) (jacks : List Jack) → All IsOfPin events → Counts events jacks → All IsLow jacks
all_low events jacks of_pins counts = λ k d within.
    let jack = get_or jacks k d in
    let told = counts.times k d within in
    let some : 1 ≤ times events jack.codec jack.tag = subst (λ n. 1 ≤ n) (told.times ∙ times_is events jack.codec jack.tag) told.some in
    let low = named jack.codec jack.tag events of_pins some in
    (low.codec_low, low.tag_low)
