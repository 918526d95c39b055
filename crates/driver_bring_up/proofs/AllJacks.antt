-- The list of all counters is that of the events that they count.
use Rattle.std.proofs.Common.{◌≡◌, ◌≢◌, ◌<◌, ◌≤◌, inl, inr, ℕ, zero, suc, ◌+◌, Bool, true, false, ◌&&◌, ◌==◌, List, [], ◌∷◌, ◌++◌, length, get_or, All, refl, sym, ap, subst, ◌∙◌, arith, length-append}
use Rattle.std.specs.Prelude.{cond, AllPairs, Any}
use Rattle.std.proofs.lemmas.Bool.{eqb-true, eqb-false, eq-eqb, ne_eqb}
use Rattle.std.proofs.lemmas.List.{get_or_append_left, get_or-append-add}
use Rattle.std.proofs.lemmas.List.Sums.{get_or-le-sum_by}
use Rattle.std.proofs.lemmas.List.Elements.{All-nil, All-cons, All-head, All-tail, All-append, All-weaker}
use Rattle.std.proofs.lemmas.List.Kept.{AllPairs-cons}
use Rattle.command_engine.specs.declared.answers.Event.{Event}
use Rattle.driver_progress.specs.declared.jack.Jack.{Jack}
use Rattle.driver_bring_up.specs.Jacks.{IsOfPin, is_at, times_of, counter_of, row_of, AreTimes, IsBefore, IsTold, IsOf, Counts}
use Rattle.driver_bring_up.specs.Listed.{jack_at, told, row_jacks, all_jacks}

-- ---- lists of jacks

pairs_joined : (xs ys : List Jack) → AllPairs IsBefore xs → AllPairs IsBefore ys → All (λ (x : Jack). All (IsBefore x) ys) xs → AllPairs IsBefore (xs ++ ys)
pairs_joined [] ys first second across = second
pairs_joined (x ∷ xs) ys first second across =
    let here : All (IsBefore x) xs = λ k d within. first zero (suc k) d (omega arith) (omega arith) in
    let rest : AllPairs IsBefore xs = λ i j d less within. first (suc i) (suc j) d (omega arith) (omega arith) in
    AllPairs-cons IsBefore x (xs ++ ys) (All-append (IsBefore x) xs ys here (All-head (λ (x : Jack). All (IsBefore x) ys) x xs across))
    (pairs_joined xs ys rest second (All-tail (λ (x : Jack). All (IsBefore x) ys) x xs across))

any_left : (P : Jack → Type 0) (xs ys : List Jack) → Any P xs → Any P (xs ++ ys)
any_left P xs ys (k, x, within, is, holds) = (k, x, omega (arith, length-append xs ys), get_or_append_left xs ys x k within ∙ is, holds)

any_right : (P : Jack → Type 0) (xs ys : List Jack) → Any P ys → Any P (xs ++ ys)
any_right P xs ys (k, x, within, is, holds) = (length xs + k, x, omega (arith, length-append xs ys), get_or-append-add xs ys k x ∙ is, holds)

-- ---- one jack

told_all_at : (P : Jack → Type 0) (jack : Jack) (none : Bool) → (jack.times == 0) ≡ none → (1 ≤ jack.times → P jack) → All P (cond none [] (jack ∷ []))
told_all_at P jack true is holds = All-nil P
told_all_at P jack false is holds =
    let some : jack.times ≢ 0 = eqb-false _ _ is in
    All-cons P jack [] (holds (omega (arith, some))) (All-nil P)

told_all : (P : Jack → Type 0) (jack : Jack) → (1 ≤ jack.times → P jack) → All P (told jack)
told_all P jack holds = told_all_at P jack (jack.times == 0) refl holds

told_pairs_at : (jack : Jack) (none : Bool) → AllPairs IsBefore (cond none [] (jack ∷ []))
told_pairs_at jack true = λ i j d less within. absurd (omega arith)
told_pairs_at jack false = λ i j d less within. absurd (omega arith)

told_pairs : (jack : Jack) → AllPairs IsBefore (told jack)
told_pairs jack = told_pairs_at jack (jack.times == 0)

told_any : (P : Jack → Type 0) (jack : Jack) → 1 ≤ jack.times → P jack → Any P (told jack)
told_any P jack some holds =
    let is : told jack ≡ jack ∷ [] = ap (λ (none : Bool). cond none [] (jack ∷ [])) (ne_eqb jack.times 0 (λ none. absurd (omega (arith, none, some)))) in
    subst (Any P) (sym is) (zero, jack, omega arith, refl, holds)

-- ---- a row

record IsInRow (codec : ℕ) (row : List ℕ) (tags : ℕ) (jack : Jack) : Type 0 where
  its_codec : jack.codec ≡ codec
  its_tag : jack.tag < tags
  times : jack.times ≡ get_or row jack.tag 0
  some : 1 ≤ jack.times

row_all : (codec : ℕ) (row : List ℕ) (tags : ℕ) → All (IsInRow codec row tags) (row_jacks codec row tags)
unfolding row_jacks
row_all codec row zero = All-nil (IsInRow codec row zero)
row_all codec row (suc tags) =
    let jack = jack_at codec tags (get_or row tags 0) in
    All-append (IsInRow codec row (suc tags)) (row_jacks codec row tags) (told jack)
    (All-weaker (IsInRow codec row tags) (IsInRow codec row (suc tags)) (λ jack is. record { its_codec = is.its_codec; its_tag = omega (arith, is.its_tag); times = is.times; some = is.some })
    (row_jacks codec row tags) (row_all codec row tags))
    (told_all (IsInRow codec row (suc tags)) jack (λ some. record { its_codec = refl; its_tag = omega arith; times = refl; some = some }))

row_ascends : (codec : ℕ) (row : List ℕ) (tags : ℕ) → AllPairs IsBefore (row_jacks codec row tags)
unfolding row_jacks
row_ascends codec row zero = λ i j d less within. absurd (omega arith)
row_ascends codec row (suc tags) =
    let jack = jack_at codec tags (get_or row tags 0) in
    pairs_joined (row_jacks codec row tags) (told jack) (row_ascends codec row tags) (told_pairs jack)
    (All-weaker (IsInRow codec row tags) (λ (x : Jack). All (IsBefore x) (told jack))
    (λ x is. told_all (IsBefore x) jack (λ some. inr (is.its_codec, is.its_tag)))
    (row_jacks codec row tags) (row_all codec row tags))

row_whole : (codec : ℕ) (row : List ℕ) (tags tag : ℕ) → tag < tags → 1 ≤ get_or row tag 0 → Any (IsOf codec tag) (row_jacks codec row tags)
unfolding row_jacks
row_whole codec row zero tag low some = absurd (omega arith)
row_whole codec row (suc tags) tag low some = row_whole_at (λ less. row_whole codec row tags tag less some) (tag == tags) refl
  where
    row_whole_at : (tag < tags → Any (IsOf codec tag) (row_jacks codec row tags)) → (last : Bool) → (tag == tags) ≡ last → Any (IsOf codec tag) (row_jacks codec row tags ++ told (jack_at codec tags (get_or row tags 0)))
    row_whole_at before true is =
        let e : tag ≡ tags = eqb-true _ _ is in
        any_right (IsOf codec tag) (row_jacks codec row tags) (told (jack_at codec tags (get_or row tags 0)))
        (told_any (IsOf codec tag) (jack_at codec tags (get_or row tags 0)) (subst (λ (t : ℕ). 1 ≤ get_or row t 0) e some) (refl, sym e))
    row_whole_at before false is =
        let other : tag ≢ tags = eqb-false _ _ is in
        any_left (IsOf codec tag) (row_jacks codec row tags) (told (jack_at codec tags (get_or row tags 0))) (before (omega (arith, other)))

-- ---- all rows

record IsInRows (rows : List (List ℕ)) (codecs : ℕ) (jack : Jack) : Type 0 where
  its_codec : jack.codec < codecs
  its_tag : jack.tag < 64
  times : jack.times ≡ counter_of rows jack.codec jack.tag
  some : 1 ≤ jack.times

in_rows : (rows : List (List ℕ)) (codecs : ℕ) (jack : Jack) → IsInRow codecs (row_of rows codecs) 64 jack → IsInRows rows (suc codecs) jack
in_rows rows codecs jack is = record {
  its_codec = omega (arith, is.its_codec);
  its_tag = is.its_tag;
  times = is.times ∙ ap (λ (codec : ℕ). counter_of rows codec jack.tag) (sym is.its_codec);
  some = is.some;
}

rows_all : (rows : List (List ℕ)) (codecs : ℕ) → All (IsInRows rows codecs) (all_jacks rows codecs)
unfolding all_jacks
rows_all rows zero = All-nil (IsInRows rows zero)
rows_all rows (suc codecs) =
    All-append (IsInRows rows (suc codecs)) (all_jacks rows codecs) (row_jacks codecs (row_of rows codecs) 64)
    (All-weaker (IsInRows rows codecs) (IsInRows rows (suc codecs)) (λ jack is. record { its_codec = omega (arith, is.its_codec); its_tag = is.its_tag; times = is.times; some = is.some })
    (all_jacks rows codecs) (rows_all rows codecs))
    (All-weaker (IsInRow codecs (row_of rows codecs) 64) (IsInRows rows (suc codecs)) (in_rows rows codecs) (row_jacks codecs (row_of rows codecs) 64) (row_all codecs (row_of rows codecs) 64))

rows_ascend : (rows : List (List ℕ)) (codecs : ℕ) → AllPairs IsBefore (all_jacks rows codecs)
unfolding all_jacks
rows_ascend rows zero = λ i j d less within. absurd (omega arith)
rows_ascend rows (suc codecs) =
    let row = row_jacks codecs (row_of rows codecs) 64 in
    pairs_joined (all_jacks rows codecs) row (rows_ascend rows codecs) (row_ascends codecs (row_of rows codecs) 64)
    (All-weaker (IsInRows rows codecs) (λ (x : Jack). All (IsBefore x) row)
    (λ x is. All-weaker (IsInRow codecs (row_of rows codecs) 64) (IsBefore x) (λ y there. inl (omega (arith, is.its_codec, there.its_codec))) row (row_all codecs (row_of rows codecs) 64))
    (all_jacks rows codecs) (rows_all rows codecs))

rows_whole : (rows : List (List ℕ)) (codecs codec tag : ℕ) → codec < codecs → tag < 64 → 1 ≤ counter_of rows codec tag → Any (IsOf codec tag) (all_jacks rows codecs)
unfolding all_jacks
rows_whole rows zero codec tag low few some = absurd (omega arith)
rows_whole rows (suc codecs) codec tag low few some = rows_whole_at (λ less. rows_whole rows codecs codec tag less few some) (codec == codecs) refl
  where
    rows_whole_at : (codec < codecs → Any (IsOf codec tag) (all_jacks rows codecs)) → (last : Bool) → (codec == codecs) ≡ last → Any (IsOf codec tag) (all_jacks rows codecs ++ row_jacks codecs (row_of rows codecs) 64)
    rows_whole_at before true is =
        let e : codec ≡ codecs = eqb-true _ _ is in
        any_right (IsOf codec tag) (all_jacks rows codecs) (row_jacks codecs (row_of rows codecs) 64)
        (subst (λ (c : ℕ). Any (IsOf codec tag) (row_jacks c (row_of rows c) 64)) e (row_whole codec (row_of rows codec) 64 tag few some))
    rows_whole_at before false is =
        let other : codec ≢ codecs = eqb-false _ _ is in
        any_left (IsOf codec tag) (all_jacks rows codecs) (row_jacks codecs (row_of rows codecs) 64) (before (omega (arith, other)))

-- ---- the events

itself : (event : Event) → is_at event.codec event.tag event ≡ true
itself event = ap (λ (b : Bool). b && (event.tag == event.tag)) (eq-eqb event.codec event.codec refl) ∙ eq-eqb event.tag event.tag refl

once_at_least : (events : List Event) (k : ℕ) (d : Event) → k < length events → 1 ≤ times_of events (get_or events k d).codec (get_or events k d).tag
once_at_least events k d within =
    let event : Event = get_or events k d in
    let here = get_or-le-sum_by (λ (other : Event). cond (is_at event.codec event.tag other) 1 0) events k d within in
    let one : ◌≡◌ {A = ℕ} (cond (is_at event.codec event.tag event) 1 0) 1 = ap (λ (b : Bool). cond b 1 0) (itself event) in
    omega (arith, here, one)

pub all_counted : (rows : List (List ℕ)) (events : List Event) → AreTimes events rows → All IsOfPin events → Counts events (all_jacks rows 16)
all_counted rows events counts of_pins = record {
  ascend = rows_ascend rows 16;
  times = All-weaker (IsInRows rows 16) (IsTold events)
      (λ jack is. record { times = is.times ∙ counts jack.codec jack.tag (omega (arith, is.its_codec)) (omega (arith, is.its_tag)); some = is.some })
      (all_jacks rows 16) (rows_all rows 16);
  whole = λ k d within.
      let event : Event = get_or events k d in
      let of_pin : IsOfPin event = of_pins k d within in
      let once = once_at_least events k d within in
      let same = counts event.codec event.tag of_pin.codec of_pin.tag in
      rows_whole rows 16 event.codec event.tag (omega (arith, of_pin.codec)) (omega (arith, of_pin.tag)) (omega (arith, once, same));
}
