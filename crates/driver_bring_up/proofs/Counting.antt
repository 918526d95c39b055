-- One more event is counted.
use Rattle.std.proofs.Common.{◌≡◌, ◌≢◌, ◌<◌, ◌≤◌, ℕ, zero, suc, ◌+◌, Bool, true, false, ◌&&◌, ◌==◌, List, [], ◌∷◌, ◌++◌, length, set, get_or, replicate, drop, Some, All, refl, sym, ap, subst, ◌∙◌, append_assoc, arith, get_or-set_same, get_or-set_other}
use Rattle.std.specs.Prelude.{cond, slice_get}
use Rattle.std.proofs.lemmas.Bool.{eqb-true, eqb-false}
use Rattle.std.proofs.lemmas.List.Sums.{sum_by_push}
use Rattle.std.proofs.lemmas.Option.{slice_get_within, get_or_from_slice_get}
use Rattle.command_engine.specs.declared.answers.Event.{Event}
use Rattle.driver_bring_up.specs.Jacks.{IsOfPin, is_at, times_of, counter_of, row_of, AreTimes}

-- ---- what has counted nothing

blank_row : (tags tag : ℕ) → get_or {A = ℕ} (replicate tags 0) tag 0 ≡ 0
blank_row zero tag = refl
blank_row (suc tags) zero = refl
blank_row (suc tags) (suc tag) = blank_row tags tag

pub blank_counter : (codecs tags codec tag : ℕ) → counter_of (replicate codecs (replicate tags 0)) codec tag ≡ 0
blank_counter zero tags codec tag = refl
blank_counter (suc codecs) tags zero tag = blank_row tags tag
blank_counter (suc codecs) tags (suc codec) tag = blank_counter codecs tags codec tag

-- ---- a counter is set

abbrev pub with_counter : List (List ℕ) → (codec tag times : ℕ) → List (List ℕ)
with_counter rows codec tag times = set rows codec (set (row_of rows codec) tag times)

set_here : (rows : List (List ℕ)) (codec tag times : ℕ) → codec < length rows → tag < length (row_of rows codec)
    → counter_of (with_counter rows codec tag times) codec tag ≡ times
set_here rows codec tag times low within = grind (arith, get_or-set_same)

set_beside : (rows : List (List ℕ)) (codec tag times other : ℕ) → codec < length rows → other ≢ tag
    → counter_of (with_counter rows codec tag times) codec other ≡ counter_of rows codec other
set_beside rows codec tag times other low beside = grind (arith, get_or-set_same, get_or-set_other)

set_away : (rows : List (List ℕ)) (codec tag times other place : ℕ) → other ≢ codec
    → counter_of (with_counter rows codec tag times) other place ≡ counter_of rows other place
set_away rows codec tag times other place away = grind (arith, get_or-set_other)

-- ---- one more event

one_more : (events : List Event) (event : Event) (codec tag : ℕ) → times_of (events ++ event ∷ []) codec tag ≡ times_of events codec tag + cond (is_at codec tag event) 1 0
one_more events event codec tag = sum_by_push (λ (event : Event). cond (is_at codec tag event) 1 0) events event

module _ (rows : List (List ℕ)) (events : List Event) (event : Event) (counts : AreTimes events rows) (low : event.codec < length rows) (within : event.tag < length (row_of rows event.codec)) where
  counted_at : (codec tag : ℕ) (same_codec same_tag : Bool) → codec ≤ 15 → tag ≤ 63 → (event.codec == codec) ≡ same_codec → (event.tag == tag) ≡ same_tag
      → counter_of (with_counter rows event.codec event.tag (counter_of rows event.codec event.tag + 1)) codec tag ≡ times_of (events ++ event ∷ []) codec tag
  counted_at codec tag true true few_codecs few_tags is_codec is_tag =
      let here = set_here rows event.codec event.tag (counter_of rows event.codec event.tag + 1) low within in
      let e : event.codec ≡ codec = eqb-true _ _ is_codec in
      let f : event.tag ≡ tag = eqb-true _ _ is_tag in
      let more = one_more events event codec tag ∙ (ap (λ (b : Bool). times_of events codec tag + cond (b && (event.tag == tag)) 1 0) is_codec ∙ ap (λ (b : Bool). times_of events codec tag + cond b 1 0) is_tag) in
      let moved : counter_of (with_counter rows event.codec event.tag (counter_of rows event.codec event.tag + 1)) codec tag ≡ counter_of rows codec tag + 1 =
      subst (λ (c : ℕ). counter_of (with_counter rows event.codec event.tag (counter_of rows event.codec event.tag + 1)) c tag ≡ counter_of rows c tag + 1) e
      (subst (λ (t : ℕ). counter_of (with_counter rows event.codec event.tag (counter_of rows event.codec event.tag + 1)) event.codec t ≡ counter_of rows event.codec t + 1) f here) in
      moved ∙ (ap (λ n. n + 1) (counts codec tag few_codecs few_tags) ∙ sym more)
  counted_at codec tag true false few_codecs few_tags is_codec is_tag =
      let e : event.codec ≡ codec = eqb-true _ _ is_codec in
      let beside = set_beside rows event.codec event.tag (counter_of rows event.codec event.tag + 1) tag low (λ is. eqb-false _ _ is_tag (sym is)) in
      let more = one_more events event codec tag ∙ (ap (λ (b : Bool). times_of events codec tag + cond (b && (event.tag == tag)) 1 0) is_codec ∙ ap (λ (b : Bool). times_of events codec tag + cond b 1 0) is_tag) in
      let moved : counter_of (with_counter rows event.codec event.tag (counter_of rows event.codec event.tag + 1)) codec tag ≡ counter_of rows codec tag =
      subst (λ (c : ℕ). counter_of (with_counter rows event.codec event.tag (counter_of rows event.codec event.tag + 1)) c tag ≡ counter_of rows c tag) e beside in
      moved ∙ (counts codec tag few_codecs few_tags ∙ omega (arith, more))
  counted_at codec tag false same_tag few_codecs few_tags is_codec is_tag =
      let away = set_away rows event.codec event.tag (counter_of rows event.codec event.tag + 1) codec tag (λ is. eqb-false _ _ is_codec (sym is)) in
      let more = one_more events event codec tag ∙ ap (λ (b : Bool). times_of events codec tag + cond (b && (event.tag == tag)) 1 0) is_codec in
      away ∙ (counts codec tag few_codecs few_tags ∙ omega (arith, more))

  counted : AreTimes (events ++ event ∷ []) (with_counter rows event.codec event.tag (counter_of rows event.codec event.tag + 1))
  counted codec tag few_codecs few_tags = counted_at codec tag (event.codec == codec) (event.tag == tag) few_codecs few_tags refl refl

-- the same, at places that are the event's
pub counted_there : (rows : List (List ℕ)) (events : List Event) (event : Event) (codec tag : ℕ) → codec ≡ event.codec → tag ≡ event.tag → IsOfPin event → length rows ≡ 16
    → All (λ row. length row ≡ 64) rows → AreTimes events rows → AreTimes (events ++ event ∷ []) (with_counter rows codec tag (counter_of rows codec tag + 1))
counted_there rows events event codec tag is_codec is_tag of_pin sixteen wide counts =
    let low : event.codec < length rows = omega (arith, of_pin.codec, sixteen) in
    let width : length (row_of rows event.codec) ≡ 64 = wide event.codec [] low in
    let within : event.tag < length (row_of rows event.codec) = omega (arith, of_pin.tag, width) in
    subst (λ (c : ℕ). AreTimes (events ++ event ∷ []) (with_counter rows c tag (counter_of rows c tag + 1))) (sym is_codec)
    (subst (λ (t : ℕ). AreTimes (events ++ event ∷ []) (with_counter rows event.codec t (counter_of rows event.codec t + 1))) (sym is_tag)
    (counted rows events event counts low within))

-- ---- a counter grows

pub grown : (rows : List (List ℕ)) (c t times : ℕ) → c < length rows → t < length (row_of rows c) → (codec tag : ℕ)
    → counter_of (with_counter rows c t (counter_of rows c t + times)) codec tag ≡ counter_of rows codec tag + cond (c == codec && t == tag) times 0
grown rows c t times low within codec tag = by (c == codec) (t == tag) refl refl where
  by : (same_codec same_tag : Bool) → (c == codec) ≡ same_codec → (t == tag) ≡ same_tag
      → counter_of (with_counter rows c t (counter_of rows c t + times)) codec tag ≡ counter_of rows codec tag + cond (same_codec && same_tag) times 0
  by true true is_codec is_tag =
      subst (λ (codec : ℕ). counter_of (with_counter rows c t (counter_of rows c t + times)) codec tag ≡ counter_of rows codec tag + times) (eqb-true c codec is_codec)
      (subst (λ (tag : ℕ). counter_of (with_counter rows c t (counter_of rows c t + times)) c tag ≡ counter_of rows c tag + times) (eqb-true t tag is_tag)
      (set_here rows c t (counter_of rows c t + times) low within))
  by true false is_codec is_tag =
      subst (λ (codec : ℕ). counter_of (with_counter rows c t (counter_of rows c t + times)) codec tag ≡ counter_of rows codec tag + 0) (eqb-true c codec is_codec)
      (set_beside rows c t (counter_of rows c t + times) tag low (λ is. eqb-false t tag is_tag (sym is)) ∙ omega arith)
  by false same_tag is_codec is_tag = set_away rows c t (counter_of rows c t + times) codec tag (λ is. eqb-false c codec is_codec (sym is)) ∙ omega arith

-- ---- the events that are left

pub first_is : (xs : List Event) (x : Event) → slice_get xs 0 ≡ Some x → xs ≡ x ∷ drop 1 xs
first_is [] x is = absurd (omega (arith, slice_get_within [] 0 x is))
first_is (y ∷ ys) x is = ap (λ (z : Event). z ∷ ys) (get_or_from_slice_get (y ∷ ys) 0 x x is)

pub done_more : (done rest rest' all : List Event) (event : Event) → rest ≡ event ∷ rest' → done ++ rest ≡ all → (done ++ event ∷ []) ++ rest' ≡ all
done_more done rest rest' all event is whole = append_assoc done (event ∷ []) rest' ∙ (ap (λ (xs : List Event). done ++ xs) (sym is) ∙ whole)
