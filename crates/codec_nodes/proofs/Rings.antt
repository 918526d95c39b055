-- A ring of waiting items.
use Rattle.std.proofs.Common.{◌≡◌, ◌<◌, ◌≤◌, ◌+◌, ◌-◌, ◌==◌, ◌&&◌, ◌||◌, ℕ, Bool, true, false, not, cond, List, [], ◌∷◌, ◌++◌, length, take, drop, get_or, Some, None, refl, sym, ap, subst, ◌∙◌, arith, add-one}
use Rattle.std.specs.Prelude.{nat_lt, slice_get}
use Rattle.std.specs.List.{list_any}
use Rattle.std.proofs.Math.Seq.{drop-cons, drop-length}
use Rattle.std.proofs.lemmas.Bool.{eq-eqb, true≢false, ltb-true, and_parts}
use Rattle.std.proofs.lemmas.List.{take_more, append-nil, length-append, append_assoc, length-drop, length-take-le, take_all}
use Rattle.std.proofs.lemmas.List.Folds.{list_any-append}
use Rattle.std.proofs.lemmas.Option.{same_Some, none-some}
use Rattle.codec_graph.specs.declared.waiting.Waiting.{Waiting}
use Rattle.codec_graph.specs.declared.waiting.Waiting.TheVariants.{Answer, Unsolicited}
use Rattle.codec_graph.specs.CodecStates.{is_answer, answers, unsolicited, drop_answer}
use Rattle.codec_graph.proofs.Callers.{answers-cons, answers-push, unsolicited-push, all-counted, unsolicited-drop_answer}
use Rattle.circular_buffer.specs.Buffer.{Buffer, buffer, keep_last}
use Rattle.codec_nodes.specs.Counts.{IsCounted}

-- a ring with room keeps all its items
pub keep_last-all : (n : ℕ) (items : List Waiting) → length items ≤ n → keep_last n items ≡ items
keep_last-all n items fits =
    let none : length items - n ≡ 0 = omega arith in
    ap (λ k. drop k items) none

-- an answer that comes last in a ring that has fewer than 64
pub counted-answer : (ring new : Buffer Waiting) (a u word : ℕ) → IsCounted ring a u → (answers ring.items == 64) ≡ false → new ≡ buffer (keep_last ring.capacity (ring.items ++ Answer word ∷ [])) ring.capacity → IsCounted new (a + 1) u × (new.items ≡ ring.items ++ Answer word ∷ [])
counted-answer ring new a u word counted unfilled e =
    let open_place : answers ring.items ≡ 64 → ⊥ = λ f. true≢false (sym (eq-eqb (answers ring.items) 64 f) ∙ unfilled) in
    let few : a < 64 = omega (arith, counted.answers_are, counted.answers_fit) in
    let long = length-append ring.items (Answer word ∷ []) in
    let same = keep_last-all ring.capacity (ring.items ++ Answer word ∷ []) (omega (arith, all-counted ring.items, counted.answers_are, counted.unsolicited_are, counted.unsolicited_fit, counted.room)) in
    let whole : new ≡ buffer (ring.items ++ Answer word ∷ []) ring.capacity = e ∙ ap (λ items. buffer items ring.capacity) same in (
      subst (λ (r : Buffer Waiting). IsCounted r (a + 1) u) (sym whole) (record {
        room = counted.room;
        answers_are = omega (arith, answers-push ring.items (Answer word), counted.answers_are);
        unsolicited_are = omega (arith, unsolicited-push ring.items (Answer word), counted.unsolicited_are);
        answers_fit = omega arith;
        unsolicited_fit = counted.unsolicited_fit;
      }),
      ap (λ r. r.items) whole,
    )

pub counted-unsolicited : (ring new : Buffer Waiting) (a u word : ℕ) → IsCounted ring a u → nat_lt (unsolicited ring.items) 64 ≡ true → new ≡ buffer (keep_last ring.capacity (ring.items ++ Unsolicited word ∷ [])) ring.capacity → IsCounted new a (u + 1) × (new.items ≡ ring.items ++ Unsolicited word ∷ [])
counted-unsolicited ring new a u word counted unfilled e =
    let few = ltb-true (unsolicited ring.items) 64 unfilled in
    let long = length-append ring.items (Unsolicited word ∷ []) in
    let same = keep_last-all ring.capacity (ring.items ++ Unsolicited word ∷ []) (omega (arith, all-counted ring.items, counted.answers_are, counted.unsolicited_are, counted.answers_fit, counted.room)) in
    let whole : new ≡ buffer (ring.items ++ Unsolicited word ∷ []) ring.capacity = e ∙ ap (λ items. buffer items ring.capacity) same in (
      subst (λ (r : Buffer Waiting). IsCounted r a (u + 1)) (sym whole) (record {
        room = counted.room;
        answers_are = omega (arith, answers-push ring.items (Unsolicited word), counted.answers_are);
        unsolicited_are = omega (arith, unsolicited-push ring.items (Unsolicited word), counted.unsolicited_are);
        answers_fit = counted.answers_fit;
        unsolicited_fit = omega (arith, counted.unsolicited_are);
      }),
      ap (λ r. r.items) whole,
    )

-- a ring that is turned: its first items were taken out and put last again, but for the first answer
pub record IsTurned (all : List Waiting) (capacity turn : ℕ) (ring : Buffer Waiting) (dropped : Bool) : Type 0 where
  pub items : ring ≡ buffer (drop turn all ++ drop_answer (take turn all)) capacity
  pub found : dropped ≡ list_any is_answer (take turn all)

pub turned-none : (ring : Buffer Waiting) → IsTurned ring.items ring.capacity 0 ring false
turned-none ring = record { items = ap (λ items. buffer items ring.capacity) (sym (append-nil ring.items)); found = refl }

pub turned-same : (all : List Waiting) (capacity turn : ℕ) (ring other : Buffer Waiting) (dropped or : Bool) → IsTurned all capacity turn ring dropped → other ≡ ring → or ≡ dropped → IsTurned all capacity turn other or
turned-same all capacity turn ring other dropped or turned e f = record { items = e ∙ turned.items; found = f ∙ turned.found }

-- the first answer of some items and one more
drop_answer-push : (items : List Waiting) (item : Waiting) → drop_answer (items ++ item ∷ []) ≡ cond (not (list_any is_answer items) && is_answer item) (drop_answer items) (drop_answer items ++ item ∷ [])
drop_answer-push [] (Answer word) = refl
drop_answer-push [] (Unsolicited word) = refl
drop_answer-push (Answer first ∷ items) item = refl
drop_answer-push (Unsolicited first ∷ items) item =
    ap (λ rest. Unsolicited first ∷ rest) (drop_answer-push items item)
    ∙ by (not (list_any is_answer items) && is_answer item)
  where
    by : (b : Bool) → Unsolicited first ∷ cond b (drop_answer items) (drop_answer items ++ item ∷ []) ≡ cond b (Unsolicited first ∷ drop_answer items) (Unsolicited first ∷ (drop_answer items ++ item ∷ []))
    by true = refl
    by false = refl

drop_answer-short : (items : List Waiting) → length (drop_answer items) ≤ length items
drop_answer-short [] = omega arith
drop_answer-short (Answer word ∷ items) = omega arith
drop_answer-short (Unsolicited word ∷ items) = let rest = drop_answer-short items in omega arith

-- the first item of a turned ring, and what is behind it
first_is : (all : List Waiting) (capacity turn : ℕ) (ring : Buffer Waiting) (dropped : Bool) (item : Waiting) → IsTurned all capacity turn ring dropped → turn < length all → slice_get ring.items 0 ≡ Some item → (get_or all turn item ≡ item) × (drop 1 ring.items ≡ drop (turn + 1) all ++ drop_answer (take turn all))
first_is all capacity turn ring dropped item turned low e =
    let cons : drop turn all ≡ get_or all turn item ∷ drop (turn + 1) all = rw (drop-cons all turn item, add-one) refl in
    let items : ring.items ≡ get_or all turn item ∷ (drop (turn + 1) all ++ drop_answer (take turn all)) =
    ap (λ r. r.items) turned.items ∙ ap (λ (front : List Waiting). front ++ drop_answer (take turn all)) cons in
    (same_Some _ _ (sym (ap (λ (xs : List Waiting). slice_get xs 0) items) ∙ e), ap (λ (xs : List Waiting). drop 1 xs) items)

found-more : (all : List Waiting) (turn : ℕ) (item : Waiting) → turn < length all → get_or all turn item ≡ item → take (turn + 1) all ≡ take turn all ++ item ∷ []
found-more all turn item low e = take_more all turn item low ∙ ap (λ i. take turn all ++ i ∷ []) e

-- the first answer is dropped
pub turned-drop : (all : List Waiting) (capacity turn : ℕ) (ring popped : Buffer Waiting) (dropped : Bool) (item : Waiting) → IsTurned all capacity turn ring dropped → turn < length all → slice_get ring.items 0 ≡ Some item → popped ≡ buffer (drop 1 ring.items) ring.capacity → (not dropped && is_answer item) ≡ true → IsTurned all capacity (turn + 1) popped true
turned-drop all capacity turn ring popped dropped item turned low e p here =
    let first = first_is all capacity turn ring dropped item turned low e in
    let more = found-more all turn item low first.0 in
    let D = drop_answer (take turn all) in
    let both = and_parts (not dropped) (is_answer item) here in
    let later = ap drop_answer more ∙ drop_answer-push (take turn all) item ∙ ap (λ b. cond (not b && is_answer item) D (D ++ item ∷ [])) (sym turned.found) ∙ ap (λ b. cond b D (D ++ item ∷ [])) here in
    record {
      items =
          p
          ∙ ap (λ n. buffer (drop 1 ring.items) n) (ap (λ r. r.capacity) turned.items)
          ∙ ap (λ items. buffer items capacity) (first.1 ∙ ap (λ (back : List Waiting). drop (turn + 1) all ++ back) (sym later));
      found = sym (ap (list_any is_answer) more ∙ list_any-append is_answer (take turn all) (item ∷ []) ∙ ap (λ b. list_any is_answer (take turn all) || (b || false)) both.1 ∙ last (list_any is_answer (take turn all)));
    }
  where
    last : (b : Bool) → (b || true) ≡ true
    last true = refl
    last false = refl

-- every other item is put last again
pub turned-keep : (all : List Waiting) (capacity turn : ℕ) (ring popped pushed : Buffer Waiting) (dropped : Bool) (item : Waiting) → IsTurned all capacity turn ring dropped → turn < length all → length all ≤ capacity → slice_get ring.items 0 ≡ Some item → popped ≡ buffer (drop 1 ring.items) ring.capacity → pushed ≡ buffer (keep_last popped.capacity (popped.items ++ item ∷ [])) popped.capacity → (not dropped && is_answer item) ≡ false → IsTurned all capacity (turn + 1) pushed dropped
turned-keep all capacity turn ring popped pushed dropped item turned low fits e p q other =
    let first = first_is all capacity turn ring dropped item turned low e in
    let more = found-more all turn item low first.0 in
    let D = drop_answer (take turn all) in
    let same_capacity : popped.capacity ≡ capacity = ap (λ r. r.capacity) p ∙ ap (λ r. r.capacity) turned.items in
    let behind : popped.items ≡ drop (turn + 1) all ++ D = ap (λ r. r.items) p ∙ first.1 in
    let later = ap drop_answer more ∙ drop_answer-push (take turn all) item ∙ ap (λ b. cond (not b && is_answer item) D (D ++ item ∷ [])) (sym turned.found) ∙ ap (λ b. cond b D (D ++ item ∷ [])) other in
    let whole : popped.items ++ item ∷ [] ≡ drop (turn + 1) all ++ drop_answer (take (turn + 1) all) =
    ap (λ (items : List Waiting). items ++ item ∷ []) behind ∙ append_assoc (drop (turn + 1) all) D (item ∷ []) ∙ ap (λ (back : List Waiting). drop (turn + 1) all ++ back) (sym later) in
    let short : length (popped.items ++ item ∷ []) ≤ popped.capacity =
    omega (arith, ap length behind, length-append popped.items (item ∷ []), length-append (drop (turn + 1) all) D, length-drop (turn + 1) all, drop_answer-short (take turn all), length-take-le turn all) in
    record {
      items =
          q
          ∙ ap (λ items. buffer items popped.capacity) (keep_last-all popped.capacity (popped.items ++ item ∷ []) short ∙ whole)
          ∙ ap (λ n. buffer (drop (turn + 1) all ++ drop_answer (take (turn + 1) all)) n) same_capacity;
      found = sym (ap (list_any is_answer) more ∙ list_any-append is_answer (take turn all) (item ∷ []) ∙ ap (λ b. b || (is_answer item || false)) (sym turned.found) ∙ seen dropped (is_answer item) other);
    }
  where
    seen : (b c : Bool) → (not b && c) ≡ false → (b || (c || false)) ≡ b
    seen true c h = refl
    seen false true h = h
    seen false false h = refl

-- a turned ring has a first item
pub turned-some : (all : List Waiting) (capacity turn : ℕ) (ring : Buffer Waiting) (dropped : Bool) → IsTurned all capacity turn ring dropped → turn < length all → slice_get ring.items 0 ≡ None → ⊥
turned-some all capacity turn ring dropped turned low e =
    let long : 0 < length ring.items = omega (arith, ap (λ r. length r.items) turned.items, length-append (drop turn all) (drop_answer (take turn all)), length-drop turn all) in
    none ring.items long e
  where
    none : (items : List Waiting) → 0 < length items → slice_get items 0 ≡ None → ⊥
    none [] l f = omega arith
    none (item ∷ items) l f = none-some item (sym f)

-- after all turns the first answer is gone
pub turned-all : (all : List Waiting) (capacity turn : ℕ) (ring : Buffer Waiting) (dropped : Bool) → IsTurned all capacity turn ring dropped → turn ≡ length all → ring ≡ buffer (drop_answer all) capacity
turned-all all capacity turn ring dropped turned e =
    turned.items
    ∙ ap (λ n. buffer (drop n all ++ drop_answer (take n all)) capacity) e
    ∙ ap (λ (front : List Waiting). buffer (front ++ drop_answer (take (length all) all)) capacity) (drop-length all)
    ∙ ap (λ (items : List Waiting). buffer (drop_answer items) capacity) (take_all (length all) all (omega arith))

-- where no answer waits, none is dropped
pub no_answer : (items : List Waiting) → answers items ≡ 0 → (list_any is_answer items ≡ false) × (drop_answer items ≡ items)
no_answer [] e = (refl, refl)
no_answer (Answer word ∷ items) e = absurd (omega (arith, answers-cons (Answer word) items))
no_answer (Unsolicited word ∷ items) e =
    let rest = no_answer items (omega (arith, answers-cons (Unsolicited word) items)) in
    (rest.0, ap (λ later. Unsolicited word ∷ later) rest.1)

-- where one waits, one is dropped
pub some_answer : (items : List Waiting) → (answers items ≡ 0 → ⊥) → (list_any is_answer items ≡ true) × (answers (drop_answer items) + 1 ≡ answers items)
some_answer [] h = absurd (h refl)
some_answer (Answer word ∷ items) h = (refl, omega (arith, answers-cons (Answer word) items))
some_answer (Unsolicited word ∷ items) h =
    let rest = some_answer items (λ e. h (answers-cons (Unsolicited word) items ∙ omega (arith, e))) in
    (rest.0, omega (arith, rest.1, answers-cons (Unsolicited word) items, answers-cons (Unsolicited word) (drop_answer items)))

-- a ring whose first answer was dropped
pub counted-dropped : (ring new : Buffer Waiting) (a u : ℕ) → IsCounted ring a u → (a ≡ 0 → ⊥) → new ≡ buffer (drop_answer ring.items) ring.capacity → IsCounted new (a - 1) u
counted-dropped ring new a u counted some e = subst (λ (r : Buffer Waiting). IsCounted r (a - 1) u) (sym e) (record {
  room = counted.room;
  answers_are = omega (arith, counted.answers_are, (some_answer ring.items (λ z. some (counted.answers_are ∙ z))).1);
  unsolicited_are = counted.unsolicited_are ∙ sym (unsolicited-drop_answer ring.items);
  answers_fit = omega (arith, counted.answers_fit);
  unsolicited_fit = counted.unsolicited_fit;
})
