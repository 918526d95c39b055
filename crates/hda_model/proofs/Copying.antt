-- Items that are copied one by one.
use Rattle.std.proofs.Common.{◌≡◌, ◌<◌, ◌-◌, ◌+◌, ℕ, zero, suc, Bool, true, false, nat_lt, if◌then◌else◌, List, [], ◌∷◌, ◌++◌, length, map, take, drop, set, get_or, min, refl, sym, ap, subst, ◌∙◌, arith}
use Rattle.std.proofs.lemmas.Bool.{ltb-false}
use Rattle.std.proofs.lemmas.List.{length-map, length-drop, get_or-map, get_or-drop}
use Rattle.heard_frames.specs.declared.heard.Heard.{Heard}
use Rattle.heard_frames.specs.declared.heard.Heard.TheVariants.{Quiet}
use Rattle.hda_model.specs.declared.heard_items.HeardItem.{HeardItem}
use Rattle.hda_model.specs.Copies.{copied, item_of, most_copied}

-- the parts of a list from a number on, each as something else
abbrev pub parts_from : {A B : Type 0} → (A → B) → ℕ → List A → List B
parts_from part from list = map part (drop from list)

pub length-parts_from : {A B : Type 0} (part : A → B) (from : ℕ) (list : List A) → length (parts_from part from list) ≡ length list - from
length-parts_from part from list = length-map (drop from list) part ∙ length-drop from list

pub parts_from-at : {A B : Type 0} (part : A → B) (from n : ℕ) (list : List A) (e : A) (d : B) → n < length list - from
    → get_or (parts_from part from list) n d ≡ part (get_or list (from + n) e)
parts_from-at part from n list e d within =
    get_or-map part (drop from list) n e d (subst (λ (size : ℕ). n < size) (sym (length-drop from list)) within)
    ∙ ap part (get_or-drop from list n e)

-- the items of a list from a number on
abbrev pub items_from : ℕ → List Heard → List HeardItem
items_from from list = parts_from item_of from list

pub length-items_from : (from : ℕ) (list : List Heard) → length (items_from from list) ≡ length list - from
length-items_from from list = length-parts_from item_of from list

pub items_from-at : (from n : ℕ) (list : List Heard) (d : HeardItem) → n < length list - from → get_or (items_from from list) n d ≡ item_of (get_or list (from + n) Quiet)
items_from-at from n list d within = parts_from-at item_of from n list Quiet d within

-- one more of the first ones
pasted_more : {A : Type 0} (n : ℕ) (items old : List A) (d : A) → n < length items → n < length old
    → set (take n items ++ drop n old) n (get_or items n d) ≡ take (suc n) items ++ drop (suc n) old
pasted_more zero (x ∷ items) (o ∷ old) d i j = refl
pasted_more (suc n) (x ∷ items) (o ∷ old) d i j = ap (λ rest. x ∷ rest) (pasted_more n items old d (omega (arith, i)) (omega (arith, j)))
pasted_more zero [] old d i j = absurd (omega (arith, i))
pasted_more zero (x ∷ items) [] d i j = absurd (omega (arith, j))
pasted_more (suc n) [] old d i j = absurd (omega (arith, i))
pasted_more (suc n) (x ∷ items) [] d i j = absurd (omega (arith, j))

pub pasted : {A : Type 0} (n : ℕ) (items old : List A) (d : A) → n < length items → n < length old
    → set (take n items ++ drop n old) n (get_or items n d) ≡ take (n + 1) items ++ drop (n + 1) old
pasted n items old d i j =
    let more : suc n ≡ n + 1 = omega arith in
    pasted_more n items old d i j ∙ ap (λ k. take k items ++ drop k old) more

-- how many are copied
most_by : (count from room size : ℕ) (some : Bool) → nat_lt from count ≡ some → size ≡ count - from → (if some then min (count - from) room else 0) ≡ min size room
most_by count from room size true is size_is = ap (λ n. min n room) (sym size_is)
most_by count from room size false is size_is =
    let past = ltb-false from count is in
    let none : size ≡ 0 = omega (arith, past, size_is) in
    omega (arith, none)

pub most_is : (count from room size : ℕ) → size ≡ count - from → most_copied count from room ≡ min size room
most_is count from room size size_is = most_by count from room size (nat_lt from count) refl size_is

-- nothing is copied of no items
drop_none : {A : Type 0} (n : ℕ) → drop {A = A} n [] ≡ []
drop_none zero = refl
drop_none (suc n) = refl

copied_none : {A : Type 0} (old : List A) → copied [] old ≡ old
copied_none {A} old = let none : min 0 (length old) ≡ 0 = omega arith in ap (λ (n : ℕ). take n [] ++ drop n old) none

pub copied_nowhere : (from : ℕ) (old : List HeardItem) → copied (map item_of (drop from [])) old ≡ old
copied_nowhere from old = ap (λ (list : List Heard). copied (map item_of list) old) (drop_none from) ∙ copied_none old
