-- Stretches of lists that grow, and the bytes of their sound.
use Rattle.std.proofs.Common.{◌≡◌, ◌+◌, ◌==◌, ℕ, Bool, true, false, if◌then◌else◌, List, [], ◌∷◌, ◌++◌, length}
use Rattle.std.proofs.Common.{replicate, get_or, refl, sym, ap, ◌∙◌, arith}
use Rattle.std.specs.Prelude.{All}
use Rattle.std.specs.List.{flat_map}
use Rattle.std.proofs.lemmas.List.{append-nil, append_assoc, get_or-replicate, length-replicate}
use Rattle.std.proofs.lemmas.List.Elements.{All-head, All-tail, All-map}
use Rattle.std.proofs.lemmas.Bool.Decides.{nat_tests}
use Rattle.std.proofs.lemmas.Grind.{flat_map-append}
use Rattle.stream_format.specs.declared.format.Bits.{Bits}
use Rattle.stream_format.specs.Layouts.{Layout}
use Rattle.heard_frames.specs.declared.heard.Heard.{Heard}
use Rattle.heard_frames.specs.declared.heard.Heard.TheVariants as heard
use Rattle.codec_sound.specs.declared.signals.Signal.{Signal}
use Rattle.codec_sound.specs.declared.signals.Signal.TheVariants as signal
use Rattle.heard_frames.specs.HeardLists.{block_at, block_size, item_of}
use Rattle.std.specs.List.{range_with_len}
use Rattle.std.specs.Prelude.{map}
use Rattle.heard_lists.specs.Listings.{items_before}
use Rattle.heard_lists.specs.declared.stretches.Kind.{Kind}
use Rattle.heard_lists.specs.declared.stretches.Kind.TheVariants as kind
use Rattle.heard_lists.specs.declared.stretches.Stretch.{Stretch}
use Rattle.heard_lists.specs.Stretches.{kind_of, is_same, with_first, stretches_of, sound_bytes, kind_heard, with_last}
use Rattle.heard_lists.specs.Stretches.{stretched}
use Rattle.heard_lists.proofs.Growing.{length-before}

-- ---- kinds

pub same_kinds : (first second : Kind) → is_same first second ≡ true → first ≡ second
same_kinds kind.Sound kind.Sound is = refl
same_kinds kind.Quiet kind.Quiet is = refl
same_kinds kind.Hole kind.Hole is = refl
same_kinds kind.Altered kind.Altered is = refl
same_kinds _ _ is = cc

same_self : (kind : Kind) → is_same kind kind ≡ true
same_self kind.Sound = refl
same_self kind.Quiet = refl
same_self kind.Hole = refl
same_self kind.Altered = refl

-- ---- a stretch at the end

-- an item of a kind before one stretch of it
first_same : (of : Kind) (more : Stretch) → is_same of more.kind ≡ true
    → record more { items = more.items + 1 } ≡ record { kind = of; items = 1 + more.items }
first_same of more is =
    ap (λ (k : Kind). record { kind = k; items = more.items + 1 }) (sym (same_kinds of more.kind is))
    ∙ ap (λ (n : ℕ). record { kind = of; items = n }) (let e : more.items + 1 ≡ 1 + more.items = omega arith in e)

before_one : (of : Kind) (more : Stretch) (same : Bool) → is_same of more.kind ≡ same
    → (if same then record more { items = more.items + 1 } ∷ [] else record { kind = of; items = 1 } ∷ more ∷ [])
    ≡ (if same then record { kind = of; items = 1 + more.items } ∷ [] else record { kind = of; items = 1 } ∷ more ∷ [])
before_one of more true is = ap (λ (s : Stretch). s ∷ []) (first_same of more is)
before_one of more false is = refl

before_last : (of : Kind) (more last : Stretch) (ends begins : Bool) → is_same last.kind more.kind ≡ ends
    → is_same of last.kind ≡ begins
    → with_first of (if ends then record last { items = last.items + more.items } ∷ [] else last ∷ more ∷ [])
    ≡ with_last more (if begins then record last { items = last.items + 1 } ∷ [] else record { kind = of; items = 1 } ∷
    last ∷ [])
before_last of more last true true ends begins =
    rw (begins, ends) (ap (λ (n : ℕ). record { kind = last.kind; items = n } ∷ [])
    (let e : last.items + more.items + 1 ≡ last.items + 1 + more.items = omega arith in e))
before_last of more last true false ends begins = rw (begins, ends) refl
before_last of more last false true ends begins = rw (begins, ends) refl
before_last of more last false false ends begins = rw (begins, ends) refl

before_others : (of : Kind) (more first next : Stretch) (stretches : List Stretch) (begins : Bool)
    → (if begins then record first { items = first.items + 1 } ∷ with_last more (next ∷ stretches) else
    record { kind = of; items = 1 } ∷ first ∷ with_last more (next ∷ stretches))
    ≡ with_last more (if begins then record first { items = first.items + 1 } ∷ next ∷ stretches else
    record { kind = of; items = 1 } ∷ first ∷ next ∷ stretches)
before_others of more first next stretches true = refl
before_others of more first next stretches false = refl

-- an item before stretches of which the last gets longer, or which get one more
first_last : (of : Kind) (more : Stretch) (stretches : List Stretch)
    → with_first of (with_last more stretches) ≡ with_last more (with_first of stretches)
first_last of more [] = before_one of more (is_same of more.kind) refl
first_last of more (last ∷ []) = before_last of more last (is_same last.kind more.kind) (is_same of last.kind) refl refl
first_last of more (first ∷ next ∷ stretches) = before_others of more first next stretches (is_same of first.kind)

-- stretches of which the last is of its kind
pub last_same : (more last : Stretch) (before : List Stretch) → is_same last.kind more.kind ≡ true
    → with_last more (before ++ last ∷ []) ≡ before ++ record last { items = last.items + more.items } ∷ []
last_same more last [] is = ap (λ (same : Bool). if same then record last { items = last.items + more.items } ∷ [] else
    last ∷ more ∷ []) is
last_same more last (first ∷ []) is = ap (λ (rest : List Stretch). first ∷ rest) (last_same more last [] is)
last_same more last (first ∷ next ∷ before) is = ap (λ (rest : List Stretch). first ∷ rest)
    (last_same more last (next ∷ before) is)

-- and of which it is not
pub last_other : (more : Stretch) (stretches : List Stretch) (same : Bool) → same ≡ false
    → ((before : List Stretch) (last : Stretch) → stretches ≡ before ++ last ∷ [] → same ≡ is_same last.kind more.kind)
    → with_last more stretches ≡ stretches ++ more ∷ []
last_other more [] same other is = refl
last_other more (last ∷ []) same other is =
    ap (λ (ends : Bool). if ends then record last { items = last.items + more.items } ∷ [] else last ∷ more ∷ [])
    (sym (is [] last refl) ∙ other)
last_other more (first ∷ next ∷ stretches) same other is =
    ap (λ (rest : List Stretch). first ∷ rest)
    (last_other more (next ∷ stretches) same other
    (λ before last cut. is (first ∷ before) last (ap (λ (rest : List Stretch). first ∷ rest) cut)))

-- some items
pub stretched-some : (of : Kind) (items : ℕ) (stretches : List Stretch) → (items == 0) ≡ false
    → stretched of items stretches ≡ with_last (record { kind = of; items = items }) stretches
stretched-some of items stretches some =
    ap (λ (none : Bool). if none then stretches else with_last (record { kind = of; items = items }) stretches) some

-- items of one kind are one stretch
one_stretch : (of : Kind) (item : Heard) (items : List Heard) → All (λ (i : Heard). kind_of i ≡ of) (item ∷ items)
    → stretches_of (item ∷ items) ≡ record { kind = of; items = length (item ∷ items) } ∷ []
unfolding stretches_of
one_stretch of item [] all = ap (λ (k : Kind). record { kind = k; items = 1 } ∷ [])
    (All-head (λ (i : Heard). kind_of i ≡ of) item [] all)
one_stretch of item (next ∷ items) all =
    let here : kind_of item ≡ of = All-head (λ (i : Heard). kind_of i ≡ of) item (next ∷ items) all in
    let later : stretches_of (next ∷ items) ≡ record { kind = of; items = length (next ∷ items) } ∷ [] =
    one_stretch of next items (All-tail (λ (i : Heard). kind_of i ≡ of) item (next ∷ items) all) in
    let self : is_same of of ≡ true = same_self of in
    ap (with_first (kind_of item)) later
    ∙ (ap (λ (k : Kind). with_first k (record { kind = of; items = length (next ∷ items) } ∷ [])) here
    ∙ (ap (λ (same : Bool). if same then record { kind = of; items = length (next ∷ items) + 1 } ∷ [] else
    record { kind = of; items = 1 } ∷ record { kind = of; items = length (next ∷ items) } ∷ []) self
    ∙ ap (λ (n : ℕ). record { kind = of; items = n } ∷ [])
    (let e : length (next ∷ items) + 1 ≡ length (item ∷ next ∷ items) = omega arith in e)))

-- items of one kind behind a list
some_more : (front : List Heard) (of : Kind) (item : Heard) (items : List Heard)
    → All (λ (i : Heard). kind_of i ≡ of) (item ∷ items)
    → stretches_of (front ++ item ∷ items) ≡ with_last (record { kind = of; items = length (item ∷ items) })
    (stretches_of front)
unfolding stretches_of
some_more [] of item items all = one_stretch of item items all
some_more (first ∷ front) of item items all =
    ap (with_first (kind_of first)) (some_more front of item items all)
    ∙ first_last (kind_of first) (record { kind = of; items = length (item ∷ items) }) (stretches_of front)

pub stretched-on : (front : List Heard) (of : Kind) (more : List Heard) → All (λ (i : Heard). kind_of i ≡ of) more
    → stretches_of (front ++ more) ≡ stretched of (length more) (stretches_of front)
stretched-on front of [] all = ap stretches_of (append-nil front)
stretched-on front of (item ∷ items) all =
    let some : (length (item ∷ items) == 0) ≡ false = grind (arith, nat_tests) in
    some_more front of item items all
    ∙ sym (ap (λ (none : Bool). if none then stretches_of front else with_last
    (record { kind = of; items = length (item ∷ items) }) (stretches_of front)) some)

-- ---- the kinds of what is added

pub all_holes : (count : ℕ) → All (λ (i : Heard). kind_of i ≡ kind.Hole) (replicate count heard.Hole)
all_holes count k d within =
    ap kind_of (get_or-replicate count k heard.Hole d (let long = length-replicate count heard.Hole in omega
    (arith, long, within)))

kind_item : (layout : Layout) (by : Signal) (block : List ℕ) → kind_of (item_of layout by block) ≡ kind_heard by
kind_item layout signal.Silence block = refl
kind_item layout (signal.Pair pair) block = refl
kind_item layout signal.Altered block = refl

pub all_heard : (layout : Layout) (by : Signal) (bytes : List ℕ) (count : ℕ)
    → All (λ (i : Heard). kind_of i ≡ kind_heard by) (items_before layout by bytes count)
all_heard layout by bytes count =
    let blocks : List (List ℕ) = map (block_at (block_size layout) bytes) (range_with_len 0 count) in
    All-map (λ (i : Heard). kind_of i ≡ kind_heard by) (item_of layout by) blocks
    (λ k d within. kind_item layout by (get_or blocks k d))

-- holes behind a list
pub stretched-holes : (front : List Heard) (holes : ℕ) → stretches_of (front ++ replicate holes heard.Hole) ≡ stretched
    kind.Hole holes (stretches_of front)
stretched-holes front holes =
    stretched-on front kind.Hole (replicate holes heard.Hole) (all_holes holes)
    ∙ ap (λ (n : ℕ). stretched kind.Hole n (stretches_of front)) (length-replicate holes heard.Hole)

-- holes and then blocks behind a list
pub stretched-piece : (front : List Heard) (holes : ℕ) (layout : Layout) (by : Signal) (bytes : List ℕ) (count : ℕ)
    → stretches_of (front ++ (replicate holes heard.Hole ++ items_before layout by bytes count))
    ≡ stretched (kind_heard by) count (stretched kind.Hole holes (stretches_of front))
stretched-piece front holes layout by bytes count =
    let missed : List Heard = replicate holes heard.Hole in
    let items : List Heard = items_before layout by bytes count in
    ap stretches_of (sym (append_assoc front missed items))
    ∙ (stretched-on (front ++ missed) (kind_heard by) items (all_heard layout by bytes count)
    ∙ (ap (λ (n : ℕ). stretched (kind_heard by) n (stretches_of (front ++ missed)))
    (length-before layout by bytes count)
    ∙ ap (stretched (kind_heard by) count) (stretched-holes front holes)))

-- ---- the bytes of sound

silent : (bits : Bits) (item : Heard) (of : Kind) → kind_of item ≡ of → is_same of kind.Sound ≡ false
    → sound_bytes bits item ≡ []
silent bits (heard.Sound left right) of is other = let e = ap (λ (k : Kind). is_same k kind.Sound) is in cc
silent bits heard.Quiet of is other = refl
silent bits heard.Hole of is other = refl
silent bits heard.Altered of is other = refl

-- items of a kind that is not sound have none
pub all_silent : (bits : Bits) (of : Kind) (items : List Heard) → All (λ (i : Heard). kind_of i ≡ of) items
    → is_same of kind.Sound ≡ false → flat_map (sound_bytes bits) items ≡ []
all_silent bits of [] all other = refl
all_silent bits of (item ∷ items) all other =
    ap (λ (bytes : List ℕ). bytes ++ flat_map (sound_bytes bits) items)
    (silent bits item of (All-head (λ (i : Heard). kind_of i ≡ of) item items all) other)
    ∙ all_silent bits of items (All-tail (λ (i : Heard). kind_of i ≡ of) item items all) other

-- those of holes and then blocks behind a list
pub sound-piece : (bits : Bits) (front : List Heard) (holes : ℕ) (items : List Heard)
    → flat_map (sound_bytes bits) (front ++ (replicate holes heard.Hole ++ items)) ≡ flat_map (sound_bytes bits)
    front ++ flat_map (sound_bytes bits) items
sound-piece bits front holes items =
    let none : flat_map (sound_bytes bits) (replicate holes heard.Hole) ≡ [] = all_silent bits kind.Hole
    (replicate holes heard.Hole) (all_holes holes) refl in
    flat_map-append (sound_bytes bits) front (replicate holes heard.Hole ++ items)
    ∙ ap (λ (bytes : List ℕ). flat_map (sound_bytes bits) front ++ bytes)
    (flat_map-append (sound_bytes bits) (replicate holes heard.Hole) items ∙ ap
    (λ (bytes : List ℕ). bytes ++ flat_map (sound_bytes bits) items) none)

pub sound-holes : (bits : Bits) (front : List Heard) (holes : ℕ)
    → flat_map (sound_bytes bits) (front ++ replicate holes heard.Hole) ≡ flat_map (sound_bytes bits) front
sound-holes bits front holes =
    flat_map-append (sound_bytes bits) front (replicate holes heard.Hole)
    ∙ (ap (λ (bytes : List ℕ). flat_map (sound_bytes bits) front ++ bytes)
    (all_silent bits kind.Hole (replicate holes heard.Hole) (all_holes holes) refl)
    ∙ append-nil (flat_map (sound_bytes bits) front))
