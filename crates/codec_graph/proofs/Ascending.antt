-- The keys of a codec's settings ascend.
use Rattle.std.proofs.Common.{◌≡◌, ◌<◌, ◌≤◌, ◌+◌, ◌&&◌, ℕ, zero, suc, Bool, true, false, cond, List, [], ◌∷◌, ◌++◌, map, take, drop, length, get_or, refl, sym, ap, subst, ◌∙◌, Less, Equal, Greater, arith, add-one, ◌-◌}
use Rattle.std.specs.Prelude.{filter}
use Rattle.std.specs.List.{AllByRecursion, list_all, range_with_len}
use Rattle.std.specs.List.Sorted.{IsStrictlySortedBy}
use Rattle.std.specs.declared.cmp.Ordering.{Ordering}
use Rattle.std.specs.Ordering.{is_lt, ordering_then, ordering_reverse, match_ordering}
use Rattle.std.specs.Cmp.{nat_cmp_is}
use Rattle.std.specs.BTreeMap.{insert_entry}
use Rattle.std.specs.Map.{keys_of}
use Rattle.std.proofs.lemmas.Bool.{and_parts}
use Rattle.std.proofs.lemmas.Cmp.{tied_itself, nat_cmp_total}
use Rattle.std.proofs.lemmas.List.{map_push, map-append, append_assoc, append-nil, take_more, take_all, take-append-drop, get_or-append_right, get_or_append_left}
use Rattle.std.proofs.lemmas.List.Elements.{filter-append}
use Rattle.std.proofs.lemmas.List.Kept.{IsStrictlySortedBy-filter}
use Rattle.std.proofs.lemmas.List.FromFn.{get_or-map-range_with_len, length-map-range_with_len}
use Rattle.codec_graph.specs.declared.raw.RawCodec.{RawCodec}
use Rattle.codec_graph.specs.declared.controls.Control.{Control}
use Rattle.codec_graph.specs.declared.controls.Control.TheVariants.{InLeft, InRight}
use Rattle.codec_graph.specs.declared.controls.ControlKey.{ControlKey}
use Rattle.codec_graph.specs.contracts.controls.ControlOrd.TheImpl as control_order
use Rattle.codec_graph.specs.Settings.{Entries, key, key_cmp, has_control, opening_value, plain_controls, controls, keys_below, owned_keys, controls_of, opened, IsSettingsOf}
use Rattle.codec_graph.specs.Openings.{opened_so_far}
use Rattle.codec_graph.proofs.KeyOrder.{key_cmp-total}

-- lists that are sorted one after another
module _ {K : Type 0} (c : K → K → Ordering) where
  all_front : (P : K → Type 0) (xs ys : List K) → AllByRecursion P (xs ++ ys) → AllByRecursion P xs
  all_front P [] ys h = tt
  all_front P (x ∷ xs) ys h = (h.0, all_front P xs ys h.1)

  all_both : (P : K → Type 0) (xs ys : List K) → AllByRecursion P xs → AllByRecursion P ys → AllByRecursion P (xs ++ ys)
  all_both P [] ys h g = g
  all_both P (x ∷ xs) ys h g = (h.0, all_both P xs ys h.1 g)

  all_last : (P : K → Type 0) (xs : List K) (y : K) → AllByRecursion P (xs ++ y ∷ []) → P y
  all_last P [] y h = h.0
  all_last P (x ∷ xs) y h = all_last P xs y h.1

  sorted_front : (xs ys : List K) → IsStrictlySortedBy c (xs ++ ys) → IsStrictlySortedBy c xs
  unfolding IsStrictlySortedBy
  sorted_front [] ys h = tt
  sorted_front (x ∷ xs) ys h = (all_front (λ y. c x y ≡ Less) xs ys h.0, sorted_front xs ys h.1)

  sorted_both : (xs ys : List K) → IsStrictlySortedBy c xs → IsStrictlySortedBy c ys → AllByRecursion (λ x. AllByRecursion (λ y. c x y ≡ Less) ys) xs → IsStrictlySortedBy c (xs ++ ys)
  unfolding IsStrictlySortedBy
  sorted_both [] ys h g below = g
  sorted_both (x ∷ xs) ys h g below = (all_both (λ y. c x y ≡ Less) xs ys h.0 below.0, sorted_both xs ys h.1 g below.1)

  -- a test that leaves some out keeps the order up to the last one
  all_kept_last : (P : K → Type 0) (p : K → Bool) (xs : List K) (y : K) → AllByRecursion P (xs ++ y ∷ []) → AllByRecursion P (filter p xs ++ y ∷ [])
  all_kept_last P p [] y h = h
  all_kept_last P p (x ∷ xs) y h = by (p x) (all_kept_last P p xs y h.1)
    where
      by : (b : Bool) → AllByRecursion P (filter p xs ++ y ∷ []) → AllByRecursion P (cond b (x ∷ filter p xs) (filter p xs) ++ y ∷ [])
      by true rest = (h.0, rest)
      by false rest = rest

  sorted_kept_last : (p : K → Bool) (xs : List K) (y : K) → IsStrictlySortedBy c (xs ++ y ∷ []) → IsStrictlySortedBy c (filter p xs ++ y ∷ [])
  unfolding IsStrictlySortedBy
  sorted_kept_last p [] y h = h
  sorted_kept_last p (x ∷ xs) y h = by (p x) (sorted_kept_last p xs y h.1)
    where
      by : (b : Bool) → IsStrictlySortedBy c (filter p xs ++ y ∷ []) → IsStrictlySortedBy c (cond b (x ∷ filter p xs) (filter p xs) ++ y ∷ [])
      by true rest = (all_kept_last (λ z. c x z ≡ Less) p xs y h.0, rest)
      by false rest = rest

-- whether some controls ascend
abbrev ascends : List Control → Bool
ascends [] = true
ascends (x ∷ xs) = list_all (λ y. is_lt (control_order.ghosts.cmp x y)) xs && ascends xs

controls_ascend : ascends controls ≡ true
unfolding controls plain_controls
controls_ascend = refl

is_lt-less : (o : Ordering) → is_lt o ≡ true → o ≡ Less
is_lt-less Less e = refl
is_lt-less Equal e = cc
is_lt-less Greater e = cc

-- the order of a node's keys is that of its controls
key_less : (nid : ℕ) (x y : Control) → control_order.ghosts.cmp x y ≡ Less → key_cmp (key nid x) (key nid y) ≡ Less
unfolding key_cmp
key_less nid x y e = ap (λ o. ordering_then o (control_order.ghosts.cmp x y)) (tied_itself nat_cmp_total nid) ∙ e

node_less : (a b : ControlKey) → a.nid < b.nid → key_cmp a b ≡ Less
unfolding key_cmp
node_less a b lt = ap (λ o. ordering_then o (control_order.ghosts.cmp a.control b.control)) (sym (nat_cmp_is a.nid b.nid Less lt))

heads : (nid : ℕ) (x : Control) (ys : List Control) → list_all (λ y. is_lt (control_order.ghosts.cmp x y)) ys ≡ true → AllByRecursion (λ k. key_cmp (key nid x) k ≡ Less) (map (key nid) ys)
heads nid x [] e = tt
heads nid x (y ∷ ys) e =
    let both = and_parts _ _ e in
    (key_less nid x y (is_lt-less _ both.0), heads nid x ys both.1)

sorted_keys : (nid : ℕ) (xs : List Control) → ascends xs ≡ true → IsStrictlySortedBy key_cmp (map (key nid) xs)
unfolding IsStrictlySortedBy
sorted_keys nid [] e = tt
sorted_keys nid (x ∷ xs) e = let both = and_parts _ _ e in (heads nid x xs both.0, sorted_keys nid xs both.1)

all_wider : (n m : ℕ) (ks : List ControlKey) → n ≤ m → AllByRecursion (λ (k : ControlKey). k.nid < n) ks → AllByRecursion (λ (k : ControlKey). k.nid < m) ks
all_wider n m [] le h = tt
all_wider n m (k ∷ ks) le h = let low : k.nid < n = h.0 in (omega arith, all_wider n m ks le h.1)

all_node : (nid : ℕ) (xs : List Control) → AllByRecursion (λ (k : ControlKey). k.nid < suc nid) (map (key nid) xs)
all_node nid [] = tt
all_node nid (x ∷ xs) = (omega arith, all_node nid xs)

all_below : (n : ℕ) → AllByRecursion (λ (k : ControlKey). k.nid < n) (keys_below n)
all_below zero = tt
all_below (suc n) =
    all_both key_cmp (λ (k : ControlKey). k.nid < suc n) (keys_below n) (map (key n) controls) (all_wider n (suc n) (keys_below n) (omega arith) (all_below n)) (all_node n controls)

below_node : (k : ControlKey) (nid : ℕ) (xs : List Control) → k.nid < nid → AllByRecursion (λ y. key_cmp k y ≡ Less) (map (key nid) xs)
below_node k nid [] lt = tt
below_node k nid (x ∷ xs) lt = (node_less k (key nid x) lt, below_node k nid xs lt)

all_less : (ks : List ControlKey) (nid : ℕ) (xs : List Control) → AllByRecursion (λ (k : ControlKey). k.nid < nid) ks → AllByRecursion (λ k. AllByRecursion (λ y. key_cmp k y ≡ Less) (map (key nid) xs)) ks
all_less [] nid xs h = tt
all_less (k ∷ ks) nid xs h = (below_node k nid xs h.0, all_less ks nid xs h.1)

sorted_below : (n : ℕ) → IsStrictlySortedBy key_cmp (keys_below n)
unfolding IsStrictlySortedBy
sorted_below zero = tt
sorted_below (suc n) =
    sorted_both key_cmp (keys_below n) (map (key n) controls) (sorted_below n) (sorted_keys n controls controls_ascend) (all_less (keys_below n) n controls (all_below n))

pub sorted_controls_of : (codec : RawCodec) → IsStrictlySortedBy key_cmp (controls_of codec)
unfolding controls_of
sorted_controls_of codec = IsStrictlySortedBy-filter key_cmp (λ at. has_control codec at.nid at.control) (keys_below 128) (sorted_below 128)

pub sorted_settings : (codec : RawCodec) (settings : Entries) → IsSettingsOf codec settings → IsStrictlySortedBy key_cmp (keys_of settings)
sorted_settings codec settings h = subst (IsStrictlySortedBy key_cmp) (sym h.keys) (sorted_controls_of codec)

-- a key above all others goes last
pub insert_last : (entries : Entries) (at : ControlKey) (value : ℕ) → IsStrictlySortedBy key_cmp (keys_of entries ++ at ∷ []) → insert_entry key_cmp entries at value ≡ entries ++ (at, value) ∷ []
unfolding IsStrictlySortedBy
insert_last [] at value h = refl
insert_last (entry ∷ entries) at value h =
    let less : key_cmp entry.0 at ≡ Less = all_last key_cmp (λ y. key_cmp entry.0 y ≡ Less) (keys_of entries) at h.0 in
    let greater : key_cmp at entry.0 ≡ Greater = key_cmp-total.antisymm at entry.0 ∙ ap ordering_reverse less in
    ap (λ o. match_ordering o ((at, value) ∷ entry ∷ entries) ((entry.0, value) ∷ entries) (entry ∷ insert_entry key_cmp entries at value)) greater
    ∙ ap (λ es. entry ∷ es) (insert_last entries at value h.1)

-- the keys of the nodes below one and of its first controls
abbrev pub keys_up_to : ℕ → ℕ → List ControlKey
keys_up_to nid i = keys_below nid ++ map (key nid) (take i controls)

pub keys_up_to-none : (nid : ℕ) → keys_up_to nid 0 ≡ keys_below nid
keys_up_to-none nid = append-nil (keys_below nid)

pub length-controls : length controls ≡ 43
unfolding controls plain_controls
length-controls = refl

pub keys_up_to-all : (nid i : ℕ) → 43 ≤ i → keys_up_to nid i ≡ keys_below (nid + 1)
keys_up_to-all nid i all =
    ap (λ xs. keys_below nid ++ map (key nid) xs) (take_all i controls (omega (arith, length-controls))) ∙ sym (ap keys_below (add-one nid))

keys_up_to-more : (nid i : ℕ) (d : Control) → i < 43 → keys_up_to nid (i + 1) ≡ keys_up_to nid i ++ key nid (get_or controls i d) ∷ []
keys_up_to-more nid i d lt =
    ap (λ xs. keys_below nid ++ map (key nid) xs) (take_more controls i d (omega (arith, length-controls)))
    ∙ ap (λ ks. keys_below nid ++ ks) (map_push (key nid) (take i controls) (get_or controls i d))
    ∙ sym (append_assoc (keys_below nid) (map (key nid) (take i controls)) (key nid (get_or controls i d) ∷ []))

sorted_up_to : (nid i : ℕ) → IsStrictlySortedBy key_cmp (keys_up_to nid i)
sorted_up_to nid i =
    let whole : keys_below (suc nid) ≡ keys_up_to nid i ++ map (key nid) (drop i controls) =
    ap (λ xs. keys_below nid ++ map (key nid) xs) (sym (take-append-drop i controls))
    ∙ ap (λ ks. keys_below nid ++ ks) (map-append (key nid) (take i controls) (drop i controls))
    ∙ sym (append_assoc (keys_below nid) (map (key nid) (take i controls)) (map (key nid) (drop i controls))) in
    sorted_front key_cmp (keys_up_to nid i) (map (key nid) (drop i controls)) (subst (IsStrictlySortedBy key_cmp) whole (sorted_below (suc nid)))

pub keys_of-opened : (codec : RawCodec) (ks : List ControlKey) → keys_of (opened codec ks) ≡ ks
keys_of-opened codec [] = refl
keys_of-opened codec (k ∷ ks) = ap (λ rest. k ∷ rest) (keys_of-opened codec ks)

-- a control of the node comes after those before it
pub opens_last : (codec : RawCodec) (settings : Entries) (nid i : ℕ) (control d : Control) → i < 43 → get_or controls i d ≡ control → settings ≡ opened_so_far codec (keys_up_to nid i)
    → IsStrictlySortedBy key_cmp (keys_of settings ++ key nid control ∷ [])
opens_last codec settings nid i control d lt is so_far =
    let has : ControlKey → Bool = λ at. has_control codec at.nid at.control in
    let more : keys_up_to nid (i + 1) ≡ keys_up_to nid i ++ key nid control ∷ [] =
    keys_up_to-more nid i d lt ∙ ap (λ c. keys_up_to nid i ++ key nid c ∷ []) is in
    let names : keys_of settings ≡ filter has (keys_up_to nid i) =
    ap (λ (entries : Entries). keys_of entries) so_far ∙ keys_of-opened codec (filter has (keys_up_to nid i)) in
    subst (λ ks. IsStrictlySortedBy key_cmp (ks ++ key nid control ∷ [])) (sym names)
    (sorted_kept_last key_cmp has (keys_up_to nid i) (key nid control) (subst (IsStrictlySortedBy key_cmp) more (sorted_up_to nid (i + 1))))

opened_so_far-append : (codec : RawCodec) (ks more : List ControlKey) → opened_so_far codec (ks ++ more) ≡ opened_so_far codec ks ++ opened_so_far codec more
opened_so_far-append codec ks more =
    ap (opened codec) (filter-append (λ at. has_control codec at.nid at.control) ks more)
    ∙ map-append (λ (at : ControlKey). (at, opening_value codec at.nid at.control)) (owned_keys codec ks) (owned_keys codec more)

pub opened-next : (codec : RawCodec) (settings next : Entries) (nid i : ℕ) (control d : Control) → i < 43 → get_or controls i d ≡ control
    → next ≡ settings ++ opened_so_far codec (key nid control ∷ []) → settings ≡ opened_so_far codec (keys_up_to nid i) → next ≡ opened_so_far codec (keys_up_to nid (i + 1))
opened-next codec settings next nid i control d lt is step so_far =
    step
    ∙ ap (λ (entries : Entries). entries ++ opened_so_far codec (key nid control ∷ [])) so_far
    ∙ sym (opened_so_far-append codec (keys_up_to nid i) (key nid control ∷ []))
    ∙ ap (λ c. opened_so_far codec (keys_up_to nid i ++ key nid c ∷ [])) (sym is)
    ∙ ap (opened_so_far codec) (sym (keys_up_to-more nid i d lt))

-- where each control stands
pub plain_at : (i : ℕ) (d : Control) → i < 11 → get_or controls i d ≡ get_or plain_controls i d
unfolding controls plain_controls
plain_at i d lt = get_or_append_left plain_controls (map InLeft (range_with_len 0 16) ++ map InRight (range_with_len 0 16)) d i lt

pub left_at : (place : ℕ) (d : Control) → place < 16 → get_or controls (11 + place) d ≡ InLeft place
unfolding controls plain_controls
left_at place d lt =
    let e : 11 + place - 11 ≡ place = omega arith in
    get_or-append_right plain_controls (map InLeft (range_with_len 0 16) ++ map InRight (range_with_len 0 16)) 11 (11 + place) d refl (omega arith)
    ∙ ap (λ i. get_or (map InLeft (range_with_len 0 16) ++ map InRight (range_with_len 0 16)) i d) e
    ∙ get_or_append_left (map InLeft (range_with_len 0 16)) (map InRight (range_with_len 0 16)) d place (omega (arith, length-map-range_with_len InLeft 0 16))
    ∙ get_or-map-range_with_len InLeft 0 16 place place d lt (omega arith)

pub right_at : (place : ℕ) (d : Control) → place < 16 → get_or controls (27 + place) d ≡ InRight place
unfolding controls plain_controls
right_at place d lt =
    let e : 27 + place - 11 ≡ 16 + place = omega arith in
    let f : 16 + place - 16 ≡ place = omega arith in
    get_or-append_right plain_controls (map InLeft (range_with_len 0 16) ++ map InRight (range_with_len 0 16)) 11 (27 + place) d refl (omega arith)
    ∙ ap (λ i. get_or (map InLeft (range_with_len 0 16) ++ map InRight (range_with_len 0 16)) i d) e
    ∙ get_or-append_right (map InLeft (range_with_len 0 16)) (map InRight (range_with_len 0 16)) 16 (16 + place) d (length-map-range_with_len InLeft 0 16) (omega arith)
    ∙ ap (λ i. get_or (map InRight (range_with_len 0 16)) i d) f
    ∙ get_or-map-range_with_len InRight 0 16 place place d lt (omega arith)
