-- Which keys the settings of a codec have.
use Rattle.std.proofs.Common.{◌≡◌, ◌<◌, ◌==◌, ◌&&◌, ◌||◌, ℕ, Bool, true, false, cond, List, [], ◌∷◌, ◌++◌, Option, Some, None, map, get_or, zero, suc, refl, sym, ap, ◌∙◌, inl, inr, ◌+◌, ◌↔◌, IsTrue, arith, lit<}
use Rattle.std.specs.Prelude.{Contains, is_some, nat_lt}
use Rattle.std.specs.List.{list_any}
use Rattle.std.specs.Ordering.{is_eq}
use Rattle.std.specs.BTreeMap.{is_at}
use Rattle.std.specs.Map.{keys_of, lookup}
use Rattle.std.proofs.lemmas.Bool.{cases_Bool, cases_eq, cases_lt, and_parts, and_from, true≢false, ltb-true}
use Rattle.std.proofs.lemmas.Cmp.{tied_itself}
use Rattle.std.proofs.lemmas.List.Folds.{list_any-append, list_any_at}
use Rattle.std.proofs.lemmas.Map.Made.{is_some-lookup}
use Rattle.std.proofs.lemmas.Map.Views.{Contains-from_any}
use Rattle.codec_graph.specs.declared.raw.RawNode.{RawNode}
use Rattle.codec_graph.specs.declared.raw.RawCodec.{RawCodec}
use Rattle.codec_graph.specs.declared.controls.Control.{Control}
use Rattle.codec_graph.specs.declared.controls.Control.TheVariants.{Select, Power, Stream, Pin, Unsol, Eapd, Digital, Default, Format, OutLeft, OutRight, InLeft, InRight}
use Rattle.codec_graph.specs.declared.controls.ControlKey.{ControlKey}
use Rattle.codec_graph.specs.Widget.{node_at, has_input_amplifier}
use Rattle.codec_graph.specs.Cycles.{IsWellFormed}
use Rattle.codec_graph.specs.Settings.{Entries, key, key_cmp, setting_at, group_has, node_has, has_control, amplified_inputs, opening_value, plain_controls, controls, keys_below, owned_keys, controls_of, opened, opening}
use Rattle.codec_graph.proofs.KeyOrder.{key_cmp-total}
use Rattle.codec_graph.proofs.Openings.{same_key}
use Rattle.codec_graph.proofs.Ascending.{length-controls, plain_at, left_at, right_at}
use Rattle.codec_graph.proofs.Nodes.{node_at-high, group_below}

-- a key passes its own test
pub here : (k : ControlKey) → is_at (key_cmp k) k ≡ true
here k = ap is_eq (tied_itself key_cmp-total k)

-- a key that the node has, and that is the one asked for
abbrev pub opens : RawCodec → ControlKey → ControlKey → Bool
opens codec q k = has_control codec k.nid k.control && is_at (key_cmp q) k

-- what a look-up finds among opening values
lookup-opened : (codec : RawCodec) (q : ControlKey) (ks : List ControlKey) → lookup (is_at (key_cmp q)) (opened codec ks) ≡ cond (list_any (is_at (key_cmp q)) ks) (Some (opening_value codec q.nid q.control)) None
lookup-opened codec q [] = refl
lookup-opened codec q (k ∷ ks) = by (is_at (key_cmp q) k) refl (lookup-opened codec q ks)
  where
    by : (b : Bool) → is_at (key_cmp q) k ≡ b → lookup (is_at (key_cmp q)) (opened codec ks) ≡ cond (list_any (is_at (key_cmp q)) ks) (Some (opening_value codec q.nid q.control)) None
        → cond b (Some (opening_value codec k.nid k.control)) (lookup (is_at (key_cmp q)) (opened codec ks)) ≡ cond (b || list_any (is_at (key_cmp q)) ks) (Some (opening_value codec q.nid q.control)) None
    by true e rest = ap (λ (x : ControlKey). Some (opening_value codec x.nid x.control)) (sym (same_key q k e))
    by false e rest = rest

any-owned_keys : (codec : RawCodec) (q : ControlKey) (ks : List ControlKey) → list_any (is_at (key_cmp q)) (owned_keys codec ks) ≡ list_any (opens codec q) ks
any-owned_keys codec q [] = refl
any-owned_keys codec q (k ∷ ks) = by (has_control codec k.nid k.control) (any-owned_keys codec q ks)
  where
    by : (b : Bool) → list_any (is_at (key_cmp q)) (owned_keys codec ks) ≡ list_any (opens codec q) ks
        → list_any (is_at (key_cmp q)) (cond b (k ∷ owned_keys codec ks) (owned_keys codec ks)) ≡ ((b && is_at (key_cmp q) k) || list_any (opens codec q) ks)
    by true rest = ap (λ b. is_at (key_cmp q) k || b) rest
    by false rest = rest

-- a key that is opened is one that the node has
only : (codec : RawCodec) (q : ControlKey) (keys : List ControlKey) → list_any (opens codec q) keys ≡ true → has_control codec q.nid q.control ≡ true
only codec q [] e = absurd (true≢false (sym e))
only codec q (k ∷ keys) e = by (opens codec q k) refl e (only codec q keys)
  where
    by : (b : Bool) → opens codec q k ≡ b → (b || list_any (opens codec q) keys) ≡ true → (list_any (opens codec q) keys ≡ true → has_control codec q.nid q.control ≡ true) → has_control codec q.nid q.control ≡ true
    by true h _ rest =
        ap (λ (x : ControlKey). has_control codec x.nid x.control) (same_key q k (and_parts _ _ h).1) ∙ (and_parts _ _ h).0
    by false h later rest = rest later

plain : (i : ℕ) (control : Control) → i < 11 → get_or plain_controls i control ≡ control → Contains controls control
plain i control within e = (i, omega (arith, length-controls), plain_at i control within ∙ e)

-- an input's amplifier has a place below 16
low_place : (codec : RawCodec) (nid : ℕ) (control : Control) (place : ℕ) → group_has control ≡ false → ((node : RawNode) → node_has (Some node) control ≡ (has_input_amplifier node && nat_lt place (amplified_inputs node))) → has_control codec nid control ≡ true → place < 16
low_place codec nid control place group node has = by (nid == codec.group) (node_at codec nid) has
  where
    low : (n : RawNode) → nat_lt place (amplified_inputs n) ≡ true → place < 16
    low n e = let b = ltb-true place (amplified_inputs n) e in omega arith

    by : (b : Bool) (o : Option RawNode) → cond b (group_has control) (node_has o control) ≡ true → place < 16
    by true o e = absurd (true≢false (sym e ∙ group))
    by false None e = absurd (true≢false (sym e))
    by false (Some n) e = low n (and_parts _ _ (sym (node n) ∙ e)).1

-- a control that a node has is one of those that nodes can have
listed : (codec : RawCodec) (nid : ℕ) (control : Control) → has_control codec nid control ≡ true → Contains controls control
unfolding plain_controls
listed codec nid Select e = plain 0 Select (lit< tt) refl
listed codec nid Power e = plain 1 Power (lit< tt) refl
listed codec nid Stream e = plain 2 Stream (lit< tt) refl
listed codec nid Pin e = plain 3 Pin (lit< tt) refl
listed codec nid Unsol e = plain 4 Unsol (lit< tt) refl
listed codec nid Eapd e = plain 5 Eapd (lit< tt) refl
listed codec nid Digital e = plain 6 Digital (lit< tt) refl
listed codec nid Default e = plain 7 Default (lit< tt) refl
listed codec nid Format e = plain 8 Format (lit< tt) refl
listed codec nid OutLeft e = plain 9 OutLeft (lit< tt) refl
listed codec nid OutRight e = plain 10 OutRight (lit< tt) refl
listed codec nid (InLeft place) e =
    let low = low_place codec nid (InLeft place) place refl (λ node. refl) e in
    (11 + place, omega (arith, length-controls), left_at place (InLeft place) low)
listed codec nid (InRight place) e =
    let low = low_place codec nid (InRight place) place refl (λ node. refl) e in
    (27 + place, omega (arith, length-controls), right_at place (InRight place) low)

any-map : {X Y : Type 0} (p : Y → Bool) (f : X → Y) (xs : List X) → list_any p (map f xs) ≡ list_any (λ x. p (f x)) xs
any-map p f [] = refl
any-map p f (x ∷ xs) = ap (λ b. p (f x) || b) (any-map p f xs)

any-contains : {X : Type 0} (p : X → Bool) (xs : List X) (x : X) → Contains xs x → p x ≡ true → list_any p xs ≡ true
any-contains p xs x h e = list_any_at p xs h.0 x h.1 (ap p h.2 ∙ e)

any_left : {X : Type 0} (p : X → Bool) (xs ys : List X) → list_any p xs ≡ true → list_any p (xs ++ ys) ≡ true
any_left p xs ys e = list_any-append p xs ys ∙ ap (λ b. b || list_any p ys) e

or_true : (b c : Bool) → c ≡ true → (b || c) ≡ true
or_true true c e = refl
or_true false c e = e

any_right : {X : Type 0} (p : X → Bool) (xs ys : List X) → list_any p ys ≡ true → list_any p (xs ++ ys) ≡ true
any_right p xs ys e = list_any-append p xs ys ∙ or_true (list_any p xs) (list_any p ys) e

among : (p : ControlKey → Bool) (n nid : ℕ) (control : Control) → nid < n → Contains controls control → p (key nid control) ≡ true → list_any p (keys_below n) ≡ true
among p zero nid control low is e = absurd (omega arith)
among p (suc n) nid control low is e = elim (cases_eq nid n) [
  | inl same ↦ any_right p (keys_below n) (map (key n) controls) (any-map p (key n) controls ∙ any-contains (λ c. p (key n c)) controls control is (ap (λ m. p (key m control)) (sym same) ∙ e))
  | inr ne ↦ any_left p (keys_below n) (map (key n) controls) (among p n nid control (omega arith) is e)
]

-- a node that has a control has a node identifier below 128
control_below : (codec : RawCodec) (nid : ℕ) (control : Control) → IsWellFormed codec → has_control codec nid control ≡ true → nid < 128
control_below codec nid control well has = elim (cases_lt nid 128) [
  | inl low ↦ low
  | inr high ↦
      let none = node_at-high codec nid well high in
      elim (cases_Bool (nid == codec.group)) [
        | inl is ↦ group_below codec nid well is
        | inr not ↦ absurd (true≢false (sym has ∙ ap (λ b. cond b (group_has control) (node_has (node_at codec nid) control)) not ∙ ap (λ o. node_has o control) none))
      ]
]

opened-has : (codec : RawCodec) (nid : ℕ) (control : Control) → IsWellFormed codec → list_any (opens codec (key nid control)) (keys_below 128) ≡ has_control codec nid control
opened-has codec nid control well = by (has_control codec nid control) (list_any (opens codec (key nid control)) (keys_below 128)) refl refl
  where
    by : (b a : Bool) → has_control codec nid control ≡ b → list_any (opens codec (key nid control)) (keys_below 128) ≡ a → a ≡ b
    by true true h e = refl
    by false false h e = refl
    by false true h e = sym (only codec (key nid control) (keys_below 128) e) ∙ h
    by true false h e =
        sym e ∙ among (opens codec (key nid control)) 128 nid control (control_below codec nid control well h) (listed codec nid control h) (and_from _ _ h (here (key nid control)))

-- the controls of a codec are those that its nodes have
pub any-controls_of : (codec : RawCodec) (nid : ℕ) (control : Control) → IsWellFormed codec → list_any (is_at (key_cmp (key nid control))) (controls_of codec) ≡ has_control codec nid control
unfolding controls_of
any-controls_of codec nid control well = any-owned_keys codec (key nid control) (keys_below 128) ∙ opened-has codec nid control well

pub Contains-controls_of : (codec : RawCodec) (nid : ℕ) (control : Control) → IsWellFormed codec → Contains (controls_of codec) (key nid control) ↔ IsTrue (has_control codec nid control)
Contains-controls_of codec nid control well = (
  (λ there. sym (any-controls_of codec nid control well) ∙ any-contains (is_at (key_cmp (key nid control))) (controls_of codec) (key nid control) there (here (key nid control))),
  (λ has. Contains-from_any (λ x y e. same_key x y e) (key nid control) (controls_of codec) (any-controls_of codec nid control well ∙ has)),
)

-- the settings at the opening, control by control
pub setting_at-opening : (codec : RawCodec) (nid : ℕ) (control : Control) → IsWellFormed codec → setting_at (opening codec) nid control ≡ cond (has_control codec nid control) (Some (opening_value codec nid control)) None
unfolding opening
setting_at-opening codec nid control well =
    lookup-opened codec (key nid control) (controls_of codec)
    ∙ ap (λ b. cond b (Some (opening_value codec nid control)) None) (any-controls_of codec nid control well)

-- settings of a codec have exactly its controls
pub is_some-setting_at : (codec : RawCodec) (settings : Entries) (nid : ℕ) (control : Control) → IsWellFormed codec → keys_of settings ≡ controls_of codec → is_some (setting_at settings nid control) ≡ has_control codec nid control
is_some-setting_at codec settings nid control well keys =
    is_some-lookup (is_at (key_cmp (key nid control))) settings
    ∙ ap (λ (ks : List ControlKey). list_any (is_at (key_cmp (key nid control))) ks) keys
    ∙ any-controls_of codec nid control well
