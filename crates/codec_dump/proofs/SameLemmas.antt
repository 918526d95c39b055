-- Settings that have the same keys, and the same at each of them, are the same.
use Rattle.std.proofs.Common.{◌≡◌, ◌++◌, ◌<◌, ℕ, List, [], ◌∷◌, length, get_or, map, Bool, true, false, Some, refl, sym, ap, ◌∙◌, subst, arith}
use Rattle.std.specs.Prelude.{All, filter, Option, None, is_some}
use Rattle.std.specs.List.{AllByRecursion, range_with_len}
use Rattle.std.specs.List.Sorted.{IsStrictlySortedBy}
use Rattle.std.specs.Map.{keys_of, lookup}
use Rattle.std.specs.Ordering.{is_eq}
use Rattle.std.specs.BTreeMap.{is_at}
use Rattle.std.specs.declared.cmp.Ordering.TheVariants.{Less}
use Rattle.std.proofs.lemmas.List.Elements.{All-same, All-filter, All-map, All-append, All-from_get_or, recursion_from_All}
use Rattle.std.proofs.lemmas.List.FromFn.{length-range_with_len, get_or-range_with_len}
use Rattle.std.proofs.lemmas.Map.Entries.{lookup_head, lookup_tail}
use Rattle.std.proofs.lemmas.Map.Keys.{sorted_head, sorted_tail}
use Rattle.codec_graph.specs.declared.controls.ControlKey.{ControlKey}
use Rattle.codec_graph.specs.declared.raw.RawCodec.{RawCodec}
use Rattle.codec_graph.specs.declared.controls.Control.{Control}
use Rattle.codec_graph.specs.declared.controls.Control.TheVariants.{Select, InLeft, InRight}
use Rattle.codec_graph.specs.Widget.{node_identifiers, most_amplified}
use Rattle.codec_graph.specs.Settings.{Entries, key, key_cmp, IsSettingsOf, keys_below, controls, plain_controls, controls_of, has_control, setting_at}
use Rattle.codec_graph.specs.Cycles.{IsWellFormed}
use Rattle.codec_graph.proofs.Callers.{here, same_key, is_some-setting_at}
use Rattle.codec_dump.specs.Left.{IsSameAt}

not_before : (k y : ControlKey) → key_cmp k y ≡ Less → is_at (key_cmp y) k ≡ false
not_before k y less = by_test (is_at (key_cmp y) k) refl
  where
    by_test : (b : Bool) → is_at (key_cmp y) k ≡ b → is_at (key_cmp y) k ≡ false
    by_test false e = e
    by_test true e =
        let same : y ≡ k = same_key y k e in
        let itself : key_cmp k k ≡ Less = subst (λ (q : ControlKey). key_cmp k q ≡ Less) same less in
        let is : is_eq (key_cmp k k) ≡ true = here k in
        let not_is : is_eq (key_cmp k k) ≡ false = ap is_eq itself in
        cc

-- behind the first key the others have the same
tail_same : (e f : ControlKey × ℕ) (es fs : Entries) (ks : List ControlKey) → f.0 ≡ e.0 → AllByRecursion (λ y. key_cmp e.0 y ≡ Less) ks → AllByRecursion (IsSameAt (e ∷ es) (f ∷ fs)) ks → AllByRecursion (IsSameAt es fs) ks
tail_same e f es fs [] at behind same = tt
tail_same e f es fs (y ∷ ks) at behind same =
    let one : is_at (key_cmp y) e.0 ≡ false = not_before e.0 y behind.0 in
    let other : is_at (key_cmp y) f.0 ≡ false = ap (is_at (key_cmp y)) at ∙ one in
    let first : lookup (is_at (key_cmp y)) es ≡ lookup (is_at (key_cmp y)) fs =
    sym (lookup_tail (is_at (key_cmp y)) e es one) ∙ same.0 ∙ lookup_tail (is_at (key_cmp y)) f fs other in
    (first, tail_same e f es fs ks at behind.1 same.1)

value_of : (x y : ℕ) → Some x ≡ Some y → x ≡ y
value_of x y e = cc

-- the values are the same where the keys are
heads : (e f : ControlKey × ℕ) (es fs : Entries) → f.0 ≡ e.0 → IsSameAt (e ∷ es) (f ∷ fs) e.0 → e.1 ≡ f.1
heads e f es fs at same =
    let test : ControlKey → Bool = is_at (key_cmp e.0) in
    value_of e.1 f.1 (sym (lookup_head test e es (here e.0)) ∙ same ∙ lookup_head test f fs (ap test at ∙ here e.0))

pair_same : (e f : ControlKey × ℕ) → f.0 ≡ e.0 → e.1 ≡ f.1 → e ≡ f
pair_same e f at value =
    let of_key : ControlKey → ControlKey × ℕ = λ k. (k, e.1) in
    let of_value : ℕ → ControlKey × ℕ = λ v. (f.0, v) in
    ap of_key (sym at) ∙ ap of_value value

joined : (e f : ControlKey × ℕ) (es fs : Entries) → e ≡ f → es ≡ fs → e ∷ es ≡ f ∷ fs
joined e f es fs first rest = cc

pub same_entries : (one other : Entries) → IsStrictlySortedBy key_cmp (keys_of one) → keys_of other ≡ keys_of one → AllByRecursion (IsSameAt one other) (keys_of one) → one ≡ other
same_entries [] [] sorted keys same = refl
same_entries [] (f ∷ fs) sorted keys same = cc
same_entries (e ∷ es) [] sorted keys same = cc
same_entries (e ∷ es) (f ∷ fs) sorted keys same =
    let at : f.0 ≡ e.0 = cc in
    let behind : keys_of fs ≡ keys_of es = cc in
    let rest : es ≡ fs = same_entries es fs (sorted_tail key_cmp e.0 (keys_of es) sorted) behind (tail_same e f es fs (keys_of es) at (sorted_head key_cmp e.0 (keys_of es) sorted) same.1) in
    joined e f es fs (pair_same e f at (heads e f es fs at same.0)) rest

-- the same at each key that a codec can have: the same settings
pub same_settings : (codec : RawCodec) (one other : Entries) → IsSettingsOf codec one → IsSettingsOf codec other → IsStrictlySortedBy key_cmp (keys_of one) → All (IsSameAt one other) (keys_below node_identifiers) → one ≡ other
unfolding controls_of
same_settings codec one other is_one is_other sorted each =
    let has : ControlKey → Bool = λ at. has_control codec at.nid at.control in
    let owned : All (IsSameAt one other) (keys_of one) = All-same (IsSameAt one other) (keys_of one) (filter has (keys_below node_identifiers)) is_one.keys (All-filter has (IsSameAt one other) (keys_below node_identifiers) each) in
    same_entries one other sorted (is_other.keys ∙ sym is_one.keys) (recursion_from_All (IsSameAt one other) (keys_of one) owned)

in_range : (Q : ℕ → Type 0) (n : ℕ) → ((k : ℕ) → k < n → Q k) → All Q (range_with_len 0 n)
in_range Q n each = All-from_get_or Q (range_with_len 0 n) 0 at
  where
    at : (i : ℕ) → i < length (range_with_len 0 n) → Q (get_or (range_with_len 0 n) i 0)
    at i inside =
        let fits : i < n = omega (arith, length-range_with_len 0 n) in
        let there : get_or (range_with_len 0 n) i 0 ≡ i = get_or-range_with_len 0 n i 0 fits ∙ omega arith in
        subst Q (sym there) (each i fits)

-- what holds of each control of a node holds of all
pub all_controls : (P : ControlKey → Type 0) (nid : ℕ) → ((k : ℕ) → k < 11 → P (key nid (get_or plain_controls k Select))) → ((k : ℕ) → k < most_amplified → P (key nid (InLeft k))) → ((k : ℕ) → k < most_amplified → P (key nid (InRight k))) → All P (map (key nid) controls)
unfolding controls plain_controls
all_controls P nid plain left right =
    let Q : Control → Type 0 = λ control. P (key nid control) in
    All-map P (key nid) controls (All-append Q plain_controls (map InLeft (range_with_len 0 most_amplified) ++ map InRight (range_with_len 0 most_amplified)) (All-from_get_or Q plain_controls Select plain) (All-append Q (map InLeft (range_with_len 0 most_amplified)) (map InRight (range_with_len 0 most_amplified)) (All-map Q InLeft (range_with_len 0 most_amplified) (in_range (λ k. Q (InLeft k)) most_amplified left)) (All-map Q InRight (range_with_len 0 most_amplified) (in_range (λ k. Q (InRight k)) most_amplified right))))

none_of : (o : Option ℕ) → is_some o ≡ false → o ≡ None
none_of None e = refl
none_of (Some x) e = cc

-- neither has a control that the node does not have
pub unowned_same : (codec : RawCodec) (one other : Entries) (nid : ℕ) (control : Control) → IsWellFormed codec → IsSettingsOf codec one → IsSettingsOf codec other → has_control codec nid control ≡ false → IsSameAt one other (key nid control)
unowned_same codec one other nid control well is_one is_other lacks =
    let left : setting_at one nid control ≡ None = none_of (setting_at one nid control) (is_some-setting_at codec one nid control well is_one.keys ∙ lacks) in
    let right : setting_at other nid control ≡ None = none_of (setting_at other nid control) (is_some-setting_at codec other nid control well is_other.keys ∙ lacks) in
    left ∙ sym right
