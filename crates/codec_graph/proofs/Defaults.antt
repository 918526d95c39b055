-- The default of a pin at the opening, and that its control is there.
use Rattle.std.proofs.Common.{◌≡◌, ◌==◌, ◌-◌, ℕ, Bool, true, false, cond, List, [], ◌∷◌, Option, Some, None, refl, sym, ap, subst, ◌∙◌, arith, inl, inr}
use Rattle.std.specs.Prelude.{is_some, unwrap_or, nat_lt, slice_get}
use Rattle.std.specs.BTreeMap.{is_at}
use Rattle.std.specs.Map.{lookup}
use Rattle.std.proofs.lemmas.Option.{slice_get_within}
use Rattle.std.proofs.lemmas.Bool.Decides.{nat_tests, eqb_tells}
use Rattle.codec_graph.specs.declared.raw.RawNode.{RawNode}
use Rattle.codec_graph.specs.declared.raw.RawCodec.{RawCodec}
use Rattle.codec_graph.specs.declared.controls.Control.{Control}
use Rattle.codec_graph.specs.declared.controls.Control.TheVariants.{Default}
use Rattle.codec_graph.specs.declared.controls.ControlKey.{ControlKey}
use Rattle.codec_graph.specs.Widget.{node_at, is_widget, is_pin}
use Rattle.codec_graph.specs.Cycles.{IsWellFormed}
use Rattle.codec_graph.specs.Settings.{key, key_cmp, setting_at, group_has, node_has, has_control, opening_value, opened, opening, controls_of}
use Rattle.codec_graph.proofs.Openings.{same_key}
use Rattle.codec_graph.proofs.Tables.{IsCounted}
use Rattle.codec_graph.proofs.Nodes.{counted}

found-opened : (codec : RawCodec) (at : ControlKey) (keys : List ControlKey) (value : ℕ) → lookup (is_at (key_cmp at)) (opened codec keys) ≡ Some value → value ≡ opening_value codec at.nid at.control
found-opened codec at [] value found = cc
found-opened codec at (one ∷ keys) value found = by (is_at (key_cmp at) one) refl found (found-opened codec at keys value)
  where
    by : (here : Bool) → is_at (key_cmp at) one ≡ here → cond here (Some (opening_value codec one.nid one.control)) (lookup (is_at (key_cmp at)) (opened codec keys)) ≡ Some value
        → (lookup (is_at (key_cmp at)) (opened codec keys) ≡ Some value → value ≡ opening_value codec at.nid at.control) → value ≡ opening_value codec at.nid at.control
    by true is found rest =
        let value_is : value ≡ opening_value codec one.nid one.control = cc in
        value_is ∙ sym (ap (λ (k : ControlKey). opening_value codec k.nid k.control) (same_key at one is))
    by false is found rest = rest found

-- what is found among opening values
pub found-opening : (codec : RawCodec) (nid : ℕ) (control : Control) (value : ℕ) → setting_at (opening codec) nid control ≡ Some value → value ≡ opening_value codec nid control
unfolding opening
found-opening codec nid control value found = found-opened codec (key nid control) (controls_of codec) value found

there_is_widget : (codec : RawCodec) (nid : ℕ) (node : RawNode) → IsCounted codec → node_at codec nid ≡ Some node → is_widget codec nid ≡ true
there_is_widget codec nid node widgets there = by (nat_lt nid codec.first) refl there
  where
    by : (below : Bool) → nat_lt nid codec.first ≡ below → cond below None (slice_get codec.nodes (nid - codec.first)) ≡ Some node → is_widget codec nid ≡ true
    by true is found = cc
    by false is found =
        let inside = slice_get_within codec.nodes (nid - codec.first) node found in
        let number = widgets.as_many in
        grind (arith, nat_tests)

group_apart : (codec : RawCodec) (nid : ℕ) (node : RawNode) → IsWellFormed codec → node_at codec nid ≡ Some node → (nid == codec.group) ≡ false
group_apart codec nid node well there =
    elim (eqb_tells nid codec.group) [
      | inl same ↦
          let count = counted codec well in
          let is = there_is_widget codec nid node count there in
          let group : is_widget codec codec.group ≡ true = subst (λ (n : ℕ). is_widget codec n ≡ true) same.1 is in
          let apart = count.group_apart in
          cc
      | inr other ↦ other.0
    ]

-- a pin of a well-formed graph has its default's control
pub has_default : (codec : RawCodec) (nid : ℕ) (node : RawNode) → IsWellFormed codec → node_at codec nid ≡ Some node → is_pin node ≡ true → has_control codec nid Default ≡ true
has_default codec nid node well there pin =
    ap (λ (group : Bool). cond group (group_has Default) (node_has (node_at codec nid) Default)) (group_apart codec nid node well there)
    ∙ ap (λ (found : Option RawNode). node_has found Default) there ∙ pin

-- a value that is found is that one
pub value_of : (found : Option ℕ) (value : ℕ) → is_some found ≡ true → ((other : ℕ) → found ≡ Some other → other ≡ value) → unwrap_or found 0 ≡ value
value_of None value some only = cc
value_of (Some other) value some only = only other refl
