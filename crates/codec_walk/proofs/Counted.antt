-- Where the widgets of a well-formed graph are.
use Rattle.std.proofs.Common.{◌≡◌, ◌<◌, ◌≤◌, ◌+◌, ◌-◌, ◌==◌, ℕ, Bool, true, false, List, [], ◌∷◌, ◌++◌, length, map, Some, refl, sym, ap, ◌∙◌, subst, arith, append_assoc, length-append}
use Rattle.std.specs.Prelude.{nat_lt, slice_get, All}
use Rattle.std.proofs.lemmas.Bool.Decides.{nat_tests}
use Rattle.std.proofs.lemmas.List.Elements.{All-head, All-tail}
use Rattle.codec_graph.specs.declared.raw.RawNode.{RawNode}
use Rattle.codec_graph.specs.declared.raw.RawCodec.{RawCodec}
use Rattle.codec_graph.specs.Widget.{normal_node, node_at, is_widget}
use Rattle.codec_graph.specs.Listed.{HasReadableList}
use Rattle.codec_graph.specs.Cycles.{IsWellFormed}
use Rattle.codec_graph.proofs.Callers.{IsCounted, counted}
use Rattle.codec_walk.specs.Walks.{has_widgets}

pub widgets_there : (codec : RawCodec) → IsCounted codec → has_widgets codec ≡ true
widgets_there codec counts = let a = counts.some in let b = counts.begins in let c = counts.ends in grind (arith, nat_tests)

-- a widget with its node identifier
pub record IsWidgetAt (codec : RawCodec) (nid : ℕ) (node : RawNode) : Type 0 where
  pub there : node_at codec nid ≡ Some node
  pub no_root : (nid == 0) ≡ false
  pub no_group : (nid == codec.group) ≡ false
  pub is_normal : normal_node node ≡ node
  pub readable : HasReadableList node

abbrev pub AreWidgetsAt : RawCodec → ℕ → List RawNode → Type 0
AreWidgetsAt codec nid [] = Unit {0}
AreWidgetsAt codec nid (node ∷ nodes) = IsWidgetAt codec nid node × AreWidgetsAt codec (nid + 1) nodes

apart : (codec : RawCodec) (nid : ℕ) → IsCounted codec → codec.first ≤ nid → nid < codec.first + codec.count → (nid == codec.group) ≡ false
apart codec nid counts low high = by (nid == codec.group) refl
  where
    by : (b : Bool) → (nid == codec.group) ≡ b → b ≡ false
    by false e = refl
    by true e =
        let is : nid ≡ codec.group = grind (arith, nat_tests) in
        let inside : is_widget codec nid ≡ true = grind (arith, nat_tests) in
        let group_inside : is_widget codec codec.group ≡ true = subst (λ (n : ℕ). is_widget codec n ≡ true) is inside in
        let outside = counts.group_apart in
        cc

got : (before after : List RawNode) (node : RawNode) → slice_get (before ++ node ∷ after) (length before) ≡ Some node
got [] after node = refl
got (x ∷ before) after node = got before after node

at_place : (codec : RawCodec) (place nid : ℕ) → nid ≡ codec.first + place → node_at codec nid ≡ slice_get codec.nodes place
at_place codec place nid is =
    let low : nat_lt nid codec.first ≡ false = grind (arith, nat_tests) in
    let back : nid - codec.first ≡ place = omega arith in
    rw (low, back) refl

normal_head : (node : RawNode) (nodes : List RawNode) → map normal_node (node ∷ nodes) ≡ node ∷ nodes → normal_node node ≡ node
normal_head node nodes e = cc

normal_tail : (node : RawNode) (nodes : List RawNode) → map normal_node (node ∷ nodes) ≡ node ∷ nodes → map normal_node nodes ≡ nodes
normal_tail node nodes e = cc

widgets_from : (codec : RawCodec) → IsCounted codec → (after before : List RawNode) (nid : ℕ) → codec.nodes ≡ before ++ after → nid ≡ codec.first + length before
    → map normal_node after ≡ after → All HasReadableList after → AreWidgetsAt codec nid after
widgets_from codec counts [] before nid are is normals readables = tt
widgets_from codec counts (node ∷ after) before nid are is normals readables =
    let many = length-append before (node ∷ after) in
    let all = ap length are in
    let within : nid < codec.first + codec.count = omega (arith, counts.as_many) in
    let b = counts.begins in (
      record {
        there = at_place codec (length before) nid is ∙ ap (λ (nodes : List RawNode). slice_get nodes (length before)) are ∙ got before after node;
        no_root = grind (arith, nat_tests);
        no_group = apart codec nid counts (omega arith) within;
        is_normal = normal_head node after normals;
        readable = All-head HasReadableList node after readables;
      },
      widgets_from codec counts after (before ++ node ∷ []) (nid + 1) (are ∙ sym (append_assoc before (node ∷ []) after))
          (let more = length-append before (node ∷ []) in omega arith)
          (normal_tail node after normals) (All-tail HasReadableList node after readables),
    )

pub widgets_at : (codec : RawCodec) → IsWellFormed codec → AreWidgetsAt codec codec.first codec.nodes
widgets_at codec well =
    widgets_from codec (counted codec well) codec.nodes [] codec.first refl (omega arith) (ap (λ (c : RawCodec). c.nodes) well.tables.is_normal) well.lists
