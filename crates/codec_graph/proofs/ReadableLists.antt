-- Lists that are the expansions of their entries.
use Rattle.std.proofs.Common.{◌≡◌, ◌<◌, ◌≤◌, ◌+◌, ◌-◌, ◌^◌, ◌&&◌, nat_lt, if◌then◌else◌, ℕ, zero, suc, Bool, true, false, cond, List, [], ◌∷◌, ◌++◌, length, map, get_or, take, drop, refl, sym, ap, ◌∙◌, Ok, Err, Result, None, arith, rules, tests}
use Rattle.std.specs.Prelude.{All, slice_get}
use Rattle.std.specs.Option.{option_and_then}
use Rattle.std.proofs.lemmas.Option.{slice_get_past}
use Rattle.std.proofs.lemmas.List.Elements.{All-nil, All-cons, All-head, All-tail}
use Rattle.verb_codes.specs.Lists.{entry_width, expansion_of}
use Rattle.verb_codes.proofs.Callers.{expansion_of-small}
use Rattle.codec_graph.specs.declared.raw.RawNode.{RawNode}
use Rattle.codec_graph.specs.Widget.{has_list, normal_node}
use Rattle.codec_graph.proofs.Maps.{get_or-changed}
use Rattle.codec_graph.specs.declared.raw.RawCodec.{RawCodec}
use Rattle.codec_graph.specs.Listed.{HasEntries, HasReadableList, list_fault, listed_node, codec_list_fault, listed}
use Rattle.verb_codes.specs.declared.entries.ListFault.{ListFault}
use Rattle.std.specs.Result.{result_err, result_unwrap_or}

-- a node without a connection list has one that is readable
pub readable_normal : (node : RawNode) → HasReadableList node → HasReadableList (normal_node node)
readable_normal node h = record {
  few = few (has_list node);
  fit = fit (has_list node);
  expanded = expanded (has_list node);
}
  where
    few : (b : Bool) → length (cond b node.entries []) ≤ 127
    few true = h.few
    few false = omega arith

    fit : (b : Bool) → All (λ entry. entry < 2 ^ entry_width (b && node.long)) (cond b node.entries [])
    fit true = h.fit
    fit false = All-nil (λ entry. entry < 2 ^ entry_width false)

    expanded : (b : Bool) → expansion_of (b && node.long) (cond b node.entries []) ≡ Ok (cond b node.list [])
    expanded true = h.expanded
    expanded false = refl

pub readable_nodes : (nodes : List RawNode) → All HasReadableList nodes → All HasReadableList (map normal_node nodes)
readable_nodes [] all = All-nil HasReadableList
readable_nodes (node ∷ nodes) all =
    All-cons HasReadableList (normal_node node) (map normal_node nodes) (readable_normal node (All-head HasReadableList node nodes all)) (readable_nodes nodes (All-tail HasReadableList node nodes all))

-- a readable list has node identifiers that fit a byte
pub listed_narrow : (node : RawNode) → HasReadableList node → All (λ nid. nid < 2 ^ 8) node.list
listed_narrow node h = λ i d lt. let small = expansion_of-small node.long node.entries node.list h.expanded i d lt in omega arith

-- what stands in the way of the widget at a place
pub fault_at : (nodes : List RawNode) (i : ℕ) (node : RawNode) → i < length nodes → option_and_then list_fault (slice_get nodes i) ≡ list_fault (get_or nodes i node)
fault_at [] i node within = absurd (omega arith)
fault_at (n ∷ nodes) zero node within = refl
fault_at (n ∷ nodes) (suc i) node within = fault_at nodes i node (omega arith)

pub fault_past : (nodes : List RawNode) (i : ℕ) → length nodes ≤ i → option_and_then list_fault (slice_get nodes i) ≡ None
fault_past nodes i past = ap (option_and_then list_fault) (slice_get_past nodes i past)

-- what the widgets are before one more list is expanded
module _ (old now : List RawNode) (i : ℕ) (value : now ≡ map listed_node (take i old) ++ drop i old) where
  pub fault_here : (node : RawNode) → i < length old → option_and_then list_fault (slice_get old i) ≡ list_fault (get_or now i node)
  fault_here node within =
      fault_at old i node within ∙ ap list_fault (sym (ap (λ (nodes : List RawNode). get_or nodes i node) value ∙ get_or-changed listed_node old i node within))

-- an expansion without a fault is what the list becomes
no_fault : (expansion : Result (List ℕ) ListFault) → result_err expansion ≡ None → expansion ≡ Ok (result_unwrap_or expansion [])
no_fault (Ok nids) none = refl
no_fault (Err fault) none = cc

pub readable_listed : (node : RawNode) → HasEntries node → list_fault node ≡ None → HasReadableList (listed_node node)
readable_listed node has none = record { few = has.few; fit = has.fit; expanded = no_fault (expansion_of node.long node.entries) none }

readable_each : (nodes : List RawNode) → All HasEntries nodes → ((place : ℕ) → option_and_then list_fault (slice_get nodes place) ≡ None) → All HasReadableList (map listed_node nodes)
readable_each [] has none = All-nil HasReadableList
readable_each (node ∷ nodes) has none =
    All-cons HasReadableList (listed_node node) (map listed_node nodes) (readable_listed node (All-head HasEntries node nodes has) (none 0))
    (readable_each nodes (All-tail HasEntries node nodes has) (λ place. none (suc place)))

not_below : (first place : ℕ) → nat_lt (first + place) first ≡ false
not_below first place = search (rules, tests)

back : (first place : ℕ) → first + place - first ≡ place
back first place = omega arith

placed : (codec : RawCodec) (place : ℕ) → codec_list_fault codec (codec.first + place) ≡ option_and_then list_fault (slice_get codec.nodes place)
placed codec place = rw (not_below codec.first place, back codec.first place) refl

pub readable_codec : (codec : RawCodec) → All HasEntries codec.nodes → ((nid : ℕ) → codec_list_fault codec nid ≡ None) → All HasReadableList (listed codec).nodes
readable_codec codec has none = readable_each codec.nodes has (λ place. sym (placed codec place) ∙ none (codec.first + place))

clean_by : (below : Bool) (nodes : List RawNode) (place : ℕ) → option_and_then list_fault (slice_get nodes place) ≡ None
    → option_and_then list_fault (if below then None else slice_get nodes place) ≡ None
clean_by true nodes place none = refl
clean_by false nodes place none = none

-- where no place has a fault no node identifier has
pub clean_codec : (codec : RawCodec) → ((place : ℕ) → option_and_then list_fault (slice_get codec.nodes place) ≡ None) → (nid : ℕ) → codec_list_fault codec nid ≡ None
clean_codec codec none nid = clean_by (nat_lt nid codec.first) codec.nodes (nid - codec.first) (none (nid - codec.first))
