-- The graph of the made machine has no fault.
use Rattle.std.proofs.Common.{◌≡◌, ◌≤◌, ◌<◌, ◌^◌, ◌++◌, ℕ, zero, suc, length, replicate, Ok, lit<, lit≤, Bool, true, false, cond, List, [], ◌∷◌, Option, Some, None, refl, sym, ap, subst, ◌∙◌, arith}
use Rattle.std.specs.Prelude.{slice_get, Contains, nat_lt, ◌-◌}
use Rattle.std.specs.List.{list_all}
use Rattle.std.specs.Prelude.{All}
use Rattle.std.proofs.lemmas.List.Sums.{AllPass-from_list_all}
use Rattle.std.proofs.lemmas.List.Elements.{All-nil, All-cons}
use Rattle.std.proofs.lemmas.Bool.{and_parts}
use Rattle.verb_codes.specs.Lists.{entry_width, expansion_of}
use Rattle.codec_graph.specs.declared.raw.RawNode.{RawNode}
use Rattle.codec_graph.specs.declared.raw.RawCodec.{RawCodec}
use Rattle.codec_graph.specs.declared.fault.GraphFault.{GraphFault}
use Rattle.codec_graph.specs.declared.fault.GraphFault.TheVariants.{NoAudioGroup, BadCount, ConnectionOutside, ListTooLong, AmpOffset, Cycle}
use Rattle.codec_graph.specs.Widget.{node_at, normal}
use Rattle.codec_graph.specs.Faults.{table_faults}
use Rattle.codec_graph.specs.Listed.{HasReadableList}
use Rattle.codec_graph.specs.Widths.{HasNodeWords}
use Rattle.codec_graph.specs.Cycles.{inner_list_of, inner_list, Leads, IsOnCycle, IsCycleFault, IsFirstFault, IsWellFormed}
use Rattle.made_inputs.specs.MadeMachine.{converter, made_codec, mixer, pin, vendor_defined, widgets}

-- ---- no cycle

abbrev is_none : List ℕ → Bool
is_none [] = true
is_none (nid ∷ nids) = false

none_by : (nids : List ℕ) → is_none nids ≡ true → nids ≡ []
none_by [] none = refl
none_by (nid ∷ nids) none = cc

-- the connections of a mixer or selector lead to others that are none
abbrev ends_after_one : RawNode → Bool
ends_after_one node = list_all (λ (to : ℕ). is_none (inner_list made_codec to)) (inner_list_of (Some node))

all_end : list_all ends_after_one widgets ≡ true
all_end = refl

some_inj : {X : Type 0} (x y : X) → slice_get (x ∷ []) 0 ≡ Some y → x ≡ y
some_inj x y is = cc

holds_in : {X : Type 0} (p : X → Bool) (xs : List X) (k : ℕ) (x : X) → list_all p xs ≡ true → slice_get xs k ≡ Some x → p x ≡ true
holds_in p [] k x all there = cc
holds_in p (y ∷ xs) zero x all there = ap p (sym (some_inj y x there)) ∙ (and_parts (p y) (list_all p xs) all).0
holds_in p (y ∷ xs) (suc k) x all there = holds_in p xs k x (and_parts (p y) (list_all p xs) all).1 there

holds_at : (p : ℕ → Bool) (xs : List ℕ) (x : ℕ) → list_all p xs ≡ true → Contains xs x → p x ≡ true
holds_at p xs x all in' =
    subst (λ (y : ℕ). p y ≡ true) in'.2 (AllPass-from_list_all p xs all in'.0 x in'.1)

ends_there : (found : Option RawNode) (to : ℕ) → ((node : RawNode) → found ≡ Some node → ends_after_one node ≡ true)
    → Contains (inner_list_of found) to → inner_list made_codec to ≡ []
ends_there None to ends in' = absurd (omega (arith, in'.1))
ends_there (Some node) to ends in' =
    none_by (inner_list made_codec to) (holds_at (λ (to : ℕ). is_none (inner_list made_codec to)) (inner_list_of (Some node)) to (ends node refl) in')

at_node : (nid : ℕ) (node : RawNode) → node_at made_codec nid ≡ Some node → ends_after_one node ≡ true
at_node nid node there = by (nat_lt nid made_codec.first) there
  where
    by : (below : Bool) → cond below None (slice_get widgets (nid - made_codec.first)) ≡ Some node → ends_after_one node ≡ true
    by true found = cc
    by false found = holds_in ends_after_one widgets (nid - made_codec.first) node all_end found

ends_here : (nid to : ℕ) → Contains (inner_list made_codec nid) to → inner_list made_codec to ≡ []
ends_here nid to in' = ends_there (node_at made_codec nid) to (at_node nid) in'

leads_nowhere : (from to : ℕ) (through : List ℕ) → inner_list made_codec from ≡ [] → Leads made_codec from through to → ⊥
leads_nowhere from to [] none leads =
    let in' : Contains [] to = subst (λ (nids : List ℕ). Contains nids to) none leads in
    omega (arith, in'.1)
leads_nowhere from to (next ∷ through) none leads =
    let in' : Contains [] next = subst (λ (nids : List ℕ). Contains nids next) none leads.0 in
    omega (arith, in'.1)

pub no_cycle : (nid : ℕ) → IsOnCycle made_codec nid → ⊥
no_cycle nid (through, leads) = by through leads
  where
    by : (through : List ℕ) → Leads made_codec nid through nid → ⊥
    by [] leads = leads_nowhere nid nid [] (ends_here nid nid leads) leads
    by (next ∷ through) leads = leads_nowhere next nid through (ends_here nid next leads.0) leads.1

-- ---- no fault

pub is_normal : normal made_codec ≡ made_codec
is_normal = refl

no_table_fault : table_faults made_codec ≡ []
no_table_fault = refl

no_cycle_fault : (fault : GraphFault) → IsCycleFault made_codec fault → ⊥
no_cycle_fault (NoAudioGroup nid) is = is
no_cycle_fault (BadCount nid) is = is
no_cycle_fault (ConnectionOutside nid) is = is
no_cycle_fault (ListTooLong nid) is = is
no_cycle_fault (AmpOffset nid) is = is
no_cycle_fault (Cycle nid) is = no_cycle nid is.0

pub no_fault : (raw : RawCodec) (fault : GraphFault) → raw ≡ made_codec → IsFirstFault (normal raw) fault → ⊥
no_fault raw fault is first =
    no_cycle_fault fault (subst (λ (codec : RawCodec). IsFirstFault (normal codec) fault) is first)

-- ---- together

-- a fact of each widget
abbrev Each : (RawNode → Type 0) → List RawNode → Type 0
Each P [] = Unit {0}
Each P (node ∷ nodes) = P node × Each P nodes

all_by : (P : RawNode → Type 0) (nodes : List RawNode) → Each P nodes → All P nodes
all_by P [] each = All-nil P
all_by P (node ∷ nodes) each = All-cons P node nodes each.0 (all_by P nodes each.1)

more : (P : RawNode → Type 0) (count : ℕ) (node : RawNode) (nodes : List RawNode) → P node → Each P nodes → Each P (replicate count node ++ nodes)
more P zero node nodes one each = each
more P (suc count) node nodes one each = (one, more P count node nodes one each)

of_widgets : (P : RawNode → Type 0) → P converter → P vendor_defined → P mixer → P pin → All P widgets
of_widgets P first vendor middle last =
    all_by P widgets
    (first, more P 9 vendor_defined (mixer ∷ (replicate 7 vendor_defined ++ pin ∷ [])) vendor (middle, more P 7 vendor_defined (pin ∷ []) vendor (last, tt)))

readable : (node : RawNode) → length node.entries ≤ 127 → All (λ (entry : ℕ). entry < 2 ^ entry_width node.long) node.entries
    → expansion_of node.long node.entries ≡ Ok node.list → HasReadableList node
readable node few fit expanded = record { few = few; fit = fit; expanded = expanded }

abbrev IsShort : ℕ → Type 0
IsShort entry = entry < 2 ^ 8

readable_all : All HasReadableList widgets
readable_all =
    of_widgets HasReadableList (readable converter (lit≤ tt) (All-nil IsShort) refl)
    (readable vendor_defined (lit≤ tt) (All-nil IsShort) refl)
    (readable mixer (lit≤ tt) (All-cons IsShort 2 (11 ∷ []) (lit< tt) (All-cons IsShort 11 [] (lit< tt) (All-nil IsShort))) refl)
    (readable pin (lit≤ tt) (All-cons IsShort 12 [] (lit< tt) (All-nil IsShort)) refl)

narrow_all : All HasNodeWords widgets
narrow_all =
    of_widgets HasNodeWords
    (record { caps = lit< tt; pcm = lit< tt; formats = lit< tt; pin_caps = lit< tt; amp_in = lit< tt; amp_out = lit< tt; power = lit< tt; default = lit< tt; listed = All-nil IsShort })
    (record { caps = lit< tt; pcm = lit< tt; formats = lit< tt; pin_caps = lit< tt; amp_in = lit< tt; amp_out = lit< tt; power = lit< tt; default = lit< tt; listed = All-nil IsShort })
    (record {
      caps = lit< tt;
      pcm = lit< tt;
      formats = lit< tt;
      pin_caps = lit< tt;
      amp_in = lit< tt;
      amp_out = lit< tt;
      power = lit< tt;
      default = lit< tt;
      listed = All-cons IsShort 2 (11 ∷ []) (lit< tt) (All-cons IsShort 11 [] (lit< tt) (All-nil IsShort));
    })
    (record {
      caps = lit< tt;
      pcm = lit< tt;
      formats = lit< tt;
      pin_caps = lit< tt;
      amp_in = lit< tt;
      amp_out = lit< tt;
      power = lit< tt;
      default = lit< tt;
      listed = All-cons IsShort 12 [] (lit< tt) (All-nil IsShort);
    })

pub well_formed : IsWellFormed made_codec
well_formed = record {
  tables = record { is_normal = is_normal; no_fault = no_table_fault };
  acyclic = no_cycle;
  lists = readable_all;
  words = record {
    address = lit< tt;
    vendor = lit< tt;
    revision = lit< tt;
    group = lit< tt;
    group_type = lit< tt;
    group_words = record { pcm = lit< tt; formats = lit< tt; amp_in = lit< tt; amp_out = lit< tt; power = lit< tt };
    first = lit< tt;
    count = lit< tt;
    nodes = narrow_all;
  };
}
