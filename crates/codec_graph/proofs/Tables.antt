-- Normal words and the faults of tables.
use Rattle.std.proofs.Common.{◌≡◌, ℕ, ◌+◌, ◌-◌, ◌<◌, ◌≤◌, Bool, true, false, cond, ◌&&◌, List, [], ◌∷◌, ◌++◌, map, length, get_or, drop, Some, None, refl, sym, add-one, arith}
use Rattle.std.proofs.Math.Seq.{drop-cons}
use Rattle.codec_graph.specs.declared.raw.RawNode.{RawNode}
use Rattle.codec_graph.specs.declared.raw.RawCodec.{RawCodec}
use Rattle.codec_graph.specs.declared.fault.GraphFault.{GraphFault}
use Rattle.codec_graph.specs.Widget.{normal_node, normal, node_at, is_widget}
use Rattle.std.proofs.lemmas.Option.{slice_get_past}
use Rattle.std.proofs.lemmas.Bool.Decides.{nat_tests}
use Rattle.std.proofs.lemmas.Bool.{or_parts}
use Rattle.codec_graph.specs.Faults.{has_bad_count, node_faults, nodes_faults, first_fault}

cond_twice : {X : Type 0} (b : Bool) (x d : X) → cond b (cond b x d) d ≡ cond b x d
cond_twice true x d = refl
cond_twice false x d = refl

and_twice : (b c : Bool) → (b && (b && c)) ≡ (b && c)
and_twice true c = refl
and_twice false c = refl

-- a normal node has no word left to drop
pub normal_node-normal_node : (node : RawNode) → normal_node (normal_node node) ≡ normal_node node
normal_node-normal_node node = simp (cond_twice, and_twice)

map_normal_twice : (nodes : List RawNode) → map normal_node (map normal_node nodes) ≡ map normal_node nodes
map_normal_twice [] = refl
map_normal_twice (node ∷ nodes) = rw (normal_node-normal_node node, map_normal_twice nodes)

-- a normal codec has none either
pub normal-normal : (codec : RawCodec) → normal (normal codec) ≡ normal codec
normal-normal codec = rw (map_normal_twice codec.nodes)

-- without a first fault there is none
pub no_fault_from_none : (faults : List GraphFault) → first_fault faults ≡ None → faults ≡ []
no_fault_from_none [] e = refl
no_fault_from_none (fault ∷ faults) e = cc

-- the faults from a place of the nodes on are those of its node and then those of the rest
pub nodes_faults-drop : (codec : RawCodec) (nid : ℕ) (nodes : List RawNode) (i : ℕ) (node : RawNode) → i < length nodes → node ≡ get_or nodes i node → nodes_faults codec nid (drop i nodes) ≡ node_faults codec nid node ++ nodes_faults codec (nid + 1) (drop (i + 1) nodes)
nodes_faults-drop codec nid nodes i node within e =
    rw (drop-cons nodes i node, ← e, add-one i) refl

-- the first fault of two lists, the first of which has one, or has none
pub first_fault-append_some : (a b : List GraphFault) (fault : GraphFault) → Some fault ≡ first_fault a → first_fault (a ++ b) ≡ Some fault
first_fault-append_some [] b fault e = cc
first_fault-append_some (x ∷ a) b fault e = sym e

pub first_fault-append_none : (a b : List GraphFault) → None ≡ first_fault a → first_fault (a ++ b) ≡ first_fault b
first_fault-append_none [] b e = refl
first_fault-append_none (x ∷ a) b e = cc

-- what a good count says
pub record IsCounted (codec : RawCodec) : Type 0 where
  pub some : 1 ≤ codec.count
  pub begins : 1 ≤ codec.first
  pub ends : codec.first + codec.count ≤ 128
  pub as_many : length codec.nodes ≡ codec.count
  pub has_group : 1 ≤ codec.group
  pub group_below : codec.group < 128
  pub group_apart : is_widget codec codec.group ≡ false

pub counted_by : (codec : RawCodec) → has_bad_count codec ≡ false → IsCounted codec
counted_by codec good = record {
  some = grind (arith, nat_tests);
  begins = grind (arith, nat_tests);
  ends = grind (arith, nat_tests);
  as_many = grind (arith, nat_tests);
  has_group = grind (arith, nat_tests);
  group_below = grind (arith, nat_tests);
  group_apart = (or_parts _ (is_widget codec codec.group) good).1;
}

-- no widget has a node identifier above 7Fh
pub node_at-past : (codec : RawCodec) → IsCounted codec → (nid : ℕ) → 128 ≤ nid → node_at codec nid ≡ None
node_at-past codec c nid high =
    let past : length codec.nodes ≤ nid - codec.first = omega (arith, c.ends, c.as_many) in
    let e = slice_get_past codec.nodes (nid - codec.first) past in
    let above : codec.first ≤ nid = omega (arith, c.ends) in
    grind (arith, nat_tests)
