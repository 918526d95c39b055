-- Cycles of mixers and selectors, and well-formed graphs. This project's own, over the standard's connection lists
-- (7.1.2).
use Rattle.std.specs.Prelude.{◌≡◌, ◌≤◌, ℕ, List, [], ◌∷◌, Option, Some, None, if◌then◌else◌, All, Contains}
use Rattle.codec_graph.specs.declared.raw.RawNode.{RawNode}
use Rattle.codec_graph.specs.declared.raw.RawCodec.{RawCodec}
use Rattle.codec_graph.specs.declared.fault.GraphFault.{GraphFault}
use Rattle.codec_graph.specs.declared.fault.GraphFault.TheVariants.{Cycle}
use Rattle.codec_graph.specs.Widget.{node_at, is_inner, normal}
use Rattle.codec_graph.specs.Listed.{HasReadableList}
use Rattle.codec_graph.specs.Widths.{HasWords}
use Rattle.codec_graph.specs.Faults.{table_faults, first_fault}

-- the connections of a mixer or selector, and none of any other node
abbrev pub inner_list_of : Option RawNode → List ℕ
inner_list_of None = []
inner_list_of (Some node) = if is_inner node then node.list else []

abbrev pub inner_list : RawCodec → ℕ → List ℕ
inner_list codec nid = inner_list_of (node_at codec nid)

-- connections lead from one mixer or selector through those of the list to another node
abbrev pub Leads : RawCodec → ℕ → List ℕ → ℕ → Type 0
Leads codec from [] to = Contains (inner_list codec from) to
Leads codec from (next ∷ through) to = Contains (inner_list codec from) next × Leads codec next through to

-- connections lead from one mixer or selector to another node, through mixers and selectors alone
abbrev pub Reaches : RawCodec → ℕ → ℕ → Type 0
Reaches codec from to = (through : List ℕ) × Leads codec from through to

-- connections lead from the node through mixers and selectors alone back to it
abbrev pub IsOnCycle : RawCodec → ℕ → Type 0
IsOnCycle codec nid = Reaches codec nid nid

-- the node is the least one on a cycle
abbrev pub IsLeastOnCycle : RawCodec → ℕ → Type 0
IsLeastOnCycle codec nid = IsOnCycle codec nid × ((other : ℕ) → IsOnCycle codec other → nid ≤ other)

-- a graph whose words are those that apply and whose tables have no fault
pub record HasSoundTables (codec : RawCodec) : Type 0 where
  pub is_normal : normal codec ≡ codec
  pub no_fault : table_faults codec ≡ []

-- a well-formed graph
pub record IsWellFormed (codec : RawCodec) : Type 0 where
  pub tables : HasSoundTables codec
  pub acyclic : (nid : ℕ) → IsOnCycle codec nid → ⊥
  pub lists : All HasReadableList codec.nodes
  pub words : HasWords codec

-- the fault is a cycle's, named by its least node
abbrev pub IsCycleFault : RawCodec → GraphFault → Type 0
IsCycleFault codec (Cycle nid) = IsLeastOnCycle codec nid
IsCycleFault codec _ = ⊥

-- the first fault of a graph: that of its tables or else a cycle
abbrev pub IsFirstFaultBy : RawCodec → Option GraphFault → GraphFault → Type 0
IsFirstFaultBy codec (Some first) fault = fault ≡ first
IsFirstFaultBy codec None fault = IsCycleFault codec fault

abbrev pub IsFirstFault : RawCodec → GraphFault → Type 0
IsFirstFault codec fault = IsFirstFaultBy codec (first_fault (table_faults codec)) fault
