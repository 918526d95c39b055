-- Connection lists of a codec: their entries, and the nodes for which these stand. High Definition Audio 1.0a, 7.1.2,
-- 7.3.3.3 and 7.3.4.11. That a list with a faulty entry is taken as empty is this project's own.
use Rattle.std.specs.Prelude.{◌≡◌, ◌≤◌, ◌<◌, ◌^◌, ℕ, [], length, map, Option, Some, None, Ok, All}
use Rattle.std.specs.Option.{option_and_then}
use Rattle.std.specs.Result.{result_err, result_unwrap_or}
use Rattle.verb_codes.specs.declared.entries.ListFault.{ListFault}
use Rattle.verb_codes.specs.Lists.{entry_width, expansion_of}
use Rattle.codec_graph.specs.declared.raw.RawNode.{RawNode}
use Rattle.codec_graph.specs.declared.raw.RawCodec.{RawCodec}
use Rattle.codec_graph.specs.Widget.{node_at, node_identifiers}

-- how many entries a list can have: their number stands in seven bits (7.3.4.11)
abbrev pub most_entries : ℕ
most_entries = 127

-- what the widget's entries have wrong: the fault of the first faulty one
abbrev pub list_fault : RawNode → Option ListFault
list_fault node = result_err (expansion_of node.long node.entries)

-- the widget's list is the expansion of its entries; it is empty where they have a fault
abbrev pub listed_node : RawNode → RawNode
listed_node node = record node { list = result_unwrap_or (expansion_of node.long node.entries) [] }

-- by node identifier, what a list has wrong
abbrev pub HasNoListFault : (ℕ → Option ListFault) → Type 0
HasNoListFault fault_at = (nid : ℕ) → nid < node_identifiers → fault_at nid ≡ None

pub record IsFirstListFault (fault_at : ℕ → Option ListFault) (nid : ℕ) (fault : ListFault) : Type 0 where
  pub here : fault_at nid ≡ Some fault
  pub before : (lesser : ℕ) → lesser < nid → fault_at lesser ≡ None

-- what the list of the widget with this node identifier has wrong; there is none where there is no widget
abbrev pub codec_list_fault : RawCodec → ℕ → Option ListFault
codec_list_fault codec nid = option_and_then list_fault (node_at codec nid)

-- the codec with the list of each widget expanded
abbrev pub listed : RawCodec → RawCodec
listed codec = record codec { nodes = map listed_node codec.nodes }

-- entries as a codec gives them: few, each of which fits its form
pub record HasEntries (node : RawNode) : Type 0 where
  pub few : length node.entries ≤ most_entries
  pub fit : All (λ entry. entry < 2 ^ entry_width node.long) node.entries

-- a connection list as a codec gives it: few entries, each of which fits its form, and `list` is their expansion
pub record HasReadableList (node : RawNode) : Type 0 where
  pub few : length node.entries ≤ most_entries
  pub fit : All (λ entry. entry < 2 ^ entry_width node.long) node.entries
  pub expanded : expansion_of node.long node.entries ≡ Ok node.list
