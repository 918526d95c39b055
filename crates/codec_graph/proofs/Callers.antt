-- What the proofs of other crates cite.
use Rattle.std.proofs.Common.{◌≡◌, ◌<◌, ◌+◌, ℕ, cond, not, List, [], ◌∷◌, ◌++◌, length, Some, None}
use Rattle.std.specs.Prelude.{All}
use Rattle.codec_graph.specs.declared.raw.RawNode.{RawNode}
use Rattle.codec_graph.specs.declared.raw.RawCodec.{RawCodec}
use Rattle.codec_graph.specs.declared.waiting.Waiting.{Waiting}
use Rattle.codec_graph.specs.Widget.{node_at, node_identifiers}
use Rattle.codec_graph.specs.Listed.{HasEntries, HasReadableList, list_fault, listed_node, codec_list_fault, listed}
use Rattle.codec_graph.specs.Widths.{HasNodeWords}
use Rattle.codec_graph.specs.Cycles.{IsWellFormed}
use Rattle.codec_graph.specs.CodecStates.{CodecState, is_answer, answers, unsolicited, drop_answer, without_first, without_answer, IsSound}
use Rattle.codec_graph.proofs.Nodes as nodes
use Rattle.codec_graph.proofs.Narrow as narrow
use Rattle.codec_graph.proofs.Sound as sound
use Rattle.codec_graph.proofs.ReadableLists as readable
-- a key stands for itself
pub use Rattle.codec_graph.proofs.Controlled.{here}
-- settings of a well-formed graph have a number for each control that is there, and for no other
pub use Rattle.codec_graph.proofs.Controlled.{is_some-setting_at}
-- keys that stand for one another are equal
pub use Rattle.codec_graph.proofs.Openings.{same_key}
-- what is found after a number was put
pub use Rattle.codec_graph.proofs.Unchanged.{lookup-put}
-- a word that is read leaves settings of the graph
pub use Rattle.codec_graph.proofs.Sound.{settings-reading}
-- answers have 32 bits
pub use Rattle.codec_graph.proofs.Narrow.{answer_of-narrow}
-- what is plugged in leaves the graph of its codec
pub use Rattle.codec_graph.proofs.Plugging.{graph-plugged}
-- and its settings
pub use Rattle.codec_graph.proofs.Plugging.{settings-plugged}
-- where a row of faults is empty, so are its parts
pub use Rattle.codec_graph.proofs.Nodes.{faultless_left, faultless_right}
-- where a fault is not there, its test fails
pub use Rattle.codec_graph.proofs.Nodes.{faultless_test}
-- where the widgets and the group of a well-formed graph are
pub use Rattle.codec_graph.proofs.Tables.{IsCounted, counted_by}
pub use Rattle.codec_graph.proofs.Nodes.{counted}
-- what is found among opening values
pub use Rattle.codec_graph.proofs.Defaults.{found-opening}
-- a pin of a well-formed graph has its default's control
pub use Rattle.codec_graph.proofs.Defaults.{has_default}
-- a value that is found is that one
pub use Rattle.codec_graph.proofs.Defaults.{value_of}
-- how many marks are missing, and that a mark more leaves one missing less
pub use Rattle.codec_graph.proofs.Reaching.{unmarked_count, unmarked_count-set}
-- a mark after one more was made is that one or was there
pub use Rattle.codec_graph.proofs.Reaching.{marked-set}
-- fewer answers wait once one is dropped
pub use Rattle.codec_graph.proofs.Sound.{answers-drop_answer}
-- a candidate pin of a kind is a pin
pub use Rattle.codec_graph.proofs.KindLemmas.{candidate_pin}
-- no pin comes before itself
pub use Rattle.codec_graph.proofs.SortedPins.{not_before}
-- the candidate pins of a kind have one order
pub use Rattle.codec_graph.proofs.OneOrder.{same_order}
-- of two pins one comes before the other
pub use Rattle.codec_graph.proofs.OneOrder.{asymmetric}

-- a widget of a well-formed graph has a node identifier of seven bits
pub node_below : (codec : RawCodec) (nid : ℕ) (node : RawNode) → IsWellFormed codec → node_at codec nid ≡ Some node → nid < node_identifiers
node_below codec nid node well there = nodes.node_below codec nid node well there

-- its list is readable
pub readable_at : (codec : RawCodec) (nid : ℕ) (node : RawNode) → IsWellFormed codec → node_at codec nid ≡ Some node → HasReadableList node
readable_at codec nid node well there = narrow.readable_at codec nid node well there

-- its words have 32 bits
pub words_at : (codec : RawCodec) (nid : ℕ) (node : RawNode) → IsWellFormed codec → node_at codec nid ≡ Some node → HasNodeWords node
words_at codec nid node well there = narrow.words_at codec nid node well there

-- an answer that comes last is counted
pub answers-push : (waiting : List Waiting) (item : Waiting) → answers (waiting ++ item ∷ []) ≡ answers waiting + cond (is_answer item) 1 0
answers-push waiting item = sound.answers-push waiting item

-- an unsolicited response that comes last is counted
pub unsolicited-push : (waiting : List Waiting) (item : Waiting) → unsolicited (waiting ++ item ∷ []) ≡ unsolicited waiting + cond (not (is_answer item)) 1 0
unsolicited-push waiting item = sound.unsolicited-push waiting item

-- an answer that comes first is counted
pub answers-cons : (item : Waiting) (waiting : List Waiting) → answers (item ∷ waiting) ≡ cond (is_answer item) 1 0 + answers waiting
answers-cons item waiting = sound.answers-cons item waiting

-- each item that waits is an answer or unsolicited
pub all-counted : (waiting : List Waiting) → answers waiting + unsolicited waiting ≡ length waiting
all-counted waiting = sound.all-counted waiting

-- a lost answer leaves the unsolicited responses
pub unsolicited-drop_answer : (waiting : List Waiting) → unsolicited (drop_answer waiting) ≡ unsolicited waiting
unsolicited-drop_answer waiting = sound.unsolicited-drop_answer waiting

-- a codec stays sound without the first item that waits
pub IsSound-without_first : (codec : CodecState) → IsSound codec → IsSound (without_first codec)
IsSound-without_first codec s = sound.IsSound-without_first codec s

-- a codec stays sound without the first answer that waits
pub IsSound-without_answer : (codec : CodecState) → IsSound codec → IsSound (without_answer codec)
IsSound-without_answer codec s = sound.IsSound-without_answer codec s

-- an expanded list without a fault is readable
pub readable_listed : (node : RawNode) → HasEntries node → list_fault node ≡ None → HasReadableList (listed_node node)
readable_listed node has none = readable.readable_listed node has none

-- and so are those of a codec
pub readable_codec : (codec : RawCodec) → All HasEntries codec.nodes → ((nid : ℕ) → codec_list_fault codec nid ≡ None) → All HasReadableList (listed codec).nodes
readable_codec codec has none = readable.readable_codec codec has none
