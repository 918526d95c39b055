-- The walk over a codec: the dialogue in which its words are asked for, each as soon as the answers before it say that
-- it is there. This project's own, over the nodes of High Definition Audio 1.0a, 7.1.2.
use Rattle.std.specs.Prelude.{ℕ, zero, suc, Bool, ◌+◌, ◌-◌, ◌&&◌, nat_lt, nat_le, List, [], ◌∷◌, ◌++◌, take}
use Rattle.std.specs.Prelude.{if◌then◌else◌}
use Rattle.codec_graph.specs.declared.raw.RawNode.{RawNode}
use Rattle.codec_graph.specs.declared.raw.RawCodec.{RawCodec}
use Rattle.codec_graph.specs.Widget.{node_identifiers, plain_node, has_list, has_power_control}
use Rattle.verb_codes.specs.Lists.{entries_per_word, entries_of_word}
use Rattle.verb_codes.specs.declared.parameters.Parameter.TheVariants as parameter
use Rattle.codec_walk.specs.declared.words.CodecWord.{CodecWord}
use Rattle.codec_walk.specs.declared.words.NodeWord.{NodeWord}
use Rattle.codec_walk.specs.Dialogues.{Dialogue, Ask, Told}
use Rattle.codec_walk.specs.Words.{parameter_command, list_command, codec_words, codec_command, with_codec_word}
use Rattle.codec_walk.specs.Words.{node_words, applies, word_command, with_word, entries_told, is_long, words_for}

-- a codec of which only the address is known
abbrev pub unknown : ℕ → RawCodec
unknown address = record {
  address = address;
  vendor = 0;
  revision = 0;
  group = 0;
  group_type = 0;
  group_words = record { pcm = 0; formats = 0; amp_in = 0; amp_out = 0; power = 0 };
  first = 0;
  count = 0;
  nodes = [];
}

-- some words of the root and the function group
unfoldable pub from_codec : List CodecWord → RawCodec → (RawCodec → Dialogue) → Dialogue
from_codec [] codec rest = rest codec
from_codec (word ∷ words) codec rest =
    Ask (codec_command codec word) (λ answer. from_codec words (with_codec_word codec word answer) rest)

-- those of some words of a widget that apply to it
unfoldable pub from_words : List NodeWord → ℕ → ℕ → RawNode → (RawNode → Dialogue) → Dialogue
from_words [] address nid node rest = rest node
from_words (word ∷ words) address nid node rest =
    if applies node word
    then Ask (word_command address nid word) (λ answer. from_words words address nid (with_word node word answer) rest)
    else from_words words address nid node rest

-- so many words of a connection list, from a place on; of the entries in a word only those count that are still left
abbrev pub from_entries : ℕ → ℕ → ℕ → ℕ → ℕ → RawNode → (RawNode → Dialogue) → Dialogue
from_entries zero address nid place left node rest = rest node
from_entries (suc words) address nid place left node rest =
    Ask (list_command address nid place) (λ answer.
    from_entries words address nid (place + entries_per_word node.long) (left - entries_per_word node.long)
    (record node { entries = node.entries ++ take left (entries_of_word node.long answer) }) rest)

-- the whole connection list, if the widget has one: first its length and then its words
abbrev pub from_length : ℕ → ℕ → RawNode → (RawNode → Dialogue) → Dialogue
from_length address nid node rest =
    if has_list node
    then Ask (parameter_command address nid parameter.ListLength) (λ answer.
    from_entries (words_for (is_long answer) (entries_told answer)) address nid 0 (entries_told answer)
    (record node { long = is_long answer }) rest)
    else rest node

-- the power states, if the widget has its own
abbrev pub from_power : ℕ → ℕ → RawNode → (RawNode → Dialogue) → Dialogue
from_power address nid node rest =
    if has_power_control node
    then Ask (parameter_command address nid parameter.PowerStates) (λ answer. rest (record node { power = answer }))
    else rest node

-- all of a widget after its capabilities
abbrev pub from_node : ℕ → ℕ → RawNode → (RawNode → Dialogue) → Dialogue
from_node address nid node rest =
    from_words node_words address nid node
    (λ node. from_length address nid node (λ node. from_power address nid node rest))

abbrev pub with_node : RawCodec → RawNode → RawCodec
with_node codec node = record codec { nodes = codec.nodes ++ node ∷ [] }

-- so many widgets from a node identifier on
abbrev pub from_widgets : ℕ → ℕ → RawCodec → Dialogue
from_widgets zero nid codec = Told codec
from_widgets (suc left) nid codec =
    Ask (parameter_command codec.address nid parameter.WidgetCapabilities) (λ answer.
    from_node codec.address nid (plain_node answer) (λ node. from_widgets left (nid + 1) (with_node codec node)))

-- whether the first widget and the count that were told name nodes that can be there; else no widget is asked
abbrev pub has_widgets : RawCodec → Bool
has_widgets codec = nat_lt 0 codec.count && nat_lt 0 codec.first && nat_le (codec.first + codec.count) node_identifiers

abbrev pub from_count : RawCodec → Dialogue
from_count codec = if has_widgets codec then from_widgets codec.count codec.first codec else Told codec

-- the walk over the codec with this address
unfoldable pub walk : ℕ → Dialogue
walk address = from_codec codec_words (unknown address) from_count
