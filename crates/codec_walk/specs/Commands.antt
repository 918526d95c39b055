-- The commands of a walk over a codec: a list for the root and the function group and one for each widget, joined. This
-- project's own.
use Rattle.std.specs.Prelude.{ℕ, ◌+◌, ◌*◌, List, [], ◌∷◌, ◌++◌, map, filter, length, if◌then◌else◌}
use Rattle.std.specs.List.{range_with_len}
use Rattle.codec_graph.specs.declared.raw.RawNode.{RawNode}
use Rattle.codec_graph.specs.declared.raw.RawCodec.{RawCodec}
use Rattle.codec_graph.specs.Widget.{has_list, has_power_control}
use Rattle.verb_codes.specs.declared.verbs.Command.{Command}
use Rattle.verb_codes.specs.Lists.{entries_per_word}
use Rattle.verb_codes.specs.declared.parameters.Parameter.TheVariants as parameter
use Rattle.codec_walk.specs.Words.{parameter_command, list_command, codec_words, codec_command, node_words, applies}
use Rattle.codec_walk.specs.Words.{word_command, words_for}

-- for each word of the connection list, from the places 0, 4, 8 of the short form or 0, 2, 4 of the long one
abbrev pub entry_commands : ℕ → ℕ → RawNode → List Command
entry_commands address nid node =
    map (λ word. list_command address nid (word * entries_per_word node.long))
    (range_with_len 0 (words_for node.long (length node.entries)))

abbrev pub connection_commands : ℕ → ℕ → RawNode → List Command
connection_commands address nid node =
    if has_list node then parameter_command address nid parameter.ListLength ∷ entry_commands address nid node else []

abbrev pub power_commands : ℕ → ℕ → RawNode → List Command
power_commands address nid node =
    if has_power_control node then parameter_command address nid parameter.PowerStates ∷ [] else []

-- for a widget: its capabilities, the words that they say it has, its connection list and its power states
abbrev pub node_commands : ℕ → ℕ → RawNode → List Command
node_commands address nid node =
    parameter_command address nid parameter.WidgetCapabilities
    ∷ (map (word_command address nid) (filter (applies node) node_words)
    ++ (connection_commands address nid node ++ power_commands address nid node))

-- for the widgets from a node identifier on, ascending
abbrev pub nodes_commands : ℕ → ℕ → List RawNode → List Command
nodes_commands address nid [] = []
nodes_commands address nid (node ∷ nodes) = node_commands address nid node ++ nodes_commands address (nid + 1) nodes

-- the commands of the walk over a codec
unfoldable pub walk_commands : RawCodec → List Command
walk_commands codec = map (codec_command codec) codec_words ++ nodes_commands codec.address codec.first codec.nodes

-- how many of them are a widget's: one for the capabilities, one for each word that applies, one for the length of the
-- list and one for each of its words
abbrev pub node_count : RawNode → ℕ
node_count node =
    1 + length (filter (applies node) node_words)
    + (if has_list node then 1 + words_for node.long (length node.entries) else 0) + (if has_power_control node then 1
    else 0)
