-- The steps of a walk, as dialogues.
use Rattle.std.specs.Prelude.{◌≡◌, ◌≤◌, ◌<◌, ◌^◌, ℕ, Bool, true, false, ◌+◌, ◌-◌, ◌==◌, List, [], ◌++◌, length, take}
use Rattle.std.specs.Prelude.{find, All, Option, Some, None, if◌then◌else◌}
use Rattle.codec_graph.specs.declared.raw.RawNode.{RawNode}
use Rattle.codec_graph.specs.declared.raw.RawCodec.{RawCodec}
use Rattle.codec_graph.specs.Widget.{node_identifiers, plain_node, has_list, has_power_control}
use Rattle.codec_graph.specs.Listed.{most_entries, HasEntries}
use Rattle.verb_codes.specs.Lists.{entry_width, entries_per_word, entries_of_word}
use Rattle.verb_codes.specs.declared.parameters.Parameter.TheVariants as parameter
use Rattle.codec_walk.specs.declared.words.NodeWord.{NodeWord}
use Rattle.codec_walk.specs.declared.step.NodeStep.{NodeStep}
use Rattle.codec_walk.specs.declared.step.NodeStep.TheVariants.{Word, Length, Entries, Power}
use Rattle.codec_walk.specs.declared.step.Step.{Step}
use Rattle.codec_walk.specs.declared.step.Step.TheVariants.{Codec, Capabilities, Widget, Done}
use Rattle.codec_walk.specs.Dialogues.{Dialogue, Ask, Told}
use Rattle.codec_walk.specs.Words.{parameter_command, list_command, later_codec, codec_command, with_codec_word}
use Rattle.codec_walk.specs.Words.{applies, later, word_command, with_word, entries_told, is_long, words_for}
use Rattle.codec_walk.specs.Walks.{from_codec, from_words, from_entries, from_length, from_power, from_node, with_node}
use Rattle.codec_walk.specs.Walks.{from_widgets, from_count}

-- ---- inside a widget

abbrev pub from_step : NodeStep → ℕ → ℕ → RawNode → (RawNode → Dialogue) → Dialogue
from_step (Word word) address nid node rest =
    Ask (word_command address nid word) (λ answer.
    from_words (later word) address nid (with_word node word answer)
    (λ node. from_length address nid node (λ node. from_power address nid node rest)))
from_step Length address nid node rest =
    Ask (parameter_command address nid parameter.ListLength) (λ answer.
    from_entries (words_for (is_long answer) (entries_told answer)) address nid 0 (entries_told answer)
    (record node { long = is_long answer }) (λ node. from_power address nid node rest))
from_step (Entries place left) address nid node rest =
    Ask (list_command address nid place) (λ answer.
    from_entries (words_for node.long (left - entries_per_word node.long)) address nid
    (place + entries_per_word node.long) (left - entries_per_word node.long)
    (record node { entries = node.entries ++ take left (entries_of_word node.long answer) })
    (λ node. from_power address nid node rest))
from_step Power address nid node rest =
    Ask (parameter_command address nid parameter.PowerStates) (λ answer. rest (record node { power = answer }))

-- from the next step on, or from the end of the widget
abbrev pub from_next : Option NodeStep → ℕ → ℕ → RawNode → (RawNode → Dialogue) → Dialogue
from_next None address nid node rest = rest node
from_next (Some step) address nid node rest = from_step step address nid node rest

-- the first step for the power states, for the list and the power states, for some words and all that is after them
abbrev pub power_step : RawNode → Option NodeStep
power_step node = if has_power_control node then Some Power else None

abbrev pub list_step : RawNode → Option NodeStep
list_step node = if has_list node then Some Length else power_step node

abbrev pub word_step : RawNode → Option NodeWord → Option NodeStep
word_step node None = list_step node
word_step node (Some word) = Some (Word word)

abbrev pub first_step : RawNode → List NodeWord → Option NodeStep
first_step node words = word_step node (find (applies node) words)

-- with so many entries left from a place on
abbrev pub entries_step : RawNode → ℕ → ℕ → Option NodeStep
entries_step node place left = if left == 0 then power_step node else Some (Entries place left)

-- how many entries can still come, and at most up to which place
abbrev pub room_at : NodeStep → ℕ
room_at (Word word) = most_entries
room_at Length = most_entries
room_at (Entries place left) = left
room_at Power = 0

abbrev pub end_at : NodeStep → ℕ
end_at (Word word) = 0
end_at Length = 0
end_at (Entries place left) = place + left
end_at Power = 0

abbrev pub next_room : Option NodeStep → ℕ
next_room None = 0
next_room (Some step) = room_at step

abbrev pub next_end : Option NodeStep → ℕ
next_end None = 0
next_end (Some step) = end_at step

-- the widget has room for the entries that can still come, and those that came fit their form
pub record HasRoom (room end : ℕ) (node : RawNode) : Type 0 where
  pub few : length node.entries + room ≤ most_entries
  pub places : end ≤ most_entries
  pub fit : All (λ entry. entry < 2 ^ entry_width node.long) node.entries

-- ---- the whole walk

-- a widget is being read, and then come so many more
abbrev pub from_next_widget : ℕ → ℕ → RawCodec → RawNode → Dialogue
from_next_widget left nid codec node = from_widgets left (nid + 1) (with_node codec node)

abbrev pub from_walk : Step → RawCodec → RawNode → ℕ → ℕ → Dialogue
from_walk (Codec word) codec node nid left =
    Ask (codec_command codec word) (λ answer. from_codec (later_codec word) (with_codec_word codec word answer)
    from_count)
from_walk Capabilities codec node nid left =
    Ask (parameter_command codec.address nid parameter.WidgetCapabilities) (λ answer.
    from_node codec.address nid (plain_node answer) (from_next_widget left nid codec))
from_walk (Widget step) codec node nid left = from_step step codec.address nid node (from_next_widget left nid codec)
from_walk Done codec node nid left = Told codec

-- the widgets have begun, and not all are read
abbrev pub is_among_widgets : Step → Bool
is_among_widgets (Codec word) = false
is_among_widgets Capabilities = true
is_among_widgets (Widget step) = true
is_among_widgets Done = false

-- no widget has been asked
abbrev pub is_before_widgets : Step → Bool
is_before_widgets (Codec word) = true
is_before_widgets Capabilities = false
is_before_widgets (Widget step) = false
is_before_widgets Done = false

abbrev pub walk_room : Step → ℕ
walk_room (Codec word) = 0
walk_room Capabilities = 0
walk_room (Widget step) = room_at step
walk_room Done = 0

abbrev pub walk_end : Step → ℕ
walk_end (Codec word) = 0
walk_end Capabilities = 0
walk_end (Widget step) = end_at step
walk_end Done = 0

-- the identifiers of the widgets that are read, being read and to come are below that of the last one
pub record AreWidgetsIn (codec : RawCodec) (nodes : List RawNode) (nid left : ℕ) : Type 0 where
  pub read : codec.first + length nodes ≤ nid
  pub left_in : nid + left < node_identifiers

-- what holds of a walk at all times
pub record IsSound (step : Step) (codec : RawCodec) (nodes : List RawNode) (capacity : ℕ) (node : RawNode)
    (nid left : ℕ) : Type 0 where
  pub address : codec.address ≤ 14
  pub group : codec.group < node_identifiers
  pub room : node_identifiers ≤ capacity
  pub none_before : is_before_widgets step ≡ true → nodes ≡ []
  pub among : is_among_widgets step ≡ true → AreWidgetsIn codec nodes nid left
  pub fits : codec.first + length nodes ≤ 256
  pub read : All HasEntries nodes
  pub reading : HasRoom (walk_room step) (walk_end step) node
