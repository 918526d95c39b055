-- The text of a codec file that is written of a codec's facts: a comment with its name, the codec's table, and a table
-- for each widget, each with its comments first. This project's own.
use Rattle.std.specs.Prelude.{ℕ, ◌==◌, map, ◌+◌, ◌-◌, ◌&&◌, ◌||◌, List, [], ◌∷◌, ◌++◌, nat_le, nat_lt}
use Rattle.std.specs.Prelude.{Option, None, Some, unwrap_or, is_some, if◌then◌else◌, codes, decimal, slice_get}
use Rattle.std.specs.List.{flat_map, range_with_len}
use Rattle.std.specs.Option.{option_map}
use Rattle.verb_codes.specs.Words.{has_bit}
use Rattle.dump_reader.specs.declared.facts.Gain.{Gain}
use Rattle.dump_reader.specs.declared.facts.NodeFacts.{NodeFacts}
use Rattle.dump_reader.specs.declared.facts.CodecFacts.{CodecFacts}
use Rattle.codec_dump.specs.Machines.{one_side, gains_word, list_word, power_word}
use Rattle.codec_dump.specs.Pieces.{newline, byte_line, word_line, byte_given, word_given, bytes_given}
use Rattle.codec_dump.specs.Pieces.{each_from}
use Rattle.codec_dump.specs.Comments.{node_comments, codec_comments}

-- what a codec's file is written of: the codec as the dump says it, the codec that is meant, which is the same or the
-- mended one, and what stands behind it
pub record Draft : Type 0 where
  pub before : CodecFacts
  pub codec : CodecFacts
  pub tail : List ℕ

abbrev pub draft : (before codec : CodecFacts) → List ℕ → Draft
draft before codec tail = record { before = before; codec = codec; tail = tail }

-- a widget's keys, part by part
abbrev pub head_keys : NodeFacts → List ℕ
head_keys facts = byte_line (codes "nid") facts.nid ++ word_line (codes "caps") facts.caps

-- an output amplifier is set to the left side of its gain
abbrev pub left_of : Option Gain → Option ℕ
left_of gain = option_map one_side gain

abbrev pub gains_key : NodeFacts → List ℕ
gains_key facts = bytes_given (codes "gain_in") (gains_word facts.gains_in)

abbrev pub amplifier_keys : NodeFacts → List ℕ
amplifier_keys facts = word_given (codes "amp_in") facts.amp_in ++ (gains_key facts
    ++ (word_given (codes "amp_out") facts.amp_out ++ byte_given (codes "gain_out") (left_of facts.gain_out)))

abbrev pub converter_keys : NodeFacts → List ℕ
converter_keys facts = byte_given (codes "stream") facts.stream ++ (byte_given (codes "digital") facts.digital
    ++ word_given (codes "formats") facts.formats)

abbrev pub pin_keys : NodeFacts → List ℕ
pin_keys facts = word_given (codes "pin_caps") facts.pin_caps ++ (word_given (codes "default") facts.default
    ++ (byte_given (codes "eapd") facts.eapd ++ (byte_given (codes "control") facts.control
    ++ byte_given (codes "unsol") facts.unsol)))

-- those power states that are given, or the usual ones of a widget with power control
abbrev pub power_key : NodeFacts → List ℕ
power_key facts = if is_some facts.power || has_bit facts.caps 10
    then word_line (codes "power") (power_word facts) else []

abbrev pub list_keys : NodeFacts → List ℕ
list_keys facts = byte_given (codes "power_state") facts.power_state
    ++ (bytes_given (codes "list") (list_word facts)
    ++ (byte_given (codes "select") facts.select ++ (word_given (codes "pcm") facts.pcm ++ power_key facts)))

abbrev pub node_keys : NodeFacts → List ℕ
node_keys facts = head_keys facts ++ (amplifier_keys facts ++ (converter_keys facts ++ (pin_keys facts
    ++ list_keys facts)))

-- the table of a widget
abbrev pub node_text : (group : ℕ) → (before facts : NodeFacts) → List ℕ
node_text group before facts =
    newline ++ (codes "[[codec.node]]" ++ (newline ++ (node_comments group before facts ++ node_keys facts)))

-- the codec's keys, part by part
abbrev pub codec_words : CodecFacts → List ℕ
codec_words codec = byte_line (codes "address") (unwrap_or codec.address 0)
    ++ (word_line (codes "vendor") (unwrap_or codec.vendor 0) ++ word_given (codes "revision") codec.revision)

abbrev pub group_words : NodeFacts → List ℕ
group_words group = word_given (codes "formats") group.formats ++ (word_given (codes "amp_in") group.amp_in
    ++ (word_given (codes "amp_out") group.amp_out ++ (word_given (codes "power") group.power
    ++ word_given (codes "pcm") group.pcm)))

abbrev pub group_keys : CodecFacts → List ℕ
group_keys codec = byte_line (codes "group") (unwrap_or codec.group_nid 1)
    ++ (byte_line (codes "group_type") (unwrap_or codec.group_type 1)
    ++ byte_line (codes "group_power") (unwrap_or codec.group.power_state 0))

-- the table of a codec without its widgets
abbrev pub codec_text : (before codec : CodecFacts) → List ℕ
codec_text before codec = codes "[[codec]]" ++ (newline ++ (codec_comments before codec ++ (codec_words codec
    ++ (group_words codec.group ++ group_keys codec))))

-- the widget at a place as the dump says it, and this one where the dump has none there
abbrev pub node_before : Option NodeFacts → NodeFacts → NodeFacts
node_before None node = node
node_before (Some before) node = before

abbrev pub node_at : (before : List NodeFacts) → (place : ℕ) → NodeFacts → NodeFacts
node_at before place node = node_before (slice_get before place) node

-- the table of the widget at a place
abbrev pub table_at : (group : ℕ) → (before : List NodeFacts) → (place : ℕ) → NodeFacts → List ℕ
table_at group before place node = node_text group (node_at before place node) node

-- the tables of widgets
abbrev pub nodes_text : (group : ℕ) → (before nodes : List NodeFacts) → List ℕ
nodes_text group before nodes = each_from (table_at group before) 0 nodes

-- the codec's name: a question mark stands for each byte that is not printable
abbrev pub printable : ℕ → ℕ
printable b = if nat_le 32 b && nat_le b 126 then b else 63

abbrev pub printable_text : ℕ → List ℕ
printable_text b = printable b ∷ []

abbrev pub name_text : List ℕ → List ℕ
name_text name = flat_map printable_text name

abbrev pub name_line : List ℕ → List ℕ
name_line name = codes "# " ++ (name_text name ++ (newline ++ newline))

-- the text of the codec file
abbrev pub text_of : Draft → List ℕ
text_of draft = name_line draft.codec.name ++ (codec_text draft.before draft.codec
    ++ (nodes_text (unwrap_or draft.codec.group_nid 1) draft.before.nodes draft.codec.nodes ++ draft.tail))

-- the name of a further codec file, by its number from 2
abbrev pub further_name : List ℕ → ℕ → List ℕ
further_name name number = name ++ (codes "-" ++ (decimal number ++ codes ".toml"))

-- a text as a comment may have it: a question mark stands for each byte below 20h and for 7Fh
abbrev pub shown_byte : ℕ → ℕ
shown_byte b = if nat_lt b 32 || b == 127 then 63 else b

abbrev pub shown : List ℕ → List ℕ
shown text = map shown_byte text

-- the comment that names the further codec file at a place, which is one less than its number
abbrev pub further_line : List ℕ → ℕ → List ℕ
further_line name place = codes "# the next codec: " ++ (shown (further_name name (place + 1)) ++ newline)

-- what stands behind the first of so many codec files: the names of the others
abbrev pub further_lines : List ℕ → ℕ → List ℕ
further_lines name count = flat_map (further_line name) (range_with_len 1 (count - 1))
