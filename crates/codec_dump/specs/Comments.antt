-- The comments of a codec file that is written of a dump: each fact that has no key, each usual value that was taken,
-- and each change of mending. This project's own.
use Rattle.std.specs.Prelude.{ℕ, ◌-◌, ◌%◌, ◌==◌, Bool, true, false, not, ◌&&◌, List, [], ◌∷◌, ◌++◌, length, take}
use Rattle.std.specs.Prelude.{Option, None, Some, unwrap_or, is_some, if◌then◌else◌, codes, decimal, nat_lt}
use Rattle.std.specs.List.{flat_map, list_any, slice_index}
use Rattle.std.specs.Fmt.{digits}
use Rattle.verb_codes.specs.Words.{has_bit}
use Rattle.codec_graph.specs.Widget.{most_amplified}
use Rattle.dump_reader.specs.declared.labels.Label.{Label}
use Rattle.dump_reader.specs.declared.facts.Gain.{Gain}
use Rattle.dump_reader.specs.declared.facts.NodeFacts.{NodeFacts}
use Rattle.dump_reader.specs.declared.facts.CodecFacts.{CodecFacts}
use Rattle.dump_reader.specs.Labels.{label_text}
use Rattle.codec_dump.specs.Pieces.{newline, byte_text, word_text, bytes_text, each_from}

-- a text without the colon at its end
abbrev pub without_colon : List ℕ → List ℕ
without_colon text = if slice_index text (length text - 1) == 58 then take (length text - 1) text else text

abbrev pub label_name : Label → List ℕ
label_name label = without_colon (label_text label)

abbrev pub further_label : Label → List ℕ
further_label label = codes ", " ++ label_name label

-- lines with these labels say what has no key
abbrev pub labels_line : List Label → List ℕ
labels_line [] = []
labels_line (label ∷ labels) =
    codes "# no key for: " ++ (label_name label ++ (flat_map further_label labels ++ newline))

-- so many lines have no label
abbrev pub others_line : (count first : ℕ) → List ℕ
others_line count first = if count == 0 then []
    else codes "# no key for " ++ (decimal count
    ++ (codes " other lines, the first is line " ++ (decimal first ++ newline)))

-- pin capabilities as old kernels print them
abbrev pub old_pin_caps_line : Bool → Option ℕ → List ℕ
old_pin_caps_line true (Some caps) =
    codes "# Pincap 0x08" ++ (digits 16 false caps ++ (codes " is an old kernel's form" ++ newline))
old_pin_caps_line _ _ = []

-- the voltage reference of a pin control, its bits 2:0 (HDA 1.0a, 7.3.3.13)
abbrev pub reference_line : Option ℕ → List ℕ
reference_line None = []
reference_line (Some control) = if control % 8 == 0 then []
    else codes "# VREF setting " ++ (decimal (control % 8) ++ (codes " has no key" ++ newline))

-- the two sides of an amplifier, where they differ
abbrev pub both_sides : Gain → List ℕ
both_sides gain = codes ": left " ++ (byte_text gain.left ++ (codes ", right " ++ (byte_text gain.right
    ++ (codes "; the left one is taken" ++ newline))))

abbrev pub sides_line : (key : List ℕ) → (place : ℕ) → Gain → List ℕ
sides_line key place gain = if gain.left == gain.right then []
    else codes "# " ++ (key ++ (codes " at place " ++ (decimal place ++ both_sides gain)))

abbrev pub sides_lines : List Gain → List ℕ
sides_lines gains = each_from (sides_line (codes "gain_in")) 0 gains

-- more inputs than have a place in a command
abbrev pub inputs_line : (count : ℕ) → List ℕ
inputs_line count = if nat_lt most_amplified count
    then codes "# " ++ (decimal count ++ (codes " input amplifiers are given; the first 16 have a key" ++ newline))
    else []

-- those amplifiers that have a place in a command
abbrev pub first_gains : List Gain → List Gain
first_gains gains = take most_amplified gains

abbrev pub gains_in_lines : Option (List Gain) → List ℕ
gains_in_lines None = []
gains_in_lines (Some gains) = sides_lines (first_gains gains) ++ inputs_line (length gains)

abbrev pub gain_out_line : Option Gain → List ℕ
gain_out_line None = []
gain_out_line (Some gain) = sides_line (codes "gain_out") 0 gain

-- a connection list of a widget that has none by bit 8 of its capabilities (7.3.4.6)
abbrev pub unlisted_line : NodeFacts → List ℕ
unlisted_line facts = if is_some facts.list && not (has_bit facts.caps 8)
    then codes "# no key for: Connection, since caps has no connection list" ++ newline else []

-- whether a word is this one
abbrev pub is_word : ℕ → Option ℕ → Bool
is_word word None = false
is_word word (Some other) = other == word

-- a change of amplifier capabilities
abbrev pub offset_line : (key : List ℕ) → (word : ℕ) → List ℕ
offset_line key word = codes "# mended: " ++ (key ++ (codes " was " ++ (word_text word
    ++ (codes ", whose offset is above its steps" ++ newline))))

abbrev pub mended_word_line : (key : List ℕ) → (before after : Option ℕ) → List ℕ
mended_word_line key None after = []
mended_word_line key (Some word) after = if is_word word after then [] else offset_line key word

-- the selected place
abbrev pub place_text : ℕ → List ℕ
place_text place = codes " with select " ++ byte_text place

abbrev pub with_select : Option ℕ → List ℕ
with_select None = []
with_select (Some place) = place_text place

-- a change of a connection list
abbrev pub taken_out : (group : ℕ) → List ℕ
taken_out group = codes "; " ++ (byte_text group ++ (codes " is the function group" ++ newline))

abbrev pub old_list_line : (group : ℕ) → List ℕ → Option ℕ → List ℕ
old_list_line group list select =
    codes "# mended: list was " ++ (bytes_text list ++ (with_select select ++ taken_out group))

abbrev pub mended_list_line : (group : ℕ) → (before after : NodeFacts) → List ℕ
mended_list_line group before after =
    if length (unwrap_or before.list []) == length (unwrap_or after.list []) then []
    else old_list_line group (unwrap_or before.list []) before.select

-- all comments of a widget
abbrev pub note_lines : NodeFacts → List ℕ
note_lines facts = labels_line facts.notes ++ others_line facts.others facts.first_other

abbrev pub part_lines : NodeFacts → List ℕ
part_lines facts = old_pin_caps_line facts.is_old_pin_caps facts.pin_caps ++ (reference_line facts.control
    ++ (gains_in_lines facts.gains_in ++ gain_out_line facts.gain_out))

abbrev pub mended_words : (before after : NodeFacts) → List ℕ
mended_words before after = mended_word_line (codes "amp_in") before.amp_in after.amp_in
    ++ mended_word_line (codes "amp_out") before.amp_out after.amp_out

abbrev pub node_comments : (group : ℕ) → (before after : NodeFacts) → List ℕ
node_comments group before after = note_lines after ++ (part_lines after ++ (unlisted_line after
    ++ (mended_words before after ++ mended_list_line group before after)))

-- a usual value, where nothing is given
unfoldable pub usual_line : (is_given : Bool) → (key usual : List ℕ) → List ℕ
usual_line is_given key usual = if is_given then []
    else codes "# " ++ (key ++ (codes " isn't in the dump: the usual " ++ (usual ++ newline)))

-- whether a widget's power states are the usual ones: it has power control, bit 10 of its capabilities
abbrev pub has_usual_power : NodeFacts → Bool
has_usual_power facts = not (is_some facts.power) && has_bit facts.caps 10

abbrev pub any_has_usual_power : List NodeFacts → Bool
any_has_usual_power nodes = list_any has_usual_power nodes

abbrev pub usual_power_line : List NodeFacts → List ℕ
usual_power_line nodes = if any_has_usual_power nodes
    then codes "# power states aren't in the dump: 0x0f (D0 to D3) where a node has power control" ++ newline else []

abbrev pub usual_words : CodecFacts → List ℕ
usual_words codec = usual_line (is_some codec.revision) (codes "revision") (codes "0")
    ++ (usual_line (is_some codec.group_nid) (codes "group") (codes "1")
    ++ usual_line (is_some codec.group_type) (codes "group_type") (codes "1"))

abbrev pub usual_group : NodeFacts → List ℕ
usual_group group = usual_line (is_some group.power_state) (codes "group_power") (codes "0")
    ++ (usual_line (is_some group.pcm) (codes "pcm") (codes "0x00020040")
    ++ usual_line (is_some group.formats) (codes "formats") (codes "1"))

-- all comments of a codec
abbrev pub codec_comments : (before after : CodecFacts) → List ℕ
codec_comments before after = usual_words after ++ (usual_group after.group ++ (usual_power_line after.nodes
    ++ (note_lines after.group ++ mended_words before.group after.group)))
