-- What is changed of a codec so that a codec file may say it: connections to the function group are taken out, and an
-- offset above its steps becomes the steps. Nothing else changes. This project's own.
use Rattle.std.specs.Prelude.{ℕ, ◌-◌, ◌==◌, Bool, true, not, List, [], ◌∷◌, length, map, filter, take, nat_lt}
use Rattle.std.specs.Prelude.{Option, Some, None, unwrap_or, if◌then◌else◌, slice_get}
use Rattle.std.specs.Option.{option_map}
use Rattle.verb_codes.specs.Words.{bits_of}
use Rattle.codec_graph.specs.Widget.{amplifier_offset, amplifier_steps}
use Rattle.dump_reader.specs.declared.facts.Gain.{Gain}
use Rattle.dump_reader.specs.declared.facts.NodeFacts.{NodeFacts}
use Rattle.dump_reader.specs.declared.facts.CodecFacts.{CodecFacts}

-- a connection that stays
abbrev pub stays : ℕ → ℕ → Bool
stays group nid = not (nid == group)

abbrev pub mended_list : ℕ → List ℕ → List ℕ
mended_list group list = filter (stays group) list

-- the selected place: that of the same connection, and the first where it was taken out
abbrev pub place_of : ℕ → List ℕ → ℕ → Option ℕ → ℕ
place_of group list place None = 0
place_of group list place (Some nid) = if stays group nid then length (mended_list group (take place list)) else 0

abbrev pub mended_place : ℕ → List ℕ → ℕ → ℕ
mended_place group list place = place_of group list place (slice_get list place)

-- whether the gain at a place stays, by the connection there: behind the list all do
abbrev pub stays_at : ℕ → Option ℕ → Bool
stays_at group None = true
stays_at group (Some nid) = stays group nid

-- a gain, where it stays
abbrev pub kept_one : Bool → Gain → List Gain
kept_one stays gain = if stays then gain ∷ [] else []

-- the gains at the connections that stay; a pin's input amplifier belongs to no connection
abbrev pub kept_gains : ℕ → List ℕ → List Gain → List Gain
kept_gains group [] gains = gains
kept_gains group (nid ∷ list) [] = []
kept_gains group (nid ∷ list) (gain ∷ gains) =
    if stays group nid then gain ∷ kept_gains group list gains else kept_gains group list gains

abbrev pub mended_gains : Bool → ℕ → List ℕ → List Gain → List Gain
mended_gains is_pin group list gains = if is_pin then gains else kept_gains group list gains

-- amplifier capabilities whose offset is not above the steps
abbrev pub mended_word : ℕ → ℕ
mended_word word = if nat_lt (amplifier_steps word) (amplifier_offset word)
    then word - (amplifier_offset word - amplifier_steps word) else word

abbrev pub mended_node : ℕ → NodeFacts → NodeFacts
mended_node group facts = record facts {
  amp_in = option_map mended_word facts.amp_in;
  amp_out = option_map mended_word facts.amp_out;
  list = option_map (mended_list group) facts.list;
  select = option_map (mended_place group (unwrap_or facts.list [])) facts.select;
  gains_in = option_map (mended_gains (bits_of facts.caps 20 4 == 4) group (unwrap_or facts.list [])) facts.gains_in;
}

-- the codec with its function group and its widgets mended
abbrev pub mended : CodecFacts → CodecFacts
mended codec = record codec {
  group = mended_node (unwrap_or codec.group_nid 1) codec.group;
  nodes = map (mended_node (unwrap_or codec.group_nid 1)) codec.nodes;
}
