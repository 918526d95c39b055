-- The tables of a codec's widgets. This project's own; the words are those of High Definition Audio 1.0a, 7.3.4.
use Rattle.std.specs.Prelude.{ℕ, ◌==◌, ◌-◌, ◌^◌, List, [], length, Option, Some, None, Result, Ok, Err, if◌then◌else◌}
use Rattle.std.specs.List.{list_any}
use Rattle.toml.specs.Data.{Data, Members}
use Rattle.verb_codes.specs.Lists.{entry_width}
use Rattle.codec_graph.specs.declared.raw.RawNode.{RawNode}
use Rattle.codec_graph.specs.Widget.{plain_node, has_list}
use Rattle.codec_graph.specs.Listed.{most_entries, list_fault, listed_node}
use Rattle.hda_files.specs.declared.node.NodeTable.{NodeTable}
use Rattle.hda_files.specs.declared.opening.NodeOpening.{NodeOpening}
use Rattle.hda_files.specs.declared.fault.Place.{Place}
use Rattle.hda_files.specs.declared.fault.Place.TheVariants.{Node}
use Rattle.hda_files.specs.declared.fault.Key.TheVariants.{Pcm, Formats, PinCaps, AmpIn, AmpOut, Power, Default, Nid}
use Rattle.hda_files.specs.declared.fault.Key.TheVariants.{Caps, Long, List as ListKey}
use Rattle.hda_files.specs.declared.fault.FileFault.{FileFault}
use Rattle.hda_files.specs.declared.fault.FileFault.TheVariants.{OutOfRange, Doubled}
use Rattle.hda_files.specs.Values.{◌>>=◌, value_at, required_number, word_or_zero, most_word, flag_at, numbers_of}
use Rattle.hda_files.specs.Values.{each_after}
use Rattle.hda_files.specs.Openings.{opening_of}

-- the words of a widget; the words that are not given are 0, and the connection list is empty
abbrev pub words_of : Members → Place → Result RawNode FileFault
words_of table place = do
  caps ← required_number table place Caps 0 most_word
  pcm ← word_or_zero table place Pcm
  formats ← word_or_zero table place Formats
  pin_caps ← word_or_zero table place PinCaps
  amp_in ← word_or_zero table place AmpIn
  amp_out ← word_or_zero table place AmpOut
  power ← word_or_zero table place Power
  default ← word_or_zero table place Default
  long ← flag_at table place Long
  Ok (record (plain_node caps) {
    pcm = pcm;
    formats = formats;
    pin_caps = pin_caps;
    amp_in = amp_in;
    amp_out = amp_out;
    power = power;
    default = default;
    long = long;
  })

-- the entries of the connection list of a widget with these words, as they are given: of 16 bits in the long form, else
-- of 8 (7.3.3.3), and only where the widget has a list
abbrev pub entries_of : Place → RawNode → Option Data → Result (List ℕ) FileFault
entries_of place words None = Ok []
entries_of place words (Some value) = do
  entries ← numbers_of place ListKey most_entries (2 ^ entry_width words.long - 1) value
  if has_list words then Ok entries else Err (OutOfRange place ListKey)

-- the node identifier, which no earlier node of the codec has
abbrev pub nid_of : Members → Place → List NodeTable → Result ℕ FileFault
nid_of table place earlier = do
  nid ← required_number table place Nid 1 127
  if list_any (λ node. node.nid == nid) earlier then Err (Doubled place Nid) else Ok nid

abbrev pub node_with : ℕ → RawNode → NodeOpening → NodeTable
node_with nid widget opening = record {
  nid = nid;
  widget = listed_node widget;
  list_fault = list_fault widget;
  opening = opening;
}

-- what one table says of its widget, after the earlier ones of the same codec
abbrev pub node_of : ℕ → List NodeTable → Members → Result NodeTable FileFault
node_of codec earlier table = do
  nid ← nid_of table (Node codec (length earlier)) earlier
  words ← words_of table (Node codec (length earlier))
  entries ← entries_of (Node codec (length earlier)) words (value_at table ListKey)
  opening ← opening_of table (Node codec (length earlier))
  Ok (node_with nid (record words { entries = entries }) opening)

-- the widgets of the tables in order, after those already read: the first fault counts
abbrev pub nodes_after : ℕ → List NodeTable → List Members → Result (List NodeTable) FileFault
nodes_after codec earlier tables = each_after (node_of codec) earlier tables
