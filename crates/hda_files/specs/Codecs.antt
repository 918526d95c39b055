-- The tables of the codecs. This project's own; the words are those of High Definition Audio 1.0a, 7.3.4.
use Rattle.std.specs.Prelude.{ℕ, Bool, not, ◌==◌, ◌&&◌, ◌+◌, ◌-◌, List, [], ◌++◌, length, map, filter, fold, min, max}
use Rattle.std.specs.Prelude.{nat_le, nat_lt, Option, Some, None, unwrap_or, Result, Ok, Err, is_some, if◌then◌else◌}
use Rattle.std.specs.List.{find, range_with_len}
use Rattle.toml.specs.Data.{Members}
use Rattle.codec_graph.specs.declared.raw.RawNode.{RawNode}
use Rattle.codec_graph.specs.declared.raw.RawCodec.{RawCodec}
use Rattle.codec_graph.specs.Widget.{plain_node}
use Rattle.hda_files.specs.declared.node.NodeTable.{NodeTable}
use Rattle.hda_files.specs.declared.codec.CodecTable.{CodecTable}
use Rattle.hda_files.specs.declared.fault.Place.{Place}
use Rattle.hda_files.specs.declared.fault.Place.TheVariants as place
use Rattle.hda_files.specs.declared.fault.Key.TheVariants.{Address, Vendor, Revision, AmpIn, AmpOut, Power, Group}
use Rattle.hda_files.specs.declared.fault.Key.TheVariants.{GroupType, Formats, Pcm, GroupPower, First, Count, Node}
use Rattle.hda_files.specs.declared.fault.FileFault.{FileFault}
use Rattle.hda_files.specs.declared.fault.FileFault.TheVariants.{Doubled}
use Rattle.hda_files.specs.Values.{◌>>=◌, required_number, given_number, number_or, word_or_zero, most_word, tables_at}
use Rattle.hda_files.specs.Values.{each_after}
use Rattle.hda_files.specs.Nodes.{nodes_after}

-- the table of the codec with this address, if there is one
abbrev pub codec_with_address : List CodecTable → ℕ → Option CodecTable
codec_with_address codecs address = find (λ codec. codec.words.address == address) codecs

-- the codec's address on the link, which no earlier codec of the file has
abbrev pub address_of : Members → Place → List CodecTable → Result ℕ FileFault
address_of table place earlier = do
  address ← required_number table place Address 0 14
  if is_some (codec_with_address earlier address) then Err (Doubled place Address) else Ok address

-- the words of a codec and of its function group, with no widget
abbrev pub codec_words_of : Members → Place → List CodecTable → Result RawCodec FileFault
codec_words_of table place earlier = do
  address ← address_of table place earlier
  vendor ← required_number table place Vendor 0 most_word
  revision ← word_or_zero table place Revision
  amp_in ← word_or_zero table place AmpIn
  amp_out ← word_or_zero table place AmpOut
  power ← word_or_zero table place Power
  group ← number_or table place Group 1 127 1
  group_type ← number_or table place GroupType 0 most_word 1
  formats ← number_or table place Formats 0 most_word 1
  pcm ← number_or table place Pcm 0 most_word 0x00020040
  Ok (record {
    address = address;
    vendor = vendor;
    revision = revision;
    group = group;
    group_type = group_type;
    group_words = record { pcm = pcm; formats = formats; amp_in = amp_in; amp_out = amp_out; power = power };
    first = 0;
    count = 0;
    nodes = [];
  })

-- the least node identifier of the tables, and the greatest
abbrev pub least_nid : List NodeTable → ℕ
least_nid nodes = fold (λ least node. min least node.nid) 127 nodes

abbrev pub greatest_nid : List NodeTable → ℕ
greatest_nid nodes = fold (λ greatest node. max greatest node.nid) 0 nodes

-- how many node identifiers there are from the least to the greatest
abbrev pub nid_span : List NodeTable → ℕ
nid_span nodes = greatest_nid nodes - least_nid nodes + 1

-- the widget of a node identifier without a table: vendor defined, without other words and connections
abbrev pub vendor_widget : RawNode
vendor_widget = plain_node 0x00F00000

abbrev pub widget_or_vendor : Option NodeTable → RawNode
widget_or_vendor None = vendor_widget
widget_or_vendor (Some node) = node.widget

-- the widget with this node identifier
abbrev pub widget_at : List NodeTable → ℕ → RawNode
widget_at nodes nid = widget_or_vendor (find (λ node. node.nid == nid) nodes)

-- whether a table's node identifier is none of the `count` from `first` on
abbrev pub is_outside : ℕ → ℕ → NodeTable → Bool
is_outside first count node = not (nat_le first node.nid && nat_lt node.nid (first + count))

-- the widgets from `first` on, and after them those of the tables outside, which make them more than `count`; each is
-- that of its node identifier
abbrev pub widgets_of : ℕ → ℕ → List NodeTable → List RawNode
widgets_of first count nodes = map (widget_at nodes) (range_with_len first count) ++ map
    (λ node. widget_at nodes node.nid) (filter (is_outside first count) nodes)

-- the codec of these words and these tables of its widgets; where `first` or `count` is not given, the tables say it
abbrev pub codec_with : RawCodec → ℕ → Option ℕ → Option ℕ → List NodeTable → CodecTable
codec_with words group_power first count nodes = record {
  words = record words { first = unwrap_or first (least_nid nodes); count = unwrap_or count (nid_span nodes) };
  group_power = group_power;
  nodes = nodes;
}

-- what one table says of its codec, after the earlier ones of the file
abbrev pub codec_of : List CodecTable → Members → Result CodecTable FileFault
codec_of earlier table = do
  words ← codec_words_of table (place.Codec (length earlier)) earlier
  group_power ← number_or table (place.Codec (length earlier)) GroupPower 0 3 0
  first ← given_number table (place.Codec (length earlier)) First 0 127
  count ← given_number table (place.Codec (length earlier)) Count 0 127
  tables ← tables_at table (place.Codec (length earlier)) Node 126
  nodes ← nodes_after (length earlier) [] tables
  Ok (codec_with words group_power first count nodes)

-- the codecs of the tables in order, after those already read: the first fault counts
abbrev pub codecs_after : List CodecTable → List Members → Result (List CodecTable) FileFault
codecs_after earlier tables = each_after codec_of earlier tables

-- the codec with its widgets laid out by their node identifiers
abbrev pub laid_out : CodecTable → RawCodec
laid_out codec = record codec.words { nodes = widgets_of codec.words.first codec.words.count codec.nodes }
