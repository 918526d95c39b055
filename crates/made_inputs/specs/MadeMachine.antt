-- The machine through which a made sound is played: the least with a route. This project's own; the words are those of
-- High Definition Audio 1.0a, 7.3.4.
use Rattle.std.specs.Prelude.{List, [], ◌∷◌, ◌++◌, replicate, false}
use Rattle.codec_graph.specs.declared.raw.RawNode.{RawNode}
use Rattle.codec_graph.specs.declared.raw.RawCodec.{RawCodec}
use Rattle.codec_graph.specs.Widget.{node_identifiers, plain_node}
use Rattle.codec_graph.specs.Settings.{opening}
use Rattle.hda_files.specs.declared.machine.CodecFile.{CodecFile}
use Rattle.hda_files.specs.declared.machine.Machine.{Machine}
use Rattle.hda_files.specs.declared.top.RingSize.TheVariants.{Full}

-- the converter 02, with two channels
abbrev pub converter : RawNode
converter = plain_node 0x00000001

-- the mixer 0C of the connections 02 and 0B, whose inputs can be muted
abbrev pub mixer : RawNode
mixer = record (plain_node 0x0020010B) { amp_in = 0x80000000; entries = 0x02 ∷ 0x0B ∷ []; list = 0x02 ∷ 0x0B ∷ [] }

-- the pin 14 of the mixer: a green line out at the back, which can be muted
abbrev pub pin : RawNode
pin = record (plain_node 0x0040010D) {
  pin_caps = 0x10;
  amp_out = 0x80000000;
  default = 0x01014010;
  entries = 0x0C ∷ [];
  list = 0x0C ∷ [];
}

-- a vendor defined widget, of which nothing else is known
abbrev pub vendor_defined : RawNode
vendor_defined = plain_node 0x00F00000

-- the widgets 02 to 14
abbrev pub widgets : List RawNode
widgets = converter ∷ [] ++ replicate 9 vendor_defined ++ mixer ∷ [] ++ replicate 7 vendor_defined ++ pin ∷ []

-- the codec at address 0, whose converter takes 16 bits at 48 kHz
abbrev pub made_codec : RawCodec
made_codec = record {
  address = 0;
  vendor = 0x10EC0889;
  revision = 0;
  group = 1;
  group_type = 1;
  group_words = record { pcm = 0x00020040; formats = 1; amp_in = 0; amp_out = 0; power = 0 };
  first = 0x02;
  count = 19;
  nodes = widgets;
}

-- it starts with its opening settings, and nothing is plugged in
abbrev pub made_file : CodecFile
made_file = record {
  graph = made_codec;
  settings = opening made_codec;
  present = replicate node_identifiers false;
}

abbrev pub made_machine : Machine
made_machine = record { fifo = 192; corb = Full; rirb = Full; codecs = made_file ∷ [] }
