-- The keys of a codec file as they stand in it.
use Rattle.std.specs.Prelude.{ℕ, List, codes}
use Rattle.hda_files.specs.declared.fault.Key.{Key}
use Rattle.hda_files.specs.declared.fault.Key.TheVariants.{Fifo, Corb, Rirb, Codec, Address, Vendor, Revision, AmpIn}
use Rattle.hda_files.specs.declared.fault.Key.TheVariants.{AmpOut, Power, Group, GroupType, Formats, Pcm, GroupPower}
use Rattle.hda_files.specs.declared.fault.Key.TheVariants.{First, Count, Node, Nid, Caps, PinCaps, Default, Long}
use Rattle.hda_files.specs.declared.fault.Key.TheVariants.{List as ListKey, Select, PowerState, Stream, Control, Unsol}
use Rattle.hda_files.specs.declared.fault.Key.TheVariants.{Eapd, Digital, GainOut, Format, GainIn, Present}

abbrev pub key_name : Key → List ℕ
key_name Fifo = codes "fifo"
key_name Corb = codes "corb"
key_name Rirb = codes "rirb"
key_name Codec = codes "codec"
key_name Address = codes "address"
key_name Vendor = codes "vendor"
key_name Revision = codes "revision"
key_name AmpIn = codes "amp_in"
key_name AmpOut = codes "amp_out"
key_name Power = codes "power"
key_name Group = codes "group"
key_name GroupType = codes "group_type"
key_name Formats = codes "formats"
key_name Pcm = codes "pcm"
key_name GroupPower = codes "group_power"
key_name First = codes "first"
key_name Count = codes "count"
key_name Node = codes "node"
key_name Nid = codes "nid"
key_name Caps = codes "caps"
key_name PinCaps = codes "pin_caps"
key_name Default = codes "default"
key_name Long = codes "long"
key_name ListKey = codes "list"
key_name Select = codes "select"
key_name PowerState = codes "power_state"
key_name Stream = codes "stream"
key_name Control = codes "control"
key_name Unsol = codes "unsol"
key_name Eapd = codes "eapd"
key_name Digital = codes "digital"
key_name GainOut = codes "gain_out"
key_name Format = codes "format"
key_name GainIn = codes "gain_in"
key_name Present = codes "present"
