-- How wide the words of a codec are: a response has 32 bits (High Definition Audio 1.0a, 7.3), an address and a node
-- identifier stand in a byte.
use Rattle.std.specs.Prelude.{◌<◌, ◌^◌, All}
use Rattle.codec_graph.specs.declared.raw.GroupWords.{GroupWords}
use Rattle.codec_graph.specs.declared.raw.RawNode.{RawNode}
use Rattle.codec_graph.specs.declared.raw.RawCodec.{RawCodec}

pub record HasGroupWords (group : GroupWords) : Type 0 where
  pub pcm : group.pcm < 2 ^ 32
  pub formats : group.formats < 2 ^ 32
  pub amp_in : group.amp_in < 2 ^ 32
  pub amp_out : group.amp_out < 2 ^ 32
  pub power : group.power < 2 ^ 32

pub record HasNodeWords (node : RawNode) : Type 0 where
  pub caps : node.caps < 2 ^ 32
  pub pcm : node.pcm < 2 ^ 32
  pub formats : node.formats < 2 ^ 32
  pub pin_caps : node.pin_caps < 2 ^ 32
  pub amp_in : node.amp_in < 2 ^ 32
  pub amp_out : node.amp_out < 2 ^ 32
  pub power : node.power < 2 ^ 32
  pub default : node.default < 2 ^ 32
  pub listed : All (λ nid. nid < 2 ^ 8) node.list

pub record HasWords (codec : RawCodec) : Type 0 where
  pub address : codec.address < 2 ^ 8
  pub vendor : codec.vendor < 2 ^ 32
  pub revision : codec.revision < 2 ^ 32
  pub group : codec.group < 2 ^ 8
  pub group_type : codec.group_type < 2 ^ 32
  pub group_words : HasGroupWords codec.group_words
  pub first : codec.first < 2 ^ 8
  pub count : codec.count < 2 ^ 8
  pub nodes : All HasNodeWords codec.nodes
