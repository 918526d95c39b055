-- A worked codec: converter 02, mixer 0C of the nodes 02 and 0B, and pin 14 of the mixer.
use Rattle.std.proofs.Common.{◌≡◌, ℕ, List, [], ◌∷◌, ◌++◌, map, replicate, refl, arith}
use Rattle.codec_graph.specs.declared.raw.RawNode.{RawNode}
use Rattle.codec_graph.specs.declared.raw.RawCodec.{RawCodec}
use Rattle.codec_graph.specs.Widget.{plain_node}
use Rattle.verb_codes.specs.Verbs.{word_of}
use Rattle.stream_format.specs.declared.format.Format.{Format}
use Rattle.stream_format.specs.declared.format.Rate.TheVariants.{R48}
use Rattle.stream_format.specs.declared.format.Bits.TheVariants.{B16}
use Rattle.route_planner.specs.declared.routes.Plan.{Plan}
use Rattle.route_planner.specs.declared.routes.Outcome.TheVariants as outcome
use Rattle.setup_verbs.specs.Roles.{role_of}
use Rattle.setup_verbs.specs.VerbList.{to_all, setup_verbs, setup_verbs_as}

abbrev vendors : ℕ → List RawNode
vendors count = replicate count (plain_node 0x00F00000)

abbrev mixer : RawNode
mixer = record (plain_node 0x0020010B) { amp_in = 0x80000000; entries = 0x02 ∷ 0x0B ∷ []; list = 0x02 ∷ 0x0B ∷ [] }

abbrev pin : RawNode
pin = record (plain_node 0x0040010D) { amp_out = 0x80000000; pin_caps = 0x10; default = 0x01014010; entries = 0x0C ∷ []; list = 0x0C ∷ [] }

abbrev codec : RawCodec
codec = record {
  address = 0;
  vendor = 0x10EC0889;
  revision = 0;
  group = 1;
  group_type = 1;
  group_words = record { pcm = 0x00020040; formats = 1; amp_in = 0; amp_out = 0; power = 0 };
  first = 0x02;
  count = 0x13;
  nodes = plain_node 0x00000001 ∷ [] ++ vendors 9 ++ mixer ∷ [] ++ vendors 7 ++ pin ∷ [];
}

abbrev plan : Plan
plan = record {
  pins = record {
    pin = 0x14;
    pair = 0;
    outcome = outcome.Route (record { hops = record { nid = 0x14; index = 0 } ∷ record { nid = 0x0C; index = 0 } ∷ []; converter = 0x02 });
  } ∷ [];
}

abbrev format : Format
format = record { rate = R48; bits = B16; channels = 2; even = refl; some = omega arith; few = omega arith }

pub words : map word_of (setup_verbs codec plan format 1) ≡ 0x00170500 ∷ 0x00220011 ∷ 0x00270610 ∷ 0x00C37000 ∷ 0x00C37180 ∷ 0x0143B000 ∷ 0x01470740 ∷ []
unfolding role_of to_all setup_verbs_as
words = refl
