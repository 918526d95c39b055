-- A worked codec: the input converter 08 lists the pin 18, a microphone. Its verbs, and those
-- of the same codec where nothing is recorded.
use Rattle.std.proofs.Common.{◌≡◌, ℕ, List, [], ◌∷◌, ◌++◌, map, replicate, refl, arith}
use Rattle.codec_graph.specs.declared.raw.RawNode.{RawNode}
use Rattle.codec_graph.specs.declared.raw.RawCodec.{RawCodec}
use Rattle.codec_graph.specs.Widget.{plain_node}
use Rattle.verb_codes.specs.Verbs.{word_of}
use Rattle.stream_format.specs.declared.format.Format.{Format}
use Rattle.stream_format.specs.declared.format.Rate.TheVariants.{R48}
use Rattle.stream_format.specs.declared.format.Bits.TheVariants.{B16}
use Rattle.route_planner.specs.declared.routes.Plan.{Plan}
use Rattle.route_planner.specs.declared.routes.Outcome.TheVariants as outcome
use Rattle.setup_verbs.specs.VerbList.{to_all}
use Rattle.input_verbs.specs.InputVerbs.{input_role_of, input_verbs}

abbrev vendors : ℕ → List RawNode
vendors count = replicate count (plain_node 0x00F00000)

abbrev converter : RawNode
converter = record (plain_node 0x00100111) { pcm = 0x00020040; formats = 1; entries = 0x18 ∷ []; list = 0x18 ∷ [] }

abbrev microphone : RawNode
microphone = record (plain_node 0x00400001) { pin_caps = 0x20; default = 0x01A19030 }

abbrev codec : RawCodec
codec = record {
  address = 0;
  vendor = 0x10EC0889;
  revision = 0;
  group = 1;
  group_type = 1;
  group_words = record { pcm = 0; formats = 0; amp_in = 0; amp_out = 0; power = 0 };
  first = 0x08;
  count = 0x11;
  nodes = converter ∷ [] ++ vendors 15 ++ microphone ∷ [];
}

abbrev plan : Plan
plan = record {
  pins = record {
    pin = 0x18;
    pair = 0;
    outcome = outcome.Route (record { hops = record { nid = 0x08; index = 0 } ∷ []; converter = 0x08 });
  } ∷ [];
}

abbrev format : Format
format = record { rate = R48; bits = B16; channels = 2; even = refl; some = omega arith; few = omega arith }

pub words : map word_of (input_verbs codec plan format 1) ≡ 0x00170500 ∷ 0x00820011 ∷ 0x00870610 ∷ 0x01870720 ∷ []
unfolding input_role_of to_all input_verbs
words = refl

pub words_elsewhere : map word_of (input_verbs codec (record { pins = [] }) format 1) ≡ 0x00170500 ∷ 0x01870700 ∷ 0x00870600 ∷ []
unfolding input_role_of to_all input_verbs
words_elsewhere = refl
