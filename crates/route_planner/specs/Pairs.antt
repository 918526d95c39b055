-- The channel pair of each candidate pin. This project's own, over the configuration default's association, sequence
-- and default device (High Definition Audio 1.0a, 7.3.3.31).
use Rattle.std.specs.Prelude.{ℕ, Bool, ◌==◌, ◌&&◌, ◌/◌, ◌%◌, not, count_by, if◌then◌else◌}
use Rattle.std.specs.List.{range_with_len}
use Rattle.codec_graph.specs.declared.raw.RawNode.{RawNode}
use Rattle.codec_graph.specs.declared.raw.RawCodec.{RawCodec}
use Rattle.codec_graph.specs.declared.pin_kind.PinKind.{PinKind}
use Rattle.codec_graph.specs.declared.pin_kind.PinKind.TheVariants.{Analog, Digital}
use Rattle.codec_graph.specs.Widget.{node_identifiers, node_at}
use Rattle.codec_graph.specs.Candidates.{device, is_candidate}
use Rattle.codec_graph.specs.Order.{association_of, comes_before}
use Rattle.route_planner.specs.Paths.{passes}

-- the default device of a headphone: HP out (7.3.3.31)
abbrev pub headphone_device : ℕ
headphone_device = 2

abbrev pub is_headphone_node : RawNode → Bool
is_headphone_node node = device node == headphone_device

-- whether the node identifier is that of a headphone
abbrev pub is_headphone : RawCodec → ℕ → Bool
is_headphone codec nid = passes is_headphone_node (node_at codec nid)

-- a candidate of the same association that comes before the pin, and is no headphone
abbrev pub is_earlier_companion : RawCodec → ℕ → ℕ → Bool
is_earlier_companion codec pin other =
    is_candidate codec other && not (is_headphone codec other)
    && association_of (node_at codec other) == association_of (node_at codec pin) && comes_before codec other pin

-- the rank of a pin, from 0, among the candidates of its association that are no headphones
abbrev pub rank_of : RawCodec → ℕ → ℕ
rank_of codec pin = count_by (is_earlier_companion codec pin) (range_with_len 0 node_identifiers)

-- the channel pair of an analog pin: a headphone has the first, and every other pin has that of its rank, round the
-- stream's pairs of channels
abbrev pub pair_of : RawCodec → ℕ → ℕ → ℕ
pair_of codec channels pin = if is_headphone codec pin then 0 else rank_of codec pin % (channels / 2)

-- the channel pair of a pin of a kind: each digital pin has the first
abbrev pub pair_as : PinKind → RawCodec → ℕ → ℕ → ℕ
pair_as Analog codec channels pin = pair_of codec channels pin
pair_as Digital codec channels pin = 0
