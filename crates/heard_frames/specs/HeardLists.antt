-- What a pin heard, as a list of items: one for each block of the stream that a link frame carried, and one for each
-- frame that missed its blocks. This project's own, over the blocks and samples of High Definition Audio 1.0a, 4.5.1.
use Rattle.std.specs.Prelude.{ℕ, ℤ, ◌+◌, ◌*◌, ◌/◌, List, [], ◌∷◌, length, map, drop, take, Option, Some, None}
use Rattle.std.specs.List.{flat_map, range_with_len}
use Rattle.codec_graph.specs.CodecStates.{CodecState}
use Rattle.stream_format.specs.Cadence.{container_bytes, bytes_of_block}
use Rattle.stream_format.specs.Layouts.{Layout, layout_of}
use Rattle.stream_format.specs.Samples.{container_number}
use Rattle.world_streams.specs.Output.{Carriage, Sent, Missed}
use Rattle.hda_world.specs.Worlds.{CarriedFrame, codec_at}
use Rattle.codec_graph.specs.declared.pin_kind.PinKind.{PinKind}
use Rattle.codec_graph.specs.declared.pin_kind.PinKind.TheVariants.{Analog}
use Rattle.codec_sound.specs.declared.signals.Signal.{Signal}
use Rattle.codec_sound.specs.declared.signals.Signal.TheVariants as variant
use Rattle.heard_frames.specs.declared.heard.Heard.{Heard}
use Rattle.heard_frames.specs.declared.heard.Heard.TheVariants.{Sound, Quiet, Hole, Altered}
use Rattle.codec_sound.specs.Signals.{signal_as}

-- ---- blocks

abbrev pub block_size : Layout → ℕ
block_size layout = bytes_of_block layout.channels layout.bits

-- the block of some bytes at this place, counted from 0
abbrev pub block_at : ℕ → List ℕ → ℕ → List ℕ
block_at size bytes place = take size (drop (place * size) bytes)

-- the whole blocks of some bytes, in order
abbrev pub blocks : ℕ → List ℕ → List (List ℕ)
blocks size bytes = map (block_at size bytes) (range_with_len 0 (length bytes / size))

-- the sample of a channel in a block, as `sample_of` is of a format
abbrev pub sample_in : Layout → List ℕ → ℕ → ℤ
sample_in layout block channel = container_number layout.bits (drop (channel * container_bytes layout.bits) block)

-- ---- items

-- what is heard of a block, by the pin's signal
abbrev pub item_of : Layout → Signal → List ℕ → Heard
item_of layout variant.Silence block = Quiet
item_of layout (variant.Pair pair) block = Sound (sample_in layout block (2 * pair))
    (sample_in layout block (2 * pair + 1))
item_of layout variant.Altered block = Altered

-- what is heard of the bytes of a frame: a word without a meaning has no blocks
abbrev pub items_sent : Option Layout → Signal → List ℕ → List Heard
items_sent None signal bytes = []
items_sent (Some layout) signal bytes = map (item_of layout signal) (blocks (block_size layout) bytes)

-- what a frame adds to the list of a pin with this signal
abbrev pub heard_in : Option Layout → Signal → Carriage → List Heard
heard_in layout signal Missed = Hole ∷ []
heard_in layout signal (Sent bytes) = items_sent layout signal bytes

-- ---- the list of a pin

-- the signal of a codec's pin while the stream with this tag and format word plays: silence where the codec is not
-- there or the word has no meaning
abbrev pub signal_with_as : PinKind → Option CodecState → ℕ → ℕ → Option Layout → ℕ → Signal
signal_with_as kind None tag word layout pin = variant.Silence
signal_with_as kind (Some codec) tag word None pin = variant.Silence
signal_with_as kind (Some codec) tag word (Some layout) pin =
    signal_as kind codec.graph codec.settings (record { tag = tag; word = word; channels = layout.channels }) pin

-- the signal of the pin of the codec with this address in a link frame
abbrev pub signal_in_as : PinKind → ℕ → ℕ → CarriedFrame → Signal
signal_in_as kind address pin frame = signal_with_as kind (codec_at address frame.codecs) frame.tag frame.format
    (layout_of frame.format) pin

-- what a link frame adds to its list
abbrev pub frame_items_as : PinKind → ℕ → ℕ → CarriedFrame → List Heard
frame_items_as kind address pin frame = heard_in (layout_of frame.format) (signal_in_as kind address pin frame)
    frame.carriage

-- the list of the pin, of all link frames that carried the stream
abbrev pub heard_as : PinKind → ℕ → ℕ → List CarriedFrame → List Heard
heard_as kind address pin frames = flat_map (frame_items_as kind address pin) frames

-- ---- the list of an analog pin

abbrev pub signal_with : Option CodecState → ℕ → ℕ → Option Layout → ℕ → Signal
signal_with = signal_with_as Analog

abbrev pub signal_in : ℕ → ℕ → CarriedFrame → Signal
signal_in = signal_in_as Analog

abbrev pub frame_items : ℕ → ℕ → CarriedFrame → List Heard
frame_items = frame_items_as Analog

abbrev pub heard : ℕ → ℕ → List CarriedFrame → List Heard
heard = heard_as Analog
