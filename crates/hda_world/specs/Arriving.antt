-- Which blocks come to the input stream in a link frame: those that the one input converter puts on the link that takes
-- the stream. High Definition Audio 1.0a, 5.4 and 7.3.3.11. That all input pins are given one sound, that a block comes
-- only where just one converter takes the stream, and which block of the sound it is, is this project's own.
use Rattle.std.specs.Prelude.{ℕ, List, [], ◌∷◌, length, map, filter, Option, Some, None}
use Rattle.std.specs.List.{flat_map, range_with_len}
use Rattle.codec_graph.specs.CodecStates.{CodecState}
use Rattle.codec_graph.specs.Widget.{node_identifiers, node_at}
use Rattle.codec_sound.specs.declared.in_heard.InHeard.{InHeard}
use Rattle.codec_sound.specs.declared.in_heard.InHeard.TheVariants.{Silence, Pin, Altered}
use Rattle.codec_sound.specs.Inward.{in_signal_of, is_taking}
use Rattle.stream_format.specs.Cadence.{blocks_of, bytes_of_block}
use Rattle.stream_format.specs.Layouts.{Layout, layout_of}
use Rattle.world_streams.specs.Input.{given_blocks}
use Rattle.hda_world.specs.Worlds.{World}

-- ---- the converter

-- what each input converter of a codec hears that takes the stream with this tag and format word, ascending by node
abbrev pub brought_by_codec : (tag word : ℕ) → CodecState → List InHeard
brought_by_codec tag word codec =
    map (in_signal_of codec.graph codec.settings)
    (filter (λ nid. is_taking codec.settings tag word nid (node_at codec.graph nid))
    (range_with_len 0 node_identifiers))

-- and each of all codecs
abbrev pub brought_by : (tag word : ℕ) → List CodecState → List InHeard
brought_by tag word codecs = flat_map (brought_by_codec tag word) codecs

-- what is heard where just one converter takes it: where none does, or several do, nothing comes
abbrev pub brought_alone : List InHeard → Option InHeard
brought_alone [] = None
brought_alone (one ∷ []) = Some one
brought_alone (one ∷ other ∷ rest) = None

-- what the one input converter hears that takes the stream with this tag and format word
unfoldable pub listened : (tag word : ℕ) → List CodecState → Option InHeard
listened tag word codecs = brought_alone (brought_by tag word codecs)

-- ---- the blocks

-- the sound of which blocks are put on the link: the given one where the converter hears a pin, and else none, of which
-- each block is silence
abbrev pub heard_sound : InHeard → (sound : List ℕ) → List ℕ
heard_sound (Pin nid) sound = sound
heard_sound Silence sound = []
heard_sound Altered sound = []

-- the blocks that are due in a link frame of this number, the first of which has a number in the sound
abbrev pub due_blocks : Option InHeard → Option Layout → (sound : List ℕ) → (from frame : ℕ) → List (List ℕ)
due_blocks None layout sound from frame = []
due_blocks (Some heard) None sound from frame = []
due_blocks (Some heard) (Some layout) sound from frame =
    given_blocks (bytes_of_block layout.channels layout.bits) (heard_sound heard sound) from
    (blocks_of layout.rate frame)

-- the blocks that come in the next link frame of the input stream, where it runs and its registers can be used: they go
-- on from those that came since its RUN rose
abbrev pub arriving : World → List (List ℕ)
arriving world =
    due_blocks (listened world.registers.input.tag world.registers.input.format world.codecs)
    (layout_of world.registers.input.format) world.given (length world.came) world.input.frame
