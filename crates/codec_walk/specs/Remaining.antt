-- What is still to come of a walk.
use Rattle.codec_graph.specs.declared.raw.RawCodec.{RawCodec}
use Rattle.codec_walk.specs.declared.walk.Walk.{Walk}
use Rattle.codec_walk.specs.Dialogues.{Dialogue}
use Rattle.codec_walk.specs.Steps.{from_walk}

-- the words that the walk has, with the widgets that are read whole
abbrev pub so_far : Walk → RawCodec
so_far walk = record walk.codec { nodes = walk.nodes.items }

unfoldable pub remaining : Walk → Dialogue
remaining walk = from_walk walk.step (so_far walk) walk.node walk.nid walk.left
