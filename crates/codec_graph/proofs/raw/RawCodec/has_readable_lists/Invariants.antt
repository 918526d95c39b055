use Rattle.std.proofs.Common.{take}
use Rattle.std.specs.Prelude.{All}
use Rattle.codec_graph.specs.Listed.{HasReadableList}
use Rattle.codec_graph.proofs.raw.RawCodec.has_readable_lists.Given as goal

-- the lists so far are readable
abbrev pub invariant-loop-node : goal.invariant-loop-node
invariant-loop-node l = All HasReadableList (take l.node-index l.self.nodes)
