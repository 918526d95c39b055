use Rattle.std.specs.Prelude.{All}
use Rattle.codec_graph.specs.Settings.{keys_below}
use Rattle.codec_dump.specs.Left.{IsSameAt}
use Rattle.codec_dump.proofs.same.same_settings.Given as goal

-- the controls of the nodes so far are set to the same
abbrev pub invariant-loop-nid : goal.invariant-loop-nid
invariant-loop-nid l = All (IsSameAt l.one l.other) (keys_below l.nid)
