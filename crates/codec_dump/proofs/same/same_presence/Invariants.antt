use Rattle.std.proofs.Common.{◌≡◌, ℕ, ◌<◌}
use Rattle.codec_graph.specs.VerbMeaning.{is_present}
use Rattle.codec_dump.proofs.same.same_presence.Given as goal

-- the same is plugged in at the node identifiers so far
abbrev pub invariant-loop-nid : goal.invariant-loop-nid
invariant-loop-nid l = (k : ℕ) → k < l.nid → is_present l.one k ≡ is_present l.other k
