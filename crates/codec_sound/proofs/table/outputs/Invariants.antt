use Rattle.std.proofs.Common.{◌≡◌, ℕ, ◌<◌, length}
use Rattle.codec_graph.specs.Marks.{IsMarked}
use Rattle.codec_sound.specs.Depths.{IsShallow, AreRight}
use Rattle.codec_sound.proofs.table.outputs.Given as goal

-- what is known is right, and after so many rounds it is known of each node from which connections lead over fewer
abbrev pub invariant-loop-round : goal.invariant-loop-round
invariant-loop-round l = record {
  long : length l.table ≡ 256;
  right : AreRight l.sources l.codec l.settings l.table l.known;
  known : (nid : ℕ) → nid < 256 → IsShallow l.codec l._round nid → IsMarked l.known nid;
}
