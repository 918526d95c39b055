use Rattle.std.proofs.Common.{ℕ, ◌<◌}
use Rattle.codec_graph.specs.Marks.{IsMarked}
use Rattle.codec_sound.specs.Depths.{IsReady, AreRight}
use Rattle.codec_sound.proofs.table.work_out_ready.Given as goal

abbrev pub invariant-loop-nid : goal.invariant-loop-nid
invariant-loop-nid l = record {
  right : AreRight l.sources l.codec l.settings l.table l.known;
  kept : (other : ℕ) → IsMarked l.initial.known other → IsMarked l.known other;
  done : (other : ℕ) → other < l.nid → IsReady l.codec l.initial.known other → IsMarked l.known other;
}
