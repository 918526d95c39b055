use Rattle.std.proofs.Common.{below_more}
use Rattle.codec_sound.proofs.table.work_out_ready.Goals as goal

pub loop-nid-preserved : goal.loop-nid-preserved
loop-nid-preserved c = record {
  right = c.work_out.ensures.right;
  kept = λ other m. c.work_out.ensures.kept other (c.loop-nid.invariant.kept other m);
  done = below_more _ _
      (λ other lt ready. c.work_out.ensures.kept other (c.loop-nid.invariant.done other lt ready))
      (λ ready. c.work_out.ensures.here (λ to h. c.loop-nid.invariant.kept to (ready to h)));
}
