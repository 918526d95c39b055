use Rattle.std.proofs.Common.{arith}
use Rattle.hda_files.proofs.NodeLemmas.{greatest-bound}
use Rattle.hda_files.proofs.codec.nid_span.Goals as goal

pub overflow_add-result : goal.overflow_add-result
overflow_add-result c = omega (arith, greatest-bound c.args.nodes.now 0 (omega arith) c.requires, c.greatest_nid.ensures, c.saturating_sub.ensures)
