use Rattle.std.proofs.Common.{inl, refl}
use Rattle.codec_graph.proofs.Reaching.{not_marked}
use Rattle.codec_graph.proofs.safe_nodes.are_safe.Goals as goal

pub loop-round-init : goal.loop-round-init
loop-round-init c = λ nid marked. absurd (not_marked nid (rw c.no_marks-safe.ensures at marked))

pub returns-then-are_marked : goal.returns-then-are_marked
returns-then-are_marked c = λ yes nid below cycle. c.mark_more-more.ensures c.loop-round.invariant nid (c.if-are_marked.ensures refl nid below) nid (inl refl) cycle
