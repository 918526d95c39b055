use Rattle.codec_nodes.proofs.Rings.{IsTurned}
use Rattle.codec_nodes.proofs.queue.drop_first_answer.Given as goal

-- so many items were turned
abbrev pub invariant-loop-turn : goal.invariant-loop-turn
invariant-loop-turn l = IsTurned l.initial.items.items l.initial.items.capacity l._turn l.items l.dropped
