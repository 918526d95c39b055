use Rattle.std.proofs.Common.{arith}
use Rattle.codec_graph.proofs.Openings.{power_below}
use Rattle.codec_graph.proofs.answers.answer.Goals as goal

pub overflow_mul-result : goal.overflow_mul-result
overflow_mul-result c = let low = power_below c.args.settings.now c.args.verb.now.nid c.requires.each in omega arith
