use Rattle.codec_graph.proofs.Narrow.{answer_of-narrow}
use Rattle.codec_graph.proofs.laws.answers_fit.Goals as goal

pub returns : goal.returns
returns c = λ graph settings present command well of. answer_of-narrow graph settings present command well of
