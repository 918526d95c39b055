use Rattle.std.proofs.Common.{◌∙◌}
use Rattle.verb_codes.proofs.Callers.{contains_bit}
use Rattle.codec_graph.proofs.raw.RawNode.is_digital.Goals as goal

pub returns : goal.returns
returns c = c.contains.ensures tt ∙ contains_bit c.args.self.now.caps 9
