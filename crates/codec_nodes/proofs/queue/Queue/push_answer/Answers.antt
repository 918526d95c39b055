use Rattle.std.proofs.Common.{◌==◌, ◌++◌, ◌∷◌, [], ap, ◌∙◌}
use Rattle.codec_graph.specs.CodecStates as codecs
use Rattle.codec_graph.specs.declared.waiting.Waiting.TheVariants.{Answer}
use Rattle.codec_nodes.proofs.Rings.{counted-answer}
use Rattle.codec_nodes.proofs.queue.Queue.push_answer.Goals as goal

pub invariant_of-self : goal.invariant_of-self
invariant_of-self c = (counted-answer c.self.inside.items c.push_back.new.self c.self.inside.answers c.self.inside.unsolicited c.args.word c.self.invariant (ap (λ items. codecs.answers items == 64) c.self.view_is ∙ c.requires) c.push_back.ensures.items).0

pub returns : goal.returns
returns c =
    (counted-answer c.self.inside.items c.push_back.new.self c.self.inside.answers c.self.inside.unsolicited c.args.word c.self.invariant (ap (λ items. codecs.answers items == 64) c.self.view_is ∙ c.requires) c.push_back.ensures.items).1
    ∙ ap (λ items. items ++ Answer c.args.word ∷ []) c.self.view_is
