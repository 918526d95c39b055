use Rattle.std.proofs.Common.{◌++◌, ◌∷◌, [], ap, ◌∙◌}
use Rattle.std.specs.Prelude.{nat_lt}
use Rattle.codec_graph.specs.CodecStates as codecs
use Rattle.codec_graph.specs.declared.waiting.Waiting.TheVariants.{Unsolicited}
use Rattle.codec_nodes.proofs.Rings.{counted-unsolicited}
use Rattle.codec_nodes.proofs.queue.Queue.push_unsolicited.Goals as goal

pub invariant_of-self : goal.invariant_of-self
invariant_of-self c = (counted-unsolicited c.self.inside.items c.push_back.new.self c.self.inside.answers c.self.inside.unsolicited c.args.word c.self.invariant (ap (λ items. nat_lt (codecs.unsolicited items) 64) c.self.view_is ∙ c.requires) c.push_back.ensures.items).0

pub returns : goal.returns
returns c =
    (counted-unsolicited c.self.inside.items c.push_back.new.self c.self.inside.answers c.self.inside.unsolicited c.args.word c.self.invariant (ap (λ items. nat_lt (codecs.unsolicited items) 64) c.self.view_is ∙ c.requires) c.push_back.ensures.items).1
    ∙ ap (λ items. items ++ Unsolicited c.args.word ∷ []) c.self.view_is
