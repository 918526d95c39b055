use Rattle.std.proofs.Common.{sym, ap, ◌∙◌, arith}
use Rattle.std.specs.List.{list_any}
use Rattle.codec_graph.specs.CodecStates as codecs
use Rattle.codec_nodes.proofs.Rings.{no_answer, some_answer, counted-dropped}
use Rattle.codec_nodes.proofs.queue.Queue.drop_answer.Goals as goal

pub returns-then-self-eq0-clause-value : goal.returns-then-self-eq0-clause-value
returns-then-self-eq0-clause-value c =
    sym (ap (list_any codecs.is_answer) (sym c.self.view_is) ∙ (no_answer c.self.inside.items.items (omega (arith, c.self.invariant.answers_are))).0)

pub returns-then-self-eq0-clause-after : goal.returns-then-self-eq0-clause-after
returns-then-self-eq0-clause-after c =
    sym (ap codecs.drop_answer (sym c.self.view_is) ∙ (no_answer c.self.inside.items.items (omega (arith, c.self.invariant.answers_are))).1 ∙ c.self.view_is)

pub invariant_of-self : goal.invariant_of-self
invariant_of-self c =
    counted-dropped c.self.inside.items c.drop_first_answer.new.items c.self.inside.answers c.self.inside.unsolicited c.self.invariant (λ e. omega arith) c.drop_first_answer.ensures

pub returns-clause-value : goal.returns-clause-value
returns-clause-value c =
    sym (ap (list_any codecs.is_answer) (sym c.self.view_is) ∙ (some_answer c.self.inside.items.items (λ e. omega (arith, c.self.invariant.answers_are))).0)
