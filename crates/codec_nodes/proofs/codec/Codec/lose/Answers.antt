use Rattle.std.proofs.Common.{List, sym, subst}
use Rattle.codec_graph.specs.declared.waiting.Waiting.{Waiting}
use Rattle.codec_graph.specs.CodecStates.{CodecState, IsSound}
use Rattle.codec_graph.proofs.Callers.{IsSound-without_answer}
use Rattle.codec_nodes.proofs.codec.Codec.lose.Goals as goal

pub invariant_of-self : goal.invariant_of-self
invariant_of-self c =
    let inside : CodecState = record { graph = c.self.inside.graph; settings = c.self.inside.settings; present = c.self.inside.present; waiting = c.self.inside.waiting } in
    subst (λ (waiting : List Waiting). IsSound (record inside { waiting = waiting })) (sym c.drop_answer.ensures.after) (IsSound-without_answer inside c.self.invariant)
