use Rattle.laws_switching.proofs.Turns.{TurnLaws, turned}
use Rattle.laws_switching.proofs.hearing.set_up_codecs_can_turn.Goals as goal

pub returns : goal.returns
returns c = λ format graphs plans start world remembers graphs_are settings set_up none before well planned.
    let laws : TurnLaws = record {
      remembers = c.codecs_remember.ensures.begins;
      frames = c.frames_remember.ensures.begins;
      found = c.codecs_remember.ensures.found;
      routes = c.switched_codecs_are_set_up.ensures.routes;
    } in
    turned laws format graphs plans start world remembers graphs_are settings set_up well none before planned
